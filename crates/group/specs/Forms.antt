-- Forms x0^b0 x1^b1 … xn^bn xn^−an … x0^−a0 (000, formula 3; 01, 'The reduced form'), and their letters.
--     generator k     x_k by letters                  exponent s f i   b_i (b_side) or a_i (a_side)
--     level b a f     b_0, a_0 and the levels above   letters f        the form written out in letters
--     SameExponents   equal b_i and a_i at every i    exponent_sum f    the number of its x_k and x_k⁻¹
--     Trimmed f       no level (0, 0) at the end      levels f         the number of its levels
--     exponents s f   the exponents of a side, level by level
-- Assumes nothing.
use Rattle.std.specs.Prelude.{◌≡◌, List, [], ◌∷◌, ◌++◌, ℕ, zero, suc, ◌+◌, ◌<◌, replicate}
use Rattle.lists.specs.Copies.{copies}
use Rattle.group.specs.Letters.{'a, 'A, 'b, Word, inverse}

-- x_k by letters: x0 is a; for k at least 1, b with k−1 letters A before it and k−1 letters a behind it.
abbrev pub generator : ℕ → Word
generator zero = 'a ∷ []
generator (suc k) = replicate k 'A ++ ('b ∷ replicate k 'a)

-- The two sides of a form: the b side has the powers x_k^b_k, the a side the powers x_k^−a_k. In b_k and a_k, b and a
-- are the papers' names of exponents, not the letters.
pub data Side : Type 0 where
  b_side a_side : Side

-- A form, level by level: (b_0, a_0), (b_1, a_1) and so on. All levels behind the last are (0, 0).
pub data Form : Type 0 where
  empty : Form
  level : ℕ → ℕ → Form → Form

-- Of a level's two exponents, the one of a side.
abbrev pub on_side : Side → ℕ → ℕ → ℕ
on_side b_side b a = b
on_side a_side b a = a

-- The exponent of index i on a side.
abbrev pub exponent : Side → Form → ℕ → ℕ
exponent s empty i = 0
exponent s (level b a f) zero = on_side s b a
exponent s (level b a f) (suc i) = exponent s f i

-- The exponents of a side, level by level.
abbrev pub exponents : Side → Form → List ℕ
exponents s empty = []
exponents s (level b a f) = on_side s b a ∷ exponents s f

-- Two forms have the same b_i and the same a_i at every i.
abbrev pub SameExponents : Form → Form → Type 0
SameExponents f g = (s : Side) (i : ℕ) → exponent s f i ≡ exponent s g i

-- The last level, where there is one, is not (0, 0).
abbrev pub Trimmed : Form → Type 0
Trimmed empty = Unit {0}
Trimmed (level b a empty) = 0 < b + a
Trimmed (level b a (level c d f)) = Trimmed (level c d f)

-- The number of levels. Every index that occurs is below it.
abbrev pub levels : Form → ℕ
levels empty = 0
levels (level b a f) = suc (levels f)

-- The sum of all exponents, which is the number of the form's letters x_k and x_k⁻¹.
abbrev pub exponent_sum : Form → ℕ
exponent_sum empty = 0
exponent_sum (level b a f) = b + a + exponent_sum f

-- The b side of a form whose first level has index k: x_k^b, then the higher indices.
abbrev pub ascending : ℕ → Form → Word
ascending k empty = []
ascending k (level b a f) = copies b (generator k) ++ ascending (suc k) f

-- The a side: the higher indices, then x_k^−a.
abbrev pub descending : ℕ → Form → Word
descending k empty = []
descending k (level b a f) = descending (suc k) f ++ copies a (inverse (generator k))

-- The letters of a form: each power of an x_k, in the form's order, through the letters of x_k.
abbrev pub letters : Form → Word
letters f = ascending 0 f ++ descending 0 f
