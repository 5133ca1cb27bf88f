-- The powers that two tables of exponents hold, in a form's order (02, [1]).
--     rising_in k t, falling_in k t   those of one table, whose first entry has index k
--     powers_of b a                  those of both
--     text_room                      the most bytes of a text that has a space in front of each token
--     text_beside ps out             the text of powers, beside a buffer, or refusal 7
-- Inside: no claim reaches these definitions; a reader of the claims need not believe them. Assumes nothing.
use Rattle.std.specs.Prelude.{List, [], ◌∷◌, ◌++◌, ℕ, suc, ◌*◌, length}
use Rattle.group.specs.Forms.{b_side, a_side}
use Rattle.group.specs.Limits.{limit}
use Rattle.group.specs.Powers.{SignedPower, put_signed}
use Rattle.refusals.specs.Outcomes.{Outcome}
use Rattle.refusals.specs.Placing.{fitting}
use Rattle.tokens.specs.Texts.{text_of}

-- The powers of the b side, indices rising.
abbrev pub rising_in : ℕ → List ℕ → List SignedPower
rising_in k [] = []
rising_in k (e ∷ t) = put_signed b_side k e (rising_in (suc k) t)

-- The powers of the a side, indices falling.
abbrev pub falling_in : ℕ → List ℕ → List SignedPower
falling_in k [] = []
falling_in k (e ∷ t) = falling_in (suc k) t ++ put_signed a_side k e []

-- The b side, then the a side.
abbrev pub powers_of : (b a : List ℕ) → List SignedPower
powers_of b a = rising_in 0 b ++ falling_in 0 a

-- At most as many powers as the limit, at most 12 bytes for each: ` x`, `^-`, and four digits twice.
abbrev pub text_room : ℕ
text_room = 12 * limit

-- The text of powers, beside a buffer.
abbrev pub text_beside : List SignedPower → List ℕ → Outcome (List ℕ)
text_beside ps out = fitting (length (text_of ps)) (text_of ps) out
