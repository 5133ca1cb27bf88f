-- A letter times a form, the form of a word, and the form of an inverse (000, section 2.4.2, rules 4; 01, 'The reduced
-- form'). This is how the form is worked out; that it is THE reduced form of the word is claimed apart from this.
--     times_generator s k f   x_k (b_side) or x_k⁻¹ (a_side) times f      form_of w      the reduced form of the word w
--     times_letter x f        the letter x times f                      exchange f    the form with its sides exchanged
-- Assumes nothing.
use Rattle.std.specs.Prelude.{[], ◌∷◌, ℕ, zero, suc, ◌+◌}
use Rattle.group.specs.Letters.{Letter, 'a, 'A, 'b, 'B, Word, inverse_letter}
use Rattle.group.specs.Forms.{Side, b_side, a_side, Form, empty, level}

-- The level (b, a) put in front of a reduced form, with every reducing step at index 0 that this opens: as long as the
-- level above is (0, 0), one x_0 and one x_0⁻¹ are removed and that level goes. No level (0, 0) is put at the end.
abbrev pub reduce_level : ℕ → ℕ → Form → Form
reduce_level zero zero empty = empty
reduce_level zero zero (level c d f) = level 0 0 (level c d f)
reduce_level zero (suc a) f = level 0 (suc a) f
reduce_level (suc b) zero f = level (suc b) 0 f
reduce_level (suc b) (suc a) empty = reduce_level b a empty
reduce_level (suc b) (suc a) (level zero zero f) = reduce_level b a f
reduce_level (suc b) (suc a) (level zero (suc d) f) = level (suc b) (suc a) (level 0 (suc d) f)
reduce_level (suc b) (suc a) (level (suc c) d f) = level (suc b) (suc a) (level (suc c) d f)

-- x_0 or its inverse times a form. x_0 adds one to b_0. x_0⁻¹ takes one from b_0; where b_0 is 0, it passes to the
-- other end and raises every index on its way, since x_0⁻¹ x_j = x_(j+1) x_0⁻¹ for j above 0.
abbrev pub times_x0 : Side → Form → Form
times_x0 b_side empty = level 1 0 empty
times_x0 b_side (level b a f) = reduce_level (suc b) a f
times_x0 a_side empty = level 0 1 empty
times_x0 a_side (level zero a f) = level 0 (suc a) (reduce_level 0 0 f)
times_x0 a_side (level (suc b) a f) = reduce_level b a f

-- x_k or its inverse, alone.
abbrev pub single : Side → ℕ → Form
single s zero = times_x0 s empty
single s (suc k) = reduce_level 0 0 (single s k)

-- x_k or its inverse times a form. Since x_j x_0 = x_0 x_(j+1), x_(k+1) passes x_0^b and is x_(k+1+b) behind it: the
-- generator of index k + b for the levels above, whose indices count from 0 again.
abbrev pub times_generator : Side → ℕ → Form → Form
times_generator s k empty = single s k
times_generator s zero (level b a f) = times_x0 s (level b a f)
times_generator s (suc k) (level b a f) = reduce_level b a (times_generator s (k + b) f)

-- A letter times a form.
abbrev pub times_letter : Letter → Form → Form
times_letter 'a f = times_generator b_side 0 f
times_letter 'A f = times_generator a_side 0 f
times_letter 'b f = times_generator b_side 1 f
times_letter 'B f = times_generator a_side 1 f

-- The form with its two sides exchanged.
abbrev pub exchange : Form → Form
exchange empty = empty
exchange (level b a f) = level a b (exchange f)

-- The form of a word, built from its right end.
abbrev pub form_of : Word → Form
form_of [] = empty
form_of (x ∷ w) = times_letter x (form_of w)

-- A form times a letter, put behind: the inverse letter put in front, between two exchanges of the sides.
abbrev pub behind_letter : Form → Letter → Form
behind_letter f x = exchange (times_letter (inverse_letter x) (exchange f))
