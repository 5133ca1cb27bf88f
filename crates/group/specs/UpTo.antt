-- The form with given exponents (000, formula 3), written without a level (0, 0) at its end. Assumes nothing.
use Rattle.std.specs.Prelude.{ℕ, zero, suc}
use Rattle.group.specs.Forms.{Form, empty, level}

-- A level put in front of a form, but no level (0, 0) at the end.
abbrev pub put_level : ℕ → ℕ → Form → Form
put_level zero zero empty = empty
put_level zero zero (level c d f) = level 0 0 (level c d f)
put_level zero (suc a) f = level 0 (suc a) f
put_level (suc b) a f = level (suc b) a f

-- The form with given exponents of the indices below m.
unfoldable pub form_up_to : ℕ → (ℕ → ℕ) → (ℕ → ℕ) → Form
form_up_to zero b a = empty
form_up_to (suc m) b a = put_level (b 0) (a 0) (form_up_to m (λ i. b (suc i)) (λ i. a (suc i)))
