-- The reduced form's clause (01, 'The reduced form'), tested index by index.
--     breaks f i        the index i breaks the clause
--     find_break f i k   the form, or refusal 5 at the first of k indices from i on that does
-- This is how the clause is tested; that it is the paper's sentence is claimed apart from this. Assumes nothing.
use Rattle.std.specs.Prelude.{Bool, false, cond, ℕ, zero, suc, eqb, ltb}
use Rattle.group.specs.Forms.{b_side, a_side, Form, exponent}
use Rattle.refusals.specs.Outcomes.{Outcome, accepted, refused}

-- Both of two tests.
abbrev pub both : Bool → Bool → Bool
both p q = cond p q false

-- The index breaks the reduced form's clause: both exponents are above 0, and both of the next index are 0.
abbrev pub breaks : Form → ℕ → Bool
breaks f i =
    both (ltb 0 (exponent b_side f i))
    (both (ltb 0 (exponent a_side f i))
    (both (eqb (exponent b_side f (suc i)) 0) (eqb (exponent a_side f (suc i)) 0)))

-- The form, or refusal 5 at the first of k indices from i on that breaks the clause.
unfoldable pub find_break : Form → (i k : ℕ) → Outcome Form
find_break f i zero = accepted f
find_break f i (suc k) = cond (breaks f i) (refused 5 i) (find_break f (suc i) k)
