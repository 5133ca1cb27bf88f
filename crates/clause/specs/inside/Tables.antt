-- Two tables of exponents: the clause tested on them, and a form put into two that are lent. Assumes nothing.
use Rattle.std.specs.Prelude.{◌≡◌, Bool, cond, List, ℕ, suc, ◌-◌, ◌≤◌, length, get_or, eqb, ltb, ⊤, Result}
use Rattle.refusals.specs.declared.Refusal.{Refusal}
use Rattle.lists.specs.Tables.{filled}
use Rattle.group.specs.Forms.{Side, b_side, a_side, Form, exponent}
use Rattle.group.specs.Limits.{limit}
use Rattle.refusals.specs.Outcomes.{Outcome, accepted, refused, after, then, drop_value, verdict_of}
use Rattle.clause.specs.Clause.{both, find_break}

-- The test of the reduced form's clause, on the exponents of an index and the next.
abbrev pub is_break : (b a b' a' : ℕ) → Bool
is_break b a b' a' = both (ltb 0 b) (both (ltb 0 a) (both (eqb b' 0) (eqb a' 0)))

-- Two tables show the exponents of a form, up to one index above the limit.
abbrev pub Shown : Form → List ℕ → List ℕ → Type 0
Shown f b a = (i : ℕ) → i ≤ suc limit → (get_or b i 0 ≡ exponent b_side f i) × (get_or a i 0 ≡ exponent a_side f i)

-- The clause was tested for each form that the tables show.
abbrev pub BreakFound : List ℕ → List ℕ → Result ⊤ Refusal → Type 0
BreakFound b a r = (f : Form) → Shown f b a → verdict_of r ≡ drop_value (find_break f 0 (suc limit))

-- No index below i breaks the clause, of any form that the tables show.
pub record Unbroken (b a : List ℕ) (i : ℕ) : Type 0 where
  pub goes_on : (f : Form) → Shown f b a → find_break f i (suc limit - i) ≡ find_break f 0 (suc limit)

-- A form that was read, beside two tables of the lengths nb and na: 6 where one is too short. Each table needs an entry
-- for every index up to the limit.
abbrev pub fits : (nb na : ℕ) → Form → Outcome Form
fits nb na f = cond (ltb nb (suc limit)) (refused 6 0) (cond (ltb na (suc limit)) (refused 6 0) (accepted f))

-- A table at exit: entry i is the exponent of index i for each i up to the limit; everything beyond is unchanged.
abbrev pub table_read : Side → Outcome Form → List ℕ → List ℕ
table_read s o t = after o t (λ f. filled (suc limit) (exponent s f) t)

-- What was read, with its exponents in the two tables.
pub record ReadInto (o : Outcome Form) (b a b' a' : List ℕ) (r : Result ⊤ Refusal) : Type 0 where
  pub result : verdict_of r ≡ drop_value (then o (fits (length b) (length a)))
  pub b_table : b' ≡ table_read b_side (then o (fits (length b) (length a))) b
  pub a_table : a' ≡ table_read a_side (then o (fits (length b) (length a))) a

-- The same of each form that two other tables show, where the clause is tested on them.
abbrev pub HandedOver : (ob oa b a b' a' : List ℕ) → Result ⊤ Refusal → Type 0
HandedOver ob oa b a b' a' r = (f : Form) → Shown f ob oa → ReadInto (find_break f 0 (suc limit)) b a b' a' r
