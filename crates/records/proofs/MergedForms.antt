-- The first index that breaks the clause, found by the powers of both sides, is what `find_break` answers of their form.
-- Assumes nothing.
use mathlib.Core.Path.{◌≡◌, sym, ap, ◌∙◌}
use mathlib.Core.List.{List}
use mathlib.Core.Option.{Option, none, some}
use Prim.Native.Nat.{ℕ, suc, ◌<◌, ◌≤◌}
use native.Mathlib.Omega.{arith}
use native.Mathlib.Decide.{dec_le}
use Rattle.group.specs.Limits.{limit}
use Rattle.group.specs.Forms.{Side, b_side, a_side, Form, exponent}
use Rattle.group.specs.Reducing.{Applies}
use Rattle.refusals.specs.Outcomes.{Outcome, accepted, refused}
use Rattle.records.specs.Format.{Power}
use Rattle.records.specs.Reading.{exponent_at, form_of_powers}
use Rattle.clause.specs.Clause.{find_break}
use Rattle.records.specs.inside.Steps.{Proper}
use Rattle.records.proofs.ProperPowers.{at_above}
use Rattle.records.proofs.ReadBack.{form_exponent}
use Rattle.records.proofs.Clause.{Checked, whole, broken, checked}
use Rattle.records.proofs.Merging.{Breaks, Merged, clear, first}

-- The outcome of what is found.
abbrev pub found_in : Form → Option ℕ → Outcome Form
found_in f none = accepted f
found_in f (some i) = refused 5 i

-- The powers of a side.
abbrev on : List Power → List Power → Side → List Power
on p q b_side = p
on p q a_side = q

module _ (p q : List Power) (pp : Proper 0 p) (pq : Proper 0 q) where
  proper : (s : Side) → Proper 0 (on p q s)
  proper b_side = pp
  proper a_side = pq

  reads : (s : Side) (i : ℕ) → exponent s (form_of_powers p q) i ≡ exponent_at (on p q s) i
  reads s i = form_exponent (on p q) proper s i

  applies : (k : ℕ) → Breaks p q k → Applies k (form_of_powers p q)
  applies k h = record { here = here; next = next }
    where
      here : (s : Side) → 0 < exponent s (form_of_powers p q) k
      here b_side = omega (arith, reads b_side k, h.b)
      here a_side = omega (arith, reads a_side k, h.a)

      next : (s : Side) → exponent s (form_of_powers p q) (suc k) ≡ 0
      next b_side = reads b_side (suc k) ∙ h.b_next
      next a_side = reads a_side (suc k) ∙ h.a_next

  breaks : (k : ℕ) → Applies k (form_of_powers p q) → Breaks p q k
  breaks k h = record {
    b = omega (arith, reads b_side k, h.here b_side);
    a = omega (arith, reads a_side k, h.here a_side);
    b_next = sym (reads b_side (suc k)) ∙ h.next b_side;
    a_next = sym (reads a_side (suc k)) ∙ h.next a_side;
  }

  inside : (i : ℕ) → 0 < exponent b_side (form_of_powers p q) i → i < suc limit
  inside i h = go (dec_le i limit)
    where
      go : Dec (i ≤ limit) → i < suc limit
      go (yes g) = omega (arith, g)
      go (no g) = absurd (omega (arith, reads b_side i, at_above p 0 i pp (omega (arith, g)), h))

  agree : (o : Option ℕ) → Merged p q o → Checked (form_of_powers p q) (suc limit)
      → find_break (form_of_powers p q) 0 (suc limit) ≡ found_in (form_of_powers p q) o
  agree o (clear n) (whole w e) = e
  agree o (clear n) (broken i a l e) = absurd (n i (breaks i a))
  agree o (first i b l) (whole w e) = absurd (w i (applies i b))
  agree o (first i b l) (broken j a m e) =
      e ∙ ap (λ (k : ℕ). refused 5 k) (same (dec_le (suc i) j) (dec_le (suc j) i))
    where
      same : Dec (suc i ≤ j) → Dec (suc j ≤ i) → j ≡ i
      same (yes x) y = absurd (m i x (applies i b))
      same (no x) (yes y) = absurd (l j y (breaks j a))
      same (no x) (no y) = omega (arith, x, y)

  pub merged_found : (o : Option ℕ) → Merged p q o
      → find_break (form_of_powers p q) 0 (suc limit) ≡ found_in (form_of_powers p q) o
  merged_found o m = agree o m (checked (form_of_powers p q) (suc limit) inside)
