-- The steps of the record check, put together. Assumes nothing.
use mathlib.Core.Path.{◌≡◌, sym, ap, ◌∙◌}
use mathlib.Core.List.{List}
use Prim.Native.Nat.{ℕ, suc, ◌<◌, ◌≤◌}
use native.Mathlib.Decide.{dec_le}
use native.Mathlib.Omega.{arith}
use lib.ListN.{get_or, replicate}
use Rattle.lists.specs.Tables.{filled}
use Rattle.lists.proofs.Tables.{filled_at, filled-beyond}
use Rattle.lists.proofs.Totals.{same_replicate}
use Rattle.group.specs.Forms.{Side, b_side, a_side, exponent}
use Rattle.group.specs.Limits.{limit}
use Rattle.records.specs.Reading.{b_powers, a_powers, exponent_at}
use Rattle.records.specs.Faults.{form_read}
use Rattle.clause.specs.inside.Tables.{Shown}
use Rattle.records.proofs.ReadBack.{side_powers}
use Rattle.group.proofs.UpTo.{up_to_below, up_to_behind}

-- A table of zeros, as long as the check's own.
abbrev zeros : List ℕ
zeros = replicate (suc (suc limit)) 0

-- The powers that are read give the form's exponents.
pub form_below : (s : List ℕ) (d : Side) (i : ℕ) → i < suc limit → exponent_at (side_powers d s) i ≡ exponent d (form_read
    s) i
form_below s b_side i h = sym (up_to_below (suc limit) (exponent_at (b_powers s)) (exponent_at (a_powers s)) b_side i h)
form_below s a_side i h = sym (up_to_below (suc limit) (exponent_at (b_powers s)) (exponent_at (a_powers s)) a_side i h)

shown_side : (s : List ℕ) (d : Side) (i : ℕ)
    → get_or (filled (suc limit) (exponent_at (side_powers d s)) zeros) i 0 ≡ exponent d (form_read s) i
shown_side s d i = go (dec_le (suc i) (suc limit))
  where
    go : Dec (suc i ≤ suc limit)
        → get_or (filled (suc limit) (exponent_at (side_powers d s)) zeros) i 0 ≡ exponent d (form_read s) i
    go (yes lt) = filled_at (suc limit) (exponent_at (side_powers d s)) zeros i lt ∙ form_below s d i lt
    go (no ge) =
        filled-beyond (suc limit) (exponent_at (side_powers d s)) zeros i (omega (arith, ge))
        ∙ same_replicate (suc (suc limit)) i
        ∙ sym (up_to_behind (suc limit) (exponent_at (b_powers s)) (exponent_at (a_powers s)) d i (omega (arith, ge)))

-- Tables of zeros, filled with the exponents of a record's powers, show its form.
pub tables_show : (s b a : List ℕ) → b ≡ filled (suc limit) (exponent_at (b_powers s)) zeros
    → a ≡ filled (suc limit) (exponent_at (a_powers s)) zeros → Shown (form_read s) b a
tables_show s b a p q i le = (
  ap (λ (l : List ℕ). get_or l i 0) p ∙ shown_side s b_side i,
  ap (λ (l : List ℕ). get_or l i 0) q ∙ shown_side s a_side i,
)
