-- A table filled with the powers of a record holds the exponents of its form.
-- Assumes nothing.
use mathlib.Core.Path.{◌≡◌, ap}
use mathlib.Core.List.{List, ◌++◌}
use Prim.Native.Nat.{ℕ, suc}
use lib.ListN.{drop}
use Rattle.lists.specs.Tables.{filled}
use Rattle.lists.proofs.Tables.{values_same}
use Rattle.group.specs.Forms.{Side, exponent}
use Rattle.group.specs.Limits.{limit}
use Rattle.records.specs.Reading.{exponent_at}
use Rattle.records.specs.Faults.{form_read}
use Rattle.records.proofs.ReadBack.{side_powers}
use Rattle.records.proofs.Checks.{form_below}

-- A table filled with the powers that are read holds the exponents of the form.
pub powers-filled : (s : List ℕ) (d : Side) (t : List ℕ)
    → filled (suc limit) (exponent_at (side_powers d s)) t ≡ filled (suc limit) (exponent d (form_read s)) t
powers-filled s d t =
    ap (λ (l : List ℕ). l ++ drop (suc limit) t)
    (values_same (suc limit) (exponent_at (side_powers d s)) (exponent d (form_read s)) (form_below s d))
