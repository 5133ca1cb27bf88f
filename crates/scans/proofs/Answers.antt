-- The answers of the scan, by the answer of the count of carets. Assumes nothing.
use mathlib.Core.Path.{◌≡◌, sym, ap}
use mathlib.Core.List.{List}
use Prim.Native.Nat.{ℕ}
use native.Mathlib.Omega.{arith}
use Rattle.std.specs.Prelude.{Result, Ok}
use Rattle.refusals.specs.declared.Failure.{Failure}
use Rattle.refusals.specs.Outcomes.{accepted}
use Rattle.trees.specs.Building.{tree_of}
use Rattle.trees.specs.inside.Writing.{pairing_of, table_carets}
use Rattle.trees.proofs.PairAnswers.{Counts, counted}
use Rattle.trees.proofs.Built.{tree_carets}
use Rattle.lengths.specs.Weights.{pair_length}
use Rattle.lengths.specs.inside.Contracts.{table_length}
use Rattle.lengths.proofs.PairBounds.{pair_few}
use Rattle.scans.specs.inside.Steps.{PairOfTables}

-- A number of carets.
module _ (b a : List ℕ) {r : Result ℕ Failure} {n : ℕ} (e : pairing_of r ≡ table_carets b a) (is : r ≡ Ok n) where
  counts : Counts b a n
  counts = counted e is

  pub scan_pair : PairOfTables b a n
  scan_pair = record { counted = counts.carets; small = counts.few }

  pub scan_summed : {k : ℕ} → k ≡ pair_length (tree_of n a) (tree_of n b) → accepted k ≡ table_length b a
  scan_summed h = rw counts.accepts (ap accepted h)

  -- None: both trees are single leaves.
  pub scan_none : n ≡ 0 → accepted 0 ≡ table_length b a
  scan_none z =
      scan_summed
      (sym
      (pair_few (tree_of n a) (tree_of n b)
      (omega (arith, tree_carets n a (omega (arith, counts.carets))))))
