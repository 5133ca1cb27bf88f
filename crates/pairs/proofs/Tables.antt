-- The tables of a record that is accepted: their carets, their trees and their length are those of its form.
-- Assumes nothing.
use mathlib.Core.Path.{◌≡◌, sym, ap, ap₂, ◌∙◌}
use mathlib.Core.List.{List}
use Prim.Native.Nat.{ℕ, suc, ◌≤◌, max}
use native.Mathlib.Omega.{arith}
use lib.ListN.{length}
use borrow.Author.Tests.{le-ltb}
use Rattle.lists.specs.inside.Entries.{SameEntries}
use Rattle.group.specs.Forms.{Side, b_side, a_side, Form, exponents}
use Rattle.group.specs.Limits.{limit}
use Rattle.group.proofs.Exponents.{exponents_at}
use Rattle.group.proofs.Reduced.{Canonical}
use Rattle.refusals.specs.Outcomes.{accepted}
use Rattle.records.specs.Format.{Within}
use Rattle.records.proofs.ClearedTables.{Cleared, table_of, within_levels, table-length, table_at}
use Rattle.trees.specs.Building.{tree_of}
use Rattle.trees.specs.Pairs.{carets_of_sides, carets_of, max_carets}
use Rattle.trees.specs.inside.Writing.{table_carets}
use Rattle.trees.proofs.Rows.{tree_same}
use Rattle.trees.proofs.Needed.{needed_same}
use Rattle.trees.proofs.Pairs.{carets-limit}

-- N never exceeds 2 · limit + 1.
pub carets-most : (f : Form) → Canonical f → Within f → carets_of f ≤ max_carets
carets-most f c w = carets-limit limit f (within_levels f c w) w.sum

module _ (f : Form) (w : Within f) {z : List ℕ} (c : Cleared (suc limit) z) where
  table_same : (s : Side) → SameEntries (table_of s f z) (exponents s f)
  table_same s i = table_at f w c s i ∙ sym (exponents_at s f i)

  same_carets : carets_of_sides (table_of b_side f z) (table_of a_side f z) ≡ carets_of f
  same_carets =
      ap₂ max (needed_same (table_of b_side f z) (exponents b_side f) (table_same b_side))
      (needed_same (table_of a_side f z) (exponents a_side f) (table_same a_side))

  -- The tree of a table is that of the side.
  pub tree_of_table : (s : Side) → tree_of (carets_of f) (table_of s f z) ≡ tree_of (carets_of f) (exponents s f)
  tree_of_table s = tree_same (carets_of f) (table_of s f z) (exponents s f) (table_same s)

  entries : (s : Side) → length (table_of s f z) ≤ max_carets
  entries s = omega (arith, table-length f w c s)

  -- The tables are fit.
  pub tables_fit : Canonical f → table_carets (table_of b_side f z) (table_of a_side f z) ≡ accepted (carets_of f)
  tables_fit d =
      let few : carets_of_sides (table_of b_side f z) (table_of a_side f z) ≤ max_carets =
      omega (arith, same_carets, carets-most f d w) in
      simp (le-ltb _ _ (entries b_side), le-ltb _ _ (entries a_side), le-ltb _ _ few) (ap accepted same_carets)
