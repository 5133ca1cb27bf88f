-- The sum of Table 1 over as many columns as two tables need is Fordham's length of their pair of trees, and 16 bits
-- hold it. Assumes nothing.
use mathlib.Core.Path.{◌≡◌, sym, ◌∙◌}
use mathlib.Core.List.{List}
use Prim.Native.Nat.{ℕ, suc, ◌≤◌}
use native.Mathlib.Omega.{arith}
use Rattle.group.proofs.Limits.{limit_weighs}
use Rattle.trees.specs.Trees.{carets}
use Rattle.trees.specs.Readings.{exponents_of}
use Rattle.trees.specs.Building.{needed, tree_of}
use Rattle.trees.specs.Pairs.{max_carets}
use Rattle.trees.proofs.Built.{tree_carets, tree_exponents}
use Rattle.lengths.specs.Weights.{pair_length}
use Rattle.lengths.proofs.PairBounds.{pair_narrow}
use Rattle.geodesics.specs.Rows.{Row, from_one}
use Rattle.geodesics.specs.inside.Costs.{cost, Closed}
use Rattle.geodesics.proofs.ColumnSums.{columns_symmetric}
use Rattle.geodesics.proofs.Rows.{row_labels, cost_columns}
use Rattle.geodesics.proofs.Sides.{sides}
use Rattle.geodesics.proofs.Enough.{sum_any}
use Rattle.geodesics.proofs.SameRows.{from_same, length_same}
use Rattle.geodesics.proofs.TreeRows.{tree_closed}
use Rattle.geodesics.proofs.Fordham.{pair_length_lem}

-- The row of a table is closed behind as many carets as are enough for it.
pub table_closed : (n : ℕ) (es : List ℕ) → needed 0 es ≤ suc n → Closed n (from_one es)
table_closed n es h =
    from_same n (exponents_of (tree_of (suc n) es)) es (tree_exponents (suc n) es h)
    (tree_closed (tree_of (suc n) es) n (tree_carets (suc n) es h))

cost_symmetric : (n : ℕ) (u v : Row) → cost n u v ≡ cost n v u
cost_symmetric n u v =
    cost_columns n u v ∙ columns_symmetric (row_labels n u) (row_labels n v) ∙ sym (cost_columns n v u)

module _ (b a : List ℕ) (n : ℕ) (hb : needed 0 b ≤ suc n) (ha : needed 0 a ≤ suc n) where
  same_size : carets (tree_of (suc n) a) ≡ carets (tree_of (suc n) b)
  same_size = tree_carets (suc n) a ha ∙ sym (tree_carets (suc n) b hb)

  -- The labels of T− over those of T+.
  pub table-cost : cost n (from_one a) (from_one b) ≡ pair_length (tree_of (suc n) a) (tree_of (suc n) b)
  table-cost =
      cost_symmetric n (from_one a) (from_one b)
      ∙ sum_any n (sides b a) (record { b_row = table_closed n b hb; a_row = table_closed n a ha })
      ∙ sym (length_same (sides (exponents_of (tree_of (suc n) b)) (exponents_of (tree_of (suc n) a))) (sides b a)
      (tree_exponents (suc n) b hb) (tree_exponents (suc n) a ha))
      ∙ sym (pair_length_lem (tree_of (suc n) a) (tree_of (suc n) b) same_size)

  pub table_narrow : suc n ≤ max_carets → pair_length (tree_of (suc n) a) (tree_of (suc n) b) ≤ 65535
  table_narrow h =
      omega (
        arith,
        pair_narrow (tree_of (suc n) a) (tree_of (suc n) b) same_size (omega (arith, tree_carets (suc n) a ha)),
        limit_weighs,
      )
