-- The tables of a word: an entry for every index up to the number of letters. Their carets and their length are those
-- of the word's form. Assumes nothing.
use mathlib.Core.Path.{◌≡◌, sym, ap, ap₂, ◌∙◌}
use mathlib.Core.List.{List}
use Prim.Native.Nat.{ℕ, ◌+◌, ◌<◌, ◌≤◌, max}
use native.Mathlib.Omega.{arith}
use native.Mathlib.Decide.{dec_lt}
use lib.ListN.{length, get_or, get_or-eq_default}
use borrow.Author.Tests.{le-ltb}
use Rattle.lists.specs.inside.Entries.{SameEntries}
use Rattle.lists.specs.Tables.{values}
use Rattle.lists.proofs.Tables.{values_length, values_at}
use Rattle.group.specs.Letters.{Word}
use Rattle.group.specs.Forms.{Side, b_side, a_side, exponent, exponents}
use Rattle.group.specs.Products.{form_of}
use Rattle.group.specs.Limits.{limit}
use Rattle.group.proofs.Exponents.{exponents_at}
use Rattle.group.proofs.Sizes.{form_sum, form_levels, form_index}
use Rattle.refusals.specs.Outcomes.{Outcome, accepted, then}
use Rattle.trees.specs.Trees.{Tree}
use Rattle.trees.specs.Building.{tree_of}
use Rattle.trees.specs.Pairs.{carets_of_sides, carets_of, max_carets}
use Rattle.trees.specs.inside.Writing.{table_carets}
use Rattle.trees.proofs.Rows.{tree_same}
use Rattle.trees.proofs.Needed.{needed_same}
use Rattle.trees.proofs.Pairs.{carets-limit}
use Rattle.lengths.specs.Weights.{pair_length, form_length}
use Rattle.lengths.specs.inside.Contracts.{table_length}

module _ (w : Word) where
  -- The table of a side.
  abbrev pub side_table : Side → List ℕ
  side_table s = values (length w + 1) (exponent s (form_of w))

  -- Its entries are the exponents; zeros stand behind the last level.
  table_same : (s : Side) → SameEntries (side_table s) (exponents s (form_of w))
  table_same s i = go (dec_lt i (length w + 1)) ∙ sym (exponents_at s (form_of w) i)
    where
      go : Dec (i < length w + 1) → get_or (side_table s) i 0 ≡ exponent s (form_of w) i
      go (yes h) = values_at (length w + 1) (exponent s (form_of w)) i h
      go (no h) =
          get_or-eq_default (side_table s) 0 (omega (arith, values_length (length w + 1) (exponent s (form_of w))))
          ∙ sym (form_index w s i (omega arith))

  same_carets : carets_of_sides (side_table b_side) (side_table a_side) ≡ carets_of (form_of w)
  same_carets =
      ap₂ max (needed_same (side_table b_side) (exponents b_side (form_of w)) (table_same b_side))
      (needed_same (side_table a_side) (exponents a_side (form_of w)) (table_same a_side))

  same_tree : (s : Side)
      → tree_of (carets_of (form_of w)) (side_table s) ≡ tree_of (carets_of (form_of w)) (exponents s (form_of w))
  same_tree s = tree_same (carets_of (form_of w)) (side_table s) (exponents s (form_of w)) (table_same s)

  module _ (short : length w ≤ limit) where
    entries : (s : Side) → length (side_table s) ≤ max_carets
    entries s = omega (arith, values_length (length w + 1) (exponent s (form_of w)))

    -- The carets of the tables.
    pub table-carets : table_carets (side_table b_side) (side_table a_side) ≡ accepted (carets_of (form_of w))
    table-carets =
        let most = carets-limit limit (form_of w) (omega (arith, form_levels w)) (omega (arith, form_sum w)) in
        let few : carets_of_sides (side_table b_side) (side_table a_side) ≤ max_carets =
        omega (arith, same_carets, most) in
        simp (le-ltb _ _ (entries b_side), le-ltb _ _ (entries a_side), le-ltb _ _ few) (ap accepted same_carets)

    -- The length of the tables.
    pub table-length : table_length (side_table b_side) (side_table a_side) ≡ accepted (form_length (form_of w))
    table-length =
        ap (λ (o : Outcome ℕ). then o (λ n.
        accepted (pair_length (tree_of n (side_table a_side)) (tree_of n (side_table b_side))))) table-carets
        ∙ ap₂ (λ (t u : Tree). accepted (pair_length t u)) (same_tree a_side) (same_tree b_side)
