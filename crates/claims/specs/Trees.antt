-- The sentences of 01, 'The tree pair and the length', beside the definitions: a claim each; proofs/Trees.antt has the
-- proofs, under the same names in snake case. What the claims speak of, and where it is defined:
--     Tree, carets t, Address          trees; N; the way down from the root, by edges              trees, Trees
--     IsLeaf t k u, IsCaret t k v      leaf k and caret k by their addresses                       trees, Trees
--     LeafExponent, HasExponents       the exponents of leaves, by 000, definition 2.7             trees, Exponents
--     Pair, SmallestPair               trees of one size with the exponents a and b; the smallest  trees, Pairs
--     minus_tree f, plus_tree f        T− and T+, with carets_of f carets, at most max_carets      trees, Pairs
--     Redundant, SendsLeaves, InLeaf   000, definition 2.4; the map of a pair                      trees, Pairs
--     shape t, Node t k u, subtree_end_value  bytes, nodes by number, where a subtree ends         trees, Shapes
--     IsKind t k x, Kind               caret k is of kind x, by 01's sentences                     lengths, Kinds
--     weight x y; table_entry i j      Fordham's table; the same as the code has it                 lengths, Weights
-- Assumes nothing.
use Rattle.std.specs.Prelude.{◌≡◌, List, ◌∷◌, ◌++◌, ◌↔◌, ℕ, suc, ◌+◌, ◌*◌, ◌<◌, ◌≤◌, length}
use Rattle.lists.specs.Entries.{At}
use Rattle.group.specs.Points.{Digit, 𝟎, 𝟏}
use Rattle.group.specs.Forms.{Form, empty, exponent_sum, levels}
use Rattle.group.specs.Limits.{limit}
use Rattle.group.specs.Reducing.{Reduced}
use Rattle.trees.specs.Trees.{Tree, leaf, carets, Address, leaves, IsLeaf, caret_places, IsCaret, Subtree}
use Rattle.trees.specs.Exponents.{left_edges, right_edges}
use Rattle.trees.specs.Pairs.{carets_of, max_carets, minus_tree, plus_tree}
use Rattle.trees.specs.Pairs.{Pair, SmallestPair, Redundant, SendsLeaves, InLeaf}
use Rattle.trees.specs.Shapes.{shape, Node, subtree_end_value}
use Rattle.lengths.specs.Kinds.{Kind, L0, IsKind}
use Rattle.lengths.specs.Weights.{weight, table_entry, weights, pair_length}

-- A tree with N carets has leaves 0 to N; caret k is the one between leaves k and k + 1: below its left edge leaf k is
-- the last, below its right edge leaf k + 1 is the first.
pub record LeavesAndCarets : Type 0 where
  pub leaves_numbered : (t : Tree) → length (leaves t) ≡ suc (carets t)
  pub carets_numbered : (t : Tree) → length (caret_places t) ≡ carets t
  pub between : (t : Tree) (k : ℕ) (v : Address) → IsCaret t k v
      → (m n : ℕ) × IsLeaf t k (v ++ (𝟎 ∷ right_edges m)) × IsLeaf t (suc k) (v ++ (𝟏 ∷ left_edges n))

-- T− has the exponents a, T+ the exponents b, both with the same, smallest possible N, and no other pair has them. The
-- empty form has two single leaves. N never exceeds 2 · limit + 1, which is 8,193.
pub record PairOfForm : Type 0 where
  pub smallest : (f : Form) → SmallestPair f (minus_tree f) (plus_tree f)
  pub number : (f : Form) → (carets (minus_tree f) ≡ carets_of f) × (carets (plus_tree f) ≡ carets_of f)
  pub only : (f : Form) (t s : Tree) → SmallestPair f t s → (t ≡ minus_tree f) × (s ≡ plus_tree f)
  pub of_empty : (minus_tree empty ≡ leaf) × (plus_tree empty ≡ leaf)
  pub most : (f : Form) → levels f ≤ limit + 1 → exponent_sum f ≤ limit → carets_of f ≤ max_carets

-- 000, section 2.5: every two trees of one size are the pair of a form. With `PairOfForm`, `NoRedundantCaret` and
-- `PairIsMap` the elements are just the maps of pairs of trees: all of the group F.
abbrev pub EveryPairIsForm : Type 0
EveryPairIsForm = (t s : Tree) → carets t ≡ carets s → (f : Form) × Pair f t s

-- 000, theorem 2.6: a pair with a form's exponents has no redundant caret just when the form is reduced and the pair is
-- its smallest.
abbrev pub NoRedundantCaret : Type 0
NoRedundantCaret =
    (f : Form) (t s : Tree) → Pair f t s → (Redundant t s → ⊥) ↔ (Reduced f × SmallestPair f t s)

-- 000, section 2.5: leaf k of T− goes to leaf k of T+ by the form's map, at every dyadic point; every point below 1
-- lies in a leaf, and the end 1 is fixed.
pub record PairIsMap : Type 0 where
  pub sends : (f : Form) (t s : Tree) → Pair f t s → SendsLeaves f t s
  pub covers : (t : Tree) (p : List Digit) → InLeaf t p

-- A shape has 2N + 1 bytes and determines its tree. The subtree of a node ends at the number just behind its last node.
pub record ShapesOfTrees : Type 0 where
  pub bytes : (t : Tree) → length (shape t) ≡ 2 * carets t + 1
  pub determines : (t u : Tree) → shape t ≡ shape u → t ≡ u
  pub ends : (t : Tree) (k : ℕ) (u : Address) (x : Tree) → Node t k u → Subtree t u x
      → (j : ℕ) → ((v : Address) × Node t j (u ++ v)) ↔ ((k ≤ j) × (j < subtree_end_value (shape t) k))

-- Every caret has exactly one kind. Caret 0 is L0 and no other caret is, so that L0 meets only L0.
pub record KindsOfCarets : Type 0 where
  pub one : (t : Tree) (k : ℕ) → k < carets t → (x : Kind) × IsKind t k x × ((y : Kind) → IsKind t k y → y ≡ x)
  pub first : (t : Tree) (k : ℕ) → IsKind t k L0 ↔ ((k ≡ 0) × (0 < carets t))

-- L0 weighs 0; the table of the other weights is symmetric, and so is the constant of the code, by rows and columns.
pub record SymmetricWeights : Type 0 where
  pub of_first : weight L0 L0 ≡ 0
  pub symmetric : (x y : Kind) → weight x y ≡ weight y x
  pub constant : (i j : ℕ) → i < 6 → j < 6 → table_entry i j ≡ table_entry j i

-- The length of a pair is the sum over k of the weight of caret k of T− with caret k of T+, for the lists of the
-- carets' kinds, from left to right.
abbrev pub LengthIsSum : Type 0
LengthIsSum =
    (t s : Tree) (xs ys : List Kind)
    → ((k : ℕ) (x : Kind) → At xs k x ↔ IsKind t k x) → ((k : ℕ) (y : Kind) → At ys k y ↔ IsKind s k y)
    → pair_length t s ≡ weights xs ys
