-- Packed shapes of 02, [6], worked out: rows of one claim, over the definitions that the calls' contracts cite. A
-- comment gives the long numbers in hexadecimal.
--     WorkedShapes         the rows
--     right_comb n         the tree of n carets, each the right child of the one before
--     left_spine n         the tree of n carets, each the left child of the one before
--     PackedAs t xs ys     the tree t is packed as the numbers xs with the summary ys, and read back from them
--     GrownAs t k xs ys xs' ys'   the tree t in xs and ys grows a caret at leaf k, which leaves xs' and ys'
-- Names used, and where each is defined:
--     Tree; shape t           trees; the bytes of a tree                                   trees, Trees, Shapes
--     numbers_for, summary_for  the numbers and the summary of a shape                     packed, Packing
--     packed_shape xs ys      the byte shape of a packed one, or 15                        packed, Packing
--     grow_at s k, growing    a caret in place of leaf k; in a packed shape, or a refusal  packed, Growing, Promises
--     filled m f t            the table t with the first m values of f at its front        lists, Tables
--     number_at s j           an entry of the numbers of a shape                           bitrows, Numbers
--     summary_at s j          an entry of its summary                                      packed, Packing
--     numbers_of_value n      how many numbers n nodes take                                bitrows, Numbers
-- Assumes nothing.
use Rattle.std.specs.Prelude.{◌≡◌, List, [], ◌∷◌, ℕ, zero, suc, length}
use Rattle.lists.specs.Tables.{filled}
use Rattle.refusals.specs.Outcomes.{accepted, refused}
use Rattle.trees.specs.Trees.{Tree, leaf, caret}
use Rattle.trees.specs.Shapes.{shape}
use Rattle.bitrows.specs.Numbers.{number_at, numbers_of_value}
use Rattle.packed.specs.Packing.{summary_at, numbers_for, summary_for, packed_shape}
use Rattle.packed.specs.Growing.{grow_at}
use Rattle.packed.specs.Promises.{growing}

-- Every caret but the root is a right child.
abbrev pub right_comb : ℕ → Tree
right_comb zero = leaf
right_comb (suc n) = caret leaf (right_comb n)

-- Every caret but the root is a left child.
abbrev pub left_spine : ℕ → Tree
left_spine zero = leaf
left_spine (suc n) = caret (left_spine n) leaf

-- What packing and unpacking make of a tree.
pub record PackedAs (t : Tree) (xs ys : List ℕ) : Type 0 where
  pub numbers : numbers_for (shape t) ≡ xs
  pub summary : summary_for (shape t) ≡ ys
  pub unpacked : packed_shape xs ys ≡ accepted (shape t)

-- What growing a caret makes of it.
pub record GrownAs (t : Tree) (k : ℕ) (xs ys xs' ys' : List ℕ) : Type 0 where
  pub lent : packed_shape xs ys ≡ accepted (shape t)
  pub grows : growing xs ys k ≡ accepted (grow_at (shape t) k)
  pub numbers : filled (numbers_of_value (length (grow_at (shape t) k))) (number_at (grow_at (shape t) k)) xs ≡ xs'
  pub summary : filled (numbers_of_value (length (grow_at (shape t) k))) (summary_at (grow_at (shape t) k)) ys ≡ ys'

-- The rows.
pub record WorkedShapes : Type 0 where
  -- A leaf, and a caret with two leaves: 01 00 00.
  pub packed_leaf : PackedAs leaf (0 ∷ []) (0 ∷ [])
  pub packed_caret : PackedAs (caret leaf leaf) (1 ∷ []) (0 ∷ [])
  -- Of a leaf: an unused bit is set; the summary is wrong; it is too short; there is no number.
  pub unused_bit : packed_shape (2 ∷ []) (0 ∷ []) ≡ refused 15 0
  pub wrong_summary : packed_shape (0 ∷ []) (1 ∷ []) ≡ refused 15 0
  pub short_summary : packed_shape (0 ∷ []) [] ≡ refused 15 0
  pub no_number : packed_shape [] [] ≡ refused 15 0
  -- The right comb of 32 carets: 5555555555555555, 0.
  pub packed_comb : PackedAs (right_comb 32) (6148914691236517205 ∷ 0 ∷ []) (0 ∷ 32 ∷ [])
  -- The left spine of 64 carets: ffffffffffffffff, 0, 0.
  pub packed_spine : PackedAs (left_spine 64) (18446744073709551615 ∷ 0 ∷ 0 ∷ []) (0 ∷ 64 ∷ 64 ∷ [])
  -- The left spine of 31 carets at its last leaf: 7fffffff becomes 400000007fffffff, 0; what is behind is unchanged.
  pub grown_last : GrownAs (left_spine 31) 31 (2147483647 ∷ 9 ∷ 9 ∷ []) (0 ∷ 9 ∷ 9 ∷ [])
      (4611686020574871551 ∷ 0 ∷ 9 ∷ []) (0 ∷ 32 ∷ 9 ∷ [])
  -- The right comb of 32 carets at leaf 5: 5555555555555555, 0 become 5555555555554d55, 1.
  pub grown_comb : GrownAs (right_comb 32) 5 (6148914691236517205 ∷ 0 ∷ []) (0 ∷ 32 ∷ [])
      (6148914691236515157 ∷ 1 ∷ []) (0 ∷ 32 ∷ [])
  -- The left spine of 32 carets at leaf 5: ffffffff, 0 become 20ffffffff, 0.
  pub grown_spine : GrownAs (left_spine 32) 5 (4294967295 ∷ 0 ∷ []) (0 ∷ 32 ∷ [])
      (141733920767 ∷ 0 ∷ []) (0 ∷ 33 ∷ [])
