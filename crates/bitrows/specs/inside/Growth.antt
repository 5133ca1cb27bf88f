-- A caret and a leaf put in front of a node, in a shape and in a number.
--     inserted s v       the shape with both in front of node v
--     opened_number x p  the number with both in front of its node p, which has moved two bits up with those behind it
--     carried_number x p  the two nodes that then go on to the next number
--     carry_into s v i   the two nodes that have gone on to number i of the grown shape
-- Inside: no claim reaches these definitions; a reader of the claims need not believe them. Assumes nothing.
use Rattle.std.specs.Prelude.{◌≡◌, List, ◌∷◌, ◌++◌, ℕ, ◌+◌, ◌*◌, ◌/◌, ◌%◌, ◌^◌, ◌≤◌, ◌<◌, length, take, drop, get_or}
use Rattle.std.specs.Int.Count.{ones}
use Rattle.lists.specs.Entries.{total}
use Rattle.bitrows.specs.Numbers.{pack_number_value, bits_of}

-- The shape with a caret and a leaf in front of node v.
abbrev pub inserted : List ℕ → ℕ → List ℕ
inserted s v = take v s ++ (1 ∷ 0 ∷ drop v s)

-- The same in a number.
abbrev pub opened_number : (x p : ℕ) → ℕ
opened_number x p = x % 2 ^ p + (2 ^ p + (4 * (x / 2 ^ p * 2 ^ p)) % 2 ^ 64)

-- The nodes of its two highest bits, but for those below p.
abbrev pub carried_number : (x p : ℕ) → ℕ
carried_number x p = (x / 2 ^ p * 2 ^ p) / 2 ^ 62

-- The node of leaf k of some nodes is v: k leaves stand before it.
pub record LeafAt (s : List ℕ) (k v : ℕ) : Type 0 where
  pub inside : v < length s
  pub is_leaf : get_or s v 0 ≡ 0
  pub before : k + total (take v s) ≡ v

-- What is found for leaf k of the nodes in the number x, where the number has so many.
pub record FoundLeaf (x k v : ℕ) : Type 0 where
  pub small : v ≤ 64
  pub found : k + ones x < 64 → LeafAt (bits_of 64 x) k v

-- The first two nodes of number i of the grown shape.
abbrev pub carry_into : (s : List ℕ) (v i : ℕ) → ℕ
carry_into s v i = pack_number_value (take 2 (drop (64 * i) (inserted s v)))
