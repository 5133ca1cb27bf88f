-- Packed shapes (02, [6]), over the contracts of `pack_shape`, `unpack_shape`, `carets_before`, `subtree_end` and
-- `grow_caret`. Read `PackUnpack` first; proofs/Packed.antt has the proofs, and proofs/PackedGiven.antt that of
-- `ShapesGiven`, under the same names in snake case.
--     PackRefusal, UnpackRefusal, NodeRefusal, GrowRefusal   the conditions of 15 and 7, 15 before 7
--     ShapesGiven      what each call gives where it is not refused: PackGiven, UnpackGiven, CaretsGiven, EndGiven,
--                      GrowGiven
--     PackUnpack       packing and unpacking undo each other
--     PackedIsTree     what is read as a packed shape is that of one tree within the bound, and nothing else is
--     GrownIsPacked    growing leaves and answers what packing the grown tree's shape afresh does
--     BothByShape      the answers on a node are those that the byte shape defines
-- Letters: s bytes lent as a shape; xs, ys numbers and summary lent; zs, ws others; out a buffer for bytes; t a tree, u
-- another or an address; k a node or a leaf; n, m what is answered; r, q answers; a ' marks the same memory at exit.
-- Names used, and where each is defined:
--     Repacked o xs ys xs' ys' r   the contract of `pack_shape` and `grow_caret`      packed, Promises
--     packing, growing        the shape that each of them packs, or its refusal       packed, Promises
--     Placed o out out' r     the contract of `unpack_shape`                          refusals, Placing
--     unpacking               the bytes that it writes, or its refusal                packed, Promises
--     AnswersNode f xs ys k o the contract of `carets_before` and `subtree_end`       packed, Promises
--     reply_of r              an answer's outcome, accepted or refused                refusals, Outcomes
--     node_end_of r           the same of an answer that is a node                    packed, Answers
--     Packs s xs ys           xs and ys begin with the numbers and the summary of s   packed, Packing
--     packed_shape xs ys      the byte shape of a packed one, or 15                   packed, Packing
--     carets_before_value s k  the carets among the nodes before node k               packed, Packing
--     grown t u, grow_at s k  a caret in place of a leaf, in a tree and in a shape    packed, Growing
--     numbers_of_value n      how many numbers n nodes take: one for each 64 begun    bitrows, Numbers
--     Tree, carets t, Address, IsLeaf t k u, Subtree t u x   trees, leaves, subtrees  trees, Trees
--     shape t, Node t k u, subtree_end_value s k  bytes, nodes, where a subtree ends  trees, Shapes
--     max_carets              8,193, the bound                                        trees, Pairs
--     total s                 the sum of a list, of a shape its carets                lists, Entries
-- Assumes nothing.
use Rattle.std.specs.Prelude.{◌≡◌, List, ◌++◌, ◌⊎◌, ◌↔◌, ℕ, suc, ◌+◌, ◌*◌, ◌<◌, ◌≤◌, length, take, drop, Result}
use Rattle.refusals.specs.declared.Refusal.{Refusal}
use Rattle.refusals.specs.declared.NodeNumber.{NodeNumber}
use Rattle.lists.specs.Entries.{total}
use Rattle.refusals.specs.Outcomes.{accepted, reply_of}
use Rattle.refusals.specs.Placing.{Placed}
use Rattle.trees.specs.Trees.{Tree, carets, Address, IsLeaf, Subtree}
use Rattle.trees.specs.Shapes.{shape, Node, subtree_end_value}
use Rattle.trees.specs.Pairs.{max_carets}
use Rattle.bitrows.specs.Numbers.{numbers_of_value}
use Rattle.packed.specs.Packing.{Packs, carets_before_value, packed_shape}
use Rattle.packed.specs.Growing.{grown, grow_at}
use Rattle.packed.specs.Answers.{node_end_of}
use Rattle.packed.specs.Promises.{packing, unpacking, growing, Repacked, AnswersNode}

-- The bytes are the shape of the tree t, which is within the bound.
pub record IsShape (t : Tree) (bytes : List ℕ) : Type 0 where
  pub small : carets t ≤ max_carets
  pub written : shape t ≡ bytes

-- The numbers and the summary begin with those of the shape of the tree t, which is within the bound.
pub record IsPacked (t : Tree) (numbers summary : List ℕ) : Type 0 where
  pub small : carets t ≤ max_carets
  pub packs : Packs (shape t) numbers summary

-- 15: bytes that are the shape of no tree within the bound.
abbrev pub NoShape : List ℕ → Type 0
NoShape bytes = (t : Tree) → IsShape t bytes → ⊥

-- 15: numbers and a summary that begin with those of no tree within the bound.
abbrev pub NoPacked : (numbers summary : List ℕ) → Type 0
NoPacked numbers summary = (t : Tree) → IsPacked t numbers summary → ⊥

-- 7: fewer numbers, i, or fewer entries, j, than the nodes of a tree with n carets take.
abbrev pub ShortRow : (n i j : ℕ) → Type 0
ShortRow n i j = (i < numbers_of_value (2 * n + 1)) ⊎ (j < numbers_of_value (2 * n + 1))

-- What is refused of bytes that are to be packed, and of the i numbers and the summary of j entries lent with them.
pub data PackRefusal (bytes : List ℕ) (i j number place : ℕ) : Type 0 where
  no_shape : number ≡ 15 → place ≡ 0 → NoShape bytes → PackRefusal bytes i j number place
  short_row : number ≡ 7 → place ≡ 0 → (t : Tree) → IsShape t bytes → ShortRow (carets t) i j
      → PackRefusal bytes i j number place

-- What is refused of a packed shape, and of the buffer of i bytes lent with it.
pub data UnpackRefusal (numbers summary : List ℕ) (i number place : ℕ) : Type 0 where
  no_tree : number ≡ 15 → place ≡ 0 → NoPacked numbers summary → UnpackRefusal numbers summary i number place
  short_shape : number ≡ 7 → place ≡ 0 → (t : Tree) → IsPacked t numbers summary → i < 2 * carets t + 1
      → UnpackRefusal numbers summary i number place

-- What is refused of a packed shape that is asked of a node.
pub data NodeRefusal (numbers summary : List ℕ) (node number place : ℕ) : Type 0 where
  no_tree : number ≡ 15 → place ≡ 0 → NoPacked numbers summary → NodeRefusal numbers summary node number place
  no_node : number ≡ 15 → place ≡ 0 → (t : Tree) → IsPacked t numbers summary → 2 * carets t + 1 ≤ node
      → NodeRefusal numbers summary node number place

-- What is refused of a packed shape that is to grow a caret at a leaf.
pub data GrowRefusal (numbers summary : List ℕ) (leaf number place : ℕ) : Type 0 where
  no_tree : number ≡ 15 → place ≡ 0 → NoPacked numbers summary → GrowRefusal numbers summary leaf number place
  no_leaf : number ≡ 15 → place ≡ 0 → (t : Tree) → IsPacked t numbers summary → carets t < leaf
      → GrowRefusal numbers summary leaf number place
  full : number ≡ 15 → place ≡ 0 → (t : Tree) → IsPacked t numbers summary → carets t ≡ max_carets
      → GrowRefusal numbers summary leaf number place
  short_row : number ≡ 7 → place ≡ 0 → (t : Tree) → IsPacked t numbers summary → leaf ≤ carets t → carets t < max_carets
      → ShortRow (suc (carets t)) (length numbers) (length summary) → GrowRefusal numbers summary leaf number place

-- What packing a tree's shape leaves: n numbers and n entries are its own, and what is behind them is unchanged.
pub record PackedOver (t : Tree) (xs ys xs' ys' : List ℕ) (n : ℕ) : Type 0 where
  pub packed : IsPacked t xs' ys'
  pub count : n ≡ numbers_of_value (2 * carets t + 1)
  pub numbers_behind : drop n xs' ≡ drop n xs
  pub summary_behind : drop n ys' ≡ drop n ys

-- What unpacking a tree leaves: its shape, and what is behind is unchanged.
pub record UnpackedOver (t : Tree) (out out' : List ℕ) (n : ℕ) : Type 0 where
  pub count : n ≡ 2 * carets t + 1
  pub bytes : take n out' ≡ shape t
  pub behind : drop n out' ≡ drop n out

-- What is given for bytes that are packed.
abbrev pub PackGiven : (s xs ys xs' ys' : List ℕ) (n : ℕ) → Type 0
PackGiven s xs ys xs' ys' n = (t : Tree) × IsShape t s × PackedOver t xs ys xs' ys' n

-- For a packed shape that is unpacked.
abbrev pub UnpackGiven : (xs ys out out' : List ℕ) (n : ℕ) → Type 0
UnpackGiven xs ys out out' n = (t : Tree) × IsPacked t xs ys × UnpackedOver t out out' n

-- For a node: the carets among the nodes before it.
abbrev pub CaretsGiven : (xs ys : List ℕ) (k n : ℕ) → Type 0
CaretsGiven xs ys k n = (t : Tree) × IsPacked t xs ys × (n ≡ total (take k (shape t)))

-- For a node: the nodes of its subtree are those from it on that are before node n.
abbrev pub EndGiven : (xs ys : List ℕ) (k n : ℕ) → Type 0
EndGiven xs ys k n =
    (t : Tree) × (u : Address) × IsPacked t xs ys × Node t k u
    × ((j : ℕ) → ((v : Address) × Node t j (u ++ v)) ↔ ((k ≤ j) × (j < n)))

-- For a packed shape that grows a caret at a leaf.
abbrev pub GrowGiven : (xs ys xs' ys' : List ℕ) (k n : ℕ) → Type 0
GrowGiven xs ys xs' ys' k n =
    (t : Tree) × (u : Address) × IsPacked t xs ys × IsLeaf t k u × PackedOver (grown t u) xs ys xs' ys' n

-- Each call gives this where it is not refused.
pub record ShapesGiven : Type 0 where
  pub pack_shape_lem : (s xs ys xs' ys' : List ℕ) (r : Result ℕ Refusal) (n : ℕ)
      → Repacked (packing s xs ys) xs ys xs' ys' r
      → reply_of r ≡ accepted n → PackGiven s xs ys xs' ys' n
  pub unpack_shape_lem : (xs ys out out' : List ℕ) (r : Result ℕ Refusal) (n : ℕ)
      → Placed (unpacking xs ys out) out out' r
      → reply_of r ≡ accepted n → UnpackGiven xs ys out out' n
  pub carets_before_lem : (xs ys : List ℕ) (k : ℕ) (r : Result ℕ Refusal) (n : ℕ)
      → AnswersNode (λ s. carets_before_value s k) xs ys k (reply_of r) → reply_of r ≡ accepted n
      → CaretsGiven xs ys k n
  pub subtree_end_lem : (xs ys : List ℕ) (k : ℕ) (r : Result NodeNumber Refusal) (n : ℕ)
      → AnswersNode (λ s. subtree_end_value s k) xs ys k (node_end_of r) → node_end_of r ≡ accepted n
      → EndGiven xs ys k n
  pub grow_caret_lem : (xs ys xs' ys' : List ℕ) (k : ℕ) (r : Result ℕ Refusal) (n : ℕ)
      → Repacked (growing xs ys k) xs ys xs' ys' r → reply_of r ≡ accepted n → GrowGiven xs ys xs' ys' k n

-- "Packing and unpacking undo each other": where there is room, what was packed is unpacked as it was, and what was
-- unpacked is packed into the numbers and the summary that it came from.
pub record PackUnpack : Type 0 where
  pub unpack_packed : (s xs ys xs' ys' out out' : List ℕ) (r q : Result ℕ Refusal) (n : ℕ)
      → Repacked (packing s xs ys) xs ys xs' ys' r → reply_of r ≡ accepted n
      → Placed (unpacking xs' ys' out) out out' q → length s ≤ length out
      → (reply_of q ≡ accepted (length s)) × (take (length s) out' ≡ s)
  pub pack_unpacked : (xs ys out out' zs ws zs' ws' : List ℕ) (q r : Result ℕ Refusal) (m : ℕ)
      → Placed (unpacking xs ys out) out out' q → reply_of q ≡ accepted m
      → Repacked (packing (take m out') zs ws) zs ws zs' ws' r
      → numbers_of_value m ≤ length zs → numbers_of_value m ≤ length ws
      → (reply_of r ≡ accepted (numbers_of_value m))
      × (take (numbers_of_value m) zs' ≡ take (numbers_of_value m) xs)
      × (take (numbers_of_value m) ws' ≡ take (numbers_of_value m) ys)

-- What is read as a packed shape is that of a tree within the bound, of one only, and what is read is its shape.
pub record PackedIsTree : Type 0 where
  pub accepts : (xs ys : List ℕ)
      → ((s : List ℕ) × (packed_shape xs ys ≡ accepted s)) ↔ ((t : Tree) × IsPacked t xs ys)
  pub one : (t u : Tree) (xs ys : List ℕ) → IsPacked t xs ys → IsPacked u xs ys → t ≡ u
  pub is_shape : (t : Tree) (s xs ys : List ℕ) → packed_shape xs ys ≡ accepted s → IsPacked t xs ys → s ≡ shape t

-- "Growing a caret at a named leaf must leave the numbers and summary that packing the grown shape afresh would": in
-- the same memory, with the same answer, refusals included. What grows in the shape is what grows in the tree.
pub record GrownIsPacked : Type 0 where
  pub shape_grown : (t : Tree) (k : ℕ) (u : Address) → IsLeaf t k u → grow_at (shape t) k ≡ shape (grown t u)
  pub one_caret_more : (t : Tree) (k : ℕ) (u : Address) → IsLeaf t k u → carets (grown t u) ≡ suc (carets t)
  pub as_packed : (t : Tree) (k : ℕ) (u : Address) (xs ys xs' ys' zs ws : List ℕ) (r q : Result ℕ Refusal)
      → IsPacked t xs ys → IsLeaf t k u
      → Repacked (growing xs ys k) xs ys xs' ys' r
      → Repacked (packing (shape (grown t u)) xs ys) xs ys zs ws q
      → (xs' ≡ zs) × (ys' ≡ ws) × (reply_of r ≡ reply_of q)

-- "Both answers are defined by the byte shape": the carets among the bytes before node k, and the number just behind
-- the last node of its subtree.
pub record BothByShape : Type 0 where
  pub carets_before_lem : (t : Tree) (k : ℕ) (xs ys : List ℕ) (r : Result ℕ Refusal)
      → IsPacked t xs ys → k < length (shape t)
      → AnswersNode (λ s. carets_before_value s k) xs ys k (reply_of r)
      → reply_of r ≡ accepted (total (take k (shape t)))
  pub ends : (t : Tree) (k : ℕ) (u : Address) (x : Tree) (xs ys : List ℕ) (e : ℕ) (r : Result NodeNumber Refusal)
      → IsPacked t xs ys → Node t k u → Subtree t u x
      → AnswersNode (λ s. subtree_end_value s k) xs ys k (node_end_of r) → node_end_of r ≡ accepted e
      → (j : ℕ) → ((v : Address) × Node t j (u ++ v)) ↔ ((k ≤ j) × (j < e))
