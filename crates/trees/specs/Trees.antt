-- Rooted binary trees, their carets and leaves (01, 'The tree pair and the length'; 000, definition 2.1, section 2.5).
--     carets t          the number N of carets              IsLeaf t k u    leaf k is at the address u
--     Address           the way down from the root          IsCaret t k v   caret k is at the address v
--     LeftSide v, RightSide v   sides of a tree, both with the root    Subtree t u x   x is the subtree at u
-- Assumes nothing.
use Rattle.std.specs.Prelude.{◌≡◌, List, [], ◌∷◌, ◌++◌, ℕ, suc, ◌+◌}
use Rattle.lists.specs.Entries.{At}
use Rattle.group.specs.Points.{Digit, 𝟎, 𝟏}

-- A leaf, or a caret over its left and its right subtree.
pub data Tree : Type 0 where
  leaf : Tree
  caret : Tree → Tree → Tree

-- The number of carets.
abbrev pub carets : Tree → ℕ
carets leaf = 0
carets (caret l r) = carets l + suc (carets r)

-- The way from the root down to a node: 𝟎 for a left edge, 𝟏 for a right edge.
abbrev pub Address : Type 0
Address = List Digit

-- Every address with one edge in front.
abbrev pub below : Digit → List Address → List Address
below d [] = []
below d (u ∷ us) = (d ∷ u) ∷ below d us

-- The addresses of the leaves, from left to right.
abbrev pub leaves : Tree → List Address
leaves leaf = [] ∷ []
leaves (caret l r) = below 𝟎 (leaves l) ++ below 𝟏 (leaves r)

-- Leaf k, counted from 0 and from the left, is at the address u.
abbrev pub IsLeaf : Tree → ℕ → Address → Type 0
IsLeaf t k u = At (leaves t) k u

-- The addresses of the carets, from left to right: those of the left subtree, the caret itself, the right subtree.
abbrev pub caret_places : Tree → List Address
caret_places leaf = []
caret_places (caret l r) = below 𝟎 (caret_places l) ++ ([] ∷ below 𝟏 (caret_places r))

-- Caret k, the one between the leaves k and k + 1, is at the address v.
abbrev pub IsCaret : Tree → ℕ → Address → Type 0
IsCaret t k v = At (caret_places t) k v

-- The subtree at an address is x.
abbrev pub Subtree : Tree → Address → Tree → Type 0
Subtree t [] x = t ≡ x
Subtree leaf (d ∷ u) x = ⊥
Subtree (caret l r) (𝟎 ∷ u) x = Subtree l u x
Subtree (caret l r) (𝟏 ∷ u) x = Subtree r u x

-- The left side: the root and what is reached from it by left edges only.
abbrev pub LeftSide : Address → Type 0
LeftSide [] = Unit {0}
LeftSide (𝟎 ∷ u) = LeftSide u
LeftSide (𝟏 ∷ u) = ⊥

-- The right side, here with the root: what is reached from it by right edges only.
abbrev pub RightSide : Address → Type 0
RightSide [] = Unit {0}
RightSide (𝟎 ∷ u) = ⊥
RightSide (𝟏 ∷ u) = RightSide u
