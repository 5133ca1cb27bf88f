-- A caret grown at a leaf (02, [6]): in a tree, by the leaf's address, and in a shape, by the leaf's number.
--     grown t u       the tree t with a caret of two leaves in place of the leaf at the address u
--     grow_at s k     the shape s with a caret and two leaves in place of leaf k
--     grown_shape s k  that shape, or 15 where there is no leaf k or one caret too many
-- Assumes nothing.
use Rattle.std.specs.Prelude.{cond, List, [], ◌∷◌, ℕ, zero, suc, ltb}
use Rattle.lists.specs.Entries.{total}
use Rattle.group.specs.Points.{𝟎, 𝟏}
use Rattle.refusals.specs.Outcomes.{Outcome, refused}
use Rattle.trees.specs.Trees.{Tree, leaf, caret, Address}
use Rattle.packed.specs.Packing.{tree_shape}

-- A caret of two leaves in place of the leaf at an address.
abbrev pub grown : Tree → Address → Tree
grown leaf u = caret leaf leaf
grown (caret l r) [] = caret l r
grown (caret l r) (𝟎 ∷ u) = caret (grown l u) r
grown (caret l r) (𝟏 ∷ u) = caret l (grown r u)

-- A caret and two leaves in place of leaf k.
abbrev pub grow_at : List ℕ → ℕ → List ℕ
grow_at [] k = []
grow_at (zero ∷ s) zero = 1 ∷ 0 ∷ 0 ∷ s
grow_at (zero ∷ s) (suc k) = 0 ∷ grow_at s k
grow_at (suc b ∷ s) k = suc b ∷ grow_at s k

-- A shape of N carets has the leaves 0 to N.
abbrev pub grown_shape : List ℕ → ℕ → Outcome (List ℕ)
grown_shape s k = cond (ltb (total s) k) (refused 15 0) (tree_shape (grow_at s k))
