-- Bytes that are the shapes of trees, and their reading.
-- Inside: no claim reaches these definitions; a reader of the claims need not believe them. Assumes nothing.
use Rattle.std.specs.Prelude.{List, [], ◌∷◌, ℕ, zero, suc}
use Rattle.trees.specs.Trees.{Tree, leaf, caret}
use Rattle.trees.specs.Building.{first_tree, later_trees}

-- The bytes are the shapes of n trees, one behind another.
abbrev pub Exact : List ℕ → ℕ → Type 0
Exact [] zero = Unit {0}
Exact [] (suc n) = ⊥
Exact (zero ∷ s) zero = ⊥
Exact (zero ∷ s) (suc n) = Exact s n
Exact (suc zero ∷ s) zero = ⊥
Exact (suc zero ∷ s) (suc n) = Exact s (suc (suc n))
Exact (suc (suc b) ∷ s) n = ⊥

-- The trees of bytes, from their end: a 0 is a leaf in front of the others, any other byte a caret over the first two.
abbrev pub read_shapes : List ℕ → List Tree
read_shapes [] = []
read_shapes (zero ∷ s) = leaf ∷ read_shapes s
read_shapes (suc b ∷ s) =
    caret (first_tree (read_shapes s)) (first_tree (later_trees (read_shapes s))) ∷ later_trees (later_trees (read_shapes s))

-- The tree of a shape.
abbrev pub read_shape : List ℕ → Tree
read_shape s = first_tree (read_shapes s)
