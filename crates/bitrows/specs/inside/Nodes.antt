-- Bytes that are nodes.
-- Inside: no claim reaches these definitions; a reader of the claims need not believe them. Assumes nothing.
use Rattle.std.specs.Prelude.{List, [], ◌∷◌, ℕ, ◌<◌}

-- Each is a caret (1) or a leaf (0).
abbrev pub Nodes : List ℕ → Type 0
Nodes [] = Unit {0}
Nodes (b ∷ s) = (b < 2) × Nodes s
