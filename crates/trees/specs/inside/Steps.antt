-- The steps of the shape writer, for the functions inside this crate. Assumes nothing.
use Rattle.std.specs.Prelude.{List, ℕ, ◌+◌, ◌≤◌, ◌<◌, length, drop}
use Rattle.lists.specs.inside.Writes.{Writing}
use Rattle.trees.specs.declared.writer.Place.{Place}
use Rattle.trees.specs.Building.{needed}
use Rattle.trees.specs.Pairs.{max_carets}
use Rattle.trees.specs.Shapes.{shape_size}
use Rattle.trees.specs.inside.Writing.{nodes_from}

-- From leaf k of the exponents e on, with o interior subtrees to come, the nodes have room from a place on, in a shape
-- of a tree that is not too large, and no more leaves than nodes stand before the place.
pub record NodesFit (e : List ℕ) (k o at : ℕ) (buffer : List ℕ) : Type 0 where
  pub room : at + length (nodes_from (drop k e) o) ≤ length buffer
  pub small : at + length (nodes_from (drop k e) o) ≤ shape_size max_carets
  pub early : k ≤ at

-- The interior subtree that begins at a leaf was written; the nodes of the right side from the next leaf on are left.
pub record Partly (e : List ℕ) (k : ℕ) (entry : List ℕ) (at : ℕ) (exit : List ℕ) (p : Place) : Type 0 where
  pub writing : Writing (nodes_from (drop p.leaf.0 e) 0) exit p.at (nodes_from (drop k e) 1) entry at
  pub on : at < p.at
  pub early : p.leaf.0 ≤ p.at

-- A table, a number of carets that is enough for it, and a buffer with room for the shape.
pub record ShapeFits (e : List ℕ) (n : ℕ) (buffer : List ℕ) : Type 0 where
  pub entries : length e ≤ max_carets
  pub enough : needed 0 e ≤ n
  pub small : n ≤ max_carets
  pub room : shape_size n ≤ length buffer
