-- `write_whole` meets its contract. Assumes nothing.
use mathlib.Core.Path.{sym, ap, ◌∙◌}
use mathlib.Core.List.{List}
use Prim.Native.Nat.{ℕ}
use lib.Seq.{sets}
use Rattle.trees.proofs.WriteTree.{front_length, tree_room, tree_nodes}
use Rattle.trees.proofs.writer.write_whole.Goals as goal

pub slice_bounds-write_spine-end : goal.slice_bounds-write_spine-end
slice_bounds-write_spine-end c =
    let pre = c.requires in
    sym (front_length pre.shape_fits pre.n_in_bounds)

pub write_spine-requires : goal.write_spine-requires
write_spine-requires c =
    let pre = c.requires in
    tree_room pre.shape_fits pre.n_in_bounds

pub returns : goal.returns
returns c =
    c.write_spine.ensures.holds
    ∙ ap (λ (bytes : List ℕ). sets c.args.shape.now 0 bytes)
    (tree_nodes c.requires.shape_fits c.requires.n_in_bounds)
