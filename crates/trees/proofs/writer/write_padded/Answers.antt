-- `write_padded` meets its contract. Assumes nothing.
use mathlib.Core.Path.{ap, ◌∙◌}
use lib.Seq.{sets}
use Rattle.trees.specs.Trees.{Tree}
use Rattle.trees.specs.Shapes.{shape}
use Rattle.trees.proofs.WriteTree.{padded_fits, padded_tree}
use Rattle.trees.proofs.writer.write_padded.Goals as goal

pub write_whole-requires-clause-shape_fits : goal.write_whole-requires-clause-shape_fits
write_whole-requires-clause-shape_fits g c =
    let pre = c.requires in
    padded_fits pre.shape_fits g.row.N pre.e_len_bound pre.limit c.copy_from_slice.ensures.after

pub returns : goal.returns
returns g c =
    let pre = c.requires in
    c.write_whole.ensures
    ∙ ap (λ (t : Tree). sets c.args.shape.now 0 (shape t))
    (padded_tree pre.shape_fits g.row.N pre.e_len_bound pre.limit c.copy_from_slice.ensures.after)
