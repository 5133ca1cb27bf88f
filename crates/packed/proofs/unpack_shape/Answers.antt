-- `unpack_shape` meets its contract. Assumes nothing.
use mathlib.Core.Path.{refl, ◌∙◌}
use native.Mathlib.Omega.{arith}
use Rattle.std.proofs.lemmas.Result.{err_from_is_err_and}
use Rattle.refusals.proofs.Placing.{fit_short, fit_long, place_refused, place_wrote}
use Rattle.packed.specs.inside.Steps.{shape_of}
use Rattle.packed.proofs.Checked.{checked_is}
use Rattle.packed.proofs.UnpackSteps.{check_refused, unpacked_fits, unpacked_wrote}
use Rattle.packed.proofs.unpack_shape.Goals as goal

pub returns-in_err-nodes : goal.returns-in_err-nodes
returns-in_err-nodes c =
    let args = c.args in
    let p = err_from_is_err_and c.from_residual.result c.from_residual.ensures.1 in
    rw (p.1, p.2) (place_refused _
    (check_refused args.numbers.now args.summary.now args.shape.now _ _ c.in_err-nodes.ensures)
    refl)

pub returns-then-shape-nodes : goal.returns-then-shape-nodes
returns-then-shape-nodes c =
    let args = c.args in
    let n = c.in_ok-nodes.nodes in
    let read = checked_is args.numbers.now args.summary.now n c.in_ok-nodes.ensures in
    place_refused _
    (unpacked_fits args.shape.now read
    ∙ fit_short n (shape_of args.numbers.now n) args.shape.now (omega arith))
    refl

pub put_nodes-requires : goal.put_nodes-requires
put_nodes-requires c =
    let args = c.args in
    let read = checked_is args.numbers.now args.summary.now c.in_ok-nodes.nodes c.in_ok-nodes.ensures in
    record { within = read.held.within; n_in_bounds = omega arith }

pub returns : goal.returns
returns c =
    let args = c.args in
    let n = c.in_ok-nodes.nodes in
    let read = checked_is args.numbers.now args.summary.now n c.in_ok-nodes.ensures in
    place_wrote _
    (unpacked_fits args.shape.now read
    ∙ fit_long n (shape_of args.numbers.now n) args.shape.now (omega arith))
    refl
    (unpacked_wrote read c.put_nodes.ensures)
