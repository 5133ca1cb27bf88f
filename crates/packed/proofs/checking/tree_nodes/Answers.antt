-- `tree_nodes` meets its contract. Assumes nothing.
use mathlib.Core.Path.{sym, ap}
use native.Mathlib.Omega.{arith}
use lib.ListN.{length}
use Rattle.refusals.specs.Outcomes.{valued}
use Rattle.packed.proofs.Walks.{walk_counted, walk_large, walk_open}
use Rattle.packed.proofs.checking.tree_nodes.Goals.{then-w-gt0-via-then-w-gt0, then-w-gt0-via-else-w-gt0+then-w}
use Rattle.packed.proofs.checking.tree_nodes.Goals as goal

pub returns-then-w-gt0 : goal.returns-then-w-gt0
returns-then-w-gt0 c =
    let walk = c.walk_from-w in
    elim c.then-w-gt0.branch [
      | then-w-gt0-via-then-w-gt0 w ↦
          ap (valued length) (sym (walk_open _ walk.result walk.ensures (omega (arith, w.if-w-gt0.true))))
      | then-w-gt0-via-else-w-gt0+then-w w ↦
          ap (valued length)
          (sym (walk_large _ walk.result walk.ensures (omega (arith, w.if-w-gt0.false)) (omega (arith, w.if-w.true))))
    ]

pub returns : goal.returns
returns c =
    let walk = c.walk_from-w in
    walk_counted _ walk.result walk.ensures (omega arith) (omega arith)
