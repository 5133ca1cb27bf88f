-- `read_node` meets its contract: a caret opens, a leaf closes. Assumes nothing.
use mathlib.Core.Path.{refl}
use native.Mathlib.Omega.{arith}
use Rattle.lengths.proofs.ReadSteps.{node_there, node_zero, pending_bound, two_pending, node_opens, node_closes}
use Rattle.lengths.proofs.ReadSteps.{next_there, class_fits, class_room, node_inside}
use Rattle.lengths.proofs.reader.read_node.Goals as goal

pub bounds-shape-at : goal.bounds-shape-at
bounds-shape-at c = node_there c.requires.readable (omega arith)

pub overflow_add-result : goal.overflow_add-result
overflow_add-result c = omega (arith, pending_bound c.requires)

pub returns-then-shape-at-eq1 : goal.returns-then-shape-at-eq1
returns-then-shape-at-eq1 c = node_opens c.requires _ c.if-shape-at-eq1.true refl refl

-- The node is no caret: it is a leaf.
pub returns-then-pending-eq1 : goal.returns-then-pending-eq1
returns-then-pending-eq1 c =
    let leaf = node_zero c.requires.readable (omega arith) c.if-shape-at-eq1.false in
    node_closes c.requires _ leaf c.if-pending-eq1.true refl refl

-- Two subtrees at least are to come, where the leaf does not close the last.
pub overflow_add-shape : goal.overflow_add-shape
overflow_add-shape c =
    let leaf = node_zero c.requires.readable (omega arith) c.if-shape-at-eq1.false in
    let two = two_pending c.requires.some c.if-pending-eq1.false in
    omega (arith, next_there c.requires leaf two, c.well_formed)

pub bounds-shape-at-2 : goal.bounds-shape-at-2
bounds-shape-at-2 c =
    let leaf = node_zero c.requires.readable (omega arith) c.if-shape-at-eq1.false in
    next_there c.requires leaf (two_pending c.requires.some c.if-pending-eq1.false)

pub overflow_add-shape-2 : goal.overflow_add-shape-2
overflow_add-shape-2 c =
    let leaf = node_zero c.requires.readable (omega arith) c.if-shape-at-eq1.false in
    omega (arith, class_fits c.requires leaf (two_pending c.requires.some c.if-pending-eq1.false))

pub bounds-shape-k : goal.bounds-shape-k
bounds-shape-k c =
    let leaf = node_zero c.requires.readable (omega arith) c.if-shape-at-eq1.false in
    class_room c.requires leaf (two_pending c.requires.some c.if-pending-eq1.false)

pub returns : goal.returns
returns c =
    let leaf = node_zero c.requires.readable (omega arith) c.if-shape-at-eq1.false in
    node_inside c.requires leaf (two_pending c.requires.some c.if-pending-eq1.false) _ refl refl
