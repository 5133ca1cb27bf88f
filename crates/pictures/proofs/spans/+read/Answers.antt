use mathlib.Core.Path.{refl}
use Prim.Native.Nat.{◌+◌, ◌-◌, ◌/◌}
use native.Mathlib.Omega.{arith}
use Rattle.pictures.proofs.Reading.{read_none, read_leaf, read_caret}
use Rattle.pictures.proofs.spans.+read.Goals as goal

pub returns-then-at-shape : goal.returns-then-at-shape
returns-then-at-shape t c = read_none _ c.if-at-shape.true

pub returns-then-shape-at-eq0 : goal.returns-then-shape-at-eq0
returns-then-shape-at-eq0 t c = read_leaf _ (omega arith) c.if-shape-at-eq0.true

pub read-right-requires : goal.read-right-requires
read-right-requires t c = (omega arith, record { behind = omega arith; inside = omega arith; short = omega arith })

pub read-end-requires : goal.read-end-requires
read-end-requires t c = (omega arith, record { behind = omega arith; inside = omega arith; short = omega arith })

pub keep-requires : goal.keep-requires
keep-requires t c = (omega arith, omega arith)

pub returns : goal.returns
returns t c =
    let a = c.args in
    read_caret (a.first + (c.read-right.result - a.at - 1) / 2) (omega arith) c.if-shape-at-eq0.false refl
    c.read-right.ensures c.read-end.ensures c.keep.ensures
