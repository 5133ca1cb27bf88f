use mathlib.Core.Path.{sym, ap, ◌∙◌}
use native.Mathlib.Omega.{arith}
use Rattle.std.proofs.lemmas.List.{get_or-take, length-take}
use Rattle.pictures.specs.declared.spans.CaretSpan.{CaretSpan}
use Rattle.pictures.specs.Characters.{stroke_of}
use Rattle.pictures.specs.inside.Tables.{span_in}
use Rattle.pictures.proofs.Cells.{cell_here, cell_later}
use Rattle.pictures.proofs.spans.Spans.cell.Goals as goal

pub returns-then-x-ne32 : goal.returns-then-x-ne32
returns-then-x-ne32 c =
    let a = c.args in
    let s = a.self.now in
    let i = c.loop-span.span-index in
    let below = simp length-take at c.loop-span-test.true in
    let shown = c.stroke-x.ensures
    ∙ ap (λ (r : CaretSpan). stroke_of (span_in r) a.h a.c)
    (get_or-take s.carets s.table i (record { first = 0; width = 0 }) (omega (arith, below))) in
    sym (c.loop-span.invariant
    ∙ cell_here s.table s.carets i a.h a.c c.stroke-x.result (omega (arith, below)) shown c.if-x-ne32.true)

pub loop-span-preserved : goal.loop-span-preserved
loop-span-preserved c =
    let a = c.args in
    let s = a.self.now in
    let i = c.loop-span.span-index in
    let below = simp length-take at c.loop-span-test.true in
    let shown = c.stroke-x.ensures
    ∙ ap (λ (r : CaretSpan). stroke_of (span_in r) a.h a.c)
    (get_or-take s.carets s.table i (record { first = 0; width = 0 }) (omega (arith, below))) in
    c.loop-span.invariant
    ∙ cell_later s.table s.carets i a.h a.c c.stroke-x.result (omega (arith, below)) shown c.if-x-ne32.false
