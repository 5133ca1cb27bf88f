use mathlib.Core.Path.{◌≡◌, refl, sym, ap, ◌∙◌}
use mathlib.Core.Bool.{true}
use native.Mathlib.Omega.{arith}
use Rattle.std.specs.Prelude.{Ok}
use Rattle.std.proofs.lemmas.Result.{err_from_is_err_and}
use Rattle.registers.specs.inside.Steps.{entry_fits}
use Rattle.registers.proofs.EntryHeads.{EntryStood, entry_stood}
use Rattle.registers.proofs.Fitting.{entry_head}
use Rattle.registers.proofs.Turns.{passing_starts}
use Rattle.registers.proofs.PassTurns.{passing_wrong, passing_low, passing_over, passing_unfit, passing_room}
use Rattle.registers.proofs.PassTurns.{passing_next}
use Rattle.registers.proofs.passing.pass.Goals as goal

pub loop-h-init : goal.loop-h-init
loop-h-init c =
    let empty = c.new-seen.ensures.table in
    passing_starts _ _ _ _ _ (λ i. omega (arith, c.type_inv.s i))
    (record { first = c.requires; long = omega arith; empty = empty }) refl c.new-seen.ensures.low

pub returns-in_err-h : goal.returns-in_err-h
returns-in_err-h c =
    let p = err_from_is_err_and c.from_residual.result c.from_residual.ensures.1 in
    rw (p.1, p.2)
    (passing_wrong c.loop-h.invariant c.args.holder _ (sym c.entry_at.ensures ∙ c.in_err-h.was))

pub fits-requires : goal.fits-requires
fits-requires c =
    let stood : EntryStood c.args.s.now c.loop-h.at c.in-Some.h =
    entry_stood c.args.s.now c.loop-h.at c.in-Some.h
    (sym c.entry_at.ensures ∙ c.in_ok-h.was ∙ ap Ok c.in-Some.is) in
    entry_head stood c.print_of-x.ensures

pub returns-then-not-fits : goal.returns-then-not-fits
returns-then-not-fits c =
    let stood : EntryStood c.args.s.now c.loop-h.at c.in-Some.h =
    entry_stood c.args.s.now c.loop-h.at c.in-Some.h
    (sym c.entry_at.ensures ∙ c.in_ok-h.was ∙ ap Ok c.in-Some.is) in
    passing_unfit c.loop-h.invariant stood _
    (sym c.fits.ensures ∙ c.if-not-fits.true)

pub add-requires : goal.add-requires
add-requires c =
    let stood : EntryStood c.args.s.now c.loop-h.at c.in-Some.h =
    entry_stood c.args.s.now c.loop-h.at c.in-Some.h
    (sym c.entry_at.ensures ∙ c.in_ok-h.was ∙ ap Ok c.in-Some.is) in
    let passes : entry_fits c.args.s.now c.loop-h.at c.loop-h.seen.low c.loop-h.seen.table ≡ true =
    sym c.fits.ensures ∙ c.if-not-fits.false in
    passing_room c.loop-h.invariant stood passes _ _ c.print_of-x.ensures refl

pub loop-h-preserved : goal.loop-h-preserved
loop-h-preserved c =
    let stood : EntryStood c.args.s.now c.loop-h.at c.in-Some.h =
    entry_stood c.args.s.now c.loop-h.at c.in-Some.h
    (sym c.entry_at.ensures ∙ c.in_ok-h.was ∙ ap Ok c.in-Some.is) in
    let passes : entry_fits c.args.s.now c.loop-h.at c.loop-h.seen.low c.loop-h.seen.table ≡ true =
    sym c.fits.ensures ∙ c.if-not-fits.false in
    rw (c.add.ensures.low, c.add.ensures.table)
    (passing_next c.loop-h.invariant stood passes _ _ c.print_of-x.ensures refl)

pub returns-then-last-seen : goal.returns-then-last-seen
returns-then-last-seen c =
    passing_low c.loop-h.invariant c.args.holder
    (sym c.entry_at.ensures ∙ c.in_ok-h.was ∙ ap Ok c.in_default.is) c.if-last-seen.true
    (omega (arith, c.ranges.holder))

pub returns : goal.returns
returns c =
    passing_over c.loop-h.invariant c.args.holder c.live.result
    (sym c.entry_at.ensures ∙ c.in_ok-h.was ∙ ap Ok c.in_default.is) c.if-last-seen.false
    (omega (arith, c.ranges.holder)) c.live.ensures
