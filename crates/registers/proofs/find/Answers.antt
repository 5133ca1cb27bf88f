use mathlib.Core.Path.{◌≡◌, sym, ◌∙◌}
use Rattle.std.specs.Prelude.{Some, None, Ok}
use native.Mathlib.Omega.{arith}
use lib.Pointwise.{bytes_decides}
use Rattle.registers.proofs.EntryHeads.{EntryStood, entry_stood, no_entry}
use Rattle.registers.proofs.EntryHeads.{record_room, record_behind}
use Rattle.registers.proofs.Searching.{search_starts, search_none, search_same, search_more}
use Rattle.registers.proofs.find.Goals as goal

pub loop-h-init : goal.loop-h-init
loop-h-init c = search_starts _ _

pub returns-in_err-h : goal.returns-in_err-h
returns-in_err-h c =
    let none : c.ok.result ≡ None = c.in_err-h.was in
    rw c.from_residual.ensures
    (search_none c.loop-h.invariant
    (no_entry c.args.register.now c.loop-h.at c.entry_at.result c.entry_at.ensures
    (λ h e. let w : c.ok.result ≡ Some (Some h) = grind arith in let z = sym none ∙ w in cc)))

pub returns : goal.returns
returns c =
    let none : c.entry_at.result ≡ Ok None = grind arith in
    search_none c.loop-h.invariant
    (no_entry c.args.register.now c.loop-h.at c.entry_at.result c.entry_at.ensures (λ h e. let w = sym none ∙ e in cc))

pub returns-then-eq : goal.returns-then-eq
returns-then-eq c =
    let is : c.entry_at.result ≡ Ok (Some c.in-Some.h) = grind arith in
    let stood : EntryStood c.args.register.now c.loop-h.at c.in-Some.h =
    entry_stood c.args.register.now c.loop-h.at c.in-Some.h
    (sym c.entry_at.ensures ∙ is) in
    search_same c.loop-h.invariant stood ((bytes_decides _ _).0 (sym c.eq.ensures ∙ c.if-eq.true))

pub loop-h-smaller : goal.loop-h-smaller
loop-h-smaller c =
    let is : c.entry_at.result ≡ Ok (Some c.in-Some.h) = grind arith in
    let stood : EntryStood c.args.register.now c.loop-h.at c.in-Some.h =
    entry_stood c.args.register.now c.loop-h.at c.in-Some.h
    (sym c.entry_at.ensures ∙ is) in
    let e = stood in
    omega (arith, record_behind e.headed e.head, record_room e.headed e.head)

pub loop-h-preserved : goal.loop-h-preserved
loop-h-preserved c =
    let is : c.entry_at.result ≡ Ok (Some c.in-Some.h) = grind arith in
    let stood : EntryStood c.args.register.now c.loop-h.at c.in-Some.h =
    entry_stood c.args.register.now c.loop-h.at c.in-Some.h
    (sym c.entry_at.ensures ∙ is) in
    search_more c.loop-h.invariant stood (λ h. c.eq.ensures ∙ (bytes_decides _ _).1 h) c.if-eq.false
