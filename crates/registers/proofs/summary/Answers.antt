-- `summary` meets its contract: by what `pass` ensures. Assumes nothing.
use mathlib.Core.Path.{◌≡◌, sym, ◌∙◌}
use native.Mathlib.Omega.{arith}
use Rattle.std.specs.Prelude.{Some, None}
use Rattle.std.proofs.lemmas.Result.{err_from_is_err_and}
use Rattle.refusals.specs.declared.Refusal.TheVariants.{BadRegister}
use Rattle.registers.proofs.Summing.{no_first, first_known}
use Rattle.registers.proofs.summary.Goals as goal

pub returns-in_err-last : goal.returns-in_err-last
returns-in_err-last c =
    let p = err_from_is_err_and c.from_residual.result c.from_residual.ensures.1 in
    let none : c.first_number.result ≡ None = grind arith in
    let is : c.in_err-last.field-0.0 ≡ BadRegister = grind arith in
    rw (p.1, p.2, is)
    (no_first c.args.register.now c.args.holder
    (λ i. omega (arith, c.type_inv.register i))
    (sym c.first_number.ensures ∙ none))

pub pass-requires : goal.pass-requires
pass-requires c =
    let some : c.first_number.result ≡ Some c.in_ok-last.last = grind arith in
    let known = first_known c.args.register.now c.in_ok-last.last (sym c.first_number.ensures ∙ some) in
    record { stands = known.0; number = known.1 }

pub returns : goal.returns
returns c = c.pass.ensures
