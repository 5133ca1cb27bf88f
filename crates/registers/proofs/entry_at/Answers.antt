-- `entry_at` meets its contract: each test by its law in EntryHeads. Assumes nothing.
use mathlib.Core.Path.{◌≡◌, sym, ◌∙◌}
use native.Mathlib.Omega.{arith}
use Rattle.std.specs.Prelude.{Some, None}
use Rattle.std.proofs.lemmas.Result.{err_from_is_err_and}
use Rattle.refusals.specs.declared.Refusal.TheVariants.{BadRegister}
use Rattle.fields.proofs.FieldsAt.{Found, field_opens}
use Rattle.registers.specs.Format.{entry_tag}
use Rattle.registers.proofs.EntryHeads.{at_end, at_mark, at_missing, at_short, at_entry, found_headed}
use Rattle.registers.proofs.entry_at.Goals as goal
use Rattle.registers.proofs.entry_at.Goals.{then-register-at-via-then-register-at}
use Rattle.registers.proofs.entry_at.Goals.{then-register-at-via-else-register-at+then-register-at-eq0}

pub returns-then-register-at : goal.returns-then-register-at
returns-then-register-at c =
    elim c.then-register-at.branch [
      | then-register-at-via-then-register-at w ↦ at_end c.args.register.now c.args.at w.if-register-at.true
      | then-register-at-via-else-register-at+then-register-at-eq0 w ↦
          at_mark c.args.register.now c.args.at w.if-register-at.false w.if-register-at-eq0.true
    ]

pub returns-in_err-length : goal.returns-in_err-length
returns-in_err-length c =
    let p = err_from_is_err_and c.from_residual.result c.from_residual.ensures.1 in
    let none : c.read_field.result ≡ None = grind arith in
    let is : c.in_err-length.field-0.0 ≡ BadRegister = grind arith in
    rw (p.1, p.2, is)
    (at_missing c.args.register.now c.args.at c.if-register-at.false
    c.if-register-at-eq0.false (sym c.read_field.ensures ∙ none))

pub returns-then-length-lt-ENTRY_BASE : goal.returns-then-length-lt-ENTRY_BASE
returns-then-length-lt-ENTRY_BASE c =
    let some : c.read_field.result ≡ Some c.in_ok-length.length = grind arith in
    let stands : Found c.args.register.now c.args.at entry_tag c.in_ok-length.length =
    field_opens c.args.register.now c.args.at entry_tag c.in_ok-length.length
    (sym c.read_field.ensures ∙ some) in
    at_short c.args.register.now c.args.at c.in_ok-length.length
    c.if-register-at.false c.if-register-at-eq0.false stands c.if-length-lt-ENTRY_BASE.true

pub heading-requires : goal.heading-requires
heading-requires c =
    let some : c.read_field.result ≡ Some c.in_ok-length.length = grind arith in
    let stands : Found c.args.register.now c.args.at entry_tag c.in_ok-length.length =
    field_opens c.args.register.now c.args.at entry_tag c.in_ok-length.length
    (sym c.read_field.ensures ∙ some) in
    found_headed c.args.register.now c.args.at c.in_ok-length.length stands
    c.if-length-lt-ENTRY_BASE.false

pub returns : goal.returns
returns c =
    let some : c.read_field.result ≡ Some c.in_ok-length.length = grind arith in
    let stands : Found c.args.register.now c.args.at entry_tag c.in_ok-length.length =
    field_opens c.args.register.now c.args.at entry_tag c.in_ok-length.length
    (sym c.read_field.ensures ∙ some) in
    at_entry c.args.register.now c.args.at c.in_ok-length.length c.heading.result
    c.if-register-at.false c.if-register-at-eq0.false stands c.if-length-lt-ENTRY_BASE.false c.heading.ensures
