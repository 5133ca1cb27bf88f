-- `first_number` meets its contract: each test by its law in EntryHeads. Assumes nothing.
use mathlib.Core.Path.{sym, ◌∙◌}
use native.Mathlib.Omega.{arith}
use Rattle.fields.proofs.FieldsAt.{Found, field_opens}
use Rattle.registers.specs.Format.{last_tag}
use Rattle.registers.proofs.EntryHeads.{first_long, first_no_field, first_other_size, first_stood}
use Rattle.registers.proofs.heads.first_number.Goals as goal

pub returns-then-s-gt-MOST_BYTES : goal.returns-then-s-gt-MOST_BYTES
returns-then-s-gt-MOST_BYTES c = first_long c.args.s.now c.if-s-gt-MOST_BYTES.true

pub returns-in_err-length : goal.returns-in_err-length
returns-in_err-length c =
    rw c.from_residual.ensures
    (first_no_field c.args.s.now (sym c.read_field.ensures ∙ c.in_err-length.was))

pub returns-then-length-ne-NUMBER_SIZE : goal.returns-then-length-ne-NUMBER_SIZE
returns-then-length-ne-NUMBER_SIZE c =
    let stands : Found c.args.s.now 0 last_tag c.in_ok-length.length =
    field_opens c.args.s.now 0 last_tag c.in_ok-length.length
    (sym c.read_field.ensures ∙ c.in_ok-length.was) in
    first_other_size c.args.s.now c.in_ok-length.length stands c.if-length-ne-NUMBER_SIZE.true

pub four_at-requires : goal.four_at-requires
four_at-requires c =
    let stands : Found c.args.s.now 0 last_tag c.in_ok-length.length =
    field_opens c.args.s.now 0 last_tag c.in_ok-length.length
    (sym c.read_field.ensures ∙ c.in_ok-length.was) in
    omega (arith, stands.within, c.if-length-ne-NUMBER_SIZE.false)

pub returns : goal.returns
returns c =
    let stands : Found c.args.s.now 0 last_tag c.in_ok-length.length =
    field_opens c.args.s.now 0 last_tag c.in_ok-length.length
    (sym c.read_field.ensures ∙ c.in_ok-length.was) in
    let s = c.args.s.now in
    first_stood s c.in_ok-length.length c.four_at.result c.if-s-gt-MOST_BYTES.false
    stands c.if-length-ne-NUMBER_SIZE.false c.four_at.ensures.value
