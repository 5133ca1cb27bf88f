-- `put_refusal` meets its contract: the line number, the word, the refusal's number and its place. Assumes nothing.
use mathlib.Core.Path.{ap}
use Prim.Native.Nat.{ℕ}
use native.Mathlib.Omega.{arith}
use Rattle.lists.proofs.Writes.{write_then, wrote_same}
use Rattle.lines.specs.Lines.{line_feed}
use Rattle.refusals.specs.Refusals.{number_of}
use Rattle.numerals.specs.Decimals.{decimal}
use Rattle.rows.specs.inside.Steps.{number_then}
use Rattle.rows.proofs.Fields.{write_field, behind_number, number_end}
use Rattle.rows.proofs.row.put_refusal.Goals as goal

pub put_number-behind_number-requires : goal.put_number-behind_number-requires
put_number-behind_number-requires c =
    let spelled = behind_number c.args.number 32 (omega arith) (omega (arith, c.requires))
    c.put_number-behind_line.ensures c.put-behind_word.ensures in
    omega (
      arith,
      c.requires,
      c.put_number-behind_line.auto,
      c.put-behind_word.auto,
      spelled.ends,
      number_end c.args.number 32 (omega arith) c.put_number-behind_line.ensures,
    )

pub put_number-requires : goal.put_number-requires
put_number-requires c =
    let spelled = behind_number c.args.number 32 (omega arith) (omega (arith, c.requires))
    c.put_number-behind_line.ensures c.put-behind_word.ensures in
    omega (
      arith,
      c.requires,
      c.put_number-behind_line.auto,
      c.put-behind_word.auto,
      spelled.ends,
      c.put_number-behind_number.auto,
      number_end c.args.number 32 (omega arith) c.put_number-behind_line.ensures,
      number_end _ 32 (omega arith) c.put_number-behind_number.ensures,
    )

pub returns : goal.returns
returns c =
    let spelled = behind_number c.args.number 32 (omega arith) (omega (arith, c.requires))
    c.put_number-behind_line.ensures c.put-behind_word.ensures in
    let number = wrote_same (ap (λ (n : ℕ). number_then n 32) c.number.ensures)
    c.put_number-behind_number.ensures in
    let place = wrote_same (ap (λ (n : ℕ). number_then n line_feed) c.place.ensures)
    c.put_number.ensures in
    write_field (decimal c.args.number) 32 _ c.put_number-behind_line.ensures
    (write_then spelled (write_field (decimal (number_of c.args.r)) 32 _ number place))
