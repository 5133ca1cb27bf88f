-- `put_tables` meets its contract: the carets and the length of the two tables. Assumes nothing.
use mathlib.Core.Path.{refl, ap, ap₂, ◌∙◌}
use Prim.Native.Nat.{ℕ}
use Rattle.lists.proofs.Writes.{wrote_same}
use Rattle.rows.specs.inside.Steps.{value_in, record_row}
use Rattle.rows.proofs.Measures.{carets_given, length_given}
use Rattle.rows.proofs.row.put_tables.Goals as goal

pub unwrap-carets-requires : goal.unwrap-carets-requires
unwrap-carets-requires c =
    let m = c.requires.measured in rw (carets_given _ m.carets (c.count_carets.ensures ∙ m.carets_found)) refl

pub unwrap-least-requires : goal.unwrap-least-requires
unwrap-least-requires c =
    let m = c.requires.measured in rw (length_given _ m.least (c.scan_length.ensures ∙ m.length_found)) refl

pub returns : goal.returns
returns c =
    let x = c.args in
    wrote_same
    (ap₂ (λ (m n : ℕ). record_row x.number x.letters m n x.«record».now)
    (ap value_in (rw c.unwrap-carets.ensures at c.count_carets.ensures))
    (ap value_in (rw c.unwrap-least.ensures at c.scan_length.ensures)))
    c.put_record.ensures
