-- `is_exchange_of` meets its contract: one record's b side beside the other's a side, then the other two.
-- Assumes nothing.
use mathlib.Core.Path.{sym, ◌∙◌}
use mathlib.Core.Bool.{true≢false}
use lib.Pointwise.{bytes_decides}
use Rattle.records.proofs.Sides.{sides_written, sides_told}
use Rattle.records.proofs.frame.Frame.is_exchange_of.Goals as goal

pub returns-then-eq : goal.returns-then-eq
returns-then-eq c =
    let f = c.args.self in
    let s = f.bytes.now in
    let first = sym c.b_body.ensures ∙ (bytes_decides _ _).0 (sym c.eq.ensures ∙ c.if-eq.true) ∙ c.a_body.ensures in
    sides_told s c.args.other.bytes.now
    (sides_written s f.b_length f.a_length f.framed f.are_bytes) c.eq-then-eq.result (
      (λ h. (
        first,
        sym c.a_body-then-eq.ensures ∙ (bytes_decides _ _).0 (sym c.eq-then-eq.ensures ∙ h)
            ∙ c.b_body-then-eq.ensures,
      )),
      (λ h. c.eq-then-eq.ensures
          ∙ (bytes_decides _ _).1 (c.a_body-then-eq.ensures ∙ h.1 ∙ sym c.b_body-then-eq.ensures)),
    )

pub returns-else-eq : goal.returns-else-eq
returns-else-eq c =
    let f = c.args.self in
    let s = f.bytes.now in
    sides_told s c.args.other.bytes.now (sides_written s f.b_length f.a_length f.framed f.are_bytes) c.eq.result (
      (λ h. absurd (true≢false (sym h ∙ c.if-eq.false))),
      (λ h. c.eq.ensures ∙ (bytes_decides _ _).1 (c.b_body.ensures ∙ h.0 ∙ sym c.a_body.ensures)),
    )
