-- `is_above` meets its contract: the lengths of the bodies decide, or the bodies. Assumes nothing.
use mathlib.Core.Path.{ap₂, ◌∙◌}
use Rattle.records.specs.Exchange.{bytes_below}
use Rattle.records.proofs.ByteOrder.{slice_below}
use Rattle.records.proofs.Sides.{sides_uneven, sides_even}
use Rattle.records.proofs.frame.Frame.is_above.Goals as goal

pub returns-then-self : goal.returns-then-self
returns-then-self c =
    let f = c.args.self in
    sides_uneven f.bytes.now f.b_length f.a_length f.framed f.are_bytes c.if-self.true

pub returns : goal.returns
returns c =
    let f = c.args.self in
    c.lt.ensures
    ∙ slice_below c.a_body.result.now c.b_body.result.now
    ∙ ap₂ bytes_below c.a_body.ensures c.b_body.ensures
    ∙ sides_even f.bytes.now f.b_length f.a_length f.framed f.are_bytes c.if-self.false
