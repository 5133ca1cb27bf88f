-- `put_exchange` meets its contract: the a side's body in the first field, the b side's in that behind it. Assumes
-- nothing.
use Rattle.records.proofs.Sides.{first_placed, second_placed, exchange_put}
use Rattle.records.proofs.frame.Frame.put_exchange.Goals as goal

pub unwrap-behind-requires : goal.unwrap-behind-requires
unwrap-behind-requires c =
    let f = c.args.self in
    first_placed f.bytes.now c.args.out.now f.b_length f.a_length f.framed f.are_bytes c.requires
    (rw c.a_body.ensures at c.put_field.ensures)

pub unwrap-requires : goal.unwrap-requires
unwrap-requires c =
    let f = c.args.self in
    second_placed f.bytes.now c.args.out.now f.b_length f.a_length f.framed f.are_bytes c.requires
    (rw c.a_body.ensures at c.put_field.ensures) c.unwrap-behind.ensures
    (rw c.b_body.ensures at c.put_field-2.ensures)

pub returns : goal.returns
returns c =
    let f = c.args.self in
    exchange_put f.bytes.now c.args.out.now f.b_length f.a_length f.framed f.are_bytes c.requires
    (rw c.a_body.ensures at c.put_field.ensures) c.unwrap-behind.ensures
    (rw c.b_body.ensures at c.put_field-2.ensures)
