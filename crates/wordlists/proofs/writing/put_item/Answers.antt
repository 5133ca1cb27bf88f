-- `writing::put_item` meets its contract: the record that the word's call writes, or the item of its refusal. Assumes
-- nothing.
use Rattle.wordlists.proofs.Putting.{item_written, refusal-place, refusal_room, item_refused}
use Rattle.wordlists.proofs.writing.put_item.Goals as goal

pub returns-in-Ok : goal.returns-in-Ok
returns-in-Ok c = item_written c.requires c.record_in.ensures c.in-Ok.is

pub put_refusal-requires : goal.put_refusal-requires
put_refusal-requires c =
    let called = c.record_in.ensures in
    (refusal_room c.requires called _ c.in-Err.is, refusal-place c.requires called _ c.in-Err.is)

pub returns-in-Err : goal.returns-in-Err
returns-in-Err c = item_refused c.requires c.record_in.ensures _ c.in-Err.is c.put_refusal.ensures
