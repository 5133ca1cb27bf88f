-- `list` meets its contract: the record, or the item of the refusal. Assumes nothing.
use borrow.Author.Rules.{rules}
use Rattle.commands.proofs.Closing.{says_same}
use Rattle.commands.proofs.LineAnswers.{item-said, item-place, item_denied}
use Rattle.commands.proofs.sending.list.Goals as goal

pub say_item-requires : goal.say_item-requires
say_item-requires c =
    item-place (record { b = search rules; a = search rules; buffer = search rules })
    c.word_to_record.ensures c.in-Err.is

pub returns-in-Ok : goal.returns-in-Ok
returns-in-Ok c =
    says_same
    (item-said (record { b = search rules; a = search rules; buffer = search rules })
    c.word_to_record.ensures c.in-Ok.is c.front.ensures)
    (c.close.ensures _ _ (search rules) c.put_hex.ensures)

pub returns-in-Err : goal.returns-in-Err
returns-in-Err c =
    says_same
    (item_denied (record { b = search rules; a = search rules; buffer = search rules })
    c.word_to_record.ensures c.in-Err.is)
    c.say_item.ensures
