-- `say_item` meets its contract. Assumes nothing.
use borrow.Author.Rules.{rules}
use Rattle.commands.proofs.Closing.{says_same}
use Rattle.commands.proofs.LineAnswers.{item_bytes}
use Rattle.commands.proofs.sending.say_item.Goals as goal

pub returns : goal.returns
returns c =
    says_same (item_bytes c.number.ensures c.to_be_bytes.ensures c.place.ensures c.requires)
    (c.close.ensures _ _ (search rules) c.put_hex-end.ensures)
