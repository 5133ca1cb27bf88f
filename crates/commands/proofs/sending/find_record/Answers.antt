-- `find_record` meets its contract: a text, or a word. Assumes nothing.
use borrow.Author.Rules.{rules}
use mathlib.Core.Path.{sym, ◌∙◌}
use Rattle.commands.proofs.LineAnswers.{word_found, text_found}
use Rattle.commands.proofs.sending.find_record.Goals as goal

pub returns-then-is_text : goal.returns-then-is_text
returns-then-is_text c =
    text_found (record { b = search rules; a = search rules; buffer = search rules })
    (sym c.is_text.ensures ∙ c.if-is_text.true) c.text_to_record.ensures

pub returns : goal.returns
returns c =
    word_found (record { b = search rules; a = search rules; buffer = search rules })
    (sym c.is_text.ensures ∙ c.if-is_text.false) c.word_to_record.ensures
