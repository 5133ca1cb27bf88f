-- `record_to_word` meets its contract. Assumes nothing.
use native.Mathlib.Omega.{arith}
use borrow.Author.Rules.{rules}
use Rattle.records.proofs.ClearedTables.{own_cleared}
use Rattle.spelling.proofs.Answers.{word_long, word_short, word_answer}
use Rattle.spelling.proofs.record_to_word.Goals as goal

pub returns-then-letters-gt-LIMIT : goal.returns-then-letters-gt-LIMIT
returns-then-letters-gt-LIMIT c =
    word_long own_cleared c.record_to_tables-read.ensures c.in-Ok.is
    c.count-letters.result c.count-letters.ensures (omega arith)

pub returns-then-word-letters : goal.returns-then-word-letters
returns-then-word-letters c =
    word_short own_cleared c.record_to_tables-read.ensures c.in-Ok.is
    c.count-letters.result c.count-letters.ensures (omega arith) (omega arith)

pub write-requires : goal.write-requires
write-requires c =
    record {
      limit_in_bounds = (search rules, search rules);
      a_in_bounds = omega (arith, c.count-letters.ensures);
    }

pub returns : goal.returns
returns c =
    word_answer own_cleared c.record_to_tables-read.ensures c.in-Ok.is
    c.count-letters.result c.count-letters.ensures (omega arith) (omega arith) c.write.ensures
