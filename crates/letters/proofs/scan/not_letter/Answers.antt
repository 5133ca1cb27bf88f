-- `scan::not_letter` meets its contract. Assumes nothing.
use mathlib.Core.Path.{sym, ◌∙◌}
use Rattle.letters.proofs.Scanning.{scan_reads, all_read}
use Rattle.letters.proofs.scan.not_letter.Goals as goal

pub returns-then-all_letters : goal.returns-then-all_letters
returns-then-all_letters c = sym (all_read _ (sym c.all_letters.ensures ∙ c.if-all_letters.true))

pub returns : goal.returns
returns c = c.first_bad.ensures ∙ scan_reads c.args.word.now
