-- `check` meets its contract: accepted, or the refusal. Assumes nothing.
use mathlib.Core.Path.{refl, ap}
use Rattle.numerals.specs.Decimals.{ascii}
use Rattle.refusals.specs.Outcomes.{verdict_of}
use Rattle.records.specs.Reading.{decode}
use Rattle.commands.proofs.Replying.{reply_line}
use Rattle.commands.proofs.Fronts.{checked_said}
use Rattle.commands.proofs.asking.check.Goals as goal

pub returns : goal.returns
returns c =
    reply_line (λ n. ascii "accepted") _
    (checked_said (ascii "accepted") (decode c.args.«record».now) c.check_record.ensures.result) _ _
    (ap verdict_of c.in_ok-check_record.was) refl c.put_line.ensures
