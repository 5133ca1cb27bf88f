-- `put_record` meets its contract: the record in a line, or the refusal. Assumes nothing.
use mathlib.Core.Path.{ap}
use lib.ListN.{take}
use Rattle.refusals.specs.Outcomes.{reply_of}
use Rattle.appending.specs.Hexadecimal.{hex_of}
use Rattle.commands.proofs.Replying.{reply_line, reply_denied}
use Rattle.commands.proofs.Fronts.{shown_front}
use Rattle.commands.proofs.sending.put_record.Goals as goal

pub returns-in_err-n : goal.returns-in_err-n
returns-in_err-n c =
    let t = c.find_record.new.lent.«record» in
    record {
      outcome = _;
      found = c.find_record.ensures;
      reply =
          reply_denied (λ n. hex_of (take n t)) _ (shown_front hex_of (reply_of c.find_record.result) t) _ _ _
          (ap reply_of c.in_err-n.was) c.from_residual.ensures.1;
    }

pub returns : goal.returns
returns c =
    let t = c.find_record.new.lent.«record» in
    record {
      outcome = _;
      found = c.find_record.ensures;
      reply =
          reply_line (λ n. hex_of (take n t)) _ (shown_front hex_of (reply_of c.find_record.result) t) _ _
          (ap reply_of c.in_ok-n.was) (ap hex_of c.front.ensures) c.put_hex.ensures;
    }
