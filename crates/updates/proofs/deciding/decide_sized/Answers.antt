-- `decide_sized` meets its contract: its own arrays are long enough for the word. Assumes nothing.
use lib.ListN.{length-replicate}
use Rattle.updates.proofs.OwnRecords.{judged_sized, own_sized, within_limit}
use Rattle.updates.proofs.deciding.decide_sized.Goals as goal

pub returns : goal.returns
returns g c =
    let word = c.args.word.now in
    record {
      are_bytes = c.judge_word.ensures.are_bytes;
      decides = λ w so.
          let fits = c.requires.room (within_limit word _ _ _ w so) in
          c.judge_word.ensures.decides w (simp length-replicate (judged_sized word _ _ _ w so _ _ fits.0 fits.1))
          (simp length-replicate (own_sized word _ _ _ w so _ fits.1));
    }
