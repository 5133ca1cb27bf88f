-- What the private functions of this crate ask and promise of words that are written.
-- Inside: no claim reaches these definitions; a reader of the claims need not believe them. Assumes nothing.
use Rattle.std.specs.Prelude.{◌≡◌, List, ℕ}
use Rattle.group.specs.Letters.{Word}
use Rattle.refusals.specs.Outcomes.{accepted}
use Rattle.refusals.specs.Memory.{Memory}
use Rattle.words.specs.Recording.{count_record, judged_with, Left}

-- The word is accepted beside its memory.
pub record Accepts (word : List ℕ) (m : Memory) : Type 0 where
  pub letters : Word
  pub judged_so : judged_with word m ≡ accepted letters

-- An accepted word was written: the answer is the number of bytes of its record.
pub record WordWritten (word : List ℕ) (entry exit : Memory) (r : ℕ) : Type 0 where
  pub result : accepted r ≡ count_record (judged_with word entry)
  pub leaves : Left (judged_with word entry) entry exit
