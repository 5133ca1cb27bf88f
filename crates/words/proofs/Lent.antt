-- A word that is accepted beside its memory, in word to record: it is written. Assumes nothing.
use Rattle.std.specs.Prelude.{◌≡◌, List, ℕ, Result, Ok}
use mathlib.Core.Path.{sym, ap, ◌∙◌}
use Rattle.refusals.specs.declared.Refusal.{Refusal}
use Rattle.refusals.specs.Outcomes.{reply_of}
use Rattle.refusals.specs.Memory.{Memory}
use Rattle.words.specs.Recording.{Recorded}
use Rattle.words.specs.inside.Writing.{WordWritten}

module _ {word : List ℕ} {m m' : Memory} {q : Result ℕ Refusal} (w : Recorded word m m' q) where
  -- The answer is the number of its bytes.
  pub recorded_written : (n : ℕ) → q ≡ Ok n → WordWritten word m m' n
  recorded_written n e = record { result = sym (ap reply_of e) ∙ w.result; leaves = w.leaves }
