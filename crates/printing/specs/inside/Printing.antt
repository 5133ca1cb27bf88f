-- Bytes put at a place of a buffer, if they fit.
--     Put bytes entry at exit end   what the buffer holds then, and the place that is answered
--     Placed bytes entry at exit r  the same, where the answer says whether they fit
-- Assumes nothing.
use Rattle.std.specs.Prelude.{◌≡◌, List, ℕ, ◌+◌, ◌<◌, ◌≤◌, Option, Some, None, length}
use lib.Seq.{sets}
use Rattle.lists.specs.inside.Writes.{Wrote}

-- Where the bytes fit they were written and nothing else was; else nothing was, and the answer is the place itself.
pub record Put (bytes entry : List ℕ) (at : ℕ) (exit : List ℕ) (end : ℕ) : Type 0 where
  pub fits : at + length bytes ≤ length entry → Wrote bytes entry at exit end
  pub else_kept : length entry < at + length bytes → (exit ≡ entry) × (end ≡ at)

-- Where the bytes fit they were written and nothing else was, and the answer is the place behind them; else nothing
-- was, and there is no such place.
pub record Placed (bytes entry : List ℕ) (at : ℕ) (exit : List ℕ) (end : Option ℕ) : Type 0 where
  pub fits : at + length bytes ≤ length entry → (end ≡ Some (at + length bytes)) × (exit ≡ sets entry at bytes)
  pub over : length entry < at + length bytes → (end ≡ None) × (exit ≡ entry)
