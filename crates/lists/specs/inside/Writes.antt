-- Writes into a lent buffer: `lib.Seq.sets s at bytes` is the list s with the bytes at a place. Assumes nothing.
use Rattle.std.specs.Prelude.{◌≡◌, List, ℕ, ◌+◌, length}
use lib.Seq.{sets}

-- The bytes were written at a place of a buffer and nothing else was; the answer is the place behind them.
pub record Wrote (bytes entry : List ℕ) (at : ℕ) (exit : List ℕ) (end : ℕ) : Type 0 where
  pub ends : end ≡ at + length bytes
  pub holds : exit ≡ sets entry at bytes

-- Amid a run of writes: what is left to write gives, from here, what the whole gives from the start.
pub record Writing (left now : List ℕ) (end : ℕ) (bytes entry : List ℕ) (at : ℕ) : Type 0 where
  pub ends : end + length left ≡ at + length bytes
  pub holds : sets now end left ≡ sets entry at bytes
