-- The bytes of a line kept in a buffer (01, 'The receipt program'), all at once. `lib.Seq.sets` leaves out the bytes
-- for which there is no room.
-- Inside: no claim reaches these definitions; a reader of the claims need not believe them. Assumes nothing.
use Rattle.std.specs.Prelude.{◌≡◌, List, ℕ, ◌+◌, ◌-◌, min, length}
use lib.Seq.{sets}

-- The bytes were written behind those that are held, as many as there is room for, and nothing else was.
pub record Kept (bytes entry : List ℕ) (held : ℕ) (exit : List ℕ) (end : ℕ) : Type 0 where
  pub count : end ≡ held + min (length bytes) (length entry - held)
  pub holds : exit ≡ sets entry held bytes
