-- The number of letters of a turn and of a word of runs. Assumes nothing.
use mathlib.Core.Path.{◌≡◌}
use mathlib.Core.List.{List, [], ◌∷◌, ◌++◌}
use Prim.Native.Nat.{ℕ, ◌-◌}
use native.Mathlib.Omega.{arith}
use lib.ListN.{length, replicate, length-append, length-replicate}
use Rattle.group.specs.Letters.{'a, 'A}
use Rattle.spelling.specs.Runs.{Run, run, distance, letters_from}
use Rattle.spelling.specs.inside.RunLetters.{turn, spelt}

pub turn-length : (m n : ℕ) → length (turn m n) ≡ distance m n
turn-length m n =
    omega (
      arith,
      length-append (replicate (m - n) 'a) (replicate (n - m) 'A),
      length-replicate (m - n) 'a,
      length-replicate (n - m) 'A,
    )

-- The number of letters, counted run by run.
pub spelt-length : (m : ℕ) (l : List Run) (n : ℕ) → length (spelt m l n) ≡ letters_from m l n
spelt-length m [] n = turn-length m n
spelt-length m (run k x e ∷ l) n =
    omega (
      arith,
      length-append (turn m k) (replicate e x ++ spelt k l n),
      turn-length m k,
      length-append (replicate e x) (spelt k l n),
      length-replicate e x,
      spelt-length k l n,
    )
