-- The letters of runs, and the spelling of a reduced form, run by run.
-- Inside: no claim reaches these definitions; a reader of the claims need not believe them. Assumes nothing.
use Rattle.std.specs.Prelude.{List, [], ◌∷◌, ◌++◌, ℕ, ◌-◌, replicate}
use Rattle.group.specs.Letters.{'a, 'A, Word}
use Rattle.group.specs.Forms.{b_side, a_side, Form, exponent}
use Rattle.spelling.specs.Runs.{Run, run}
use Rattle.spelling.specs.Spelling.{runs}

-- What m letters a and then n letters A leave.
abbrev pub turn : ℕ → ℕ → Word
turn m n = replicate (m - n) 'a ++ replicate (n - m) 'A

-- The letters of runs, where `due` letters a stand before them; those due behind the last run are left out.
abbrev pub run_letters : ℕ → List Run → Word
run_letters due [] = []
run_letters due (run k x e ∷ l) = turn due k ++ (replicate e x ++ run_letters k l)

-- The word of runs, with m letters a before them and n letters A behind them.
abbrev pub spelt : ℕ → List Run → ℕ → Word
spelt m [] n = turn m n
spelt m (run k x e ∷ l) n = turn m k ++ (replicate e x ++ spelt k l n)

-- The spelling of a reduced form, run by run.
abbrev pub run_spelling : Form → Word
run_spelling f = spelt (exponent b_side f 0) (runs f) (exponent a_side f 0)
