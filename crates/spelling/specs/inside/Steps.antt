-- What the steps of the speller promise one another inside this crate.
--     behind_power, behind_runs   the speller behind a power and behind runs
--     WroteRuns                 runs were written behind the letters so far
--     rising_runs, falling_runs   the runs of a table's exponents
--     table_spelling             the word of two tables             table_letters   the number of its letters
-- Assumes nothing.
use Rattle.std.specs.Prelude.{◌≡◌, List, [], ◌∷◌, ◌++◌, ℕ, zero, suc, ◌+◌, get_or}
use Rattle.std.proofs.lemmas.List.Edits.{sets}
use Rattle.group.specs.Letters.{Word}
use Rattle.group.specs.Bytes.{bytes_of}
use Rattle.group.specs.Limits.{limit}
use Rattle.spelling.specs.Runs.{Run, run, rising, falling, distance, letters_from}
use Rattle.spelling.specs.inside.RunLetters.{run_letters, spelt}
use Rattle.spelling.specs.declared.speller.Speller.{Speller}

-- The speller behind e letters b or B of x_(k+1): the letters so far, and the letters a that are due behind them.
abbrev pub behind_run : Speller → ℕ → ℕ → Speller
behind_run s k e = record { count = s.count + distance s.due k + e; due = k }

-- The same behind a power; exponent 0 is no run.
abbrev pub behind_power : Speller → ℕ → ℕ → Speller
behind_power s k zero = s
behind_power s k (suc e) = behind_run s k (suc e)

-- The speller behind runs.
abbrev pub behind_runs : Speller → List Run → Speller
behind_runs s [] = s
behind_runs s (run k x e ∷ l) = behind_runs (behind_run s k e) l

-- The runs were written behind the letters so far, and nothing else was.
pub record WroteRuns (l : List Run) (s : Speller) (word word' : List ℕ) (r : Speller) : Type 0 where
  pub state : r ≡ behind_runs s l
  pub bytes : word' ≡ sets word s.count (bytes_of (run_letters s.due l))

-- The exponents of a table by index.
abbrev pub read_exponent : List ℕ → ℕ → ℕ
read_exponent t i = get_or t i 0

-- The runs of a table's exponents of the indices 1 to the limit: rising for the b side, falling for the a side.
unfoldable pub rising_runs : List ℕ → List Run
rising_runs b = rising (read_exponent b) 0 limit

unfoldable pub falling_runs : List ℕ → List Run
falling_runs a = falling (read_exponent a) limit

-- The word of two tables of exponents, and the number of its letters.
abbrev pub table_spelling : List ℕ → List ℕ → Word
table_spelling b a = spelt (read_exponent b 0) (rising_runs b ++ falling_runs a) (read_exponent a 0)

abbrev pub table_letters : List ℕ → List ℕ → ℕ
table_letters b a = letters_from (read_exponent b 0) (rising_runs b ++ falling_runs a) (read_exponent a 0)
