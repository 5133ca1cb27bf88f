-- What is lent with one word or text (01, 'What the desk can be asked'): two tables and a buffer. Assumes nothing.
use Rattle.std.specs.Prelude.{List, ℕ}

-- At entry or at exit: the b table, the a table and the record buffer.
pub record Memory : Type 0 where
  pub b : List ℕ
  pub a : List ℕ
  pub buffer : List ℕ

-- From its three parts.
abbrev pub memory : (b a buffer : List ℕ) → Memory
memory b a buffer = record { b = b; a = a; buffer = buffer }
