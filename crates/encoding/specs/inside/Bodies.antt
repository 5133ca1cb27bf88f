-- The writer's terms for one table: the body of its field, and the table beside the number of its powers.
-- Assumes nothing.
use Rattle.std.specs.Prelude.{◌≡◌, List, ℕ, suc, ◌≤◌, length}
use Rattle.group.specs.Limits.{limit}
use Rattle.records.specs.Format.{powers, entries}

-- The entries of a table's exponents, those that are 0 left out.
abbrev pub encode_body : List ℕ → List ℕ
encode_body t = entries (powers 0 t)

-- No index of the table is above the limit, and n of its exponents are not 0.
pub record Counted (t : List ℕ) (n : ℕ) : Type 0 where
  pub fits : length t ≤ suc limit
  pub counts : n ≡ length (powers 0 t)
