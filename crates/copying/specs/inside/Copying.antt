-- The first entries of a table, copied to the front of another, if both have as many.
--     Copied from entry n exit   what the other table holds then
-- Assumes nothing.
use Rattle.std.specs.Prelude.{◌≡◌, List, ℕ, ◌<◌, ◌≤◌, length, get_or}
use Rattle.lists.specs.Tables.{filled}

-- Where both tables have n entries, the first n were copied and nothing else was; else nothing was.
pub record Copied (from entry : List ℕ) (n : ℕ) (exit : List ℕ) : Type 0 where
  pub fits : n ≤ length from → n ≤ length entry → exit ≡ filled n (λ i. get_or from i 0) entry
  pub kept_from : length from < n → exit ≡ entry
  pub kept_table : length entry < n → exit ≡ entry
