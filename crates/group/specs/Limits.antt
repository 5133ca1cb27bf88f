-- The limit on letters, indices, exponents, their sums and spellings (01, 'Letters and maps', 'The record').
-- It is stated here and nowhere else. Assumes nothing.
use Rattle.std.specs.Prelude.{ℕ}

-- 4,096
abbrev pub limit : ℕ
limit = 4096
