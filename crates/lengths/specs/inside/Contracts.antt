-- The contract of `pair_length`, on every input. Assumes nothing.
use Rattle.std.specs.Prelude.{List, ℕ, Option, Some, None}
use Rattle.refusals.specs.Outcomes.{Outcome, accepted, refused, then}
use Rattle.trees.specs.Building.{tree_of}
use Rattle.trees.specs.inside.Writing.{table_carets}
use Rattle.lengths.specs.Weights.{pair_length}

-- The outcome of each answer: 0 is no number of the paper, and no call of the paper meets it.
abbrev pub length_of : Option ℕ → Outcome ℕ
length_of (Some n) = accepted n
length_of None = refused 0 0

-- The length of the smallest pair with the exponents of two tables.
abbrev pub table_length : (b a : List ℕ) → Outcome ℕ
table_length b a = then (table_carets b a) (λ n. accepted (pair_length (tree_of n a) (tree_of n b)))
