-- Whether bytes are the shapes of so many trees (01, 'The tree pair and the length'): each caret has two subtrees to
-- come, each leaf ends one. Assumes nothing.
use Rattle.std.specs.Prelude.{Bool, true, false, List, [], ◌∷◌, ℕ, zero, suc}

-- The bytes are the shapes of n trees, one behind another, and nothing is behind them.
abbrev pub closes : List ℕ → ℕ → Bool
closes [] zero = true
closes [] (suc n) = false
closes (zero ∷ s) zero = false
closes (zero ∷ s) (suc n) = closes s n
closes (suc zero ∷ s) zero = false
closes (suc zero ∷ s) (suc n) = closes s (suc (suc n))
closes (suc (suc b) ∷ s) n = false
