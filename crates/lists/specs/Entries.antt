-- Entries of a list by their numbers. Assumes nothing.
use Rattle.std.specs.Prelude.{◌≡◌, List, [], ◌∷◌, ℕ, zero, suc, ◌+◌}

-- Entry k of the list, counted from 0, is x.
abbrev pub At : {A : Type 0} → List A → ℕ → A → Type 0
At [] k x = ⊥
At (y ∷ ys) zero x = y ≡ x
At (y ∷ ys) (suc k) x = At ys k x

-- The sum of the entries.
abbrev pub total : List ℕ → ℕ
total [] = 0
total (x ∷ xs) = x + total xs
