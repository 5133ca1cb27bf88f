-- Tables whose first entries are the values of a function (01, 'What the desk can be asked'). Assumes nothing.
use Rattle.std.specs.Prelude.{List, [], ◌∷◌, ◌++◌, ℕ, zero, suc, drop}

-- The values of a function at 0, 1, …, m − 1.
unfoldable pub values : ℕ → (ℕ → ℕ) → List ℕ
values zero f = []
values (suc m) f = f 0 ∷ values m (λ i. f (suc i))

-- The first m entries of a table are the values of a function; the entries beyond are as they were.
abbrev pub filled : ℕ → (ℕ → ℕ) → List ℕ → List ℕ
filled m f t = values m f ++ drop m t
