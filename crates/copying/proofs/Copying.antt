-- The front of a table, copied where it fits. Assumes nothing.
use mathlib.Core.Path.{◌≡◌, refl, sym, ap, ◌∙◌}
use mathlib.Core.List.{List, [], ◌∷◌, ◌++◌}
use Prim.Native.Nat.{ℕ, zero, suc, ◌<◌, ◌≤◌}
use native.Mathlib.Omega.{arith}
use lib.ListN.{length, take, drop, get_or}
use Rattle.lists.specs.Tables.{values, filled}
use Rattle.lists.proofs.Tables.{filled_same}
use Rattle.copying.specs.inside.Copying.{Copied}

-- The first entries of a list are the values at their places.
take_values : (n : ℕ) (s : List ℕ) → n ≤ length s → take n s ≡ values n (λ i. get_or s i 0)
unfolding values
take_values zero s h = refl
take_values (suc n) [] h = absurd (omega arith)
take_values (suc n) (x ∷ s) h = ap (λ (l : List ℕ). x ∷ l) (take_values n s (omega arith))

-- The first entries of one table in front of the rest of another.
pub copied_front : {from entry front : List ℕ} {n : ℕ} → n ≤ length from → n ≤ length entry → front ≡ take n from
    → Copied from entry n (front ++ drop n entry)
copied_front {from} {entry} {front} {n} long room e = record {
  fits = λ _ _. ap (λ (l : List ℕ). l ++ drop n entry) (e ∙ take_values n from long);
  kept_from = λ short. absurd (omega arith);
  kept_table = λ short. absurd (omega arith);
}

-- The values at the first places of a list, in front of the rest of another, are its first elements.
pub front_filled : (from entry : List ℕ) {exit : List ℕ} {i n : ℕ} → i ≡ n → n ≤ length from
    → exit ≡ filled i (λ k. get_or from k 0) entry → exit ≡ take n from ++ drop n entry
front_filled from entry {exit} {i} {n} whole long is =
    is
    ∙ ap (λ (k : ℕ). filled k (λ j. get_or from j 0) entry) whole
    ∙ ap (λ (l : List ℕ). l ++ drop n entry) (sym (take_values n from long))

-- A copy of a table that shows the values of a function is filled by them.
pub copied_values : {from entry exit : List ℕ} {n : ℕ} (f : ℕ → ℕ) → Copied from entry n exit → n ≤ length from
    → n ≤ length entry → ((i : ℕ) → i < n → get_or from i 0 ≡ f i) → exit ≡ filled n f entry
copied_values {from} {entry} {exit} {n} f c long room shown =
    c.fits long room ∙ filled_same n (λ i. get_or from i 0) f entry shown
