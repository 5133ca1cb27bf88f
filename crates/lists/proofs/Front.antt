-- A loop that writes a list f over a list t from the left, one store a turn: after j turns it holds `front j f t`.
--     front_more    a store of f's entry at j makes it one longer
--     front_read    at or behind j it still reads t
--     front_starts  where f agrees with t below i, the loop may start at i
--     front_ends    where f agrees with t from j on, the loop may end at j
-- Assumes nothing.
use mathlib.Core.Path.{◌≡◌, refl, sym, ap, ◌∙◌}
use mathlib.Core.List.{List, [], ◌∷◌, ◌++◌}
use Prim.Native.Nat.{ℕ, zero, suc, ◌+◌, ◌<◌, ◌≤◌}
use native.Mathlib.Nat.{not-suc-le-zero, le_of_suc-le-suc}
use native.Mathlib.Numerals.{add-one}
use native.Mathlib.Omega.{arith}
use lib.ListN.{length, take, drop, get_or, set, take-append-drop}

-- The first j entries of f, and t behind them.
abbrev pub front : ℕ → List ℕ → List ℕ → List ℕ
front j f t = take j f ++ drop j t

more : (j : ℕ) (f t : List ℕ) → length f ≡ length t → j < length t
    → set (front j f t) j (get_or f j 0) ≡ front (suc j) f t
more j f [] e h = absurd (not-suc-le-zero h)
more j [] (y ∷ t) e h = absurd (omega arith)
more zero (x ∷ f) (y ∷ t) e h = refl
more (suc j) (x ∷ f) (y ∷ t) e h = ap (λ (l : List ℕ). x ∷ l) (more j f t (omega arith) (le_of_suc-le-suc h))

pub front_more : (j : ℕ) (f t : List ℕ) → length f ≡ length t → j < length t
    → set (front j f t) j (get_or f j 0) ≡ front (j + 1) f t
front_more j f t e h = rw add-one (more j f t e h)

pub front_read : (j k : ℕ) (f t : List ℕ) → length f ≡ length t → j ≤ k → get_or (front j f t) k 0 ≡ get_or t k 0
front_read zero k f t e h = refl
front_read (suc j) zero f t e h = absurd (not-suc-le-zero h)
front_read (suc j) (suc k) [] [] e h = refl
front_read (suc j) (suc k) [] (y ∷ t) e h = absurd (omega arith)
front_read (suc j) (suc k) (x ∷ f) [] e h = absurd (omega arith)
front_read (suc j) (suc k) (x ∷ f) (y ∷ t) e h = front_read j k f t (omega arith) (le_of_suc-le-suc h)

pub front_length : (j : ℕ) (f t : List ℕ) → length f ≡ length t → length (front j f t) ≡ length t
front_length zero f t e = refl
front_length (suc j) [] [] e = refl
front_length (suc j) [] (y ∷ t) e = absurd (omega arith)
front_length (suc j) (x ∷ f) [] e = absurd (omega arith)
front_length (suc j) (x ∷ f) (y ∷ t) e = ap suc (front_length j f t (omega arith))

pub front_starts : (j : ℕ) (f t : List ℕ) → take j f ≡ take j t → front j f t ≡ t
front_starts j f t e = ap (λ (l : List ℕ). l ++ drop j t) e ∙ take-append-drop j t

pub front_ends : (j : ℕ) (f t : List ℕ) → drop j f ≡ drop j t → front j f t ≡ f
front_ends j f t e = ap (λ (l : List ℕ). take j f ++ l) (sym e) ∙ take-append-drop j f
