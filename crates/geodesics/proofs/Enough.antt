-- Any number of columns behind which both rows are closed gives the same sum of Table 1.
--     BothClosed k f   both rows are closed behind k columns
-- Assumes nothing.
use mathlib.Core.Path.{◌≡◌, refl, sym, ◌∙◌, ap, subst, ◌≡⟨◌⟩◌, ◌∎}
use mathlib.Core.List.{List, [], ◌∷◌}
use Prim.Native.Nat.{ℕ, zero, suc, ◌+◌, ◌≤◌}
use native.Mathlib.Nat.{add_comm, suc-add, zero-add}
use native.Mathlib.Omega.{arith}
use lib.ListN.{length}
use Rattle.lists.specs.Entries.{total}
use Rattle.geodesics.specs.Rows.{first, rest, row, from_one}
use Rattle.geodesics.specs.inside.Costs.{Closed}
use Rattle.geodesics.proofs.Rows.{closed_plus, cost_closed}
use Rattle.geodesics.proofs.Sides.{Sides, sum_to, enough, sides_length}
use Rattle.geodesics.proofs.LetterChanges.{Fits}

-- A row is closed behind as many carets as its counters, its exponents and its leaves.
closed_enough : (n s l : ℕ) (es : List ℕ) → s + (l + (total es + length es)) ≤ n → Closed n (row s l es)
closed_enough zero s l es h = omega arith
closed_enough (suc n) zero zero [] h = closed_enough n 0 0 [] (omega arith)
closed_enough (suc n) zero zero (e ∷ es) h = closed_enough n e 0 es (omega arith)
closed_enough (suc n) zero (suc l) [] h = closed_enough n 0 l [] (omega arith)
closed_enough (suc n) zero (suc l) (e ∷ es) h = closed_enough n e l es (omega arith)
closed_enough (suc n) (suc s) l [] h = closed_enough n (0 + s) l [] (omega arith)
closed_enough (suc n) (suc s) l (e ∷ es) h = closed_enough n (e + s) l es (omega arith)

-- The sum by the first entry and the rest.
pub first-total : (es : List ℕ) → first es + total (rest es) ≡ total es
first-total [] = refl
first-total (e ∷ es) = refl

rest-length : (es : List ℕ) → length (rest es) ≤ length es
rest-length [] = omega arith
rest-length (e ∷ es) = omega arith

closed_from : (k j : ℕ) (es : List ℕ) → j + (total es + length es) ≤ k
    → Closed k (row (first (rest es)) (j + first es) (rest (rest es)))
closed_from k j es h =
    closed_enough k (first (rest es)) (j + first es) (rest (rest es))
    (omega (arith, first-total es, first-total (rest es), rest-length es, rest-length (rest es)))

from_one_lem : (k : ℕ) (es : List ℕ) → total es + length es ≤ k → Closed k (from_one es)
from_one_lem k es h =
    subst
    (λ (l : ℕ). Closed k (row (first (rest es)) l (rest (rest es))))
    (zero-add (first es))
    (closed_from k 0 es (omega arith))

-- Columns that are enough.
pub fits : (k : ℕ) (f : Sides) → enough f ≤ k → Fits k f
fits k f h = record {
  b_row = from_one_lem k f.b (omega arith);
  a_row = from_one_lem k f.a (omega arith);
  a_more = subst
      (λ (l : ℕ). Closed k (row (first (rest f.a)) l (rest (rest f.a))))
      (suc-add 0 (first f.a) ∙ ap suc (zero-add (first f.a)))
      (closed_from k 1 f.a (omega arith));
}

-- Both rows are closed behind k columns.
pub record BothClosed (k : ℕ) (f : Sides) : Type 0 where
  pub b_row : Closed k (from_one f.b)
  pub a_row : Closed k (from_one f.a)

-- They are behind enough columns.
pub both_closed : (f : Sides) → BothClosed (enough f) f
both_closed f = go (fits (enough f) f (omega arith))
  where
    go : Fits (enough f) f → BothClosed (enough f) f
    go h = record { b_row = h.b_row; a_row = h.a_row }

-- More columns than close the rows add nothing.
sum_plus : (d k : ℕ) (f : Sides) → BothClosed k f → sum_to (d + k) f ≡ sum_to k f
sum_plus zero k f c = rw (zero-add k)
sum_plus (suc d) k f c =
    rw (suc-add d k)
    (cost_closed (d + k) (from_one f.b) (from_one f.a)
    (closed_plus d k (from_one f.b) c.b_row)
    (closed_plus d k (from_one f.a) c.a_row)
    ∙ sum_plus d k f c)

-- Any number of columns that closes the rows gives the length.
pub sum_any : (k : ℕ) (f : Sides) → BothClosed k f → sum_to k f ≡ sides_length f
sum_any k f c =
    sum_to k f ≡⟨ sym (sum_plus (enough f) k f c) ⟩
    sum_to (enough f + k) f ≡⟨ ap (λ (n : ℕ). sum_to n f) (add_comm (enough f) k) ⟩
    sum_to (k + enough f) f ≡⟨ sum_plus k (enough f) f (both_closed f) ⟩
    sides_length f ∎

-- And so does any number that is enough.
pub sum_at : (k : ℕ) (f : Sides) → enough f ≤ k → sum_to k f ≡ sides_length f
sum_at k f h = go (fits k f h)
  where
    go : Fits k f → sum_to k f ≡ sides_length f
    go h = sum_any k f (record { b_row = h.b_row; a_row = h.a_row })
