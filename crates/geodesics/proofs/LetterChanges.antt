-- A letter put behind two lists of exponents changes the sum of Table 1 over enough columns by one (000, lemma
-- 3.1, property 3).
--     Fits k f   k columns are enough for the lists, and with one caret of the left side more on the a side
-- Assumes nothing.
use mathlib.Core.Path.{◌≡◌, refl, sym, ◌∙◌, ap}
use mathlib.Core.List.{◌∷◌}
use Prim.Native.Nat.{ℕ, zero, suc, ◌+◌}
use native.Mathlib.Nat.{zero-add}
use native.Mathlib.Omega.{arith}
use Rattle.group.specs.Letters.{Letter, 'a, 'A, 'b, 'B}
use Rattle.geodesics.specs.inside.Costs.{Closed}
use Rattle.geodesics.proofs.Columns.{ByOne, up, down, by_one_turned}
use Rattle.geodesics.specs.Rows.{first, rest, row, from_one}
use Rattle.geodesics.proofs.Rows.{left_more, closed_more, cost_closed}
use Rattle.geodesics.proofs.Splits.{split_left, reduce_left}
use Rattle.geodesics.proofs.Sides.{Sides, sides, put_inverse_by, put_inverse, put_x0_by, put_x0, put_letter, sum_to}
use Rattle.geodesics.proofs.Changes.{inverse_changes, x0_changes, at_changes}

-- Columns that are enough.
pub record Fits (k : ℕ) (f : Sides) : Type 0 where
  pub b_row : Closed k (from_one f.b)
  pub a_row : Closed k (from_one f.a)
  pub a_more : Closed k (row (first (rest f.a)) (suc (first f.a)) (rest (rest f.a)))

by_one_less : (m n : ℕ) → ByOne (2 + m) (2 + n) → ByOne m n
by_one_less m n (up h) = up (omega arith)
by_one_less m n (down h) = down (omega arith)

inverse-first : (k : ℕ) (f : Sides) → Fits k f → ByOne (sum_to (suc k) (put_inverse f.b f.a)) (sum_to (suc k) f)
inverse-first k f h =
    go (first f.a) (first f.b) (first (rest f.b)) (first (rest f.a)) refl refl refl refl
  where
    raised : (a : ℕ) → first f.a ≡ a → ByOne (sum_to (suc k) (sides f.b (suc a ∷ rest f.a))) (sum_to (suc k) f)
    raised a e =
        rw e
        (left_more (suc k) (from_one f.b) (first (rest f.a)) a (rest (rest f.a))
        (closed_more k (row (first (rest f.a)) (suc a) (rest (rest f.a))) (rw e at h.a_more)))

    go : (a b e g : ℕ) → first f.a ≡ a → first f.b ≡ b → first (rest f.b) ≡ e → first (rest f.a) ≡ g
        → ByOne (sum_to (suc k) (put_inverse_by a b e g f.b f.a)) (sum_to (suc k) f)
    go zero (suc b) zero zero ea eb ee eg =
        down
        (rw (ea, eb, ee, eg)
        (reduce_left k b (rest (rest f.b)) (rest (rest f.a)) (rw (eb, ee) at h.b_row)
        (rw (ea, eg) at h.a_row)))
    go zero (suc b) zero (suc g) ea eb ee eg = raised 0 ea
    go zero (suc b) (suc e) g ea eb ee eg = raised 0 ea
    go zero zero e g ea eb ee eg = raised 0 ea
    go (suc a) b e g ea eb ee eg = raised (suc a) ea

x0_first : (k : ℕ) (f : Sides) → Fits k f → ByOne (sum_to (suc k) (put_x0 f.b f.a)) (sum_to (suc k) f)
x0_first k f h = go (first f.a) refl
  where
    go : (a : ℕ) → first f.a ≡ a → ByOne (sum_to (suc k) (put_x0_by a f.b f.a)) (sum_to (suc k) f)
    go (suc a) e =
        rw e
        (by_one_turned _ _
        (left_more (suc k) (from_one f.b) (first (rest f.a)) a (rest (rest f.a))
        (closed_more k (row (first (rest f.a)) (suc a) (rest (rest f.a))) (rw e at h.a_row))))
    go zero e =
        rw e
        (up
        (split_left k (first f.b) (rest f.b) (rest f.a)
        ∙ ap suc
        (sym
        (cost_closed k (from_one f.b) (row (first (rest f.a)) 0 (rest (rest f.a))) h.b_row
        (rw e at h.a_row)))))

-- The rows from caret 0 on, which is on the left side in both, weigh 2 more.
pub letter_changes : (k : ℕ) (f : Sides) (x : Letter) → Fits k f
    → ByOne (sum_to (suc k) (put_letter f x)) (sum_to (suc k) f)
letter_changes k f 'a h = x0_first k f h
letter_changes k f 'A h = inverse-first k f h
letter_changes k f 'b h =
    by_one_less _ _
    (rw (zero-add (first f.a)) at
    (at_changes put_x0 x0_changes (suc k) 0 (suc (first f.b)) 0 (first f.a) (rest f.b) (rest f.a) h.b_row
    h.a_row h.a_more))
letter_changes k f 'B h =
    by_one_less _ _
    (rw (zero-add (first f.a)) at
    (at_changes put_inverse inverse_changes (suc k) 0 (suc (first f.b)) 0 (first f.a) (rest f.b) (rest f.a)
    h.b_row h.a_row h.a_more))
