-- Where a caret of the left side is to come in the a row, one of the four letters lowers the sum of Table 1 by one
-- (000, lemma 3.1, property 4).
--     OneOfFour c …   c is one more than one of four sums: with A, a, b or B put behind
-- Assumes nothing.
use mathlib.Core.Path.{◌≡◌, refl, sym, ◌∙◌, ap, subst, subst₂}
use mathlib.Core.List.{List}
use mathlib.Core.Logic.{◌⊎◌, inl, inr}
use Prim.Native.Nat.{ℕ, zero, suc, ◌+◌}
use native.Mathlib.Nat.{suc-add, zero-add}
use native.Mathlib.Omega.{arith}
use Rattle.lengths.specs.Labels.{Label, 'L}
use Rattle.geodesics.specs.inside.Costs.{column, inside_label, label_by, Closed, cost}
use Rattle.geodesics.proofs.Columns.{Fixed, fixed_left, fixed_inside}
use Rattle.geodesics.specs.Rows.{first, rest, row, next_open, next_left, next_row}
use Rattle.geodesics.proofs.Rows.{closed_more}
use Rattle.geodesics.proofs.Splits.{reduce_open}
use Rattle.geodesics.proofs.Choices.{choose_inside, choose_open, choose_leaves}
use Rattle.geodesics.proofs.Sides.{Sides, put_inverse_by, put_inverse, put_x0_by, put_x0, at_tree, at_zero, at_next}
use Rattle.geodesics.proofs.Changes.{over_left, next_open_suc, cost_at}

-- c is one more than one of four numbers.
pub data OneOfFour (c x y z t : ℕ) : Type 0 where
  by_A : c ≡ suc x → OneOfFour c x y z t
  by_a : c ≡ suc y → OneOfFour c x y z t
  by_b : c ≡ suc z → OneOfFour c x y z t
  by_B : c ≡ suc t → OneOfFour c x y z t

four_plus : (k c x y z t : ℕ) → OneOfFour c x y z t → OneOfFour (k + c) (k + x) (k + y) (k + z) (k + t)
four_plus k c x y z t (by_A h) = by_A (omega arith)
four_plus k c x y z t (by_a h) = by_a (omega arith)
four_plus k c x y z t (by_b h) = by_b (omega arith)
four_plus k c x y z t (by_B h) = by_B (omega arith)

four_under : (u v : Label) (c x y z t : ℕ) → Fixed u v → OneOfFour c x y z t
    → OneOfFour (column u v c) (column u v x) (column u v y) (column u v z) (column u v t)
four_under u v c x y z t p h = rw (p.1 c, p.1 x, p.1 y, p.1 z, p.1 t) (four_plus p.0 c x y z t h)

suc_under : (u : Label) (x y : ℕ) → x ≡ suc y → column u 'L x ≡ suc (column u 'L y)
suc_under u x y h = go (fixed_left u)
  where
    go : Fixed u 'L → column u 'L x ≡ suc (column u 'L y)
    go p = rw (p.1 x, p.1 y) (omega arith)

-- The sums of the lists and of the four changes: one caret of the left side more, one fewer, and two rules.
abbrev pub Lowers : ℕ → ℕ → ℕ → ℕ → ℕ → List ℕ → List ℕ → Sides → Sides → Type 0
Lowers n p l q m bs cs x y =
    OneOfFour
    (cost n (row p l bs) (row q (suc m) cs))
    (cost n (row p l bs) (row q (suc (suc m)) cs))
    (cost n (row p l bs) (row q m cs))
    (cost_at n p l q (suc m) x)
    (cost_at n p l q (suc m) y)

-- At the last caret of the left side of the a row.
module _ (k p l : ℕ) (bs cs : List ℕ) (hb : Closed k (next_row (row p l bs)))
    (hc : Closed k (row (first cs) 0 (rest cs))) (hm : Closed k (row (first cs) 1 (rest cs))) where
  -- a_0 above 0.
  last_open : (a : ℕ) → first cs ≡ suc a
      → (cost (suc k) (next_row (row p l bs)) (row (suc a) 0 (rest cs))
      ≡ suc (cost (suc k) (next_row (row p l bs)) (row a 0 (rest cs))))
      ⊎ (cost (suc k) (next_row (row p l bs)) (row (suc a) 0 (rest cs))
      ≡ suc (cost (suc k) (next_row (row p l bs)) (row (suc a) 1 (rest cs))))
      → Lowers (suc (suc k)) p l 0 0 bs cs (put_x0_by (suc a) bs cs) (put_inverse bs cs)
  last_open a ea (inl h) = by_b (rw ea (suc_under (label_by p l (first bs)) _ _ h))
  last_open a ea (inr h) = by_A (rw ea (suc_under (label_by p l (first bs)) _ _ h))

  -- a_0 is 0 and b_0 above 0.
  last_inside : (b : ℕ) → first cs ≡ 0 → first bs ≡ suc b
      → (cost (suc k) (row (suc (next_open p b)) (next_left p l) (rest bs)) (row 0 0 (rest cs))
      ≡ suc (cost (suc k) (row (suc (next_open p b)) (next_left p l) (rest bs)) (row 0 1 (rest cs))))
      ⊎ ((first (rest bs) ≡ 0) × (first (rest cs) ≡ 0))
      → Lowers (suc (suc k)) p l 0 0 bs cs (put_x0_by 0 bs cs)
      (put_inverse_by 0 (suc b) (first (rest bs)) (first (rest cs)) bs cs)
  last_inside b ea eb (inl h) = by_A (rw (ea, eb, next_open_suc p b) (suc_under (label_by p l (suc b)) _ _ h))
  last_inside b ea eb (inr h) =
      by_B
      (subst₂
      (λ (e f : ℕ). cost (suc (suc k)) (row p l bs) (row 0 1 cs)
      ≡ suc (cost_at (suc (suc k)) p l 0 1 (put_inverse_by 0 (suc b) e f bs cs)))
      (sym h.0)
      (sym h.1)
      (rw (ea, eb, next_open_suc p b)
      (suc_under (label_by p l (suc b)) _ _
      (reduce_open k (next_open p b) (next_left p l) (rest bs) (rest cs) (rw (eb, next_open_suc p b) at hb)
      (rw ea at hc) h.0 h.1)
      ∙ ap suc
      (over_left p l (suc b) b
      (cost (suc k) (row (next_open p b) (next_left p l) (rest (rest bs))) (row 0 0 (rest (rest cs))))))))

  -- Both are 0.
  last_leaves : (cost (suc (suc k)) (row p l bs) (row 0 1 cs) ≡ suc (cost (suc (suc k)) (row p l bs) (row 0 0 cs)))
      ⊎ (cost (suc (suc k)) (row p l bs) (row 0 1 cs) ≡ suc (cost (suc (suc k)) (row p l bs) (row 0 2 cs)))
      → Lowers (suc (suc k)) p l 0 0 bs cs (put_x0 bs cs) (put_inverse bs cs)
  last_leaves (inl h) = by_a h
  last_leaves (inr h) = by_A h

  last_lowers : Lowers (suc (suc k)) p l 0 0 bs cs (put_x0 bs cs) (put_inverse bs cs)
  last_lowers = go (first cs) (first bs) refl refl
    where
      go : (a b : ℕ) → first cs ≡ a → first bs ≡ b
          → Lowers (suc (suc k)) p l 0 0 bs cs (put_x0 bs cs) (put_inverse bs cs)
      go (suc a) b ea eb =
          subst
          (λ (x : ℕ). Lowers (suc (suc k)) p l 0 0 bs cs (put_x0_by x bs cs) (put_inverse bs cs))
          (sym ea)
          (last_open a ea
          (choose_open (suc k) (next_row (row p l bs)) a (rest cs)
          (closed_more k (row (suc a) 1 (rest cs)) (rw ea at hm))))
      go zero (suc b) ea eb =
          subst₂
          (λ (x y : ℕ). Lowers (suc (suc k)) p l 0 0 bs cs (put_x0_by x bs cs)
          (put_inverse_by x y (first (rest bs)) (first (rest cs)) bs cs))
          (sym ea)
          (sym eb)
          (last_inside b ea eb (choose_inside k (next_open p b) (next_left p l) (rest bs) (rest cs)))
      go zero zero ea eb = last_leaves (choose_leaves (suc k) p l bs cs eb ea)

-- At every caret in front of it, too.
pub left_lowers : (k p l q m : ℕ) (bs cs : List ℕ)
    → Closed k (row p l bs) → Closed k (row q (suc m) cs) → Closed k (row q (suc (suc m)) cs)
    → Lowers (suc k) p l q m bs cs (at_tree (q + m) put_x0 bs cs) (at_tree (q + m) put_inverse bs cs)
left_lowers zero p l q m bs cs hb hc hm = absurd (omega arith)
left_lowers (suc k) p l zero zero bs cs hb hc hm =
    rw (at_zero put_x0 bs cs, at_zero put_inverse bs cs) (last_lowers k p l bs cs hb hc hm)
left_lowers (suc k) p l zero (suc m) bs cs hb hc hm =
    rw (
      zero-add (suc m),
      at_next put_x0 m (first cs + m) bs cs (omega arith),
      at_next put_inverse m (first cs + m) bs cs (omega arith),
    )
    (four_under (label_by p l (first bs)) 'L _ _ _ _ _ (fixed_left (label_by p l (first bs)))
    (left_lowers k (next_open p (first bs)) (next_left p l) (first cs) m (rest bs) (rest cs) hb hc hm))
left_lowers (suc k) p l (suc q) m bs cs hb hc hm =
    rw (
      suc-add q m,
      at_next put_x0 (q + m) (first cs + q + m) bs cs (omega arith),
      at_next put_inverse (q + m) (first cs + q + m) bs cs (omega arith),
    )
    (four_under (label_by p l (first bs)) (inside_label (first cs)) _ _ _ _ _
    (fixed_inside (label_by p l (first bs)) (first cs))
    (left_lowers k (next_open p (first bs)) (next_left p l) (first cs + q) m (rest bs) (rest cs) hb hc hm))
