-- A letter put behind at any index changes the sum of Table 1 by one: x_0 or x_0⁻¹ at the level where it acts, and the
-- levels in front of it (000, lemma 3.1, property 3).
--     cost_behind n p l f   the sum behind the last caret of the left side of the a row; the b row has (p, l) there
--     cost_at n p l q m f   the sum where the b row has (p, l) and the a row (q, m)
--     Changes g            the rule g changes the sum by one, at its level
-- Assumes nothing.
use mathlib.Core.Path.{◌≡◌, refl, sym, ◌∙◌, ap}
use mathlib.Core.List.{List, ◌∷◌}
use Prim.Native.Nat.{ℕ, zero, suc, ◌+◌}
use native.Mathlib.Nat.{suc-add, zero-add}
use native.Mathlib.Omega.{arith}
use Rattle.lengths.specs.Labels.{'L}
use Rattle.geodesics.specs.inside.Costs.{column, inside_label, label_by, Closed, cost}
use Rattle.geodesics.proofs.Columns.{ByOne, up, down, by_one_turned, fixed_left, fixed_inside, fixed_by_one}
use Rattle.geodesics.specs.Rows.{first, rest, row, next_open, next_left, next_row}
use Rattle.geodesics.proofs.Rows.{open_more, closed_more, remaining_swap, cost_closed}
use Rattle.geodesics.proofs.Splits.{split_open, reduce_open}
use Rattle.geodesics.proofs.Sides.{
  Sides,
  sides,
  put_inverse_by,
  put_inverse,
  put_x0_by,
  put_x0,
  Rule,
  at_tree,
  at_zero,
  at_next,
}

-- Over a caret of the left side it makes no difference what is behind.
pub over_left : (p l e f s : ℕ) → column (label_by p l e) 'L s ≡ column (label_by p l f) 'L s
over_left (suc p) l zero zero s = refl
over_left (suc p) l zero (suc f) s = refl
over_left (suc p) l (suc e) zero s = refl
over_left (suc p) l (suc e) (suc f) s = refl
over_left zero (suc l) e f s = refl
over_left zero zero zero zero s = refl
over_left zero zero zero (suc f) s = refl
over_left zero zero (suc e) zero s = refl
over_left zero zero (suc e) (suc f) s = refl

-- An exponent one larger opens one subtree more.
pub next_open_suc : (p e : ℕ) → next_open p (suc e) ≡ suc (next_open p e)
next_open_suc zero e = refl
next_open_suc (suc p) e = omega arith

-- The sum behind the last caret of the left side of the a row.
abbrev pub cost_behind : ℕ → ℕ → ℕ → Sides → ℕ
cost_behind n p l f = cost n (next_row (row p l f.b)) (row (first f.a) 0 (rest f.a))

-- The sum from two rows on, by their counters.
abbrev pub cost_at : ℕ → ℕ → ℕ → ℕ → ℕ → Sides → ℕ
cost_at n p l q m f = cost n (row p l f.b) (row q m f.a)

-- A rule changes the sum by one, at its level.
abbrev pub Changes : Rule → Type 0
Changes g =
    (k p l : ℕ) (bs cs : List ℕ)
    → Closed k (next_row (row p l bs)) → Closed k (row (first cs) 0 (rest cs)) → Closed k (row (first cs) 1 (rest cs))
    → ByOne (cost_behind (suc k) p l (g bs cs)) (cost_behind (suc k) p l (sides bs cs))

-- a_0 raised.
raised : (k p l a : ℕ) (bs cs : List ℕ) → Closed k (row (first cs) 1 (rest cs)) → first cs ≡ a
    → ByOne (cost_behind (suc k) p l (sides bs (suc a ∷ rest cs))) (cost_behind (suc k) p l (sides bs cs))
raised k p l a bs cs hc e =
    rw e
    (open_more (suc k) (next_row (row p l bs)) a (rest cs)
    (closed_more k (row (suc a) 0 (rest cs)) (sym (remaining_swap k a 0 (rest cs)) ∙ (rw e at hc))))

-- x_0⁻¹ put behind changes the sum by one at its level.
pub inverse_changes : Changes put_inverse
inverse_changes k p l bs cs hb hc hm =
    go (first cs) (first bs) (first (rest bs)) (first (rest cs)) refl refl refl refl
  where
    go : (a b e f : ℕ) → first cs ≡ a → first bs ≡ b → first (rest bs) ≡ e → first (rest cs) ≡ f
        → ByOne (cost_behind (suc k) p l (put_inverse_by a b e f bs cs)) (cost_behind (suc k) p l (sides bs cs))
    go zero (suc b) zero zero ea eb ee ef =
        down
        (rw (ea, eb, next_open_suc p b)
        (reduce_open k (next_open p b) (next_left p l) (rest bs) (rest cs) (rw (eb, next_open_suc p b) at hb)
        (rw ea at hc) ee ef))
    go zero (suc b) zero (suc f) ea eb ee ef = raised k p l 0 bs cs hm ea
    go zero (suc b) (suc e) f ea eb ee ef = raised k p l 0 bs cs hm ea
    go zero zero e f ea eb ee ef = raised k p l 0 bs cs hm ea
    go (suc a) b e f ea eb ee ef = raised k p l (suc a) bs cs hm ea

-- x_0 put behind does.
pub x0_changes : Changes put_x0
x0_changes k p l bs cs hb hc hm = go (first cs) refl
  where
    go : (a : ℕ) → first cs ≡ a
        → ByOne (cost_behind (suc k) p l (put_x0_by a bs cs)) (cost_behind (suc k) p l (sides bs cs))
    go (suc a) e =
        rw e
        (by_one_turned
        (cost (suc k) (next_row (row p l bs)) (row (suc a) 0 (rest cs)))
        (cost (suc k) (next_row (row p l bs)) (row a 0 (rest cs)))
        (open_more (suc k) (next_row (row p l bs)) a (rest cs)
        (closed_more k (row (suc a) 0 (rest cs)) (rw e at hc))))
    go zero e =
        rw (e, next_open_suc p (first bs))
        (up
        (split_open k (next_open p (first bs)) (next_left p l) (0 ∷ rest bs) (0 ∷ rest cs) refl refl
        ∙ ap suc (sym (cost_closed k (next_row (row p l bs)) (row 0 0 (rest cs)) hb (rw e at hc)))))

-- Such a rule at an index, counted from a caret with (q, m) in the a row: q + m trees are in front.
module _ (g : Rule) (changes : Changes g) where
  pub at_changes : (k p l q m : ℕ) (bs cs : List ℕ)
      → Closed k (row p l bs) → Closed k (row q (suc m) cs) → Closed k (row q (suc (suc m)) cs)
      → ByOne (cost_at (suc k) p l q (suc m) (at_tree (q + m) g bs cs)) (cost_at (suc k) p l q (suc m) (sides bs cs))
  at_changes zero p l q m bs cs hb hc hm = absurd (omega arith)
  at_changes (suc k) p l zero zero bs cs hb hc hm =
      rw (at_zero g bs cs, over_left p l (first (g bs cs).b) (first bs) (cost_behind (suc k) p l (g bs cs)))
      (fixed_by_one (label_by p l (first bs)) 'L
      (cost_behind (suc k) p l (g bs cs))
      (cost_behind (suc k) p l (sides bs cs))
      (fixed_left (label_by p l (first bs)))
      (changes k p l bs cs hb hc hm))
  at_changes (suc k) p l zero (suc m) bs cs hb hc hm =
      rw (zero-add (suc m), at_next g m (first cs + m) bs cs (omega arith))
      (fixed_by_one (label_by p l (first bs)) 'L
      (cost_at (suc k) (next_open p (first bs)) (next_left p l) (first cs) (suc m)
      (at_tree (first cs + m) g (rest bs) (rest cs)))
      (cost_at (suc k) (next_open p (first bs)) (next_left p l) (first cs) (suc m) (sides (rest bs) (rest cs)))
      (fixed_left (label_by p l (first bs)))
      (at_changes k (next_open p (first bs)) (next_left p l) (first cs) m (rest bs) (rest cs) hb hc hm))
  at_changes (suc k) p l (suc q) m bs cs hb hc hm =
      rw (suc-add q m, at_next g (q + m) (first cs + q + m) bs cs (omega arith))
      (fixed_by_one (label_by p l (first bs)) (inside_label (first cs))
      (cost_at (suc k) (next_open p (first bs)) (next_left p l) (first cs + q) (suc m)
      (at_tree (first cs + q + m) g (rest bs) (rest cs)))
      (cost_at (suc k) (next_open p (first bs)) (next_left p l) (first cs + q) (suc m) (sides (rest bs) (rest cs)))
      (fixed_inside (label_by p l (first bs)) (first cs))
      (at_changes k (next_open p (first bs)) (next_left p l) (first cs + q) m (rest bs) (rest cs) hb hc hm))
