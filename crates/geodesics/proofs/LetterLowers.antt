-- Unless the sum of Table 1 over enough columns is 0, some letter put behind two lists of exponents lowers it by one
-- (000, lemma 3.1, property 4).
--     Lower k f   the sum is 0, or a letter that lowers it
-- Assumes nothing.
use mathlib.Core.Path.{◌≡◌, refl, sym, ◌∙◌, ap}
use mathlib.Core.List.{List, ◌∷◌}
use mathlib.Core.Logic.{◌⊎◌, inl, inr}
use Prim.Native.Nat.{ℕ, zero, suc, ◌+◌}
use native.Mathlib.Nat.{add_comm}
use Rattle.group.specs.Letters.{Letter, 'a, 'A, 'b, 'B}
use Rattle.geodesics.specs.Rows.{first, rest, row, from_one}
use Rattle.geodesics.specs.inside.Costs.{cost}
use Rattle.geodesics.proofs.Rows.{closed_more}
use Rattle.geodesics.proofs.Splits.{reduce_left, reduce_open}
use Rattle.geodesics.proofs.Choices.{choose_right, choose_inside, choose_open}
use Rattle.geodesics.proofs.Sides.{
  Sides,
  sides,
  level_on,
  put_inverse_by,
  put_inverse,
  put_x0,
  at_tree,
  at_zero,
  at_suc,
  put_letter,
  sum_to,
}
use Rattle.geodesics.proofs.Lowered.{by_A, by_a, by_b, by_B, Lowers, left_lowers}
use Rattle.geodesics.proofs.LetterChanges.{Fits}

-- The sum is 0, or a letter that lowers it.
pub data Lower (k : ℕ) (f : Sides) : Type 0 where
  none : sum_to (suc k) f ≡ 0 → Lower k f
  by : (x : Letter) → sum_to (suc k) f ≡ suc (sum_to (suc k) (put_letter f x)) → Lower k f

-- x_0⁻¹ put behind: where a_0 is 0 and no reducing step opens it becomes 1, else the step is taken.
one_by_b : (b e g : ℕ) (bs cs : List ℕ) → put_inverse_by 0 b (suc e) g bs cs ≡ sides bs (1 ∷ rest cs)
one_by_b zero e g bs cs = refl
one_by_b (suc b) e g bs cs = refl

one_by_a : (b e g : ℕ) (bs cs : List ℕ) → put_inverse_by 0 b e (suc g) bs cs ≡ sides bs (1 ∷ rest cs)
one_by_a zero e g bs cs = refl
one_by_a (suc b) zero g bs cs = refl
one_by_a (suc b) (suc e) g bs cs = refl

inverse_by_b : (e : ℕ) (bs cs : List ℕ) → first cs ≡ 0 → first (rest bs) ≡ suc e
    → put_inverse bs cs ≡ sides bs (1 ∷ rest cs)
inverse_by_b e bs cs h0 h1 = rw (h0, h1) (one_by_b (first bs) e (first (rest cs)) bs cs)

inverse_by_a : (g : ℕ) (bs cs : List ℕ) → first cs ≡ 0 → first (rest cs) ≡ suc g
    → put_inverse bs cs ≡ sides bs (1 ∷ rest cs)
inverse_by_a g bs cs h0 h1 = rw (h0, h1) (one_by_a (first bs) (first (rest bs)) g bs cs)

inverse_none : (bs cs : List ℕ) → first cs ≡ 0 → first bs ≡ 0 → put_inverse bs cs ≡ sides bs (1 ∷ rest cs)
inverse_none bs cs h0 h1 = rw (h0, h1)

inverse_step : (b : ℕ) (bs cs : List ℕ) → first cs ≡ 0 → first bs ≡ suc b → first (rest bs) ≡ 0 → first (rest cs) ≡ 0
    → put_inverse bs cs ≡ sides (b ∷ rest (rest bs)) (0 ∷ rest (rest cs))
inverse_step b bs cs h0 h1 h2 h3 = rw (h0, h1, h2, h3)

-- B and b put behind where a_0 is 0.
second_inverse : (f t : Sides) → first f.a ≡ 0 → put_inverse (rest f.b) (rest f.a) ≡ t
    → put_letter f 'B ≡ level_on (first f.b) 0 t
second_inverse f t h e =
    rw (h, at_zero put_inverse (rest f.b) (rest f.a)) (ap (level_on (first f.b) 0) e)

second_x0 : (f : Sides) (a : ℕ) → first f.a ≡ 0 → first (rest f.a) ≡ suc a
    → put_letter f 'b ≡ level_on (first f.b) 0 (sides (rest f.b) (a ∷ rest (rest f.a)))
second_x0 f a h e = rw (h, at_zero put_x0 (rest f.b) (rest f.a), e)

module _ (k : ℕ) (f : Sides) (h : Fits k f) where
  -- A letter with a known product.
  known : (g : Sides) (x : Letter) → put_letter f x ≡ g → sum_to (suc k) f ≡ suc (sum_to (suc k) g) → Lower k f
  known g x e p = by x (p ∙ ap suc (ap (sum_to (suc k)) (sym e)))

  -- The lists behind the first two levels.
  abbrev bs : List ℕ
  bs = rest (rest f.b)

  abbrev cs : List ℕ
  cs = rest (rest f.a)

  -- a_0 is 0 and a_1 above 0.
  by_open : (a : ℕ) → first f.a ≡ 0 → first (rest f.a) ≡ suc a
      → (cost (suc k) (from_one f.b) (row (suc a) 0 cs) ≡ suc (cost (suc k) (from_one f.b) (row a 0 cs)))
      ⊎ (cost (suc k) (from_one f.b) (row (suc a) 0 cs) ≡ suc (cost (suc k) (from_one f.b) (row (suc a) 1 cs)))
      → Lower k f
  by_open a h0 ha (inl p) =
      known (level_on (first f.b) 0 (sides (rest f.b) (a ∷ cs))) 'b (second_x0 f a h0 ha) (rw (h0, ha) p)
  by_open a h0 ha (inr p) =
      known (sides f.b (1 ∷ rest f.a)) 'A (inverse_by_a a f.b f.a h0 ha) (rw (h0, ha) p)

  -- a_0 and a_1 are 0 and b_1 is above 0.
  by_inside : (b : ℕ) → first f.a ≡ 0 → first (rest f.a) ≡ 0 → first (rest f.b) ≡ suc b
      → (cost (suc k) (row (suc b) (first f.b) bs) (row 0 0 cs)
      ≡ suc (cost (suc k) (row (suc b) (first f.b) bs) (row 0 1 cs)))
      ⊎ ((first bs ≡ 0) × (first cs ≡ 0))
      → Lower k f
  by_inside b h0 ha hb (inl p) =
      known (sides f.b (1 ∷ rest f.a)) 'A (inverse_by_b b f.b f.a h0 hb) (rw (h0, ha, hb) p)
  by_inside b h0 ha hb (inr p) =
      known (level_on (first f.b) 0 (sides (b ∷ rest bs) (0 ∷ rest cs))) 'B
      (second_inverse f (sides (b ∷ rest bs) (0 ∷ rest cs)) h0
      (inverse_step b (rest f.b) (rest f.a) ha hb p.0 p.1))
      (rw (h0, ha, hb)
      (reduce_open k b (first f.b) bs cs (rw hb at h.b_row) (rw (h0, ha) at h.a_row) p.0 p.1))

  -- These three and b_0 are 0.
  by_right : first f.a ≡ 0 → first (rest f.a) ≡ 0 → first (rest f.b) ≡ 0 → first f.b ≡ 0
      → (cost (suc k) (row 0 0 bs) (row 0 0 cs) ≡ 0)
      ⊎ (cost (suc k) (row 0 0 bs) (row 0 0 cs) ≡ suc (cost (suc k) (row 0 0 bs) (row 0 1 cs)))
      → Lower k f
  by_right h0 ha hb hl (inl p) = none (rw (h0, ha, hb, hl) p)
  by_right h0 ha hb hl (inr p) =
      known (sides f.b (1 ∷ rest f.a)) 'A (inverse_none f.b f.a h0 hl) (rw (h0, ha, hb, hl) p)

  -- a_0 is 0.
  at_first : (a b l : ℕ) → first f.a ≡ 0 → first (rest f.a) ≡ a → first (rest f.b) ≡ b → first f.b ≡ l
      → Lower k f
  at_first (suc a) b l h0 ha hb hl =
      by_open a h0 ha
      (choose_open (suc k) (from_one f.b) a cs (closed_more k (row (suc a) 1 cs) (rw (h0, ha) at h.a_more)))
  at_first zero (suc b) l h0 ha hb hl = by_inside b h0 ha hb (choose_inside k b (first f.b) bs cs)
  at_first zero zero (suc l) h0 ha hb hl =
      known (sides (l ∷ bs) (0 ∷ cs)) 'A (inverse_step l f.b f.a h0 hl hb ha)
      (rw (h0, ha, hb, hl) (reduce_left k l bs cs (rw (hl, hb) at h.b_row) (rw (h0, ha) at h.a_row)))
  at_first zero zero zero h0 ha hb hl = by_right h0 ha hb hl (choose_right (suc k) bs cs)

  -- a_0 is above 0.
  at_left : (m : ℕ) → first f.a ≡ suc m
      → Lowers (suc k) (first (rest f.b)) (first f.b) (first (rest f.a)) m bs cs
      (at_tree (first (rest f.a) + m) put_x0 bs cs)
      (at_tree (first (rest f.a) + m) put_inverse bs cs)
      → Lower k f
  at_left m e (by_A p) = by 'A (rw e p)
  at_left m e (by_a p) = by 'a (rw e p)
  at_left m e (by_b p) =
      by 'b (rw (e, at_suc put_x0 m (rest f.b) (rest f.a), add_comm m (first (rest f.a))) p)
  at_left m e (by_B p) =
      by 'B (rw (e, at_suc put_inverse m (rest f.b) (rest f.a), add_comm m (first (rest f.a))) p)

  -- By a_0.
  pub letter_lowers : Lower k f
  letter_lowers = go (first f.a) refl
    where
      go : (a : ℕ) → first f.a ≡ a → Lower k f
      go (suc m) e =
          at_left m e
          (left_lowers k (first (rest f.b)) (first f.b) (first (rest f.a)) m bs cs h.b_row
          (rw e at h.a_row) (rw e at h.a_more))
      go zero e = at_first (first (rest f.a)) (first (rest f.b)) (first f.b) e refl refl refl
