-- The read-off: the stack holds the bushes behind the first i tips, and the first i entries of the tables are what
-- these tips stand for. Assumes nothing.
use mathlib.Core.Path.{◌≡◌, refl, sym, ◌∙◌, subst, ap}
use mathlib.Core.List.{List, [], ◌∷◌}
use Prim.Native.Nat.{ℕ, zero, suc, ◌+◌, ◌-◌, ◌≤◌, ◌<◌}
use native.Mathlib.Numerals.{add-one}
use native.Mathlib.Omega.{arith}
use lib.ListN.{set, length, length-set}
use Rattle.lists.specs.Tables.{filled}
use Rattle.lists.proofs.Tables.{filled_none, filled_more}
use Rattle.group.specs.Forms.{Side, b_side, a_side}
use Rattle.forest.specs.inside.Filling.{cells_for}
use Rattle.forest.specs.inside.Forest.{Bush, first_bush, later_bushes, forest_behind, bushes_from, tip_at, forest_tips}
use Rattle.forest.specs.inside.Cells.{StackStands, Popped}
use Rattle.forest.specs.inside.Leaves.{Standing, TipRead, ZerosPut, TipsReady, TablesRead}
use Rattle.forest.proofs.Counting.{from_tips}
use Rattle.forest.proofs.Stored.{stack_height, stack_none}

-- Behind the last bush there are none.
none_behind : (k i j : ℕ) (ts : List Bush) → j ≡ k + i → bushes_from i ts ≡ [] → bushes_from j ts ≡ []
none_behind zero i j ts e h = let g : i ≡ j = omega arith in subst (λ (n : ℕ). bushes_from n ts ≡ []) g h
none_behind (suc k) i zero ts e h = absurd (omega arith)
none_behind (suc k) i (suc j) ts e h = ap forest_behind (none_behind k i j ts (omega arith) h)

-- Tips that are not stored stand for zeros.
none_zero : (s : Side) → tip_at s [] 0 ≡ 0
none_zero b_side = refl
none_zero a_side = refl

-- The first bush was taken from a stack that is not empty: what `descend` asks.
pub popped_standing : {last : ℕ} {lefts rights stack : List ℕ} {height : ℕ} (ts : List Bush) (bush height' : ℕ)
    → cells_for last ≤ length lefts → cells_for last ≤ length rights
    → StackStands last lefts rights (cells_for last) ts stack height
    → forest_tips ts ≤ length stack → (height ≡ 0 → ⊥) → Popped stack height bush height'
    → Standing last lefts rights stack bush height'
popped_standing [] bush height' el er s few some p = absurd (some s)
popped_standing {last} {lefts} {rights} (t ∷ ts) bush height' el er s few some p =
    let q = p last lefts rights (cells_for last) (t ∷ ts) s in
    record {
      lefts_length = el;
      rights_length = er;
      bush = t;
      behind = ts;
      stands = q.0;
      stack_stands = q.1;
      few = few;
    }

-- The loop at its test, of any bushes that the stack stood for.
pub record Reading (last : ℕ) (lefts rights stack₀ : List ℕ) (low : ℕ) (b₀ a₀ : List ℕ) (end : ℕ) (stack b a : List ℕ)
    (height i : ℕ) : Type 0 where
  pub asked : TipsReady last lefts rights stack₀ low b₀ a₀ end
  pub here : i ≤ end
  pub stack_same : length stack ≡ length stack₀
  pub b_same : length b ≡ length b₀
  pub a_same : length a ≡ length a₀
  pub takes : (ts : List Bush) → StackStands last lefts rights (cells_for last) ts stack₀ low
      → (b ≡ filled i (tip_at b_side ts) b₀)
      × (a ≡ filled i (tip_at a_side ts) a₀)
      × StackStands last lefts rights (cells_for last) (bushes_from i ts) stack height

-- At the start nothing is read.
pub reading_starts : {last : ℕ} {lefts rights stack : List ℕ} {low : ℕ} {b a : List ℕ} {end : ℕ}
    → TipsReady last lefts rights stack low b a end → Reading last lefts rights stack low b a end stack b a low 0
reading_starts {last} {lefts} {rights} {stack} {low} {b} {a} asked = record {
  asked = asked;
  here = omega arith;
  stack_same = refl;
  b_same = refl;
  a_same = refl;
  takes = λ ts s. (filled_none (tip_at b_side ts) b, filled_none (tip_at a_side ts) a, s);
}

module _ {last : ℕ} {lefts rights stack₀ : List ℕ} {low : ℕ} {b₀ a₀ : List ℕ} {end : ℕ} {stack b a : List ℕ}
    {height i : ℕ}
    (w : Reading last lefts rights stack₀ low b₀ a₀ end stack b a height i) where
  -- The bushes that are left, and their tips.
  abbrev left : List Bush
  left = bushes_from i w.asked.bushes

  stands : StackStands last lefts rights (cells_for last) left stack height
  stands = (w.takes w.asked.bushes w.asked.stack_stands).2

  few : forest_tips left ≤ length stack
  few = omega (arith, from_tips i w.asked.bushes, w.asked.few, w.stack_same)

  -- What a turn asks, and what it makes.
  pub reading_height : height ≤ length stack
  reading_height = omega (arith, stack_height last lefts rights (cells_for last) left stack height stands, few)

  pub reading_standing : (bush height' : ℕ) → (height ≡ 0 → ⊥) → Popped stack height bush height'
      → Standing last lefts rights stack bush height'
  reading_standing bush height' some p =
      popped_standing left bush height' w.asked.lefts_length w.asked.rights_length stands few some p

  pub reading_more : (bush height' : ℕ) (stack' : List ℕ) (edges exponent height'' : ℕ) → i < end
      → length stack' ≡ length stack → Popped stack height bush height'
      → TipRead last lefts rights stack bush height' stack' edges exponent height''
      → Reading last lefts rights stack₀ low b₀ a₀ end stack' (set b i edges) (set a i exponent) height'' (i + 1)
  reading_more bush height' stack' edges exponent height'' l k p d = record {
    asked = w.asked;
    here = omega arith;
    stack_same = k ∙ w.stack_same;
    b_same = length-set b i edges ∙ w.b_same;
    a_same = length-set a i exponent ∙ w.a_same;
    takes = λ ts s.
        let v = w.takes ts s in
        let us = bushes_from i ts in
        let q = p last lefts rights (cells_for last) us v.2 in
        let r = d (first_bush us) (later_bushes us) q.0 q.1 in (
          filled_more i (tip_at b_side ts) b₀ b edges (omega (arith, w.asked.b_long)) v.0 r.0,
          filled_more i (tip_at a_side ts) a₀ a exponent (omega (arith, w.asked.a_long)) v.1 r.1,
          subst (λ (j : ℕ). StackStands last lefts rights (cells_for last) (bushes_from j ts) stack' height'')
              (sym (add-one i)) r.2,
        );
  }

  -- The stack is empty: only tips of exponent 0 are left, and zeros were put for them.
  pub reading_empty : {b' a' : List ℕ} → height ≡ 0 → ZerosPut b i end b' → ZerosPut a i end a'
      → TablesRead last lefts rights stack₀ low b₀ a₀ end stack b' a' i height
  reading_empty {b'} {a'} e y z = record {
    within = w.here;
    takes = λ ts s.
        let v = w.takes ts s in
        let none = stack_none last lefts rights (cells_for last) (bushes_from i ts) stack height e v.2 in
        let from : (j : ℕ) → i ≤ j → bushes_from j ts ≡ [] = λ j h. none_behind (j - i) i j ts (omega arith) none in
        let zeros : (x : Side) (j : ℕ) → i ≤ j → tip_at x ts j ≡ 0 =
        λ x j h. ap (λ (us : List Bush). tip_at x us 0) (from j h) ∙ none_zero x in (
          y (tip_at b_side ts) b₀ w.asked.b_long (zeros b_side) v.0,
          z (tip_at a_side ts) a₀ w.asked.a_long (zeros a_side) v.1,
          subst (λ (us : List Bush). StackStands last lefts rights (cells_for last) us stack height)
              (sym (from end w.here)) e,
          λ x j h l. zeros x j h,
        );
  }
