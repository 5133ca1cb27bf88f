-- A power at the cursor, turn by turn: what is left to do gives the whole. Assumes nothing.
use mathlib.Core.Path.{◌≡◌, refl, sym, ◌∙◌, ap, subst}
use mathlib.Core.List.{List}
use Prim.Native.Nat.{ℕ, zero, suc, ◌+◌, ◌≤◌, ◌<◌}
use native.Mathlib.Omega.{arith}
use lib.ListN.{length}
use Rattle.group.specs.Forms.{Side, b_side, a_side}
use Rattle.group.specs.inside.PowerLists.{side_of}
use Rattle.group.specs.Limits.{limit}
use Rattle.forest.specs.declared.powers.Hand.{Hand}
use Rattle.forest.specs.inside.Filling.{cells}
use Rattle.forest.specs.inside.Forest.{Bush, first_bush, later_bushes}
use Rattle.forest.specs.inside.Cells.{Stands, StackStands, Popped, Pushed, Made}
use Rattle.forest.specs.inside.Cursor.{next_bush, next_rest, power_from, power_on}
use Rattle.forest.specs.inside.Seeking.{Raises, TurnReady, Turned, PowerRoom, PowerPut}
use Rattle.forest.proofs.Stored.{stands_below}
use Rattle.forest.proofs.Moving.{stack_keeps}
use Rattle.forest.proofs.Seeking.{popped_low}

-- The bush in hand joined with the next, and parted.
pub joined_turn : {lefts rights stack : List ℕ} {hand : Hand} {q h : ℕ} {lefts' rights' : List ℕ} {used bush : ℕ}
    → Popped stack hand.height q h → Made limit lefts rights hand.used hand.bush q lefts' rights' used bush
    → Turned b_side lefts rights stack hand lefts' rights' stack (record { used = used; height = h; bush = bush })
joined_turn {lefts} {rights} {stack} {hand} {q} {h} {lefts'} {rights'} {used} p m = record {
  low = m.low;
  high = m.high;
  keeps = m.keeps;
  turns = λ t ts r x y.
      let o = p limit lefts rights hand.used ts y in (
        m.makes t (first_bush ts) x o.0,
        stack_keeps limit lefts rights lefts' rights' hand.used used m.keeps (later_bushes ts) stack h o.1,
        omega (arith, popped_low lefts rights hand.used ts p y),
      );
}

-- The side that a turn goes by.
pub turned_b : (n : ℕ) {lefts rights stack : List ℕ} {hand : Hand} {lefts' rights' stack' : List ℕ} {hand' : Hand}
    → n ≡ 0 → Turned b_side lefts rights stack hand lefts' rights' stack' hand'
    → Turned (side_of n) lefts rights stack hand lefts' rights' stack' hand'
turned_b zero e m = m
turned_b (suc n) e m = absurd (omega arith)

-- What may be parted more than once may be parted now, and its left part later.
raises_first : (s : Side) (n : ℕ) (t : Bush) → Raises s (suc n) t → Raises s 1 t
raises_first b_side n t r = tt
raises_first a_side n t r = (r.0, tt)

raises_next : (s : Side) (n : ℕ) (t : Bush) (ts : List Bush) → Raises s (suc n) t → Raises s n (next_bush s t ts)
raises_next b_side n t ts r = tt
raises_next a_side n t ts r = r.1

-- The bush in hand and the bushes behind it: `left` turns more give the whole.
pub record Rest (s : Side) (lefts rights stack : List ℕ) (hand : Hand) (whole : List Bush) (left : ℕ) : Type 0 where
  pub bush : Bush
  pub us : List Bush
  pub raises : Raises s left bush
  pub stands : Stands limit lefts rights hand.used bush hand.bush
  pub behind : StackStands limit lefts rights hand.used us stack hand.height
  pub same : power_from s left bush us ≡ whole

-- Amid a power.
pub record Turning (s : Side) (lefts₀ rights₀ stack₀ : List ℕ) (used height e : ℕ) (lefts rights stack : List ℕ)
    (hand : Hand) (left : ℕ) : Type 0 where
  pub asked : PowerRoom s lefts₀ rights₀ stack₀ used height e
  pub lefts_same : length lefts ≡ length lefts₀
  pub rights_same : length rights ≡ length rights₀
  pub stack_same : length stack ≡ length stack₀
  pub low : used ≤ hand.used
  pub high : hand.used + left ≤ used + e
  pub deep : hand.height + left ≤ height + e
  pub keeps : (x : Bush) (code : ℕ) → Stands limit lefts₀ rights₀ used x code
      → Stands limit lefts rights hand.used x code
  pub rest : (ts : List Bush) → Raises s e (first_bush ts) → StackStands limit lefts₀ rights₀ used ts stack₀ height
      → Rest s lefts rights stack hand (power_on s e ts) left

pub turning_starts : {s : Side} {lefts rights stack : List ℕ} {used height e t h : ℕ}
    → PowerRoom s lefts rights stack used height e → Popped stack height t h
    → Turning s lefts rights stack used height e lefts rights stack (record { used = used; height = h; bush = t }) e
turning_starts {s} {lefts} {rights} {stack} {used} {height} {e} {t} {h} a p = record {
  asked = a;
  lefts_same = refl;
  rights_same = refl;
  stack_same = refl;
  low = omega arith;
  high = omega arith;
  deep = omega (arith, popped_low lefts rights used a.ts p a.stood);
  keeps = λ x code z. z;
  rest = λ ts r z.
      let q = p limit lefts rights used ts z in
      record {
        bush = first_bush ts;
        us = later_bushes ts;
        raises = r;
        stands = q.0;
        behind = q.1;
        same = refl;
      };
}

module _ {s : Side} {lefts₀ rights₀ stack₀ : List ℕ} {used height e : ℕ} {lefts rights stack : List ℕ} {hand : Hand}
    {left : ℕ} (g : Turning s lefts₀ rights₀ stack₀ used height e lefts rights stack hand left) where
  now : Rest s lefts rights stack hand (power_on s e g.asked.ts) left
  now = g.rest g.asked.ts g.asked.raises g.asked.stood

  -- What the callees are asked.
  pub turning_height : hand.height < length stack
  turning_height = omega (arith, g.deep, g.asked.deep, g.stack_same)

  pub turning_ready : 0 < left → TurnReady lefts rights stack hand
  turning_ready l =
      let a = g.asked in
      let used_low : limit < hand.used = omega (arith, g.low, a.used_low) in
      let used_high : hand.used < cells = omega (arith, g.high, a.used_high) in
      record {
        lefts_length = g.lefts_same ∙ a.lefts_length;
        rights_length = g.rights_same ∙ a.rights_length;
        used_low = used_low;
        used_high = used_high;
        height_high = turning_height;
        bush_high =
            omega (
              arith,
              stands_below limit lefts rights hand.used now.bush hand.bush used_low now.stands,
              used_high,
            );
      }

  pub turning_more : (n : ℕ) → left ≡ n + 1 → {lefts' rights' stack' : List ℕ} {hand' : Hand}
      → length lefts' ≡ length lefts → length rights' ≡ length rights → length stack' ≡ length stack
      → Turned s lefts rights stack hand lefts' rights' stack' hand'
      → Turning s lefts₀ rights₀ stack₀ used height e lefts' rights' stack' hand' n
  turning_more n d {lefts'} {rights'} {stack'} {hand'} el er es m =
      let f : left ≡ suc n = omega arith in
      let first : (b : Bush) → Raises s left b → Raises s 1 b =
      λ b r. raises_first s n b (subst (λ (i : ℕ). Raises s i b) f r) in
      record {
        asked = g.asked;
        lefts_same = el ∙ g.lefts_same;
        rights_same = er ∙ g.rights_same;
        stack_same = es ∙ g.stack_same;
        low = omega (arith, g.low, m.low);
        high = omega (arith, g.high, m.high);
        deep = omega (
          arith,
          g.deep,
          (m.turns now.bush now.us (first now.bush now.raises) now.stands now.behind).2,
        );
        keeps = λ x code z. m.keeps x code (g.keeps x code z);
        rest = λ ts r z.
            let v = g.rest ts r z in
            let o = m.turns v.bush v.us (first v.bush v.raises) v.stands v.behind in
            record {
              bush = next_bush s v.bush v.us;
              us = next_rest s v.bush v.us;
              raises = raises_next s n v.bush v.us (subst (λ (i : ℕ). Raises s i v.bush) f v.raises);
              stands = o.0;
              behind = o.1;
              same = ap (λ (i : ℕ). power_from s i v.bush v.us) (sym f) ∙ v.same;
            };
      }

  pub turning_ends : left ≡ 0 → {stack' : List ℕ} {top : ℕ} → Pushed stack hand.height hand.bush stack' top
      → PowerPut s lefts₀ rights₀ stack₀ used height e lefts rights stack' hand.used top
  turning_ends d {stack'} {top} p = record {
    low = g.low;
    high = omega (arith, g.high);
    keeps = g.keeps;
    puts = λ ts r z.
        let v = g.rest ts r z in
        subst (λ (us : List Bush). StackStands limit lefts rights hand.used us stack' top)
        (ap (λ (i : ℕ). power_from s i v.bush v.us) (sym d) ∙ v.same)
        (p.puts limit lefts rights hand.used v.bush v.us v.stands v.behind);
  }
