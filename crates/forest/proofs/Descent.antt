-- The walk down the left edges of a bush: at each turn a bush is held whose first tip, and the bushes behind it, are
-- those of the whole. Assumes nothing.
use mathlib.Core.Path.{◌≡◌, refl, sym, ◌∙◌, subst, ap}
use mathlib.Core.List.{List}
use Prim.Native.Nat.{ℕ, ◌+◌, ◌-◌, ◌≤◌, ◌<◌}
use native.Mathlib.Omega.{arith}
use lib.ListN.{get_or, length}
use Rattle.forest.specs.inside.Filling.{cells_for}
use Rattle.forest.specs.inside.Forest.{Bush, tip, fork, put_bush, tip_edges, tip_exponent, bushes_behind}
use Rattle.forest.specs.inside.Forest.{tips, forest_tips}
use Rattle.forest.specs.inside.Cells.{Stands, StackStands, Pushed}
use Rattle.forest.specs.inside.Leaves.{DownLeft, Walked, Walking, StemPassed, Standing, TipRead}
use Rattle.forest.proofs.Irreducible.{put_tips}
use Rattle.forest.proofs.Counting.{tips_some}
use Rattle.forest.proofs.Stored.{stands_below, stands_more, stack_height, push_none}

-- At the start nothing is passed.
pub walk_starts : (last : ℕ) (lefts rights : List ℕ) (whole height : ℕ)
    → StemPassed last lefts rights whole height whole
walk_starts last lefts rights whole height stack = record {
  same = refl;
  falls = omega arith;
  walked = λ t ts p s. record {
    bush = t;
    behind = ts;
    stands = p;
    stack_stands = s;
    below = record { to_edges = omega arith; to_exponent = refl; to_behind = refl; to_tips = omega arith };
  };
}

pub standing_below : {last : ℕ} {lefts rights stack : List ℕ} {code height : ℕ}
    → Standing last lefts rights stack code height
    → code < (cells_for last)
standing_below {last} {lefts} {rights} {stack} {code} s =
    stands_below last lefts rights (cells_for last) s.bush code (omega arith) s.stands

-- What a turn asks: the code is a cell, a stack of `most` entries has room, and the next code is lower.
pub record Turn (last most : ℕ) (lefts : List ℕ) (code height : ℕ) : Type 0 where
  pub code_high : code < (cells_for last)
  pub height_high : height < most
  pub lower : get_or lefts code 0 < code

turn : (last most : ℕ) (lefts rights stack : List ℕ) (code height : ℕ) (t : Bush) (ts : List Bush) → last < code
    → Stands last lefts rights (cells_for last) t code → StackStands last lefts rights (cells_for last) ts stack height
    → tips t + forest_tips ts ≤ most → Turn last most lefts code height
turn last most lefts rights stack code height (tip n) ts p h s q = absurd (omega (arith, h.0, h.1))
turn last most lefts rights stack code height (fork x y) ts p h s q = record {
  code_high = h.1;
  height_high =
      omega (arith, stack_height last lefts rights (cells_for last) ts stack height s, tips_some x, tips_some y);
  lower = stands_below last lefts rights code x (get_or lefts code 0) p h.2;
}

module _ {last : ℕ} {lefts rights stack₀ : List ℕ} {whole low : ℕ} {stack : List ℕ} {code edges height : ℕ}
    (w : Walking last lefts rights stack₀ whole low stack code edges height) where
  -- From a fork to its left part; k is the code as an index.
  down : {stack' : List ℕ} {height' : ℕ} (t : Bush) (ts : List Bush) (u : Bush) (us : List Bush) (k : ℕ) → k ≡ code
      → last < code → Pushed stack height (get_or rights k 0) stack' height'
      → Stands last lefts rights (cells_for last) u code
      → StackStands last lefts rights (cells_for last) us stack height → DownLeft t ts u us edges
      → Walked last lefts rights t ts stack' (get_or lefts k 0) (edges + 1) height'
  down t ts (tip n) us k e p q h s b = absurd (omega (arith, h.0, h.1))
  down t ts (fork x y) us k e p q h s b = record {
    bush = x;
    behind = put_bush y us;
    stands =
        stands_more last lefts rights code (cells_for last) x (get_or lefts k 0) (omega (arith, h.1))
        (subst (λ (j : ℕ). Stands last lefts rights code x (get_or lefts j 0)) (sym e) h.2);
    stack_stands =
        q.puts last lefts rights (cells_for last) y us
        (stands_more last lefts rights code (cells_for last) y (get_or rights k 0) (omega (arith, h.1))
        (subst (λ (j : ℕ). Stands last lefts rights code y (get_or rights j 0)) (sym e) h.3))
        s;
    below = record {
      to_edges = omega (arith, b.to_edges);
      to_exponent = b.to_exponent;
      to_behind = b.to_behind;
      to_tips = omega (arith, b.to_tips, put_tips y us);
    };
  }

  at_tip : (t : Bush) (ts : List Bush) (u : Bush) (us : List Bush) → code ≤ last
      → Stands last lefts rights (cells_for last) u code
      → StackStands last lefts rights (cells_for last) us stack height → DownLeft t ts u us edges
      → (edges ≡ tip_edges t)
      × (code ≡ tip_exponent t)
      × StackStands last lefts rights (cells_for last) (bushes_behind t ts) stack height
  at_tip t ts (tip n) us p h s b = (
    omega (arith, b.to_edges),
    h.0 ∙ b.to_exponent,
    subst (λ (l : List Bush). StackStands last lefts rights (cells_for last) l stack height) b.to_behind s,
  )
  at_tip t ts (fork x y) us p h s b = absurd (omega (arith, h.0))

  pub walk_turn : Standing last lefts rights stack₀ whole low → last < code
      → Turn last (length stack₀) lefts code height
  walk_turn s p =
      let v = w.walked s.bush s.behind s.stands s.stack_stands in
      turn last (length stack₀) lefts rights stack code height v.bush v.behind p v.stands v.stack_stands
      (omega (arith, v.below.to_tips, s.few))

  pub walk_more : {stack' : List ℕ} {height' : ℕ} (k : ℕ) → k ≡ code → last < code → get_or lefts code 0 < code
      → length stack' ≡ length stack → Pushed stack height (get_or rights k 0) stack' height'
      → Walking last lefts rights stack₀ whole low stack' (get_or lefts k 0) (edges + 1) height'
  walk_more k e p r l q = record {
    same = l ∙ w.same;
    falls =
        let g : get_or lefts k 0 ≡ get_or lefts code 0 = ap (λ (j : ℕ). get_or lefts j 0) e in
        omega (arith, w.falls);
    walked = λ t ts g s.
        let v = w.walked t ts g s in
        down t ts v.bush v.behind k e p q v.stands v.stack_stands v.below;
  }

  pub walk_ends : code ≤ last → TipRead last lefts rights stack₀ whole low stack edges code height
  walk_ends p t ts g s =
      let v = w.walked t ts g s in
      at_tip t ts v.bush v.behind p v.stands v.stack_stands v.below

-- Down one cell of a stem, with no bush behind it.
pub walk_stem : {last : ℕ} {lefts rights : List ℕ} {whole height code : ℕ}
    → StemPassed last lefts rights whole height code
    → (k : ℕ) → k ≡ code → last < code → height ≡ 0 → get_or rights k 0 ≡ 0 → get_or lefts k 0 ≡ code - 1
    → StemPassed last lefts rights whole height (code - 1)
walk_stem {last} {lefts} {rights} {whole} {height} {code} w k e p empty zero next stack =
    let g : get_or lefts k 0 ≡ get_or lefts code 0 = ap (λ (j : ℕ). get_or lefts j 0) e in
    let more : (whole - code) + 1 ≡ whole - (code - 1) = omega (arith, (w stack).falls) in
    let pushed = push_none stack height (get_or rights k 0) empty zero in
    subst (λ (j : ℕ). Walking last lefts rights stack whole height stack j (whole - (code - 1)) height) next
    (subst (λ (j : ℕ). Walking last lefts rights stack whole height stack (get_or lefts k 0) j height) more
    (walk_more (w stack) k e p (omega arith) refl
    (subst (Pushed stack height (get_or rights k 0) stack) (sym empty) pushed)))
