-- Along a walk over the numbers from a node on: each step inside a number takes it further.
--     Along xs from w    the walk from a node on has come to w         along_more    a step more
-- Assumes nothing.
use mathlib.Core.Path.{◌≡◌, sym, ap, subst, ◌∙◌}
use mathlib.Core.List.{List, ◌++◌}
use Prim.Native.Nat.{ℕ, ◌+◌, ◌-◌, ◌/◌, ◌%◌, ◌^◌, ◌<◌, ◌≤◌}
use native.Mathlib.Omega.{arith}
use lib.ListN.{take, drop, get_or}
use lib.Seq.{take-add, drop-drop}
use Rattle.bitrows.specs.declared.walk.Walk.{Walk}
use Rattle.bitrows.specs.Numbers.{bits_of, nodes_in}
use Rattle.bitrows.specs.inside.Walking.{Leaves, Reach, walk_end_value}
use Rattle.bitrows.proofs.Leaving.{leaves-append, nodes_part}

-- The walk has come to w.
pub record Along (xs : List ℕ) (from end : ℕ) (w : Walk) : Type 0 where
  pub on : from ≤ w.at
  pub leaves : Leaves (take (w.at - from) (drop from (nodes_in xs))) 1 w.pending
  pub few : w.pending + from ≤ 1 + w.at
  pub within : from ≤ end → w.at ≤ end
  pub end_is : end ≡ walk_end_value xs

-- Nodes from one place to another, and on to a third.
nodes_on : (s : List ℕ) (from at end : ℕ) → from ≤ at → at ≤ end
    → take (end - from) (drop from s) ≡ take (at - from) (drop from s) ++ take (end - at) (drop at s)
nodes_on s from at end h l =
    let d : end - from ≡ (at - from) + (end - at) = omega arith in
    let e : from + (at - from) ≡ at = omega arith in
    ap (λ (n : ℕ). take n (drop from s)) d
    ∙ take-add (at - from) (end - at) (drop from s)
    ∙ ap (λ (u : List ℕ). take (at - from) (drop from s) ++ take (end - at) u)
    (drop-drop (at - from) from s ∙ ap (λ (n : ℕ). drop n s) e)

-- A step inside the number of the node reached.
pub along_more : {xs : List ℕ} {from end : ℕ} {w : Walk} (r : Walk) → Along xs from end w → w.at < end
    → Reach (get_or xs (w.at / 64) 0) w r → Along xs from end r
along_more {xs} {from} {end} {w} r a l h =
    let s = nodes_in xs in
    let n = r.at - w.at in
    let part : bits_of n (get_or xs (w.at / 64) 0 / 2 ^ (w.at % 64)) ≡ take n (drop w.at s) =
    sym (nodes_part xs w.at n (omega (arith, a.end_is)) (omega (arith, h.within))) in
    record {
      on = omega (arith, a.on, h.on);
      leaves =
          subst (λ (u : List ℕ). Leaves u 1 r.pending) (sym (nodes_on s from w.at r.at a.on h.on))
          (leaves-append (take (w.at - from) (drop from s)) (take (r.at - w.at) (drop w.at s)) 1 w.pending
          r.pending a.leaves (subst (λ (u : List ℕ). Leaves u w.pending r.pending) part h.leaves));
      few = omega (arith, a.few, h.few);
      within = λ _. omega (arith, a.end_is, h.within);
      end_is = a.end_is;
    }
