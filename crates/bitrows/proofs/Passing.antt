-- Amid a number that a walk passes: what is behind, and what the next nodes, bytes or the whole number leave to come.
--     Amid x at₀ p₀ end at p rest   from node at₀ with p₀ subtrees to come, node at is reached with p to come
--     amid_more                     some nodes more                 amid_reach    what the function answers
--     bits_leave, number_leaves, node_leaves    what bits, a whole number and a node leave
-- Assumes nothing.
use mathlib.Core.Path.{◌≡◌, sym, ap, ap₂, subst, ◌∙◌}
use mathlib.Core.List.{List, [], ◌∷◌}
use Prim.Native.Nat.{ℕ, zero, suc, ◌+◌, ◌-◌, ◌*◌, ◌/◌, ◌%◌, ◌^◌, ◌<◌, ◌≤◌}
use native.Mathlib.Nat.{mod-lt}
use native.Mathlib.Omega.{arith}
use lib.Count.{ones}
use lib.Dec.{lit<}
use lib.ListN.{length}
use lib.Pow.{shr-shr}
use Rattle.lists.specs.Entries.{total}
use Rattle.bitrows.specs.declared.walk.Walk.{Walk}
use Rattle.bitrows.specs.Numbers.{bits_of}
use Rattle.bitrows.specs.inside.Nodes.{Nodes}
use Rattle.bitrows.specs.inside.Walking.{fall, Leaves, Reach}
use Rattle.bitrows.proofs.Bits.{bits_length, bits_nodes}
use Rattle.bitrows.proofs.NodeLists.{nodes-total}
use Rattle.bitrows.proofs.Walks.{fall-length}
use Rattle.bitrows.proofs.Leaving.{leaves-append, leaves_past, leaves_node, bits_append, bits_total}

-- Amid the passing of a number x.
pub record Amid (x at₀ p₀ end at p rest : ℕ) : Type 0 where
  pub gone : ℕ
  pub reached : at ≡ at₀ + gone
  pub left : rest ≡ x / 2 ^ (at₀ % 64) / 2 ^ gone
  pub leaves : Leaves (bits_of gone (x / 2 ^ (at₀ % 64))) p₀ p
  pub few : p + at₀ ≤ p₀ + at
  pub within : at ≤ end
  pub inside : end ≤ at₀ / 64 * 64 + 64
  pub few₀ : p₀ ≤ 4294967295
  pub near₀ : at₀ ≤ 4294967295

pub amid_more : {x at₀ p₀ end at p rest : ℕ} (k q : ℕ) → Amid x at₀ p₀ end at p rest → Leaves (bits_of k rest) p q
    → q ≤ p + k → at + k ≤ end → Amid x at₀ p₀ end (at + k) q (rest / 2 ^ k)
amid_more {x} {at₀} {p₀} {end} {at} {p} {rest} k q a l f w = record {
  gone = a.gone + k;
  reached = omega (arith, a.reached);
  left = ap (λ (n : ℕ). n / 2 ^ k) a.left ∙ shr-shr y a.gone k;
  leaves =
      subst (λ (s : List ℕ). Leaves s p₀ q) (sym (bits_append a.gone k y))
      (leaves-append (bits_of a.gone y) (bits_of k (y / 2 ^ a.gone)) p₀ p q a.leaves
      (subst (λ (n : ℕ). Leaves (bits_of k n) p q) a.left l));
  few = omega (arith, a.few);
  within = w;
  inside = a.inside;
  few₀ = a.few₀;
  near₀ = a.near₀;
}
  where
    y : ℕ
    y = x / 2 ^ (at₀ % 64)

-- What is answered.
pub amid_reach : {x end at p rest : ℕ} (w : Walk) → Amid x w.at w.pending end at p rest
    → Reach x w (record { at = at; pending = p })
amid_reach {x} {end} {at} {p} {rest} w a =
    let d : a.gone ≡ at - w.at = omega (arith, a.reached) in
    record {
      on = omega (arith, a.reached);
      within = omega (arith, a.within, a.inside);
      few = a.few;
      leaves = subst (λ (n : ℕ). Leaves (bits_of n (x / 2 ^ (w.at % 64))) w.pending p) d a.leaves;
    }

-- The nodes fall by at least as much as they close in all.
fall_least : (s : List ℕ) → Nodes s → length s ≤ fall s + (total s + total s)
fall_least [] h = omega arith
fall_least (zero ∷ s) h = omega (arith, fall_least s h.1)
fall_least (suc zero ∷ s) h = omega (arith, fall_least s h.1)
fall_least (suc (suc b) ∷ s) h = absurd (omega (arith, h.0))

-- What the bits of a number leave to come: the count is right, and stays in its bounds.
pub record Leaving (s : List ℕ) (k p q : ℕ) : Type 0 where
  pub leaves : Leaves s p q
  pub few : q ≤ p + k

pub bits_leave : (k x p n : ℕ) → fall (bits_of k x) < p → n ≡ total (bits_of k x)
    → (k ≤ p + 2 * n) × Leaving (bits_of k x) k p (p + 2 * n - k)
bits_leave k x p n h e =
    let s = bits_of k x in
    let enough : k ≤ p + 2 * n = omega (arith, fall_least s (bits_nodes k x), bits_length k x) in (
      enough,
      record {
        leaves = leaves_past s p (p + 2 * n - k) (bits_nodes k x) h (omega (arith, bits_length k x));
        few = omega (arith, nodes-total s (bits_nodes k x), bits_length k x);
      },
    )

-- A whole number, where more are to come than it can close.
pub number_leaves : (x p : ℕ) → x < 2 ^ 64 → 64 < p
    → (64 ≤ p + 2 * ones x) × Leaving (bits_of 64 x) 64 p (p + 2 * ones x - 64)
number_leaves x p h l =
    bits_leave 64 x p (ones x) (few 64 x l) (sym (bits_total 64 x h))
  where
    few : (k y : ℕ) → k < p → fall (bits_of k y) < p
    few k y g = omega (arith, fall-length (bits_of k y), bits_length k y)

-- One node.
pub node_leaves : (x p : ℕ) → 0 < p
    → (1 ≤ p + 2 * (x % 2)) × Leaving (bits_of 1 x) 1 p (p + 2 * (x % 2) - 1)
node_leaves x p h = (
  omega arith,
  record {
    leaves = leaves_node (x % 2) p (p + 2 * (x % 2) - 1) (mod-lt x (lit< tt)) h (omega arith);
    few = omega arith;
  },
)

-- What is answered behind a whole number.
pub number_reach : (x : ℕ) (w : Walk) → x < 2 ^ 64 → w.at % 64 ≡ 0 → 64 < w.pending
    → Reach x w (record { at = w.at + 64; pending = w.pending + 2 * ones x - 64 })
number_reach x w h z l =
    let n = number_leaves x w.pending h l in
    let d : 64 ≡ w.at + 64 - w.at = omega arith in
    let e : x ≡ x / 2 ^ (w.at % 64) = omega (arith, ap (λ (k : ℕ). x / 2 ^ k) z) in
    record {
      on = omega arith;
      within = omega (arith, z);
      few = omega (arith, n.1.few);
      leaves =
          subst (λ (s : List ℕ). Leaves s w.pending (w.pending + 2 * ones x - 64)) (ap₂ bits_of d e) n.1.leaves;
    }
