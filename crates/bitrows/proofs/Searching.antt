-- Looking for leaf k among the bits of a number: the leaves of its nodes in order, and the k-th of them.
--     leaves_of x a n    the nodes from a on that are leaves, of n nodes
--     leaf_sought        the k-th of them is leaf k, and where there are fewer the number has no such leaf
-- Assumes nothing.
use mathlib.Core.Path.{◌≡◌, sym, ap, ap₂, subst, ◌∙◌}
use mathlib.Core.Bool.{Bool, true, false, cond}
use mathlib.Core.List.{List, ◌∷◌}
use Prim.Native.Nat.{ℕ, zero, suc, ◌+◌, ◌-◌, ◌/◌, ◌%◌, ◌^◌, ◌<◌, ◌≤◌}
use native.Mathlib.Omega.{arith}
use lib.Count.{ones}
use lib.Dec.{eqb}
use lib.ListN.{get_or, take}
use lib.Pow.{shr-shr}
use Rattle.std.proofs.Common.{refl, nat_eq}
use Rattle.std.proofs.lemmas.Bool.Decides.{nat_tests}
use Rattle.std.specs.List.{filter, range_with_len}
use Rattle.lists.specs.Entries.{total}
use Rattle.bitrows.specs.Numbers.{bits_of}
use Rattle.bitrows.specs.inside.Growth.{LeafAt, FoundLeaf}
use Rattle.bitrows.proofs.Bits.{bits_length, bits_take}
use Rattle.bitrows.proofs.Leaving.{bits_total}

-- Bit i.
pub bits_at : (n i x : ℕ) → i < n → get_or (bits_of n x) i 0 ≡ x / 2 ^ i % 2
bits_at zero i x h = absurd (omega arith)
bits_at (suc n) zero x h = let e : x ≡ x / 2 ^ 0 = omega arith in ap (λ (y : ℕ). y % 2) e
bits_at (suc n) (suc i) x h =
    let e : 1 + i ≡ suc i = omega arith in
    bits_at n i (x / 2) (omega arith)
    ∙ ap (λ (y : ℕ). y % 2) (shr-shr x 1 i ∙ ap (λ (k : ℕ). x / 2 ^ k) e)

-- Whether a node is a leaf.
abbrev pub is_leaf : (x i : ℕ) → Bool
is_leaf x i = nat_eq (x / 2 ^ i % 2) 0

-- The leaves among n nodes from a on.
abbrev pub leaves_of : (x a n : ℕ) → List ℕ
leaves_of x a n = filter (is_leaf x) (range_with_len a n)

-- Node v is leaf k of n nodes from a on; v is behind them where they have no such leaf.
record Sought (x k a n v : ℕ) : Type 0 where
  from : a ≤ v
  to : v ≤ a + n
  leaf : v < a + n → x / 2 ^ v % 2 ≡ 0
  before : v < a + n → k + total (bits_of (v - a) (x / 2 ^ a)) ≡ v - a
  none : a + n ≤ v → n ≤ k + total (bits_of n (x / 2 ^ a))

-- The bits behind the first.
bits_behind : (x a n : ℕ) → total (bits_of (suc n) (x / 2 ^ a)) ≡ x / 2 ^ a % 2 + total (bits_of n (x / 2 ^ (a + 1)))
bits_behind x a n = ap (λ (y : ℕ). x / 2 ^ a % 2 + total (bits_of n y)) (shr-shr x a 1)

-- One node more in front: j leaves are to pass behind it.
sought_more : {x j a n v : ℕ} (k : ℕ) → Sought x j (a + 1) n v → k + x / 2 ^ a % 2 ≡ j + 1 → Sought x k a (suc n) v
sought_more {x} {j} {a} {n} {v} k s e = record {
  from = omega (arith, s.from);
  to = omega (arith, s.to);
  leaf = λ h. s.leaf (omega arith);
  before = λ h.
      let d : v - a ≡ suc (v - (a + 1)) = omega (arith, s.from) in
      omega (
        arith,
        s.before (omega arith),
        ap (λ (m : ℕ). total (bits_of m (x / 2 ^ a))) d,
        bits_behind x a (v - (a + 1)),
      );
  none = λ h. omega (arith, s.none (omega arith), bits_behind x a n);
}

-- The first node is the leaf.
sought_here : (x a n : ℕ) → x / 2 ^ a % 2 ≡ 0 → Sought x 0 a (suc n) a
sought_here x a n z = record {
  from = omega arith;
  to = omega arith;
  leaf = λ _. z;
  before = λ _. let d : a - a ≡ 0 = omega arith in omega (arith, ap (λ (m : ℕ). total (bits_of m (x / 2 ^ a))) d);
  none = λ h. absurd (omega arith);
}

-- From the leaves behind the first node on to all.
sought_on : (x a n : ℕ) → ((k : ℕ) → Sought x k (a + 1) n (get_or (leaves_of x (a + 1) n) k (a + 1 + n))) → (b : Bool)
    → is_leaf x a ≡ b → (k : ℕ)
    → Sought x k a (suc n) (get_or (cond b (a ∷ leaves_of x (a + 1) n) (leaves_of x (a + 1) n)) k (a + 1 + n))
sought_on x a n on false e k = let z : x / 2 ^ a % 2
    ≡ 1 = grind (arith, nat_tests) in sought_more k (on k) (omega (arith, z))
sought_on x a n on true e zero = sought_here x a n (grind (arith, nat_tests))
sought_on x a n on true e (suc k) =
    let z : x / 2 ^ a % 2 ≡ 0 = grind (arith, nat_tests) in sought_more (suc k) (on k) (omega (arith, z))

sought : (x k a n : ℕ) → Sought x k a n (get_or (leaves_of x a n) k (a + n))
sought x k a zero = record {
  from = omega arith;
  to = omega arith;
  leaf = λ h. absurd (omega arith);
  before = λ h. absurd (omega arith);
  none = λ _. omega arith;
}
sought x k a (suc n) =
    let past : a + 1 + n ≡ a + suc n = omega arith in
    subst (λ (d : ℕ). Sought x k a (suc n) (get_or (leaves_of x a (suc n)) k d)) past
    (sought_on x a n (λ j. sought x j (a + 1) n) (is_leaf x a) refl k)

-- A node that is not behind all.
near_of : (n v k t : ℕ) → (0 + n ≤ v → n ≤ k + t) → k + t < n → v < n
near_of n v k t f h = grind arith

-- A number's leaf.
found_near : (x k n v : ℕ) → Sought x k 0 n v → v < n → LeafAt (bits_of n x) k v
found_near x k n v s near =
    let e : x / 2 ^ 0 ≡ x = omega arith in
    let far : v < 0 + n = omega arith in
    let d : v - 0 ≡ v = omega arith in
    let first : total (take v (bits_of n x)) ≡ total (bits_of (v - 0) (x / 2 ^ 0)) =
    ap total (bits_take v n x (omega arith)) ∙ sym (ap₂ (λ (m y : ℕ). total (bits_of m y)) d e) in
    record {
      inside = omega (arith, bits_length n x);
      is_leaf = bits_at n v x near ∙ s.leaf far;
      before = omega (arith, s.before far, first);
    }

found_of : (x k n v : ℕ) → x < 2 ^ n → Sought x k 0 n v → k + ones x < n → LeafAt (bits_of n x) k v
found_of x k n v h s l =
    let e : x / 2 ^ 0 ≡ x = omega arith in
    let all : total (bits_of n (x / 2 ^ 0)) ≡ ones x = ap (λ (y : ℕ). total (bits_of n y)) e ∙ bits_total n x h in
    found_near x k n v s (near_of n v k (total (bits_of n (x / 2 ^ 0))) s.none (omega (arith, all)))

pub leaf_sought : (x k : ℕ) → x < 2 ^ 64 → FoundLeaf x k (get_or (leaves_of x 0 64) k 64)
leaf_sought x k h = at (get_or (leaves_of x 0 64) k 64) (sought x k 0 64)
  where
    at : (v : ℕ) → Sought x k 0 64 v → FoundLeaf x k v
    at v s = record { small = omega (arith, s.to); found = found_of x k 64 v h s }
