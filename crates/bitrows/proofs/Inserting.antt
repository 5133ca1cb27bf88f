-- A caret and a leaf put in front of node v of a shape: what stands before stays, what stands behind goes two nodes on,
-- and the number of node v is opened.
--     inserted_before, inserted-behind   the grown shape from a place on, before v and behind it
--     number_before, number_opened       the numbers before that of node v, and its own
--     opened_fits                        an opened number is a number of 64 bits
-- Assumes nothing.
use mathlib.Core.Path.{◌≡◌, refl, ap, ap₂, subst, ◌∙◌}
use mathlib.Core.List.{List, [], ◌∷◌, ◌++◌}
use Prim.Native.Nat.{ℕ, zero, suc, ◌+◌, ◌-◌, ◌*◌, ◌/◌, ◌%◌, ◌^◌, ◌<◌, ◌≤◌}
use native.Mathlib.Nat.{mod-eq_of_lt, mul_comm}
use native.Mathlib.Omega.{arith}
use lib.Dec.{lit<, lit≤}
use lib.ListN.{length, take, drop, length-append, length-drop, length-take}
use lib.Pow.{split}
use lib.Seq.{length-take-le, take-take, take-append-le, take-append-add}
use Rattle.lists.specs.Entries.{total}
use Rattle.bitrows.specs.Numbers.{pack_number_value, number_at, bits_of}
use Rattle.bitrows.specs.inside.Nodes.{Nodes}
use Rattle.bitrows.specs.inside.Growth.{inserted, opened_number}
use Rattle.bitrows.proofs.Bits.{bits_length, bits_nodes, bits_take, pack_bits}
use Rattle.bitrows.proofs.Masks.{shl_at}
use Rattle.bitrows.proofs.Numbers.{pack_below, take-nodes, drop-nodes}
use Rattle.bitrows.proofs.Shifts.{pack_lt}
use Rattle.bitrows.proofs.Opens.{pack_append, open_number}
use Rattle.bitrows.proofs.NodeLists.{nodes-append}

pub inserted-length : (s : List ℕ) (v : ℕ) → v ≤ length s → length (inserted s v) ≡ 2 + length s
inserted-length s v h =
    omega (arith, length-append (take v s) (1 ∷ 0 ∷ drop v s), length-take-le v s h, length-drop v s)

pub inserted-nodes : (s : List ℕ) (v : ℕ) → Nodes s → Nodes (inserted s v)
inserted-nodes s v h =
    nodes-append (take v s) (1 ∷ 0 ∷ drop v s) (take-nodes v s h) (lit< tt, (lit< tt, drop-nodes v s h))

-- The first n nodes stay, up to node v.
pub inserted-first : (n v : ℕ) (s : List ℕ) → n ≤ v → v ≤ length s → take n (inserted s v) ≡ take n s
inserted-first n v s h l =
    take-append-le n (take v s) (1 ∷ 0 ∷ drop v s) (omega (arith, length-take-le v s l)) ∙ take-take n v s h

-- From node n on, up to node v, it is the shape from node n on that has grown.
pub inserted_before : (n w v : ℕ) (s : List ℕ) → v ≡ n + w → n ≤ length s
    → drop n (inserted s v) ≡ inserted (drop n s) w
inserted_before zero w v s e l =
    let d : v ≡ w = omega arith in
    ap (inserted s) d
inserted_before (suc n) w v [] e l = absurd (omega arith)
inserted_before (suc n) w zero (b ∷ s) e l = absurd (omega arith)
inserted_before (suc n) w (suc v) (b ∷ s) e l = inserted_before n w v s (omega arith) (omega arith)

-- Behind node v, the nodes have moved by two.
pub inserted-behind : (n m v : ℕ) (s : List ℕ) → m ≡ n + 2 → v ≤ n → v ≤ length s → drop m (inserted s v) ≡ drop n s
inserted-behind n zero v s e h l = absurd (omega arith)
inserted-behind n (suc zero) v s e h l = absurd (omega arith)
inserted-behind n (suc (suc m)) zero s e h l =
    let d : m ≡ n = omega arith in
    ap (λ (i : ℕ). drop i s) d
inserted-behind n (suc (suc m)) (suc v) [] e h l = absurd (omega arith)
inserted-behind zero (suc (suc m)) (suc v) (b ∷ s) e h l = absurd (omega arith)
inserted-behind (suc n) (suc (suc m)) (suc v) (b ∷ s) e h l =
    inserted-behind n (suc m) v s (omega arith) (omega arith) (omega arith)

-- The carets before a number that node v does not stand before.
pub total_before : (s : List ℕ) (v i : ℕ) → 64 * i ≤ v → v ≤ length s
    → total (take (64 * i) (inserted s v)) ≡ total (take (64 * i) s)
total_before s v i h l = ap total (inserted-first (64 * i) v s h l)

-- Numbers before that of node v.
pub number_before : (s : List ℕ) (v i : ℕ) → i < v / 64 → v ≤ length s → number_at (inserted s v) i ≡ number_at s i
number_before s v i h l =
    ap (λ (t : List ℕ). pack_number_value (take 64 t))
    (inserted_before (64 * i) (v - 64 * i) v s (omega arith) (omega arith))
    ∙ ap pack_number_value
    (inserted-first 64 (v - 64 * i) (drop (64 * i) s) (omega arith) (omega (arith, length-drop (64 * i) s)))

-- The nodes of the first number, where its node p is opened.
opened_nodes : (p q : ℕ) (u : List ℕ) → p + q ≡ 64 → p ≤ length u
    → take 64 (inserted u p) ≡ take p u ++ take q (1 ∷ 0 ∷ drop p u)
opened_nodes p q u e k =
    let d : 64 ≡ length (take p u) + q = omega (arith, length-take-le p u k) in
    ap (λ (n : ℕ). take n (inserted u p)) d ∙ take-append-add (take p u) (1 ∷ 0 ∷ drop p u) q

-- Its last node: no node behind it is left.
last_opened : (u : List ℕ) → Nodes u → 63 ≤ length u
    → pack_number_value (take 64 (inserted u 63)) ≡ opened_number (pack_number_value (take 64 u)) 63
last_opened u h k =
    let low : pack_number_value (take 64 u) % 2 ^ 63 ≡ pack_number_value (take 63 u) =
    pack_below 63 (take 64 u) (take-nodes 64 u h) ∙ ap pack_number_value (take-take 63 64 u (omega arith)) in
    let one : (1 + 2 * 0) * 2 ^ length (take 63 u) ≡ 2 ^ 63 =
    ap (λ (n : ℕ). (1 + 2 * 0) * 2 ^ n) (length-take-le 63 u k) in
    ap pack_number_value (opened_nodes 63 1 u refl k) ∙ omega (arith, pack_append (take 63 u) (1 ∷ []), low, one)

-- The first number, where its node p is opened.
pub first_opened : (p : ℕ) (u : List ℕ) → Nodes u → p < 64 → p ≤ length u
    → pack_number_value (take 64 (inserted u p)) ≡ opened_number (pack_number_value (take 64 u)) p
first_opened p u h l k = go (63 - p) refl
  where
    go : (q : ℕ) → 63 - p ≡ q
        → pack_number_value (take 64 (inserted u p)) ≡ opened_number (pack_number_value (take 64 u)) p
    go zero e =
        let d : 63 ≡ p = omega arith in
        subst (λ (n : ℕ). pack_number_value (take 64 (inserted u n))
        ≡ opened_number (pack_number_value (take 64 u)) n) d
        (last_opened u h (omega arith))
    go (suc q) e =
        ap pack_number_value (opened_nodes p (suc (suc q)) u (omega arith) k) ∙ open_number p q u h (omega arith) k

-- The number of node v.
pub number_opened : (s : List ℕ) (v : ℕ) → Nodes s → v ≤ length s
    → number_at (inserted s v) (v / 64) ≡ opened_number (number_at s (v / 64)) (v % 64)
number_opened s v h l =
    ap (λ (t : List ℕ). pack_number_value (take 64 t))
    (inserted_before (64 * (v / 64)) (v % 64) v s (omega arith) (omega arith))
    ∙ first_opened (v % 64) (drop (64 * (v / 64)) s) (drop-nodes (64 * (v / 64)) s h) (omega arith)
    (omega (arith, length-drop (64 * (v / 64)) s))

-- The first 64 nodes make a number of 64 bits.
pub pack_fits : (u : List ℕ) → Nodes u → pack_number_value (take 64 u) < 2 ^ 64
pack_fits u h = pack_lt 64 (take 64 u) (take-nodes 64 u h) (omega (arith, length-take 64 u))

-- So many bits.
bits_reach : (k x p : ℕ) → p < k → p ≤ length (bits_of k x)
bits_reach k x p h = omega (arith, bits_length k x)

-- The bits of a number of 64 bits pack to it.
pub first_bits : (x : ℕ) → x < 2 ^ 64 → pack_number_value (take 64 (bits_of 64 x)) ≡ x
first_bits x h = ap pack_number_value (bits_take 64 64 x (lit≤ tt)) ∙ pack_bits 64 x ∙ mod-eq_of_lt h

-- An opened number is a number of 64 bits.
pub opened_fits : (x p : ℕ) → x < 2 ^ 64 → p < 64 → opened_number x p < 2 ^ 64
opened_fits x p h l =
    subst (λ (n : ℕ). n < 2 ^ 64)
    (first_opened p (bits_of 64 x) (bits_nodes 64 x) l (bits_reach 64 x p l)
    ∙ ap (λ (n : ℕ). opened_number n p) (first_bits x h))
    (pack_fits (inserted (bits_of 64 x) p) (inserted-nodes (bits_of 64 x) p (bits_nodes 64 x)))

pub above_exact : (x p : ℕ) → x - x % 2 ^ p ≡ x / 2 ^ p * 2 ^ p
above_exact x p = omega (arith, split x p)

pub moved_fits : (x p : ℕ) → x < 2 ^ 64 → p < 64 → 2 ^ p + (4 * (x / 2 ^ p * 2 ^ p)) % 2 ^ 64 < 2 ^ 64
moved_fits x p h l = omega (arith, opened_fits x p h l)

-- An opened number as it is computed: low is what stands below node n, r its place in the number.
pub moved_at : (x low r n : ℕ) → low ≡ x % 2 ^ (n % 64) → r ≡ n % 64
    → (1 * 2 ^ r) % 18446744073709551616 + ((x - low) * 4) % 18446744073709551616
    ≡ 2 ^ (n % 64) + (4 * (x / 2 ^ (n % 64) * 2 ^ (n % 64))) % 2 ^ 64
moved_at x low r n e d =
    let p = n % 64 in
    let high : (x - low) * 4 ≡ 4 * (x / 2 ^ p * 2 ^ p) =
    mul_comm (x - low) 4 ∙ ap (λ (m : ℕ). 4 * m) (ap (λ (m : ℕ). x - m) e ∙ above_exact x p) in
    ap₂ (λ (m k : ℕ). m + k % 18446744073709551616) (shl_at r n d) high
