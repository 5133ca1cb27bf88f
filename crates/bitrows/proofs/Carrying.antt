-- The numbers of the grown shape behind that of node v: each two bits higher, with two nodes from the one before.
--     carry_first, carry_next   the two nodes that go on from the number of node v, and from a later one
--     number_shifted            a later number of the grown shape
-- Assumes nothing.
use mathlib.Core.Path.{◌≡◌, refl, sym, ap, ◌∙◌}
use mathlib.Core.List.{List, [], ◌∷◌}
use Prim.Native.Nat.{ℕ, zero, suc, ◌+◌, ◌-◌, ◌*◌, ◌/◌, ◌%◌, ◌^◌, ◌<◌, ◌≤◌}
use native.Mathlib.Omega.{arith}
use lib.ListN.{length, take, drop, length-drop}
use lib.Pow.{field, shl-shr, shr-shr}
use lib.Seq.{drop-drop}
use Rattle.bitrows.specs.Numbers.{pack_number_value, number_at}
use Rattle.bitrows.specs.inside.Nodes.{Nodes}
use Rattle.bitrows.specs.inside.Growth.{inserted, carried_number, carry_into}
use Rattle.bitrows.proofs.Numbers.{pack_below, drop-nodes}
use Rattle.bitrows.proofs.Shifts.{pack_above, shift_first}
use Rattle.bitrows.proofs.Inserting.{inserted-nodes, inserted_before, inserted-behind}

-- The q highest nodes of the first number.
pub pack_top : (p q : ℕ) (u : List ℕ) → Nodes u → q + p ≡ 64
    → pack_number_value (take 64 u) / 2 ^ p ≡ pack_number_value (take q (drop p u))
pack_top p q u h e =
    ap (λ (n : ℕ). n / 2 ^ p) (sym (pack_below 64 u h))
    ∙ ap (λ (n : ℕ). pack_number_value u % 2 ^ n / 2 ^ p) (sym e)
    ∙ field (pack_number_value u) q p
    ∙ ap (λ (n : ℕ). n % 2 ^ q) (pack_above p u h)
    ∙ pack_below q (drop p u) (drop-nodes p u h)

-- From a number where node v is not the last.
carry_at : (s : List ℕ) (v i : ℕ) → Nodes s → v ≤ length s → v ≤ 64 * i + 62
    → carry_into s v (i + 1) ≡ number_at s i / 2 ^ 62
carry_at s v i h l k =
    ap (λ (t : List ℕ). pack_number_value (take 2 t))
    (inserted-behind (64 * i + 62) (64 * (i + 1)) v s (omega arith) k l ∙ sym (drop-drop 62 (64 * i) s))
    ∙ sym (pack_top 62 2 (drop (64 * i) s) (drop-nodes (64 * i) s h) refl)

-- From a later number.
pub carry_next : (s : List ℕ) (v i : ℕ) → Nodes s → v ≤ length s → v / 64 < i
    → carry_into s v (i + 1) ≡ number_at s i / 2 ^ 62
carry_next s v i h l k = carry_at s v i h l (omega arith)

-- Two nodes, and the others two bits up.
two_first : (w : List ℕ) → Nodes w
    → pack_number_value (take 64 w)
    ≡ pack_number_value (take 2 w) + (4 * pack_number_value (take 64 (drop 2 w))) % 2 ^ 64
two_first [] h = refl
two_first (b ∷ []) h = omega arith
two_first (b ∷ c ∷ w) h = omega (arith, shift_first b c w h.1.1)

-- A later number of the grown shape.
pub number_shifted : (s : List ℕ) (v i : ℕ) → Nodes s → v ≤ length s → v / 64 < i
    → number_at (inserted s v) i ≡ carry_into s v i + (4 * number_at s i) % 2 ^ 64
number_shifted s v i h l k =
    two_first (drop (64 * i) (inserted s v)) (drop-nodes (64 * i) (inserted s v) (inserted-nodes s v h))
    ∙ ap (λ (t : List ℕ). carry_into s v i + (4 * pack_number_value (take 64 t)) % 2 ^ 64)
    (drop-drop 2 (64 * i) (inserted s v) ∙ inserted-behind (64 * i) (64 * i + 2) v s refl (omega arith) l)

-- The last node of a number opened: the leaf put in front of it, and itself.
last_carried : (u : List ℕ) → Nodes u → 63 ≤ length u
    → pack_number_value (take 2 (drop 64 (inserted u 63))) ≡ carried_number (pack_number_value (take 64 u)) 63
last_carried u h k =
    ap (λ (t : List ℕ). pack_number_value (take 2 t))
    (sym (drop-drop 1 63 (inserted u 63)) ∙ ap (drop 1) (inserted_before 63 0 63 u refl k))
    ∙ omega (arith, pack_top 63 1 u h refl)

-- Where node p is not the last, its number carries its two highest nodes.
carried_top : (x p q : ℕ) → p + q ≡ 62 → carried_number x p ≡ x / 2 ^ 62
carried_top x p q e =
    ap (λ (n : ℕ). x / 2 ^ p * 2 ^ p / 2 ^ n) (sym e)
    ∙ sym (shr-shr (x / 2 ^ p * 2 ^ p) p q)
    ∙ ap (λ (n : ℕ). n / 2 ^ q) (shl-shr (x / 2 ^ p) p)
    ∙ shr-shr x p q
    ∙ ap (λ (n : ℕ). x / 2 ^ n) e

-- From the number of node v.
pub carry_first : (s : List ℕ) (v : ℕ) → Nodes s → v ≤ length s
    → carry_into s v (v / 64 + 1) ≡ carried_number (number_at s (v / 64)) (v % 64)
carry_first s v h l = go (63 - v % 64) refl
  where
    j : ℕ
    j = v / 64

    go : (q : ℕ) → 63 - v % 64 ≡ q → carry_into s v (j + 1) ≡ carried_number (number_at s j) (v % 64)
    go zero e =
        let d : 63 ≡ v % 64 = omega arith in
        let m : 64 * (j + 1) ≡ 64 * j + 64 = omega arith in
        ap (λ (n : ℕ). pack_number_value (take 2 (drop n (inserted s v)))) m
        ∙ ap (λ (t : List ℕ). pack_number_value (take 2 t))
        (sym (drop-drop 64 (64 * j) (inserted s v))
        ∙ ap (drop 64) (inserted_before (64 * j) 63 v s (omega arith) (omega arith)))
        ∙ last_carried (drop (64 * j) s) (drop-nodes (64 * j) s h) (omega (arith, length-drop (64 * j) s))
        ∙ ap (carried_number (number_at s j)) d
    go (suc q) e =
        carry_at s v j h l (omega arith) ∙ sym (carried_top (number_at s j) (v % 64) q (omega arith))
