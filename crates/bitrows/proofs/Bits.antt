-- The bits of a number, lowest first: parts of them, and the number that they pack. Assumes nothing.
use mathlib.Core.Path.{◌≡◌, refl, sym, ap, ap₂, ◌∙◌}
use mathlib.Core.List.{List, [], ◌∷◌, ◌++◌}
use Prim.Native.Nat.{ℕ, zero, suc, ◌+◌, ◌*◌, ◌/◌, ◌%◌, ◌^◌, ◌<◌, ◌≤◌}
use native.Mathlib.Nat.{pow-suc, suc-add, zero-add, mod-one, mod-lt}
use native.Mathlib.Omega.{arith}
use lib.Arith.{mod-mul}
use lib.Dec.{lit<}
use lib.ListN.{length, take, drop, replicate}
use lib.Pow.{pow_pos, shr-shr}
use Rattle.bitrows.specs.Numbers.{pack_number_value}
use Rattle.bitrows.specs.inside.Nodes.{Nodes}
use Rattle.bitrows.specs.Numbers.{bits_of}

pub bits_length : (k x : ℕ) → length (bits_of k x) ≡ k
bits_length zero x = refl
bits_length (suc k) x = ap suc (bits_length k (x / 2))

pub bits_nodes : (k x : ℕ) → Nodes (bits_of k x)
bits_nodes zero x = tt
bits_nodes (suc k) x = (mod-lt x (lit< tt), bits_nodes k (x / 2))

-- The bits from j on are those of the number shifted down.
pub bits_drop : (j k n x : ℕ) → n ≡ j + k → drop j (bits_of n x) ≡ bits_of k (x / 2 ^ j)
bits_drop zero k n x e =
    let d : n ≡ k = omega arith in
    let one : x ≡ x / 2 ^ 0 = omega arith in
    ap₂ bits_of d one
bits_drop (suc j) k zero x e = absurd (omega arith)
bits_drop (suc j) k (suc n) x e =
    let s : 1 + j ≡ suc j = omega arith in
    bits_drop j k n (x / 2) (omega arith) ∙ ap (bits_of k) (shr-shr x 1 j ∙ ap (λ (i : ℕ). x / 2 ^ i) s)

pub bits_take : (j n x : ℕ) → j ≤ n → take j (bits_of n x) ≡ bits_of j x
bits_take zero n x h = refl
bits_take (suc j) zero x h = absurd (omega arith)
bits_take (suc j) (suc n) x h = ap (λ (s : List ℕ). (x % 2) ∷ s) (bits_take j n (x / 2) (omega arith))

-- Packed again, they are the number cut at that width.
pub pack_bits : (k x : ℕ) → pack_number_value (bits_of k x) ≡ x % 2 ^ k
pack_bits zero x = sym (mod-one x)
pack_bits (suc k) x =
    ap (λ (n : ℕ). x % 2 + 2 * n) (pack_bits k (x / 2))
    ∙ sym (ap (λ (n : ℕ). x % n) (pow-suc 2 k) ∙ mod-mul x (pow_pos k) (lit< tt) ∙ omega arith)

-- The bits of packed nodes are the nodes, with zeros behind.
pub bits_pack : (s : List ℕ) (k : ℕ) → Nodes s → bits_of (length s + k) (pack_number_value s) ≡ s ++ replicate k 0
bits_pack [] k h = ap (λ (n : ℕ). bits_of n 0) (zero-add k) ∙ zeros k
  where
    zeros : (k : ℕ) → bits_of k 0 ≡ replicate k 0
    zeros zero = refl
    zeros (suc k) = ap (λ (s : List ℕ). 0 ∷ s) (zeros k)
bits_pack (b ∷ s) k h =
    let l : b < 2 = h.0 in
    let m : (b + 2 * pack_number_value s) % 2 ≡ b = omega arith in
    let d : (b + 2 * pack_number_value s) / 2 ≡ pack_number_value s = omega arith in
    ap (λ (n : ℕ). bits_of n (b + 2 * pack_number_value s)) (suc-add (length s) k)
    ∙ ap₂ (λ (x : ℕ) (t : List ℕ). x ∷ t) m (ap (bits_of (length s + k)) d ∙ bits_pack s k h.1)
