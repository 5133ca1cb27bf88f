-- A caret and a leaf put in front of node p of a number, p below 63: the nodes before it stay, the others go two bits
-- up. Assumes nothing.
use mathlib.Core.Path.{◌≡◌, sym, ap, ap₂, ◌∙◌}
use mathlib.Core.List.{List, [], ◌∷◌, ◌++◌}
use Prim.Native.Nat.{ℕ, ◌+◌, ◌*◌, ◌/◌, ◌%◌, ◌^◌, ◌≤◌}
use native.Mathlib.Nat.{pow-suc, mul_assoc, mul_comm, mul-mod_left, add-mul, one-mul, add-zero}
use native.Mathlib.Omega.{arith}
use lib.ListN.{length, take, drop}
use lib.Seq.{length-take-le, take-take}
use lib.Pow.{pow-add, mod-pow-add, shl-shr}
use Rattle.bitrows.specs.Numbers.{pack_number_value}
use Rattle.bitrows.specs.inside.Nodes.{Nodes}
use Rattle.bitrows.proofs.Numbers.{pack_below, take-nodes, drop-nodes}
use Rattle.bitrows.proofs.Shifts.{pack_above, drop-take}

-- One list behind another.
pub pack_append : (xs ys : List ℕ)
    → pack_number_value (xs ++ ys) ≡ pack_number_value xs + pack_number_value ys * 2 ^ length xs
pack_append [] ys = omega arith
pack_append (b ∷ xs) ys =
    ap (λ (n : ℕ). b + 2 * n) (pack_append xs ys)
    ∙ omega (
      arith,
      ap (λ (n : ℕ). pack_number_value ys * n) (pow-suc 2 (length xs)),
      mul_assoc (pack_number_value ys) (2 ^ length xs) 2,
    )

-- A multiple of a power, cut at a higher one.
pub shifted_cut : (z j k : ℕ) → (z * 2 ^ k) % 2 ^ (j + k) ≡ (z % 2 ^ j) * 2 ^ k
shifted_cut z j k =
    mod-pow-add (z * 2 ^ k) j k
    ∙ ap₂ (λ (m n : ℕ). (m % 2 ^ j) * 2 ^ k + n) (shl-shr z k) (mul-mod_left z (2 ^ k))
    ∙ add-zero ((z % 2 ^ j) * 2 ^ k)

-- A caret and a leaf, then others.
two_nodes : (w p : ℕ) → (1 + 2 * (0 + 2 * w)) * p ≡ p + 4 * (w * p)
two_nodes w p =
    add-mul 1 (2 * (0 + 2 * w)) p
    ∙ ap₂ (λ (m n : ℕ). m + n) (one-mul p)
    (let e : 2 * (0 + 2 * w) ≡ 4 * w = omega arith in ap (λ (n : ℕ). n * p) e ∙ mul_assoc 4 w p)

-- The number with a caret and a leaf in front of its node p.
pub open_number : (p q : ℕ) (u : List ℕ) → Nodes u → p + q ≡ 62 → p ≤ length u
    → pack_number_value (take p u ++ (1 ∷ 0 ∷ take q (drop p u)))
    ≡ pack_number_value (take 64 u) % 2 ^ p + (2 ^ p + (4 * (pack_number_value (take 64 u) / 2 ^ p * 2 ^ p)) % 2 ^ 64)
open_number p q u h e l =
    pack_append (take p u) (1 ∷ 0 ∷ take q (drop p u))
    ∙ ap₂ (λ (m n : ℕ). m + n) low
    (ap (λ (n : ℕ). (1 + 2 * (0 + 2 * pack_number_value (take q (drop p u)))) * 2 ^ n) (length-take-le p u l)
    ∙ two_nodes (pack_number_value (take q (drop p u))) (2 ^ p)
    ∙ ap (λ (n : ℕ). 2 ^ p + n) (sym high))
  where
    x : ℕ
    x = pack_number_value (take 64 u)

    z : ℕ
    z = x / 2 ^ p

    low : pack_number_value (take p u) ≡ x % 2 ^ p
    low = sym (pack_below p (take 64 u) (take-nodes 64 u h) ∙ ap pack_number_value (take-take p 64 u (omega arith)))

    above : z % 2 ^ q ≡ pack_number_value (take q (drop p u))
    above =
        ap (λ (n : ℕ). n % 2 ^ q) (pack_above p (take 64 u) (take-nodes 64 u h))
        ∙ pack_below q (drop p (take 64 u)) (drop-nodes p (take 64 u) (take-nodes 64 u h))
        ∙ ap pack_number_value
        (ap (take q) (drop-take p (q + 2) 64 u (omega arith)) ∙ take-take q (q + 2) (drop p u) (omega arith))

    power : 4 * (z * 2 ^ p) ≡ z * 2 ^ (p + 2)
    power = mul_comm 4 (z * 2 ^ p) ∙ mul_assoc z (2 ^ p) 4 ∙ ap (λ (n : ℕ). z * n) (sym (pow-add 2 p 2))

    width : 64 ≡ q + (p + 2)
    width = omega arith

    high : (4 * (z * 2 ^ p)) % 2 ^ 64 ≡ 4 * (pack_number_value (take q (drop p u)) * 2 ^ p)
    high =
        ap₂ (λ (m n : ℕ). m % 2 ^ n) power width
        ∙ shifted_cut z q (p + 2)
        ∙ ap (λ (n : ℕ). n * 2 ^ (p + 2)) above
        ∙ ap (λ (n : ℕ). pack_number_value (take q (drop p u)) * n) (pow-add 2 p 2)
        ∙ sym (mul_assoc (pack_number_value (take q (drop p u))) (2 ^ p) 4)
        ∙ mul_comm (pack_number_value (take q (drop p u)) * 2 ^ p) 4
