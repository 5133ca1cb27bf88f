-- Two nodes put in front of others: the numbers, two bits higher, with the two highest bits of the one before. Assumes
-- nothing.
use mathlib.Core.Path.{◌≡◌, refl, sym, ap, ◌∙◌}
use mathlib.Core.List.{List, [], ◌∷◌}
use Prim.Native.Nat.{ℕ, zero, suc, ◌+◌, ◌*◌, ◌/◌, ◌%◌, ◌^◌, ◌<◌, ◌≤◌}
use native.Mathlib.Nat.{pow-suc, zero-div, zero-add}
use native.Mathlib.Omega.{arith}
use lib.ListN.{length, take, drop}
use lib.Pow.{shr-shr, pow_pos}
use lib.Seq.{take-take}
use Rattle.bitrows.specs.Numbers.{pack_number_value}
use Rattle.bitrows.specs.inside.Nodes.{Nodes}
use Rattle.bitrows.proofs.Numbers.{pack_below, take-nodes}

-- The number of the nodes from k on.
pub pack_above : (k : ℕ) (s : List ℕ) → Nodes s → pack_number_value s / 2 ^ k ≡ pack_number_value (drop k s)
pack_above zero s h = omega arith
pack_above (suc k) [] h = go k
  where
    go : (k : ℕ) → 0 / 2 ^ suc k ≡ 0
    go k = zero-div (2 ^ suc k)
pack_above (suc k) (b ∷ s) h =
    let l : b < 2 = h.0 in
    let d : (b + 2 * pack_number_value s) / 2 ≡ pack_number_value s = omega arith in
    let e : suc k ≡ 1 + k = omega arith in
    ap (λ (n : ℕ). (b + 2 * pack_number_value s) / 2 ^ n) e
    ∙ sym (shr-shr (b + 2 * pack_number_value s) 1 k)
    ∙ ap (λ (n : ℕ). n / 2 ^ k) d
    ∙ pack_above k s h.1

-- At most k nodes stand below 2 ^ k.
pub pack_lt : (k : ℕ) (s : List ℕ) → Nodes s → length s ≤ k → pack_number_value s < 2 ^ k
pack_lt zero [] h l = omega arith
pack_lt zero (b ∷ s) h l = absurd (omega arith)
pack_lt (suc k) [] h l = pow_pos (suc k)
pack_lt (suc k) (b ∷ s) h l = omega (arith, h.0, pow-suc 2 k, pack_lt k s h.1 (omega arith))

-- The nodes from k on of the first k + m.
pub drop-take : (k m n : ℕ) (s : List ℕ) → n ≡ k + m → drop k (take n s) ≡ take m (drop k s)
drop-take zero m n s e = ap (λ (i : ℕ). take i s) (e ∙ zero-add m)
drop-take (suc k) m zero s e = absurd (omega arith)
drop-take (suc k) m (suc n) [] e = none m
  where
    none : (m : ℕ) → ◌≡◌ {A = List ℕ} [] (take m [])
    none zero = refl
    none (suc m) = refl
drop-take (suc k) m (suc n) (b ∷ s) e = drop-take k m n s (omega arith)

-- Four times a number, its two highest bits lost.
quadruple : (u : List ℕ) → Nodes u → (4 * pack_number_value (take 64 u)) % 2 ^ 64 ≡ 4 * pack_number_value (take 62 u)
quadruple u h =
    let m : pack_number_value (take 64 u) % 2 ^ 62 ≡ pack_number_value (take 62 u) =
    pack_below 62 (take 64 u) (take-nodes 64 u h) ∙ ap pack_number_value (take-take 62 64 u (omega arith)) in
    omega (arith, m)

-- Two nodes b and c in front of u: the first number.
pub shift_first : (b c : ℕ) (u : List ℕ) → Nodes u
    → pack_number_value (take 64 (b ∷ c ∷ u)) ≡ b + 2 * c + (4 * pack_number_value (take 64 u)) % 2 ^ 64
shift_first b c u h = omega (arith, quadruple u h)
