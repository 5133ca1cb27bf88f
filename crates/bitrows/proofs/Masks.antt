-- A one shifted by less than the width is a power, so what is below it counts. Assumes nothing.
use mathlib.Core.Path.{◌≡◌, ap, ◌∙◌}
use Prim.Native.Nat.{ℕ, ◌-◌, ◌*◌, ◌%◌, ◌^◌, ◌<◌}
use lib.Bits.{bit_and, and_mask}
use lib.Count.{ones}
use native.Mathlib.Omega.{arith}
use Rattle.std.proofs.lemmas.Nat.{one_shl}

pub ones_masked : (x k : ℕ) → k < 64 → ones (bit_and x ((1 * 2 ^ k) % 18446744073709551616 - 1)) ≡ ones (x % 2 ^ k)
ones_masked x k h = ap (λ (m : ℕ). ones (bit_and x (m - 1))) (one_shl k 64 h) ∙ ap ones (and_mask x k)

-- The same at a node, by its place in the number.
pub shl_at : (r n : ℕ) → r ≡ n % 64 → (1 * 2 ^ r) % 18446744073709551616 ≡ 2 ^ (n % 64)
shl_at r n e = one_shl r 64 (omega arith) ∙ ap (λ (k : ℕ). 2 ^ k) e

pub ones_at : (x r n : ℕ) → r ≡ n % 64
    → ones (bit_and x ((1 * 2 ^ r) % 18446744073709551616 - 1)) ≡ ones (x % 2 ^ (n % 64))
ones_at x r n e = ones_masked x r (omega arith) ∙ ap (λ (k : ℕ). ones (x % 2 ^ k)) e
