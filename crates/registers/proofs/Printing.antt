-- A fingerprint has four bytes. Assumes nothing.
use mathlib.Core.List.{List, [], ◌∷◌}
use Prim.Native.Nat.{ℕ, ◌<◌}
use native.Mathlib.Omega.{arith}
use Rattle.std.specs.Prelude.{fold}
use Rattle.registers.specs.inside.Steps.{print_step, fingerprint}

print_below : (s : List ℕ) (x : ℕ) → x < 4294967296 → fold print_step x s < 4294967296
print_below [] x h = h
print_below (b ∷ s) x h = print_below s (print_step x b) (omega arith)

pub print_small : (s : List ℕ) → fingerprint s < 4294967296
print_small s = print_below s 0 (omega arith)
