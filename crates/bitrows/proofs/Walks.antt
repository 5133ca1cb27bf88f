-- Nodes that close fewer subtrees than are to come are gone through at once: by their number and their carets.
-- Assumes nothing.
use mathlib.Core.Path.{◌≡◌, ap}
use mathlib.Core.List.{List, [], ◌∷◌, ◌++◌}
use Prim.Native.Nat.{ℕ, zero, suc, ◌+◌, ◌<◌, ◌≤◌}
use native.Mathlib.Omega.{arith}
use lib.ListN.{length}
use Rattle.lists.specs.Entries.{total}
use Rattle.trees.specs.Shapes.{span}
use Rattle.bitrows.specs.inside.Nodes.{Nodes}
use Rattle.bitrows.specs.inside.Walking.{fall}

-- At most the number of nodes.
pub fall-length : (s : List ℕ) → fall s ≤ length s
fall-length [] = omega arith
fall-length (zero ∷ s) = omega (arith, fall-length s)
fall-length (suc b ∷ s) = omega (arith, fall-length s)

-- p subtrees to come, more than the nodes xs close: behind xs, p and twice the carets less the nodes are to come.
pub span_past : (xs s : List ℕ) (p q : ℕ) → Nodes xs → fall xs < p → q + length xs ≡ p + (total xs + total xs)
    → span (xs ++ s) p ≡ length xs + span s q
span_past [] s p q h f e =
    let d : p ≡ q = omega arith in
    omega (arith, ap (λ (n : ℕ). span s n) d)
span_past (b ∷ xs) s zero q h f e = absurd (omega arith)
span_past (zero ∷ xs) s (suc p) q h f e =
    omega (arith, span_past xs s p q h.1 (omega arith) (omega arith))
span_past (suc zero ∷ xs) s (suc p) q h f e =
    omega (arith, span_past xs s (suc (suc p)) q h.1 (omega arith) (omega arith))
span_past (suc (suc b) ∷ xs) s (suc p) q h f e = absurd (omega (arith, h.0))
