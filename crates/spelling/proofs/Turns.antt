-- Laws of `turn`: it is a power of a or a power of A, and it is what m letters a and then n letters A leave.
--     u ~ v   pairs x x⁻¹, put in and taken out, lead from u to v
-- Assumes nothing.
use mathlib.Core.Path.{◌≡◌, sym, ap₂, subst}
use mathlib.Core.List.{[], ◌∷◌, ◌++◌, append-nil, append_assoc}
use Prim.Native.Nat.{ℕ, zero, suc, ◌+◌, ◌-◌}
use native.Mathlib.Omega.{arith}
use lib.ListN.{replicate}
use Rattle.lists.proofs.Copies.{replicate_past}
use Rattle.group.specs.Letters.{'a, 'A, Word}
use Rattle.group.proofs.Congruence.{Congruent, ≈_drop, ◌⟫◌, ≈_path, ≈_front, ≈_back}
use Rattle.group.proofs.FreeWords.{Pair, pair}
use Rattle.spelling.specs.inside.RunLetters.{turn}

infix 50 ◌~◌
-- The congruence of the four pairs.
abbrev pub ◌~◌ : Word → Word → Type 0
u ~ v = Congruent Pair u v

-- A turn by the two numbers of its letters.
turn_by : (m n i j : ℕ) → m - n ≡ i → n - m ≡ j → turn m n ≡ replicate i 'a ++ replicate j 'A
turn_by m n i j e d = ap₂ (λ (p q : ℕ). replicate p 'a ++ replicate q 'A) e d

turn_up : (n : ℕ) → turn 0 n ≡ replicate n 'A
turn_up n = turn_by 0 n 0 n (omega arith) (omega arith)

turn_down : (m : ℕ) → turn m 0 ≡ replicate m 'a ++ []
turn_down m = turn_by m 0 m 0 (omega arith) (omega arith)

turn-both : (m n : ℕ) → turn (suc m) (suc n) ≡ turn m n
turn-both m n = turn_by (suc m) (suc n) (m - n) (n - m) (omega arith) (omega arith)

-- What holds of the powers of a and of A that a turn can be holds of the turn.
pub turn_cases : (P : Word → Type 0) (m n : ℕ) → ((d : ℕ) → m ≡ n + d → P (replicate d 'a))
    → ((d : ℕ) → n ≡ m + d → P (replicate d 'A)) → P (turn m n)
turn_cases P zero n p q = subst P (sym (turn_up n)) (q n (omega arith))
turn_cases P (suc m) zero p q =
    subst P (sym (turn_down (suc m))) (subst P (sym (append-nil (replicate (suc m) 'a))) (p (suc m) (omega arith)))
turn_cases P (suc m) (suc n) p q =
    subst P (sym (turn-both m n))
    (turn_cases P m n (λ d e. p d (omega arith)) (λ d e. q d (omega arith)))

-- Letters a and then letters A.
pub turn_alone : (m n : ℕ) → (replicate m 'a ++ replicate n 'A) ~ turn m n
turn_alone zero n = ≈_path (sym (turn_up n))
turn_alone (suc m) zero = ≈_path (sym (turn_down (suc m)))
turn_alone (suc m) (suc n) =
    ≈_path (sym (replicate_past m 'a ('A ∷ replicate n 'A)))
    ⟫ ≈_front (replicate m 'a) (≈_drop (pair 'a) (replicate n 'A))
    ⟫ turn_alone m n
    ⟫ ≈_path (sym (turn-both m n))

-- The same in front of a word.
pub turn_front : (m n : ℕ) (t : Word) → (replicate m 'a ++ (replicate n 'A ++ t)) ~ (turn m n ++ t)
turn_front m n t =
    ≈_path (sym (append_assoc (replicate m 'a) (replicate n 'A) t)) ⟫ ≈_back (turn_alone m n) t
