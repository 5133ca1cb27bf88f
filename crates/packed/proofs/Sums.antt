-- The loop that compares a summary with the ones of the numbers.
--     Summing xs ys n count j    the first j entries are right, and count is what entry j should be
-- Assumes nothing.
use mathlib.Core.Path.{◌≡◌, refl, sym, ap, ◌∙◌}
use mathlib.Core.Bool.{true, false}
use mathlib.Core.List.{List, [], ◌∷◌}
use Prim.Native.Nat.{ℕ, zero, suc, ◌+◌, ◌*◌, ◌<◌, ◌≤◌}
use native.Mathlib.Omega.{arith}
use native.Mathlib.Decide.{dec_le}
use lib.Count.{ones}
use lib.ListN.{length, take, get_or}
use Rattle.packed.specs.inside.Steps.{ones_in, Summed}

-- Amid the loop.
pub record Summing (numbers summary : List ℕ) (n count j : ℕ) : Type 0 where
  pub right : Summed numbers summary j
  pub counted : count ≡ ones_in (take j numbers)
  pub few : count ≤ 64 * j
  pub within : j ≤ n

pub summing_start : (numbers summary : List ℕ) (n : ℕ) → Summing numbers summary n 0 0
summing_start numbers summary n = record {
  right = λ i l. absurd (omega arith);
  counted = refl;
  few = omega arith;
  within = omega arith;
}

-- The ones of one number more.
ones_more : (numbers : List ℕ) (j : ℕ) → j < length numbers
    → ones_in (take (suc j) numbers) ≡ ones_in (take j numbers) + ones (get_or numbers j 0)
ones_more [] j h = absurd (omega arith)
ones_more (x ∷ numbers) zero h = omega arith
ones_more (x ∷ numbers) (suc j) h = omega (arith, ones_more numbers j (omega arith))

-- One entry more that is right.
pub summing_more : {numbers summary : List ℕ} {n count j : ℕ} → Summing numbers summary n count j
    → ones (get_or numbers j 0) ≤ 64
    → j < n → j < length numbers → get_or summary j 0 ≡ count
    → Summing numbers summary n (count + ones (get_or numbers j 0)) (j + 1)
summing_more {numbers} {summary} {n} {count} {j} a h l k e =
    let s : suc j ≡ j + 1 = omega arith in
    record {
      right = λ i m. go i (dec_le (suc i) j) m;
      counted = omega (arith, a.counted, ones_more numbers j k, ap (λ (i : ℕ). ones_in (take i numbers)) s);
      few = omega (arith, a.few, h);
      within = omega arith;
    }
  where
    go : (i : ℕ) → Dec (i < j) → i < j + 1 → get_or summary i 0 ≡ ones_in (take i numbers)
    go i (yes c) m = a.right i c
    go i (no c) m =
        let d : j ≡ i = omega arith in
        ap (λ (k : ℕ). get_or summary k 0) (sym d) ∙ e ∙ a.counted ∙ ap (λ (k : ℕ). ones_in (take k numbers)) d

-- What is answered at an entry that is wrong.
pub summing_wrong : {numbers summary : List ℕ} {n count j : ℕ} → Summing numbers summary n count j → j < n
    → (get_or summary j 0 ≡ count → ⊥) → (false ≡ true → Summed numbers summary n)
    × (Summed numbers summary n → false ≡ true)
summing_wrong {numbers} {summary} {n} {count} {j} a l f = (
  (λ e. let z : ◌≡◌ {A = ℕ} 0 1 = cc in absurd (omega arith)),
  λ s. absurd (f (s j l ∙ sym a.counted)),
)

-- What is answered at the end.
pub summing_right : {numbers summary : List ℕ} {n count j : ℕ} → Summing numbers summary n count j → n ≤ j
    → (true ≡ true → Summed numbers summary n) × (Summed numbers summary n → true ≡ true)
summing_right a l = ((λ e i m. a.right i (omega arith)), λ s. refl)
