-- The speller behind runs: what it counts is the number of their letters, and with what is due it gives the whole word
-- and its length. Assumes nothing.
use mathlib.Core.Path.{◌≡◌, refl, ap, ◌∙◌}
use mathlib.Core.List.{List, [], ◌∷◌, ◌++◌, append_assoc}
use Prim.Native.Nat.{ℕ, zero, suc, ◌+◌, ◌<◌, ◌≤◌}
use native.Mathlib.Omega.{arith}
use lib.ListN.{length, replicate, length-append, length-replicate}
use Rattle.group.specs.Letters.{Letter, Word}
use Rattle.spelling.specs.Runs.{Run, run, put_run, distance, letters_from}
use Rattle.spelling.specs.inside.RunLetters.{turn, run_letters, spelt}
use Rattle.spelling.specs.inside.Steps.{behind_run, behind_power, behind_runs}
use Rattle.spelling.specs.declared.speller.Speller.{Speller}
use Rattle.spelling.proofs.Lengths.{turn-length}

-- Runs one behind another.
pub behind-append : (l r : List Run) (s : Speller) → behind_runs s (l ++ r) ≡ behind_runs (behind_runs s l) r
behind-append [] r s = refl
behind-append (run k x e ∷ l) r s = behind-append l r (behind_run s k e)

-- A power in front of runs.
pub behind_put : (k : ℕ) (x : Letter) (e : ℕ) (l : List Run) (s : Speller)
    → behind_runs s (put_run k x e l) ≡ behind_runs (behind_power s k e) l
behind_put k x zero l s = refl
behind_put k x (suc e) l s = refl

-- A power whose exponent is not 0.
pub behind_power_lem : (s : Speller) (k e : ℕ) → 0 < e → behind_power s k e ≡ behind_run s k e
behind_power_lem s k zero h = absurd (omega arith)
behind_power_lem s k (suc e) h = refl

-- The letters of a run and of those behind it.
run_length : (due k : ℕ) (x : Letter) (e : ℕ) (w : Word)
    → length (turn due k ++ (replicate e x ++ w)) ≡ distance due k + (e + length w)
run_length due k x e w =
    omega (
      arith,
      length-append (turn due k) (replicate e x ++ w),
      turn-length due k,
      length-append (replicate e x) w,
      length-replicate e x,
    )

-- Each letter of the runs is counted.
pub behind_count : (l : List Run) (s : Speller) → (behind_runs s l).count ≡ s.count + length (run_letters s.due l)
behind_count [] s = omega arith
behind_count (run k x e ∷ l) s =
    omega (arith, behind_count l (behind_run s k e), run_length s.due k x e (run_letters k l))

-- The count never falls.
pub behind_more : (l : List Run) (s : Speller) → s.count ≤ (behind_runs s l).count
behind_more l s = omega (arith, behind_count l s)

-- The letters of runs one behind another.
pub letters-append : (l r : List Run) (s : Speller)
    → run_letters s.due (l ++ r) ≡ run_letters s.due l ++ run_letters (behind_runs s l).due r
letters-append [] r s = refl
letters-append (run k x e ∷ l) r s =
    ap (λ (w : Word). turn s.due k ++ (replicate e x ++ w)) (letters-append l r (behind_run s k e))
    ∙ simp append_assoc

-- The whole word: the letters of the runs, and what the letters due and n letters A leave.
pub spelt-behind : (l : List Run) (s : Speller) (n : ℕ)
    → spelt s.due l n ≡ run_letters s.due l ++ turn (behind_runs s l).due n
spelt-behind [] s n = refl
spelt-behind (run k x e ∷ l) s n =
    ap (λ (w : Word). turn s.due k ++ (replicate e x ++ w)) (spelt-behind l (behind_run s k e) n)
    ∙ simp append_assoc

-- Its length.
pub letters-behind : (l : List Run) (s : Speller) (n : ℕ)
    → (behind_runs s l).count + distance (behind_runs s l).due n ≡ s.count + letters_from s.due l n
letters-behind [] s n = refl
letters-behind (run k x e ∷ l) s n = omega (arith, letters-behind l (behind_run s k e) n)
