-- How far the speller's count can go over tables of 16-bit numbers: 2^17 letters at most for each power.
-- Assumes nothing.
use mathlib.Core.Path.{sym, subst}
use Prim.Native.Nat.{ℕ, zero, suc, ◌+◌, ◌*◌, ◌<◌, ◌≤◌}
use native.Mathlib.Omega.{arith}
use Rattle.group.specs.Letters.{'b, 'B}
use Rattle.spelling.specs.Runs.{rising, falling}
use Rattle.spelling.specs.inside.Steps.{behind_power, behind_runs}
use Rattle.spelling.specs.declared.speller.Speller.{Speller}
use Rattle.spelling.proofs.Behind.{behind_put}

-- At most n letters are counted, and the letters due are a 16-bit number.
pub record Sized (n : ℕ) (s : Speller) : Type 0 where
  pub most : s.count ≤ n
  pub near : s.due < 65536

-- One power more.
sized_power : {n : ℕ} (s : Speller) (k e : ℕ) → Sized n s → k < 65536 → e < 65536
    → Sized (n + 131072) (behind_power s k e)
sized_power s k zero z h g = record { most = omega (arith, z.most); near = z.near }
sized_power s k (suc e) z h g = record { most = omega (arith, z.most, z.near); near = h }

-- A table's exponents, m of them.
module _ (t : ℕ → ℕ) (small : (i : ℕ) → t i < 65536) where
  pub sized_rising : {n : ℕ} (m k : ℕ) (s : Speller) → Sized n s → k + m ≤ 65536
      → Sized (n + 131072 * m) (behind_runs s (rising t k m))
  sized_rising zero k s z h = record { most = omega (arith, z.most); near = z.near }
  sized_rising {n} (suc m) k s z h =
      let r = sized_rising {n = n + 131072} m (suc k) (behind_power s k (t (suc k)))
      (sized_power s k (t (suc k)) z (omega arith) (small (suc k))) (omega arith) in
      subst (Sized (n + 131072 * suc m)) (sym (behind_put k 'b (t (suc k)) (rising t (suc k) m) s))
      (record { most = omega (arith, r.most); near = r.near })

  pub sized_falling : {n : ℕ} (m : ℕ) (s : Speller) → Sized n s → m ≤ 65536
      → Sized (n + 131072 * m) (behind_runs s (falling t m))
  sized_falling zero s z h = record { most = omega (arith, z.most); near = z.near }
  sized_falling {n} (suc m) s z h =
      let r = sized_falling {n = n + 131072} m (behind_power s m (t (suc m)))
      (sized_power s m (t (suc m)) z (omega arith) (small (suc m))) (omega arith) in
      subst (Sized (n + 131072 * suc m)) (sym (behind_put m 'B (t (suc m)) (falling t m) s))
      (record { most = omega (arith, r.most); near = r.near })
