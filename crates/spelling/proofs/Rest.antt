-- Loops over a table: the runs that are left, turn by turn, and the count.
--     First left rest k x e   the runs left begin with a power, and the rest follows
--     Leads left now l start  the runs left lead from here where the runs l lead from the start
-- Assumes nothing.
use mathlib.Core.Path.{◌≡◌, refl, sym, ap, ◌∙◌}
use mathlib.Core.List.{List, []}
use Prim.Native.Nat.{ℕ, zero, suc, ◌+◌, ◌-◌, ◌<◌, ◌≤◌}
use native.Mathlib.Omega.{arith}
use Rattle.group.specs.Letters.{Letter, 'b, 'B}
use Rattle.group.specs.Limits.{limit}
use Rattle.spelling.specs.Runs.{Run, put_run, rising, falling}
use Rattle.spelling.specs.inside.Steps.{behind_power, behind_runs, read_exponent, rising_runs, falling_runs}
use Rattle.spelling.specs.declared.speller.Speller.{Speller}
use Rattle.spelling.proofs.Behind.{behind_put, behind_more}

-- The next power, and the runs behind it.
pub record First (left rest : List Run) (k : ℕ) (x : Letter) (e : ℕ) : Type 0 where
  pub begins : left ≡ put_run k x e rest

-- The runs of x_k, …, x_n, indices rising.
abbrev pub rising_from : (ℕ → ℕ) → (n k : ℕ) → List Run
rising_from b n k = rising b (k - 1) (suc n - k)

-- The first of m + 1 runs, by its index k.
rising-first : (b : ℕ → ℕ) (j m k i p : ℕ) → p ≡ suc m → k ≡ suc j → i ≡ suc j
    → rising b j p ≡ put_run j 'b (b k) (rising b i m)
rising-first b j m k i p e f g =
    ap (rising b j) e
    ∙ ap (λ (x : ℕ). put_run j 'b (b x) (rising b (suc j) m)) (sym f)
    ∙ ap (λ (x : ℕ). put_run j 'b (b k) (rising b x m)) (sym g)

-- The first is that of x_k.
pub rising_next : (b : ℕ → ℕ) (n k : ℕ) → 0 < k → k ≤ n
    → First (rising_from b n k) (rising_from b n (k + 1)) (k - 1) 'b (b k)
rising_next b n k h g = record {
  begins =
      rising-first b (k - 1) (suc n - (k + 1)) k (k + 1 - 1) (suc n - k) (omega arith) (omega arith) (omega arith);
}

-- Behind x_n there is none.
pub rising_done : (b : ℕ → ℕ) (n k : ℕ) → n < k → rising_from b n k ≡ []
rising_done b n k h = let e : suc n - k ≡ 0 = omega arith in ap (rising b (k - 1)) e

-- The same for the runs of x_k, …, x_1, indices falling.
pub falling_next : (a : ℕ → ℕ) (k : ℕ) → 0 < k → First (falling a k) (falling a (k - 1)) (k - 1) 'B (a k)
falling_next a zero h = absurd (omega arith)
falling_next a (suc k) h =
    let e : k ≡ suc k - 1 = omega arith in
    record { begins = ap (λ (j : ℕ). put_run j 'B (a (suc k)) (falling a j)) e }

pub falling_done : (a : ℕ → ℕ) (k : ℕ) → k ≤ 0 → falling a k ≡ []
falling_done a k h = let e : k ≡ 0 = omega arith in ap (falling a) e

-- All the runs of a table are left at the start.
pub rising_all : (t : List ℕ) → rising_from (read_exponent t) limit 1 ≡ rising_runs t
unfolding rising_runs
rising_all t = refl

pub falling_all : (t : List ℕ) → falling (read_exponent t) limit ≡ falling_runs t
unfolding falling_runs
falling_all t = refl

-- From here, the runs left lead where all the runs lead from the start.
pub record Leads (left : List Run) (now : Speller) (l : List Run) (start : Speller) : Type 0 where
  pub meets : behind_runs now left ≡ behind_runs start l

-- At the start all are left.
pub leads_start : {left l : List Run} (start : Speller) → left ≡ l → Leads left start l start
leads_start start e = record { meets = ap (behind_runs start) e }

module _ {left rest l : List Run} {now start : Speller} {k e : ℕ} {x : Letter} (c : Leads left now l start)
    (f : First left rest k x e) where
  -- Behind the next power the rest is left.
  leads_power : Leads rest (behind_power now k e) l start
  leads_power = record { meets = sym (behind_put k x e rest now) ∙ sym (ap (behind_runs now) f.begins) ∙ c.meets }

  -- The next power is passed.
  pub leads_more : {next : Speller} → next ≡ behind_power now k e → Leads rest next l start
  leads_more {next} is = record { meets = ap (λ (s : Speller). behind_runs s rest) is ∙ leads_power.meets }

  -- It is counted within the whole.
  pub leads_room : (behind_power now k e).count ≤ (behind_runs start l).count
  leads_room =
      omega (arith, behind_more rest (behind_power now k e), ap (λ (s : Speller). s.count) leads_power.meets)

-- No run is left.
pub leads_done : {left l : List Run} {now start : Speller} → Leads left now l start → left ≡ []
    → now ≡ behind_runs start l
leads_done {left} {l} {now} {start} c none = sym (ap (behind_runs now) none) ∙ c.meets
