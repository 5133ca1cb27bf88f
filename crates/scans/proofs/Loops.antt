-- The loops of the scan: columns one by one, and stretches with no exponent behind them.
--     Upto       the columns up to the leaf i are weighed
--     PassedTo   of columns with no exponent behind them some are left
-- Assumes nothing.
use mathlib.Core.Path.{◌≡◌, sym, ◌∙◌, subst, subst₂}
use mathlib.Core.List.{List}
use Prim.Native.Nat.{ℕ, zero, suc, ◌+◌, ◌-◌, ◌≤◌, ◌<◌}
use native.Mathlib.Omega.{arith}
use lib.ListN.{drop, get_or}
use lib.Seq.{drop-drop, get_or-drop}
use Rattle.scans.specs.declared.columns.State.{State}
use Rattle.scans.specs.inside.Steps.{
  run_by,
  run_of,
  RunsBy,
  Runs,
  column_of,
  Ready,
  stretched_by,
  Stretch,
  AmidAt,
  Zeros,
  Passing,
  Passed,
  Reached,
  Scanning,
  Scanned,
}
use Rattle.scans.proofs.Stretches.{runs-fewer}
use Rattle.scans.proofs.Reaching.{column_ready, column_reached, run_room, amid_run}

-- The columns up to the leaf i are weighed.
pub record Upto (b a : List ℕ) (from stop : ℕ) (s : State) (i : ℕ) (r : State) : Type 0 where
  pub within : i ≤ stop
  pub reached : (n w : ℕ) → Reached b a n from w s → stop ≤ suc n → Reached b a n i w r

pub upto_start : {b a : List ℕ} {from stop : ℕ} {s : State} → Scanning b a from stop s → Upto b a from stop s from s
upto_start h = record { within = h.on; reached = λ n w r p. r }

module _ {b a : List ℕ} {from stop : ℕ} {s : State} {i : ℕ} {r : State} (h : Scanning b a from stop s)
    (u : Upto b a from stop s i r) (more : i < stop) (e f : ℕ) (he : e ≡ get_or a i 0) (hf : f ≡ get_or b i 0) where
  pub upto_ready : Ready r e f
  upto_ready =
      let here = u.reached h.carets h.total h.reached h.within in
      column_ready here (omega (arith, h.within)) e f he hf h.small

  pub upto_more : (r' : State) → r' ≡ column_of r e f → Upto b a from stop s (i + 1) r'
  upto_more r' is = record {
    within = omega arith;
    reached = λ n w q p.
        let next : suc i ≡ i + 1 = omega arith in
        subst₂ (λ (k : ℕ) (x : State). Reached b a n k w x) next (sym is)
        (column_reached (u.reached n w q p) (omega arith) e f he hf);
  }

pub upto_done : {b a : List ℕ} {from stop i : ℕ} {s r : State} → Upto b a from stop s i r → stop ≤ i
    → Scanned b a from stop s r
upto_done {b} {a} {from} {stop} {i} {s} {r} u h = record {
  reached = λ n w q p.
      let end : i ≡ stop = omega (arith, u.within) in
      subst (λ (k : ℕ). Reached b a n k w r) end (u.reached n w q p);
}

-- Of `count` columns with no exponent behind them some are left.
pub record PassedTo (count : ℕ) (s : State) (left : ℕ) (r : State) : Type 0 where
  pub gone : ℕ
  pub parts : gone + left ≡ count
  pub amid : (es fs : List ℕ) (m w : ℕ) → Zeros count es → Zeros count fs → AmidAt (count + m) es fs s w
      → AmidAt (left + m) (drop gone es) (drop gone fs) r w

pub pass_start : (count : ℕ) (s : State) → PassedTo count s count s
pass_start count s = record { gone = 0; parts = omega arith; amid = λ es fs m w ze zf h. h }

-- A run is not longer than what is left, and at least one caret long.
run_few : (s l most : ℕ) → run_by s l most ≤ most
run_few zero zero most = omega arith
run_few zero (suc l) most = omega arith
run_few (suc s) l most = omega arith

run_runs : (s l most : ℕ) → RunsBy (run_by s l most) s l
run_runs zero zero most = tt
run_runs zero (suc l) most = omega arith
run_runs (suc s) l most = omega arith

run_some : (s l most : ℕ) → 1 ≤ most → 1 ≤ run_by s l most
run_some zero zero most h = h
run_some zero (suc l) most h = omega arith
run_some (suc s) l most h = omega arith

-- One stretch more.
module _ {count left : ℕ} {s r : State} (h : Passing count s) (p : PassedTo count s left r) (more : 0 < left) (c d : ℕ)
    (first : d ≡ run_of r.minus left) (second : c ≡ run_of r.plus d) where
  pub stretch_some : 1 ≤ c
  stretch_some =
      omega (
        arith,
        run_some r.plus.subtrees r.plus.lefts d
            (omega (arith, run_some r.minus.subtrees r.minus.lefts left more)),
      )

  pub stretch_few : c ≤ left
  stretch_few =
      omega (
        arith,
        run_few r.plus.subtrees r.plus.lefts d,
        run_few r.minus.subtrees r.minus.lefts left,
      )

  minus_runs : Runs c r.minus
  minus_runs =
      runs-fewer c d r.minus.subtrees r.minus.lefts
      (omega (arith, run_few r.plus.subtrees r.plus.lefts d))
      (subst (λ (k : ℕ). Runs k r.minus) (sym first) (run_runs r.minus.subtrees r.minus.lefts left))

  plus_runs : Runs c r.plus
  plus_runs = subst (λ (k : ℕ). Runs k r.plus) (sym second) (run_runs r.plus.subtrees r.plus.lefts d)

  -- The first exponents that are left are 0.
  zeros_left : (es : List ℕ) → Zeros count es → Zeros c (drop p.gone es)
  zeros_left es z i q = get_or-drop p.gone es i 0 ∙ z (p.gone + i) (omega (arith, p.parts, stretch_few))

  ahead : (es fs : List ℕ) (m w : ℕ) → AmidAt (left + m) es fs r w → AmidAt (c + (left - c + m)) es fs r w
  ahead es fs m w = subst (λ (k : ℕ). AmidAt k es fs r w) (omega (arith, stretch_few))

  pub pass_stretch : Stretch r c
  pass_stretch =
      let es = h.minus_behind in
      let fs = h.plus_behind in
      let here = p.amid es fs h.more h.total h.minus_zeros h.plus_zeros h.amid in
      record {
        minus_runs = minus_runs;
        plus_runs = plus_runs;
        few = omega (arith, stretch_few, p.parts, h.few);
        room =
            run_room c (left - c + h.more) (ahead (drop p.gone es) (drop p.gone fs) h.more h.total here)
            (zeros_left es h.minus_zeros) (zeros_left fs h.plus_zeros) minus_runs plus_runs stretch_some;
      }

  pub pass_more : (r' : State) → r' ≡ stretched_by r c → PassedTo count s (left - c) r'
  pass_more r' is = record {
    gone = p.gone + c;
    parts = omega (arith, p.parts, stretch_few);
    amid = λ es fs m w ze zf q.
        let here = ahead (drop p.gone es) (drop p.gone fs) m w (p.amid es fs m w ze zf q) in
        let there =
        amid_run c (left - c + m) here (zeros_left es ze) (zeros_left fs zf) minus_runs plus_runs stretch_some in
        subst (λ (x : State). AmidAt (left - c + m) (drop (p.gone + c) es) (drop (p.gone + c) fs) x w) (sym is)
        (subst₂ (λ (xs ys : List ℕ). AmidAt (left - c + m) xs ys (stretched_by r c) w) (drop-drop c p.gone es)
        (drop-drop c p.gone fs) there);
  }

pub pass_done : {count left : ℕ} {s r : State} → PassedTo count s left r → left ≡ 0 → Passed count s r
pass_done {count} {left} {s} {r} p z = record {
  amid = λ es fs m w ze zf q.
      let all : p.gone ≡ count = omega (arith, p.parts) in
      let none : left + m ≡ m = omega arith in
      subst₂ (λ (g k : ℕ). AmidAt k (drop g es) (drop g fs) r w) all none (p.amid es fs m w ze zf q);
}
