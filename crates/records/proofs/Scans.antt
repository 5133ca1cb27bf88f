-- The entries of a field are passed just where they are proper and their sum stays within the limit.
--     Fit low sum i e           an entry with nothing wrong       Scanned at low sum ps   the two ways that a scan ends
-- Assumes nothing.
use mathlib.Core.Path.{◌≡◌, refl, sym, ◌∙◌, ap}
use mathlib.Core.Bool.{Bool, true, false, cond, true≢false}
use mathlib.Core.List.{List, [], ◌∷◌}
use Prim.Native.Nat.{ℕ, suc, ◌+◌, ◌<◌, ◌≤◌}
use native.Mathlib.Omega.{arith}
use lib.Dec.{eqb, ltb}
use borrow.Author.Tests.{ltb-false, eqb-false, le-ltb, ne_eqb}
use Rattle.group.specs.Limits.{limit}
use Rattle.refusals.specs.Outcomes.{accepted, refused}
use Rattle.records.specs.Format.{Power, power}
use Rattle.records.specs.Reading.{is_faulty, scan}
use Rattle.refusals.proofs.Outcomes.{accepted_same, accepted_refused}
use Rattle.records.proofs.Tests.{neither_left, neither_right, fails_neither}
use Rattle.records.specs.inside.Steps.{Proper}
use Rattle.records.proofs.ProperPowers.{total}

pub record Fit (low sum i e : ℕ) : Type 0 where
  pub some_exponent : 0 < e
  pub low_index : i ≤ limit
  pub rises : low ≤ i
  pub low_sum : sum + e ≤ limit

pub passed→fit : (low sum i e : ℕ) → is_faulty low sum i e ≡ false → Fit low sum i e
passed→fit low sum i e h =
    let p = neither_right (eqb e 0) _ h in
    let q = neither_right (ltb limit i) _ p in
    let some = eqb-false e 0 (neither_left (eqb e 0) _ h) in
    record {
      some_exponent = omega (arith, some);
      low_index = ltb-false limit i (neither_left (ltb limit i) _ p);
      rises = ltb-false i low (neither_left (ltb i low) _ q);
      low_sum = ltb-false limit (sum + e) (neither_right (ltb i low) _ q);
    }

fit→passed : (low sum i e : ℕ) → Fit low sum i e → is_faulty low sum i e ≡ false
fit→passed low sum i e h =
    fails_neither (eqb e 0) _ (ne_eqb e 0 (omega (arith, h.some_exponent)))
    (fails_neither (ltb limit i) _ (le-ltb limit i h.low_index)
    (fails_neither (ltb i low) _ (le-ltb i low h.rises) (le-ltb limit (sum + e) h.low_sum)))

-- A scan from a sum within the limit passes all entries, which are proper and stay within it, or stops; not both.
pub data Scanned (at low sum : ℕ) (ps : List Power) : Type 0 where
  passes : Proper low ps → sum + total ps ≤ limit → scan at low sum ps ≡ accepted (sum + total ps)
      → Scanned at low sum ps
  stops : (place : ℕ) → (Proper low ps → sum + total ps ≤ limit → ⊥) → scan at low sum ps ≡ refused 4 place
      → Scanned at low sum ps

pub scanned : (ps : List Power) (at low sum : ℕ) → sum ≤ limit → Scanned at low sum ps
scanned [] at low sum h =
    let same : sum ≡ sum + 0 = omega arith in passes tt (omega arith) (ap accepted same)
scanned (power i e ∷ ps) at low sum h = test (is_faulty low sum i e) refl (scanned ps (at + 4) (suc i) (sum + e))
  where
    goes : {b : Bool} → is_faulty low sum i e ≡ b
        → scan at low sum (power i e ∷ ps) ≡ cond b (refused 4 at) (scan (at + 4) (suc i) (sum + e) ps)
    goes q = ap (λ (b : Bool). cond b (refused 4 at) (scan (at + 4) (suc i) (sum + e) ps)) q

    more : is_faulty low sum i e ≡ false → Fit low sum i e → Scanned (at + 4) (suc i) (sum + e) ps
        → Scanned at low sum (power i e ∷ ps)
    more q fit (passes r k w) =
        let same : sum + e + total ps ≡ sum + (e + total ps) = omega arith in
        passes (fit.rises, fit.low_index, fit.some_exponent, r) (omega arith) (goes q ∙ w ∙ ap accepted same)
    more q fit (stops place n w) = stops place (λ r k. n r.3 (omega arith)) (goes q ∙ w)

    test : (b : Bool) → is_faulty low sum i e ≡ b → (sum + e ≤ limit → Scanned (at + 4) (suc i) (sum + e) ps)
        → Scanned at low sum (power i e ∷ ps)
    test true q rest =
        stops at
        (λ r k.
        true≢false
        (sym q
        ∙ fit→passed low sum i e
        (record { some_exponent = r.2; low_index = r.1; rises = r.0; low_sum = omega (arith, k) })))
        (goes q)
    test false q rest =
        let fit = passed→fit low sum i e q in more q fit (rest fit.low_sum)

-- Entries that pass are proper, and their sum is within the limit.
pub passed→proper : (ps : List Power) (at low sum n : ℕ) → sum ≤ limit → scan at low sum ps ≡ accepted n
    → Proper low ps × (n ≤ limit)
passed→proper ps at low sum n h e = go (scanned ps at low sum h)
  where
    go : Scanned at low sum ps → Proper low ps × (n ≤ limit)
    go (passes r k w) = let same : sum + total ps ≡ n = accepted_same (sym w ∙ e) in (r, omega (arith, k, same))
    go (stops place never w) = absurd (accepted_refused (sym e ∙ w))
