-- Both fields of a framed record, checked one after the other. Assumes nothing.
use mathlib.Core.Path.{◌≡◌, refl}
use mathlib.Core.List.{List}
use Prim.Native.Nat.{ℕ, ◌≤◌}
use native.Mathlib.Omega.{arith}
use Rattle.group.specs.Limits.{limit}
use Rattle.refusals.specs.Outcomes.{Outcome, accepted, refused, then, drop_value}
use Rattle.records.specs.Reading.{b_powers, a_powers, a_start, scan}
use Rattle.records.specs.inside.Steps.{Proper, scan_both}
use Rattle.refusals.proofs.Outcomes.{accepted_refused}
use Rattle.records.proofs.Scans.{passed→proper}

-- A framed record whose entries pass has proper entries.
pub fields_proper : (s : List ℕ) → accepted 0 ≡ drop_value (scan_both s) → Proper 0 (b_powers s) × Proper 0 (a_powers s)
fields_proper s h = go (scan 3 0 0 (b_powers s)) refl h
  where
    next : (sum : ℕ) → sum ≤ limit → (o : Outcome ℕ) → scan (a_start s) 0 sum (a_powers s) ≡ o → accepted 0 ≡ drop_value o
        → Proper 0 (a_powers s)
    next sum le (accepted n) q k = (passed→proper (a_powers s) (a_start s) 0 sum n le q).0
    next sum le (refused n p) q k = absurd (accepted_refused k)

    go : (o : Outcome ℕ) → scan 3 0 0 (b_powers s) ≡ o
        → accepted 0 ≡ drop_value (then o (λ sum. scan (a_start s) 0 sum (a_powers s)))
        → Proper 0 (b_powers s) × Proper 0 (a_powers s)
    go (accepted sum) q k =
        let first = passed→proper (b_powers s) 3 0 0 sum (omega arith) q in
        (first.0, next sum first.1 (scan (a_start s) 0 sum (a_powers s)) refl k)
    go (refused n p) q k = absurd (accepted_refused k)
