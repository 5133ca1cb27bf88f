-- `entries` meets its contract: the first field's sum, and then the second's. Assumes nothing.
use mathlib.Core.Path.{◌≡◌, sym, ap, ap₂, ◌∙◌}
use mathlib.Core.List.{List}
use Prim.Native.Nat.{ℕ}
use native.Mathlib.Omega.{arith}
use Rattle.refusals.specs.Outcomes.{Outcome, accepted, then, drop_value}
use Rattle.records.specs.Format.{Power}
use Rattle.records.specs.Reading.{b_powers, a_powers, a_start, scan}
use Rattle.records.specs.inside.Steps.{scan_both}
use Rattle.records.proofs.Scans.{passed→proper}
use Rattle.records.proofs.Fields.{fields_proper}
use Rattle.records.proofs.frame.Frame.entries.Goals as goal

pub scan_field-requires-2 : goal.scan_field-requires-2
scan_field-requires-2 c =
    let s : List ℕ = c.args.self.bytes.now in
    let place = c.b_place.ensures in
    let first : accepted c.in_ok-sum.sum ≡ scan 3 0 0 (b_powers s) =
    c.in_ok-sum.ensures ∙ ap₂ (λ (n : ℕ) (ps : List Power). scan n 0 0 ps) place.at place.powers in
    record {
      inside = c.a_place.ensures.inside;
      small = (passed→proper (b_powers s) 3 0 0 _ (omega arith) (sym first)).1;
    }

pub invariant_of-result : goal.invariant_of-result
invariant_of-result c =
    let s : List ℕ = c.args.self.bytes.now in
    let b = c.b_place.ensures in
    let a = c.a_place.ensures in
    let first : accepted c.in_ok-sum.sum ≡ scan 3 0 0 (b_powers s) =
    c.in_ok-sum.ensures ∙ ap₂ (λ (n : ℕ) (ps : List Power). scan n 0 0 ps) b.at b.powers in
    let second : accepted c.in_ok-scan_field.field-0 ≡ scan (a_start s) 0 c.in_ok-sum.sum (a_powers s) =
    c.in_ok-scan_field.ensures ∙ ap₂ (λ (n : ℕ) (ps : List Power). scan n 0 c.in_ok-sum.sum ps) a.at a.powers in
    let both : accepted 0 ≡ drop_value (scan_both s) =
    ap (λ (o : Outcome ℕ). drop_value o) second
    ∙ ap (λ (o : Outcome ℕ). drop_value (then o (λ n. scan (a_start s) 0 n (a_powers s)))) first in
    let proper = fields_proper s both in
    record { b_proper = proper.0; a_proper = proper.1 }
