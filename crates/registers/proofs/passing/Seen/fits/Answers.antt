-- `fits` meets its contract: by the head of the entry, test by test. Assumes nothing.
use mathlib.Core.Path.{◌≡◌, sym, ap, ◌∙◌}
use mathlib.Core.List.{List}
use Prim.Native.Nat.{ℕ, ◌-◌}
use lib.ListN.{take, drop}
use lib.Dec.{ltb}
use borrow.Author.Tests.{lt-ltb, le-ltb}
use Rattle.clause.specs.Clause.{both}
use Rattle.registers.specs.Format.{live_most}
use Rattle.registers.specs.Reading.{stored_in}
use Rattle.registers.specs.inside.Steps.{accepts, count_at}
use Rattle.registers.proofs.Fitting.{print_is, fits_so, and_then, and_else, all_four, not_three}
use Rattle.registers.proofs.passing.Seen.fits.Goals as goal
use Rattle.registers.proofs.passing.Seen.fits.Goals.{then-self-h, else-self-h, then-is_record, else-is_record}

pub is_new-requires : goal.is_new-requires
is_new-requires c = print_is c.requires

pub returns-then-live-lt-LIVE_MOST : goal.returns-then-live-lt-LIVE_MOST
returns-then-live-lt-LIVE_MOST c =
    let e = c.requires in
    let low = c.args.self.now.low in
    let table = c.args.self.now.table in
    let h = c.args.h in
    let bytes : List ℕ = take (h.next - h.start) (drop h.start c.args.s.now) in
    let first : c.if-self-h.value ≡ both (ltb low h.number) (accepts (stored_in bytes)) =
    elim c.if-self-h.branch as (λ w. c.if-self-h.value ≡ both (ltb low h.number) (accepts (stored_in bytes))) [
      | then-self-h w ↦ and_then (lt-ltb _ _ w.if-self-h.true) (w.value-is ∙ w.is_record.ensures)
      | else-self-h w ↦ and_else _ w.value-is (le-ltb _ _ w.if-self-h.false)
    ] in
    let second : c.if-is_record.value ≡ both c.if-self-h.value (ltb (count_at table h.holder) live_most) =
    elim c.if-is_record.branch
    as (λ w. c.if-is_record.value ≡ both c.if-self-h.value (ltb (count_at table h.holder) live_most)) [
      | then-is_record w ↦ and_then w.if-is_record.true
          (w.value-is ∙ ap (λ (n : ℕ). ltb n live_most) w.live.ensures)
      | else-is_record w ↦ and_else _ w.value-is w.if-is_record.false
    ] in
    all_four _ _ _ _ _ _ _ first second c.if-live-lt-LIVE_MOST.true c.is_new.ensures ∙ sym (fits_so e low table)

pub returns-else-live-lt-LIVE_MOST : goal.returns-else-live-lt-LIVE_MOST
returns-else-live-lt-LIVE_MOST c =
    let e = c.requires in
    let low = c.args.self.now.low in
    let table = c.args.self.now.table in
    let h = c.args.h in
    let bytes : List ℕ = take (h.next - h.start) (drop h.start c.args.s.now) in
    let first : c.if-self-h.value ≡ both (ltb low h.number) (accepts (stored_in bytes)) =
    elim c.if-self-h.branch as (λ w. c.if-self-h.value ≡ both (ltb low h.number) (accepts (stored_in bytes))) [
      | then-self-h w ↦ and_then (lt-ltb _ _ w.if-self-h.true) (w.value-is ∙ w.is_record.ensures)
      | else-self-h w ↦ and_else _ w.value-is (le-ltb _ _ w.if-self-h.false)
    ] in
    let second : c.if-is_record.value ≡ both c.if-self-h.value (ltb (count_at table h.holder) live_most) =
    elim c.if-is_record.branch
    as (λ w. c.if-is_record.value ≡ both c.if-self-h.value (ltb (count_at table h.holder) live_most)) [
      | then-is_record w ↦ and_then w.if-is_record.true
          (w.value-is ∙ ap (λ (n : ℕ). ltb n live_most) w.live.ensures)
      | else-is_record w ↦ and_else _ w.value-is w.if-is_record.false
    ] in
    not_three _ _ _ _ _ _ first second c.if-live-lt-LIVE_MOST.false ∙ sym (fits_so e low table)
