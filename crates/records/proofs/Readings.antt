-- The ways that the reading of a record ends.
--     Readable s    the fields frame the bytes, and no entry is wrong        Reads s   the four ways
-- Assumes nothing.
use mathlib.Core.Path.{◌≡◌, refl, ◌∙◌, ap}
use mathlib.Core.Bool.{Bool, true, false, cond}
use mathlib.Core.List.{List}
use Prim.Native.Nat.{ℕ, suc, ◌+◌, ◌<◌, ◌≤◌}
use native.Mathlib.Nat.{le_of_suc-le-suc}
use native.Mathlib.Omega.{arith}
use Rattle.group.specs.Forms.{Side, b_side, a_side, Form, exponent}
use Rattle.group.specs.Limits.{limit}
use Rattle.group.specs.Reducing.{Applies}
use Rattle.refusals.specs.Outcomes.{Outcome, accepted, refused, then}
use Rattle.records.specs.Reading.{a_start, frames, b_powers, a_powers, scan, exponent_at, reduced_form}
use Rattle.records.specs.Reading.{read_entries, decode}
use Rattle.records.specs.Faults.{record_entries, FirstFault, form_read, FirstBreak}
use Rattle.records.specs.inside.Steps.{Proper}
use Rattle.records.proofs.ProperPowers.{total}
use Rattle.group.proofs.UpTo.{up_to_index}
use Rattle.records.proofs.ReadBack.{side_powers}
use Rattle.records.proofs.Scans.{Scanned, passes, stops, scanned}
use Rattle.records.proofs.RecordFaults.{b_fault, a_fault}
use Rattle.records.proofs.Clause.{Checked, whole, broken, checked}

pub record Readable (s : List ℕ) : Type 0 where
  pub framed : frames s ≡ true
  pub proper : (t : Side) → Proper 0 (side_powers t s)
  pub sum : total (b_powers s) + total (a_powers s) ≤ limit

pub data Reads (s : List ℕ) : Type 0 where
  unframed : frames s ≡ false → decode s ≡ refused 3 0 → Reads s
  faulty : (place : ℕ) → frames s ≡ true → (Readable s → ⊥) → FirstFault (record_entries s) place
      → decode s ≡ refused 4 place → Reads s
  unreduced : (i : ℕ) → Readable s → FirstBreak (form_read s) i → decode s ≡ refused 5 i → Reads s
  readable : Readable s → ((i : ℕ) → Applies i (form_read s) → ⊥) → decode s ≡ accepted (form_read s) → Reads s

-- No index above the limit occurs in a form that is read.
form_read-below : (s : List ℕ) (t : Side) (i : ℕ) → 0 < exponent t (form_read s) i → i < suc limit
form_read-below s t i h = up_to_index (suc limit) (exponent_at (b_powers s)) (exponent_at (a_powers s)) t i h

pub form_read_index : (s : List ℕ) (t : Side) (i : ℕ) → 0 < exponent t (form_read s) i → i ≤ limit
form_read_index s t i h = le_of_suc-le-suc (form_read-below s t i h)

pub reads : (s : List ℕ) → Reads s
reads s = test (frames s) refl
  where
    next : ℕ → Outcome Form
    next sum = then (scan (a_start s) 0 sum (a_powers s)) (λ total. reduced_form s)

    clause : Readable s → decode s ≡ reduced_form s → Checked (form_read s) (suc limit) → Reads s
    clause r e (whole n w) = readable r n (e ∙ w)
    clause r e (broken i a n w) = unreduced i r (record { breaks = a; least = n }) (e ∙ w)

    sides : Proper 0 (b_powers s) → Proper 0 (a_powers s) → (t : Side) → Proper 0 (side_powers t s)
    sides b a b_side = b
    sides b a a_side = a

    aside : frames s ≡ true → (sum : ℕ) → sum ≡ total (b_powers s) → sum ≤ limit → Proper 0 (b_powers s)
        → decode s ≡ next sum → Scanned (a_start s) 0 sum (a_powers s) → Reads s
    aside q sum same low r e (stops p n v) =
        faulty p q (λ h. n (h.proper a_side) (omega (arith, h.sum))) (a_fault s sum p same low r v)
        (e ∙ ap (λ (o : Outcome ℕ). then o (λ total. reduced_form s)) v)
    aside q sum same low r e (passes k g v) =
        clause (record { framed = q; proper = sides r k; sum = omega arith })
        (e ∙ ap (λ (o : Outcome ℕ). then o (λ total. reduced_form s)) v)
        (checked (form_read s) (suc limit) (form_read-below s b_side))

    bside : frames s ≡ true → decode s ≡ read_entries s → Scanned 3 0 0 (b_powers s) → Reads s
    bside q e (stops p n w) =
        faulty p q (λ h. n (h.proper b_side) (omega (arith, h.sum))) (b_fault s p w)
        (e ∙ ap (λ (o : Outcome ℕ). then o next) w)
    bside q e (passes r h w) =
        aside q (0 + total (b_powers s)) (omega arith) h r (e ∙ ap (λ (o : Outcome ℕ). then o next) w)
        (scanned (a_powers s) (a_start s) 0 (0 + total (b_powers s)) h)

    test : (b : Bool) → frames s ≡ b → Reads s
    test false q = unframed q (ap (λ (b : Bool). cond b (read_entries s) (refused 3 0)) q)
    test true q =
        bside q (ap (λ (b : Bool). cond b (read_entries s) (refused 3 0)) q) (scanned (b_powers s) 3 0 0 (omega arith))
