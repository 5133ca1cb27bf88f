-- The answers of `summary` and `check_register` by the first field and the pass. Assumes nothing.
use mathlib.Core.Path.{◌≡◌, refl, sym, ap, ◌∙◌}
use mathlib.Core.Bool.{Bool, true, false, cond}
use mathlib.Core.List.{List}
use Prim.Native.Nat.{ℕ}
use native.Mathlib.Omega.{arith}
use Rattle.std.specs.Prelude.{Some, None, Result, Ok, Err}
use Rattle.refusals.specs.declared.Refusal.{Refusal}
use Rattle.refusals.specs.declared.Refusal.TheVariants.{BadRegister}
use Rattle.refusals.specs.Outcomes.{Outcome, accepted, refused, then, drop_value, refusal}
use Rattle.fields.specs.Fields.{Bytes, four_at_value, head_size}
use Rattle.registers.specs.declared.Overview.{Overview}
use Rattle.registers.specs.Reading.{first_stands, read_register}
use Rattle.registers.specs.Answers.{RegisterChecked, Summarised, summary_of, overview}
use Rattle.registers.specs.inside.Steps.{first_of}

-- The first field is missing: no register.
pub no_first : (s : List ℕ) (holder : ℕ) → Bytes s → first_of s ≡ None
    → Summarised s holder (Err BadRegister)
no_first s holder are e = record { are_bytes = are; result = rw (go (first_stands s) refl e) refl }
  where
    go : (p : Bool) → first_stands s ≡ p → cond p (Some (four_at_value s head_size)) None ≡ None
        → first_stands s ≡ false
    go true is h = let z : ◌≡◌ {A = ℕ} 0 1 = cc in absurd (omega arith)
    go false is h = is

-- It stands, with this number.
pub first_known : (s : List ℕ) (k : ℕ) → first_of s ≡ Some k → (first_stands s ≡ true) × (k ≡ four_at_value s head_size)
first_known s k e = go (first_stands s) refl e
  where
    go : (p : Bool) → first_stands s ≡ p → cond p (Some (four_at_value s head_size)) None ≡ Some k
        → (first_stands s ≡ true) × (k ≡ four_at_value s head_size)
    go true is h = (is, (cc))
    go false is h = let z : ◌≡◌ {A = ℕ} 0 1 = cc in absurd (omega arith)

-- A register, or 12, whatever the overview.
sum_accepted : {A B : Type 0} (o : Outcome A) (f : A → B) (v : B) → accepted v ≡ then o (λ x. accepted (f x))
    → accepted 0 ≡ drop_value o
sum_accepted (accepted x) f v e = refl
sum_accepted (refused n p) f v e = let z : ◌≡◌ {A = ℕ} 0 1 = cc in absurd (omega arith)

sum_refused : {A B : Type 0} (o : Outcome A) (f : A → B) (r : Refusal) → refusal r ≡ then o (λ x. accepted (f x))
    → refusal r ≡ drop_value o
sum_refused (accepted x) f r e = let z : ◌≡◌ {A = ℕ} 0 1 = cc in absurd (omega arith)
sum_refused (refused n p) f r e = cc

pub checked_register : {s : List ℕ} {q : Result Overview Refusal} {v : Overview} → Summarised s 0 q → q ≡ Ok v
    → RegisterChecked s (Ok tt)
checked_register {s} {q} {v} h e =
    record {
      are_bytes = h.are_bytes;
      result = sum_accepted (read_register s) (overview 0) v (ap summary_of (sym e) ∙ h.result);
    }

pub checked_refused : {s : List ℕ} {q : Result Overview Refusal} {r : Refusal} → Summarised s 0 q → q ≡ Err r
    → RegisterChecked s (Err r)
checked_refused {s} {q} {r} h e =
    record {
      are_bytes = h.are_bytes;
      result = sum_refused (read_register s) (overview 0) r (ap summary_of (sym e) ∙ h.result);
    }
