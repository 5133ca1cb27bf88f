-- Stored records: a record is stored just where it is read and is not above its exchange, as `is_smaller` says.
-- Assumes nothing.
use mathlib.Core.Path.{◌≡◌, refl, sym, ap, ◌∙◌}
use mathlib.Core.Bool.{Bool, true, false, cond}
use mathlib.Core.List.{List}
use Prim.Native.Nat.{ℕ}
use Rattle.group.specs.Forms.{Form}
use Rattle.refusals.specs.Outcomes.{Outcome, accepted, refused, then}
use Rattle.refusals.proofs.Outcomes.{accepted_refused}
use Rattle.records.specs.Reading.{decode}
use Rattle.records.specs.Exchange.{is_above}
use Rattle.registers.specs.Reading.{not_register, stored_in}

-- What is stored is read, and not above its exchange.
pub stored-parts : (s : List ℕ) (f : Form) → stored_in s ≡ accepted f → (decode s ≡ accepted f) × (is_above s ≡ false)
stored-parts s f e = read (decode s) refl e
  where
    low : (g : Form) (b : Bool) → is_above s ≡ b → cond b not_register (accepted g) ≡ accepted f
        → (accepted g ≡ accepted f) × (is_above s ≡ false)
    low g true a q = absurd (accepted_refused (sym q))
    low g false a q = (q, a)

    read : (o : Outcome Form) → decode s ≡ o → then o (λ g. cond (is_above s) not_register (accepted g)) ≡ accepted f
        → (decode s ≡ accepted f) × (is_above s ≡ false)
    read (accepted g) d q = let both = low g (is_above s) refl q in (d ∙ both.0, both.1)
    read (refused n p) d q = absurd (accepted_refused (sym q))

-- And back.
pub parts-stored : (s : List ℕ) (f : Form) → decode s ≡ accepted f → is_above s ≡ false → stored_in s ≡ accepted f
parts-stored s f d a =
    ap (λ (o : Outcome Form). then o (λ g. cond (is_above s) not_register (accepted g))) d
    ∙ ap (λ (b : Bool). cond b not_register (accepted f)) a
