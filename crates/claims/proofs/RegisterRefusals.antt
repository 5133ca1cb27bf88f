-- Bytes that are no register are refused with 12, and no others. Assumes nothing.
use mathlib.Core.Path.{◌≡◌, refl, sym, ap₂, ◌∙◌}
use mathlib.Core.Bool.{Bool, true, false, cond}
use mathlib.Core.List.{List, [], ◌∷◌}
use mathlib.Core.Logic.{◌↔◌}
use Prim.Native.Nat.{ℕ, zero, suc}
use lib.ListN.{length, drop}
use Rattle.group.specs.Forms.{Form}
use Rattle.refusals.specs.Outcomes.{Outcome, accepted, refused, then}
use Rattle.refusals.proofs.Outcomes.{accepted_refused, refused_number, refused_place}
use Rattle.fields.specs.Fields.{Bytes, head_size, four_at_value}
use Rattle.registers.specs.Format.{Register, first_size}
use Rattle.registers.specs.Reading.{ends, entry_size, entry_stands, number_in, holder_in, record_in, stored_in}
use Rattle.registers.specs.Reading.{entry_of}
use Rattle.registers.specs.Reading.{read_entry, read_entries, sound, first_stands, read_register}
use Rattle.registers.proofs.WellFormed.{reads_well_formed}
use Rattle.claims.specs.Registers.{RegisterRefusal}

-- Whatever is no register is refused with 12, place 0.
abbrev Twelve : {A : Type 0} → Outcome A → Type 0
Twelve o = (n p : ℕ) → o ≡ refused n p → (n ≡ 12) × (p ≡ 0)

value_twelve : {A : Type 0} (x : A) → Twelve (accepted x)
value_twelve x n p e = absurd (accepted_refused e)

so_twelve : {A : Type 0} → Twelve {A = A} (refused 12 0)
so_twelve n p e = (sym (refused_number e), sym (refused_place e))

cond_twelve : {A : Type 0} (b : Bool) (o q : Outcome A) → Twelve o → Twelve q → Twelve (cond b o q)
cond_twelve true o q x y n p e = x n p e
cond_twelve false o q x y n p e = y n p e

then_twelve : {A B : Type 0} (o : Outcome A) (next : A → Outcome B) → Twelve o → ((x : A) → Twelve (next x))
    → Twelve (then o next)
then_twelve (accepted x) next h g n p e = g x n p e
then_twelve (refused i j) next h g n p e =
    let is = h i j refl in (sym (refused_number e) ∙ is.0, sym (refused_place e) ∙ is.1)

form_twelve : (i j : ℕ) (o : Outcome Form) → Twelve (entry_of i j o)
form_twelve i j (accepted f) n p e = value_twelve _ n p e
form_twelve i j (refused a b) n p e = so_twelve n p e

entry_twelve : (s : List ℕ) → Twelve (read_entry s)
entry_twelve s n p e =
    cond_twelve (entry_stands s) _ _ (form_twelve (number_in s) (holder_in s) (stored_in (record_in s))) so_twelve n p e

entries_twelve : (k : ℕ) (s : List ℕ) → Twelve (read_entries k s)
unfolding read_entries
entries_twelve zero s n p e = value_twelve _ n p e
entries_twelve (suc k) s n p e =
    cond_twelve (ends s) _ _ (value_twelve [])
    (then_twelve (read_entry s) _ (entry_twelve s)
    (λ x. then_twelve (read_entries k (drop (entry_size s) s)) _ (entries_twelve k (drop (entry_size s) s))
    (λ xs. value_twelve (x ∷ xs)))) n p e

register_twelve : (s : List ℕ) → Twelve (read_register s)
register_twelve s n p e =
    cond_twelve (first_stands s) _ _
    (then_twelve (read_entries (length s) (drop first_size s)) _ (entries_twelve (length s) (drop first_size s))
    (λ es. cond_twelve (sound (four_at_value s head_size) es) _ _ (value_twelve _) so_twelve)) so_twelve n p e

-- The reading refuses just what is no register.
pub read↔refusal : (s : List ℕ) → Bytes s → (n p : ℕ) → (read_register s ≡ refused n p) ↔ RegisterRefusal s n p
read↔refusal s bytes n p = (to, λ c. from c (read_register s) refl)
  where
    to : read_register s ≡ refused n p → RegisterRefusal s n p
    to e =
        let is = register_twelve s n p e in
        record {
          twelve = is.0;
          no_place = is.1;
          none = λ q. accepted_refused (sym ((reads_well_formed s q.0 bytes).1 q.1) ∙ e);
        }

    from : RegisterRefusal s n p → (o : Outcome Register) → read_register s ≡ o → read_register s ≡ refused n p
    from c (accepted q) e = absurd (c.none (q, (reads_well_formed s q bytes).0 e))
    from c (refused i j) e =
        let is = register_twelve s i j e in
        e ∙ ap₂ refused (is.0 ∙ sym c.twelve) (is.1 ∙ sym c.no_place)
