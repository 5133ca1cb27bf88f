-- A record written from a form is read back: the form is found again, and no other form has that record.
--     side_powers s bytes   the powers that are read for a side
-- Assumes nothing.
use mathlib.Core.Path.{◌≡◌, refl, sym, ◌∙◌, ap, ap₂}
use mathlib.Core.Bool.{true}
use mathlib.Core.List.{List, [], append-nil}
use Prim.Native.Nat.{ℕ, suc, ◌/◌, ◌%◌, ◌<◌, ◌≤◌}
use native.Mathlib.Decide.{dec_lt}
use native.Mathlib.Omega.{arith}
use lib.ListN.{length}
use Rattle.group.specs.Forms.{Side, b_side, a_side, Form, on_side, exponent, Trimmed, exponents}
use Rattle.group.specs.Limits.{limit}
use Rattle.group.proofs.Exponents.{exponents_at, trimmed_equal}
use Rattle.records.specs.Format.{Power, powers, entries, a_tag, encode, Within}
use Rattle.fields.specs.Fields.{field}
use Rattle.records.specs.Reading.{b_length, a_start, a_length, frames, entries_at, b_powers, a_powers}
use Rattle.records.specs.Reading.{exponent_at, form_of_powers}
use Rattle.records.proofs.Lengths.{entries-length}
use Rattle.records.proofs.WrittenEntries.{entries_read}
use Rattle.records.proofs.Framing.{frame→frames, fields, fields_b, fields_a, fields_start, fields_frame}
use Rattle.records.specs.inside.Steps.{Proper}
use Rattle.records.proofs.ProperPowers.{at_above, powers_at, powers_proper}
use Rattle.group.proofs.UpTo.{up_to_below, up_to_behind, up_to_trimmed}

abbrev pub side_powers : Side → List ℕ → List Power
side_powers b_side bytes = b_powers bytes
side_powers a_side bytes = a_powers bytes

-- The form of proper powers has their exponents.
pub form_exponent : (P : Side → List Power) → ((s : Side) → Proper 0 (P s)) → (s : Side) (i : ℕ)
    → exponent s (form_of_powers (P b_side) (P a_side)) i ≡ exponent_at (P s) i
form_exponent P r s i = at (dec_lt i (suc limit))
  where
    side : (t : Side) → on_side t (exponent_at (P b_side) i) (exponent_at (P a_side) i) ≡ exponent_at (P t) i
    side b_side = refl
    side a_side = refl

    at : Dec (i < suc limit) → exponent s (form_of_powers (P b_side) (P a_side)) i ≡ exponent_at (P s) i
    at (yes h) = up_to_below (suc limit) (exponent_at (P b_side)) (exponent_at (P a_side)) s i h ∙ side s
    at (no h) =
        up_to_behind (suc limit) (exponent_at (P b_side)) (exponent_at (P a_side)) s i (omega arith)
        ∙ sym (at_above (P s) 0 i (r s) (omega arith))

-- The powers of a form, read at an index; they are proper.
pub powers-exponent : (s : Side) (f : Form) (i : ℕ) → exponent_at (powers 0 (exponents s f)) i ≡ exponent s f i
powers-exponent s f i = powers_at (exponents s f) 0 i i (omega arith) ∙ exponents_at s f i

pub form_proper : (f : Form) → ((s : Side) (i : ℕ) → 0 < exponent s f i → i ≤ limit)
    → (s : Side) → Proper 0 (powers 0 (exponents s f))
form_proper f w s =
    powers_proper (exponents s f) 0
    (λ j k e h. let same : k ≡ j = omega arith in rw same (w s j (rw exponents_at at h)))

form_found : (f : Form) → Trimmed f → Within f
    → form_of_powers (powers 0 (exponents b_side f)) (powers 0 (exponents a_side f)) ≡ f
form_found f t w =
    trimmed_equal (form_of_powers (powers 0 (exponents b_side f)) (powers 0 (exponents a_side f))) f
    (up_to_trimmed (suc limit) (exponent_at (powers 0 (exponents b_side f))) (exponent_at (powers 0 (exponents a_side f)))) t
    (λ s i. form_exponent (λ r. powers 0 (exponents r f)) (form_proper f w.indices) s i ∙ powers-exponent s f i)

-- Powers that were written into the two fields are read back.
module _ (P : Side → List Power) where
  abbrev written : List ℕ
  written = fields (entries (P b_side)) (entries (P a_side))

  written_read : (s : Side) → side_powers s written ≡ P s
  written_read b_side =
      let n : b_length written / 4 ≡ length (P b_side) =
      omega (arith, fields_b (entries (P b_side)) (entries (P a_side)), entries-length (P b_side)) in
      ap (λ (k : ℕ). entries_at written 3 k) n
      ∙ entries_read (P b_side) written (field a_tag (entries (P a_side))) 3 refl
  written_read a_side =
      let n : a_length written / 4 ≡ length (P a_side) =
      omega (arith, fields_a (entries (P b_side)) (entries (P a_side)), entries-length (P a_side)) in
      ap (λ (k : ℕ). entries_at written (a_start written) k) n
      ∙ entries_read (P a_side) written [] (a_start written)
      (fields_start (entries (P b_side)) (entries (P a_side)) ∙ sym (append-nil (entries (P a_side))))

-- A form's record is framed, and the powers that are read are the form's.
pub frames-encode : (f : Form) → frames (encode f) ≡ true
frames-encode f =
    frame→frames (encode f)
    (fields_frame (entries (powers 0 (exponents b_side f))) (entries (powers 0 (exponents a_side f)))
    (whole (powers 0 (exponents b_side f))) (whole (powers 0 (exponents a_side f))))
  where
    whole : (ps : List Power) → length (entries ps) % 4 ≡ 0
    whole ps = omega (arith, entries-length ps)

pub powers-encode : (f : Form) (s : Side) → side_powers s (encode f) ≡ powers 0 (exponents s f)
powers-encode f = written_read (λ s. powers 0 (exponents s f))

-- The form that is read is the form that was written.
pub form_encode : (f : Form) → Trimmed f → Within f → form_of_powers (b_powers (encode f)) (a_powers (encode f)) ≡ f
form_encode f t w = ap₂ form_of_powers (powers-encode f b_side) (powers-encode f a_side) ∙ form_found f t w

-- Forms with the same record are equal.
pub encode_injective : (f g : Form) → Trimmed f → Within f → Trimmed g → Within g → encode f ≡ encode g → f ≡ g
encode_injective f g t w u v e =
    sym (form_encode f t w)
    ∙ ap (λ (bytes : List ℕ). form_of_powers (b_powers bytes) (a_powers bytes)) e
    ∙ form_encode g u v
