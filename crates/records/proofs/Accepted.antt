-- A record is accepted just where it is the record of a reduced form within the limits; then that form is read.
-- Assumes nothing.
use mathlib.Core.Path.{◌≡◌, sym, ◌∙◌, ap, ap₂, subst}
use mathlib.Core.Bool.{true≢false}
use mathlib.Core.List.{List}
use mathlib.Core.Logic.{◌↔◌}
use Prim.Native.Nat.{ℕ, suc, ◌+◌, ◌≤◌}
use native.Mathlib.Omega.{arith}
use Rattle.group.specs.Forms.{Side, b_side, a_side, Form, exponents}
use Rattle.group.specs.Limits.{limit}
use Rattle.group.specs.Reducing.{Applies}
use Rattle.group.proofs.Reduced.{Canonical}
use Rattle.refusals.specs.Outcomes.{accepted}
use Rattle.records.specs.Format.{Power, powers, entries, encode, Within, IsRecord}
use Rattle.records.specs.Reading.{b_powers, a_powers, exponent_at, decode}
use Rattle.records.specs.Faults.{form_read}
use Rattle.fields.specs.Fields.{Bytes}
use Rattle.records.proofs.Framing.{fields, frames→frame, frame_written}
use Rattle.records.specs.inside.Steps.{Proper}
use Rattle.records.proofs.ProperPowers.{total, proper_equal}
use Rattle.records.proofs.Levels.{exponents-total}
use Rattle.group.proofs.UpTo.{up_to_trimmed}
use Rattle.records.proofs.ReadBack.{side_powers, form_exponent, powers-exponent, form_proper}
use Rattle.records.proofs.ReadBack.{frames-encode, powers-encode, form_encode}
use Rattle.records.proofs.Clause.{applies_reduced, reduced_applies}
use Rattle.refusals.proofs.Outcomes.{accepted_same, accepted_refused}
use Rattle.records.proofs.Readings.{Readable, Reads, unframed, faulty, unreduced, readable}
use Rattle.records.proofs.Readings.{form_read_index, reads}

encode_readable : (f : Form) → Within f → Readable (encode f)
encode_readable f w =
    record {
      framed = frames-encode f;
      proper = λ s. subst (λ (ps : List Power). Proper 0 ps) (sym (powers-encode f s)) (form_proper f w.indices s);
      sum =
          omega (
            arith,
            ap total (powers-encode f b_side),
            ap total (powers-encode f a_side),
            exponents-total f 0,
            w.sum,
          );
    }

-- The record of a reduced form within the limits is accepted, and the form is read back.
pub decode-encode : (f : Form) → Canonical f → Within f → decode (encode f) ≡ accepted f
decode-encode f c w = read (reads (encode f))
  where
    whole : (i : ℕ) → Applies i (form_read (encode f)) → ⊥
    whole i a =
        applies_reduced f i c.reduced (subst (λ (g : Form). Applies i g) (form_encode f c.trimmed w) a)

    read : Reads (encode f) → decode (encode f) ≡ accepted f
    read (unframed q e) = absurd (true≢false (sym (frames-encode f) ∙ q))
    read (faulty p q n v e) = absurd (n (encode_readable f w))
    read (unreduced i r b e) = absurd (whole i b.breaks)
    read (readable r n e) = e ∙ ap accepted (form_encode f c.trimmed w)

-- The powers that are read are those of the form that is read.
powers-form_read : (s : List ℕ) → Readable s → (t : Side) → side_powers t s ≡ powers 0 (exponents t (form_read s))
powers-form_read s r t =
    proper_equal (side_powers t s) (powers 0 (exponents t (form_read s))) 0 0 (r.proper t)
    (form_proper (form_read s) (form_read_index s) t)
    (λ i. sym (form_exponent (λ u. side_powers u s) r.proper t i) ∙ sym (powers-exponent t (form_read s) i))

form_read_within : (s : List ℕ) → Readable s → Within (form_read s)
form_read_within s r =
    record {
      indices = form_read_index s;
      sum =
          subst (λ (n : ℕ). n ≤ limit)
          (ap₂ (λ (ps qs : List Power). total ps + total qs) (powers-form_read s r b_side) (powers-form_read s r a_side)
          ∙ exponents-total (form_read s) 0)
          r.sum;
    }

encode-form_read : (s : List ℕ) → Bytes s → Readable s → s ≡ encode (form_read s)
encode-form_read s bytes r =
    frame_written s bytes (frames→frame s r.framed)
    ∙ ap₂ (λ (ps qs : List Power). fields (entries ps) (entries qs))
    (powers-form_read s r b_side) (powers-form_read s r a_side)

form_read_canonical : (s : List ℕ) → ((i : ℕ) → Applies i (form_read s) → ⊥) → Canonical (form_read s)
form_read_canonical s n =
    record {
      reduced = reduced_applies (form_read s) n;
      trimmed = up_to_trimmed (suc limit) (exponent_at (b_powers s)) (exponent_at (a_powers s));
    }

-- A form that is accepted is reduced and within the limits.
pub decode_form : (s : List ℕ) (f : Form) → decode s ≡ accepted f → Canonical f × Within f
decode_form s f h = read (reads s)
  where
    read : Reads s → Canonical f × Within f
    read (unframed q e) = absurd (accepted_refused (sym h ∙ e))
    read (faulty p q n v e) = absurd (accepted_refused (sym h ∙ e))
    read (unreduced i r b e) = absurd (accepted_refused (sym h ∙ e))
    read (readable r n e) =
        subst (λ (g : Form). Canonical g × Within g) (accepted_same (sym e ∙ h))
        (form_read_canonical s n, form_read_within s r)

-- What is accepted is the record of the form that is read, which is reduced and within the limits.
pub decode-accepts : (s : List ℕ) (f : Form) → Bytes s → decode s ≡ accepted f
    → (s ≡ encode f) × Canonical f × Within f
decode-accepts s f bytes h = (read (reads s), (decode_form s f h).0, (decode_form s f h).1)
  where
    read : Reads s → s ≡ encode f
    read (unframed q e) = absurd (accepted_refused (sym h ∙ e))
    read (faulty p q n v e) = absurd (accepted_refused (sym h ∙ e))
    read (unreduced i r b e) = absurd (accepted_refused (sym h ∙ e))
    read (readable r n e) =
        subst (λ (g : Form). s ≡ encode g) (accepted_same (sym e ∙ h)) (encode-form_read s bytes r)

-- The record of a form is read as that form.
pub record_decoded : (s : List ℕ) (f : Form) → IsRecord s f → decode s ≡ accepted f
record_decoded s f h =
    ap decode h.bytes ∙ decode-encode f (record { reduced = h.reduced; trimmed = h.trimmed }) h.within

-- Bytes are read as a form just where they are its record.
pub decoded↔record : (s : List ℕ) (f : Form) → Bytes s → (decode s ≡ accepted f) ↔ IsRecord s f
decoded↔record s f bytes = (is_record, record_decoded s f)
  where
    is_record : decode s ≡ accepted f → IsRecord s f
    is_record e =
        let h = decode-accepts s f bytes e in
        record { bytes = h.0; within = h.2; reduced = h.1.reduced; trimmed = h.1.trimmed }
