-- The refusals of a record are the paper's: each is given under its condition and at no other time (01, 'Who caused the
-- refusal'). Assumes nothing.
use mathlib.Core.Path.{◌≡◌, sym, ◌∙◌, ap, subst}
use mathlib.Core.Bool.{true, true≢false}
use mathlib.Core.List.{List}
use mathlib.Core.Logic.{◌↔◌, ◌⊎◌, inl, inr}
use Prim.Native.Nat.{ℕ, ◌<◌}
use native.Mathlib.Decide.{dec_lt}
use native.Mathlib.Omega.{arith}
use Rattle.group.specs.Forms.{b_side, a_side, Form}
use Rattle.refusals.specs.Outcomes.{Outcome, refused}
use Rattle.records.specs.Reading.{frames, decode}
use Rattle.records.specs.Faults.{Framed, record_entries, Sound, FirstFault, form_read, FirstBreak}
use Rattle.fields.specs.Fields.{Bytes}
use Rattle.refusals.proofs.Outcomes.{accepted_refused, refused_number, refused_place}
use Rattle.records.proofs.Framing.{frames↔framed}
use Rattle.records.proofs.RecordFaults.{record_sound, first_same}
use Rattle.records.proofs.Readings.{Readable, Reads, unframed, faulty, unreduced, readable, reads}

break_same : (f : Form) (i j : ℕ) → FirstBreak f i → FirstBreak f j → i ≡ j
break_same f i j p q = least (dec_lt i j) (dec_lt j i)
  where
    least : Dec (i < j) → Dec (j < i) → i ≡ j
    least (yes h) k = absurd (q.least i h p.breaks)
    least (no h) (yes k) = absurd (p.least j k q.breaks)
    least (no h) (no k) = omega arith

wrong_number : {n p m q : ℕ} → ◌≡◌ {A = Outcome Form} (refused n p) (refused m q) → (n ≡ m → ⊥) → ⊥
wrong_number h d = d (refused_number h)

module _ (s : List ℕ) (bytes : Bytes s) where
  framed : frames s ≡ true → Framed s
  framed = (frames↔framed s bytes).0

  frames_true : Framed s → frames s ≡ true
  frames_true = (frames↔framed s bytes).1

  sound : Readable s → Sound (record_entries s)
  sound r = record_sound s (r.proper b_side) (r.proper a_side) r.sum

  found : {p : ℕ} → FirstFault (record_entries s) p → Sound (record_entries s) → ⊥
  found f n = n f.before f.behind f.entry f.order f.faulty

  -- 3: the two fields do not frame the bytes exactly, or a body's length is no multiple of four.
  pub refused_3 : (p : ℕ) → (decode s ≡ refused 3 p) ↔ ((p ≡ 0) × (Framed s → ⊥))
  refused_3 p = (from (reads s), (λ c. to c (reads s)))
    where
      from : Reads s → decode s ≡ refused 3 p → (p ≡ 0) × (Framed s → ⊥)
      from (unframed q e) h =
          (refused_place (sym h ∙ e), (λ c. true≢false (sym (frames_true c) ∙ q)))
      from (faulty place q n f e) h = absurd (wrong_number (sym h ∙ e) (omega arith))
      from (unreduced i r b e) h = absurd (wrong_number (sym h ∙ e) (omega arith))
      from (readable r n e) h = absurd (accepted_refused (sym e ∙ h))

      to : (p ≡ 0) × (Framed s → ⊥) → Reads s → decode s ≡ refused 3 p
      to c (unframed q e) = e ∙ ap (λ (place : ℕ). refused 3 place) (sym c.0)
      to c (faulty place q n f e) = absurd (c.1 (framed q))
      to c (unreduced i r b e) = absurd (c.1 (framed r.framed))
      to c (readable r n e) = absurd (c.1 (framed r.framed))

  -- 4: an entry is faulty; the place is the offset of the first.
  pub refused_4 : (p : ℕ) → (decode s ≡ refused 4 p) ↔ (Framed s × FirstFault (record_entries s) p)
  refused_4 p = (from (reads s), (λ c. to c (reads s)))
    where
      from : Reads s → decode s ≡ refused 4 p → Framed s × FirstFault (record_entries s) p
      from (unframed q e) h = absurd (wrong_number (sym h ∙ e) (omega arith))
      from (faulty place q n f e) h =
          (framed q, subst (λ (k : ℕ). FirstFault (record_entries s) k) (refused_place (sym e ∙ h)) f)
      from (unreduced i r b e) h = absurd (wrong_number (sym h ∙ e) (omega arith))
      from (readable r n e) h = absurd (accepted_refused (sym e ∙ h))

      to : Framed s × FirstFault (record_entries s) p → Reads s → decode s ≡ refused 4 p
      to c (unframed q e) = absurd (true≢false (sym (frames_true c.0) ∙ q))
      to c (faulty place q n f e) =
          e ∙ ap (λ (k : ℕ). refused 4 k) (first_same (record_entries s) place p f c.1)
      to c (unreduced i r b e) = absurd (found c.1 (sound r))
      to c (readable r n e) = absurd (found c.1 (sound r))

  -- 5: the form is not reduced; the place is the smallest index that breaks the clause.
  pub refused_5 : (i : ℕ)
      → (decode s ≡ refused 5 i) ↔ (Framed s × Sound (record_entries s) × FirstBreak (form_read s) i)
  refused_5 i = (from (reads s), (λ c. to c (reads s)))
    where
      from : Reads s → decode s ≡ refused 5 i → Framed s × Sound (record_entries s) × FirstBreak (form_read s) i
      from (unframed q e) h = absurd (wrong_number (sym h ∙ e) (omega arith))
      from (faulty place q n f e) h = absurd (wrong_number (sym h ∙ e) (omega arith))
      from (unreduced j r b e) h =
          (framed r.framed, sound r, subst (λ (k : ℕ). FirstBreak (form_read s) k) (refused_place (sym e ∙ h)) b)
      from (readable r n e) h = absurd (accepted_refused (sym e ∙ h))

      to : Framed s × Sound (record_entries s) × FirstBreak (form_read s) i → Reads s → decode s ≡ refused 5 i
      to c (unframed q e) = absurd (true≢false (sym (frames_true c.0) ∙ q))
      to c (faulty place q n f e) = absurd (found f c.1)
      to c (unreduced j r b e) = e ∙ ap (λ (k : ℕ). refused 5 k) (break_same (form_read s) j i b c.2)
      to c (readable r n e) = absurd (n i c.2.breaks)

-- No other refusal of a record is given.
pub refused_numbers : (s : List ℕ) (n p : ℕ) → decode s ≡ refused n p → (n ≡ 3) ⊎ (n ≡ 4) ⊎ (n ≡ 5)
refused_numbers s n p h = which (reads s)
  where
    which : Reads s → (n ≡ 3) ⊎ (n ≡ 4) ⊎ (n ≡ 5)
    which (unframed q e) = inl (refused_number (sym h ∙ e))
    which (faulty place q m f e) = inr (inl (refused_number (sym h ∙ e)))
    which (unreduced i r b e) = inr (inr (refused_number (sym h ∙ e)))
    which (readable r m e) = absurd (accepted_refused (sym e ∙ h))
