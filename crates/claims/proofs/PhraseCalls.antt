-- The calls of record to text: what they refuse, what they write, and the record of what they write.
-- Assumes nothing.
use mathlib.Core.Path.{◌≡◌, refl, sym, ap, ap₂, subst, ◌∙◌}
use mathlib.Core.List.{List}
use mathlib.Core.Logic.{◌↔◌}
use Prim.Native.Nat.{ℕ, suc, ◌<◌, ◌≤◌}
use native.Mathlib.Decide.{dec_lt}
use native.Mathlib.Omega.{arith}
use lib.ListN.{length, take, drop}
use lib.Seq.{sets}
use Rattle.std.specs.Prelude.{Result}
use Rattle.refusals.specs.declared.Refusal.{Refusal}
use Rattle.lists.proofs.Writes.{sets_front, sets-beyond}
use Rattle.group.specs.Limits.{limit}
use Rattle.group.specs.Forms.{Form, levels}
use Rattle.group.specs.Powers.{form_powers, product_letters, exponent_sizes}
use Rattle.group.proofs.Powers.{powers_again, form_sizes}
use Rattle.group.proofs.Reduced.{Canonical}
use Rattle.refusals.specs.Outcomes.{Outcome, accepted, refused, after, valued, reply_of}
use Rattle.refusals.specs.Placing.{fitting}
use Rattle.refusals.specs.Memory.{Memory}
use Rattle.refusals.proofs.Outcomes.{accepted_same, accepted_refused, refused_number, refused_place}
use Rattle.refusals.proofs.Placing.{fit_short, fit_long}
use Rattle.fields.specs.Fields.{Bytes}
use Rattle.records.specs.Format.{encode, Within}
use Rattle.records.specs.Reading.{decode}
use Rattle.records.proofs.Accepted.{decode_form, decode-accepts, record_decoded, decoded↔record}
use Rattle.records.proofs.ClearedTables.{within_levels}
use Rattle.forest.specs.Filling.{product_form}
use Rattle.notation.specs.Promises.{form_text, text_in, TextRecorded, TextWritten}
use Rattle.notation.proofs.FormRanges.{form_in_range}
use Rattle.claims.specs.Refusals.{ShortTables, ShortRecord, NoTextRefusal}
use Rattle.claims.specs.Refusals.{PhraseRefusal, unphrased, short_text}
use Rattle.claims.specs.Answers.{IsRefused, Refuses}
use Rattle.claims.specs.Given.{TextOfRecord}
use Rattle.claims.proofs.Answers.{is_refused_lem, refuses_when}
use Rattle.claims.proofs.Refusals.{decoded↔refusal}
use Rattle.claims.proofs.TextRefusals.{spelled, small_sum, high-levels}
use Rattle.claims.proofs.Written.{Listed}
use Rattle.claims.proofs.TextCalls.{text_listed}

-- What is found of a record and a buffer, in each of the cases.
data Found (s out : List ℕ) : Type 0 where
  unreadable : (n p : ℕ) → decode s ≡ refused n p → text_in s out ≡ refused n p → Found s out
  too_short : (f : Form) → decode s ≡ accepted f → length out < length (form_text f) → text_in s out ≡ refused 7 0
      → Found s out
  found : (f : Form) → decode s ≡ accepted f → length (form_text f) ≤ length out
      → text_in s out ≡ accepted (form_text f) → Found s out

module _ (s out : List ℕ) where
  -- A record that is read, beside the buffer.
  read_in : (f : Form) → decode s ≡ accepted f → text_in s out ≡ fitting (length (form_text f)) (form_text f) out
  read_in f e = rw e refl

  find_short : (f : Form) → decode s ≡ accepted f → length out < length (form_text f) → text_in s out ≡ refused 7 0
  find_short f e h = read_in f e ∙ fit_short (length (form_text f)) (form_text f) out h

  find : Found s out
  find = go (decode s) refl
    where
      fits : (f : Form) → decode s ≡ accepted f → Dec (length out < length (form_text f)) → Found s out
      fits f e (yes h) = too_short f e h (find_short f e h)
      fits f e (no h) =
          let room : length (form_text f) ≤ length out = omega (arith, h) in
          found f e room (read_in f e ∙ fit_long (length (form_text f)) (form_text f) out room)

      go : (o : Outcome Form) → decode s ≡ o → Found s out
      go (refused n p) e = unreadable n p e (rw e refl)
      go (accepted f) e = fits f e (dec_lt (length out) (length (form_text f)))

  -- A refusal of a record and a buffer, by its condition.
  phrase↔refusal : Bytes s → (n p : ℕ) → (text_in s out ≡ refused n p) ↔ PhraseRefusal s (length out) n p
  phrase↔refusal bytes n p = (from find, to)
    where
      from : Found s out → text_in s out ≡ refused n p → PhraseRefusal s (length out) n p
      from (unreadable i j e o) x =
          let y = sym o ∙ x in
          unphrased ((decoded↔refusal s bytes n p).0 (e ∙ ap₂ refused (refused_number y) (refused_place y)))
      from (too_short f e h o) x =
          short_text (refused_number (sym x ∙ o)) (refused_place (sym x ∙ o))
          (record { form = f; is_record = (decoded↔record s f bytes).0 e; short = h })
      from (found f e h o) x = absurd (accepted_refused (sym o ∙ x))

      to : PhraseRefusal s (length out) n p → text_in s out ≡ refused n p
      to (unphrased c) = rw ((decoded↔refusal s bytes n p).1 c) refl
      to (short_text en ep h) =
          find_short h.form (record_decoded s h.form h.is_record) h.short ∙ sym (ap₂ refused en ep)

-- What the buffer holds at exit.
abbrev buffer_by : List ℕ → Outcome (List ℕ) → List ℕ
buffer_by out o = after o out (λ text. sets out 0 text)

-- Refused as what is found, and then the buffer stays.
pub phrase_refused : {s t t' : List ℕ} {r : Result ℕ Refusal} → TextWritten s t t' r
    → Refuses (reply_of r) (PhraseRefusal s (length t)) × (IsRefused (reply_of r) → t' ≡ t)
phrase_refused {s} {t} h = (
  refuses_when length (text_in s t) h.placed.result (PhraseRefusal s (length t))
      (phrase↔refusal s t h.are_bytes),
  (λ x. h.placed.bytes ∙ ap (buffer_by t) (is_refused_lem length (text_in s t) h.placed.result x).2),
)

-- An accepted call: the form, and what was written.
pub record PhrasedAs (s t t' : List ℕ) (n : ℕ) (f : Form) : Type 0 where
  pub reads : decode s ≡ accepted f
  pub count : n ≡ length (form_text f)
  pub front : take n t' ≡ form_text f
  pub beyond : drop n t' ≡ drop n t

pub phrased_as : {s t t' : List ℕ} {r : Result ℕ Refusal} {n : ℕ} → TextWritten s t t' r → reply_of r ≡ accepted n
    → (f : Form) × PhrasedAs s t t' n f
phrased_as {s} {t} {t'} {r} {n} h a = go (find s t)
  where
    never : (k q : ℕ) → text_in s t ≡ refused k q → ⊥
    never k q o = accepted_refused (sym a ∙ h.placed.result ∙ ap (valued length) o)

    go : Found s t → (f : Form) × PhrasedAs s t t' n f
    go (unreadable k q e o) = absurd (never k q o)
    go (too_short f e l o) = absurd (never 7 0 o)
    go (found f e room o) =
        let size : length (form_text f) ≡ n = accepted_same (sym (h.placed.result ∙ ap (valued length) o) ∙ a) in
        let left : t' ≡ sets t 0 (form_text f) = h.placed.bytes ∙ ap (buffer_by t) o in
        let fits : n ≤ length t = omega (arith, size, room) in (
          f,
          record {
            reads = e;
            count = sym size;
            front = ap (take n) left ∙ sets_front (form_text f) t n size fits;
            beyond = ap (drop n) left ∙ sets-beyond (form_text f) t n size fits;
          },
        )

pub phrase_gives : {s t t' : List ℕ} {r : Result ℕ Refusal} {n : ℕ} → TextWritten s t t' r → reply_of r ≡ accepted n
    → TextOfRecord s t t' n
phrase_gives {s} h a =
    let f = phrased_as h a in
    record {
      form = f.0;
      is_record = (decoded↔record s f.0 h.are_bytes).0 f.1.reads;
      count = f.1.count;
      bytes = f.1.front;
      beyond = f.1.beyond;
    }

-- A form that a record is read as, written in powers, is the form of their product.
module _ (f : Form) (c : Canonical f) (w : Within f) where
  low_form : levels (product_form (form_powers f)) ≤ suc limit
  low_form = omega (arith, ap levels (powers_again f c), within_levels f c w)

  small_form : exponent_sizes (form_powers f) ≤ limit
  small_form = omega (arith, form_sizes f, w.sum)

-- The text as one that is sent.
pub phrase_sent : {s t t' : List ℕ} {n : ℕ} {f : Form} (m : Memory) → PhrasedAs s t t' n f → (ShortTables m → ⊥)
    → (ShortRecord (take n t') m → ⊥) → NoTextRefusal (take n t') m
phrase_sent {s} {t} {t'} {n} {f} m c tables buffer =
    let good = decode_form s f c.reads in
    let range = form_in_range f good.1 in
    record {
      spelled = spelled (form_powers f) c.front range;
      small_sum = small_sum (form_powers f) c.front (small_form f good.0 good.1);
      low_form = λ h. omega (arith, high-levels (form_powers f) c.front h, low_form f good.0 good.1);
      full_tables = tables;
      long_buffer = buffer;
    }

-- The record that was read is that of the text's letters.
pub phrase_form : {s t t' : List ℕ} {n : ℕ} {f : Form} → Bytes s → PhrasedAs s t t' n f
    → Listed (product_letters (form_powers f)) s
phrase_form {s} {t} {t'} {n} {f} bytes c =
    let good = decode_form s f c.reads in
    let same = powers_again f good.0 in
    record {
      is = (decode-accepts s f bytes c.reads).0 ∙ ap encode (sym same);
      within = subst Within (sym same) good.1;
    }

-- The record of the text.
pub phrase_again : {s t t' : List ℕ} {n k : ℕ} {f : Form} {m m' : Memory} {r : Result ℕ Refusal} → Bytes s
    → PhrasedAs s t t' n f
    → TextRecorded (take n t') m m' r → reply_of r ≡ accepted k → take k m'.buffer ≡ s
phrase_again {s} {t} {t'} {n} {k} {f} bytes c h e =
    (text_listed (form_powers f) h e c.front).is ∙ sym (phrase_form bytes c).is
