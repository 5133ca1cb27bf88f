-- The calls of record to word: what they refuse, what they write, and the record of what they write.
-- Assumes nothing.
use mathlib.Core.Path.{◌≡◌, refl, sym, ap, ap₂, ◌∙◌, subst}
use mathlib.Core.List.{List}
use mathlib.Core.Logic.{◌↔◌}
use Prim.Native.Nat.{ℕ, ◌<◌, ◌≤◌}
use native.Mathlib.Decide.{dec_lt}
use native.Mathlib.Omega.{arith}
use lib.ListN.{length, take, drop}
use lib.Seq.{sets}
use borrow.Author.Tests.{lt-ltb, le-ltb}
use Rattle.std.specs.Prelude.{Result}
use Rattle.refusals.specs.declared.Refusal.{Refusal}
use Rattle.lists.proofs.Writes.{sets_front, sets-beyond}
use Rattle.group.specs.Letters.{Word}
use Rattle.group.specs.Bytes.{is_word, bytes_of, read_word}
use Rattle.group.specs.Chains.{Joined}
use Rattle.group.specs.Forms.{Form, letters}
use Rattle.group.specs.Limits.{limit}
use Rattle.group.specs.Products.{form_of}
use Rattle.group.proofs.Bytes.{read_word_lem, bytes_length}
use Rattle.group.proofs.Congruence.{joined_trans, joined_sym}
use Rattle.group.proofs.Products.{form_joined}
use Rattle.group.proofs.Theorems.{joined_map, the_form_joined}
use Rattle.group.proofs.FreeWords.{freely_joined}
use Rattle.refusals.specs.Outcomes.{Outcome, accepted, refused, after, valued, reply_of}
use Rattle.refusals.specs.Memory.{Memory}
use Rattle.refusals.proofs.Outcomes.{accepted_same, accepted_refused, refused_number, refused_place}
use Rattle.records.specs.Format.{encode}
use Rattle.records.specs.Reading.{decode}
use Rattle.fields.specs.Fields.{Bytes}
use Rattle.records.proofs.Accepted.{decode_form, decode-accepts, record_decoded, decoded↔record}
use Rattle.spelling.specs.Spelling.{Spells, spelling}
use Rattle.spelling.specs.Promises.{spelled_in, Spelled}
use Rattle.spelling.proofs.Words.{spells, spells_only}
use Rattle.words.specs.Recording.{encode_word}
use Rattle.claims.specs.Refusals.{ShortTable, ShortBuffer, NoWordRefusal, LongSpelling, ShortWord}
use Rattle.claims.specs.Refusals.{RecordRefusal, SpellingRefusal, unspelled, long_spelling, short_word}
use Rattle.claims.specs.Answers.{IsRefused, Refuses, None}
use Rattle.claims.specs.Given.{SpelledInto, passes_limit, passes_buffer, is_written, WordOfRecord}
use Rattle.claims.proofs.Answers.{is_refused_lem, refuses_when}
use Rattle.claims.proofs.Refusals.{word_lettered, decoded↔refusal}

-- What is found of a record and a buffer of n bytes, in each of its cases.
data Found (s : List ℕ) (n : ℕ) : Type 0 where
  unreadable : (k q : ℕ) → decode s ≡ refused k q → spelled_in s n ≡ refused k q → Found s n
  too_long : (f : Form) → decode s ≡ accepted f → limit < length (spelling f) → spelled_in s n ≡ refused 8 0 → Found s n
  too_short : (f : Form) → decode s ≡ accepted f → length (spelling f) ≤ limit → n < length (spelling f)
      → spelled_in s n ≡ refused 7 0 → Found s n
  found : (f : Form) → decode s ≡ accepted f → length (spelling f) ≤ limit → length (spelling f) ≤ n
      → spelled_in s n ≡ accepted (spelling f) → Found s n

module _ (s : List ℕ) (n : ℕ) where
  find_long : (f : Form) → decode s ≡ accepted f → limit < length (spelling f) → spelled_in s n ≡ refused 8 0
  find_long f e h = rw e (simp (lt-ltb limit (length (spelling f)) h))

  find_short : (f : Form) → decode s ≡ accepted f → length (spelling f) ≤ limit → n < length (spelling f)
      → spelled_in s n ≡ refused 7 0
  find_short f e g h = rw e (simp (le-ltb limit (length (spelling f)) g, lt-ltb n (length (spelling f)) h))

  find : Found s n
  find = go (decode s) refl
    where
      fits : (f : Form) → decode s ≡ accepted f → Dec (limit < length (spelling f)) → Dec (n < length (spelling f))
          → Found s n
      fits f e (yes h) d = too_long f e h (find_long f e h)
      fits f e (no h) (yes k) = too_short f e (omega arith) k (find_short f e (omega arith) k)
      fits f e (no h) (no k) =
          let low : length (spelling f) ≤ limit = omega arith in
          let room : length (spelling f) ≤ n = omega arith in
          found f e low room
          (rw e (simp (le-ltb limit (length (spelling f)) low, le-ltb n (length (spelling f)) room)))

      go : (o : Outcome Form) → decode s ≡ o → Found s n
      go (refused k q) e = unreadable k q e (rw e refl)
      go (accepted f) e = fits f e (dec_lt limit (length (spelling f))) (dec_lt n (length (spelling f)))

  -- The conditions of refusals 8 and 7 lead to them.
  long_refused : LongSpelling s → spelled_in s n ≡ refused 8 0
  long_refused h =
      let same : length h.word ≡ length (spelling h.form) =
      ap length (spells_only h.form h.word h.spells) in
      find_long h.form (record_decoded s h.form h.is_record) (omega (arith, same, h.long))

  short_refused : ShortWord s n → spelled_in s n ≡ refused 7 0
  short_refused h =
      let same : length h.word ≡ length (spelling h.form) =
      ap length (spells_only h.form h.word h.spells) in
      find_short h.form (record_decoded s h.form h.is_record) (omega (arith, same, h.fits))
      (omega (arith, same, h.short))

  -- A refusal of a record and a buffer, by its condition.
  spelled↔refusal : Bytes s → (k q : ℕ) → (spelled_in s n ≡ refused k q) ↔ SpellingRefusal s n k q
  spelled↔refusal bytes k q = (from find, to)
    where
      from : Found s n → spelled_in s n ≡ refused k q → SpellingRefusal s n k q
      from (unreadable i j e o) x =
          let y = sym o ∙ x in
          unspelled ((decoded↔refusal s bytes k q).0 (e ∙ ap₂ refused (refused_number y) (refused_place y)))
      from (too_long f e l o) x = long_spelling (refused_number (sym x ∙ o)) (refused_place (sym x ∙ o)) (record {
        form = f;
        is_record = (decoded↔record s f bytes).0 e;
        word = spelling f;
        spells = spells f;
        long = l;
      })
      from (too_short f e g l o) x = short_word (refused_number (sym x ∙ o)) (refused_place (sym x ∙ o)) (record {
        form = f;
        is_record = (decoded↔record s f bytes).0 e;
        word = spelling f;
        spells = spells f;
        fits = g;
        short = l;
      })
      from (found f e g l o) x = absurd (accepted_refused (sym o ∙ x))

      to : SpellingRefusal s n k q → spelled_in s n ≡ refused k q
      to (unspelled c) = rw ((decoded↔refusal s bytes k q).1 c) refl
      to (long_spelling ek eq l) = long_refused l ∙ sym (ap₂ refused ek eq)
      to (short_word ek eq l) = short_refused l ∙ sym (ap₂ refused ek eq)

-- Refused as what is found, and then the buffer stays.
pub spelling_refused : {s w w' : List ℕ} {r : Result ℕ Refusal} → Spelled s w w' r
    → Refuses (reply_of r) (SpellingRefusal s (length w)) × (IsRefused (reply_of r) → w' ≡ w)
spelling_refused {s} {w} h = (
  refuses_when length (spelled_in s (length w)) h.result (SpellingRefusal s (length w))
      (spelled↔refusal s (length w) h.are_bytes),
  (λ x.
      let o = (is_refused_lem length (spelled_in s (length w)) h.result x).2 in
      h.bytes ∙ ap (λ (q : Outcome Word). after q w (λ y. sets w 0 (bytes_of y))) o),
)

-- The word of bytes.
one_word : {v w : Word} → is_word v ≡ is_word w → v ≡ w
one_word e = cc

bytes_injective : (v w : Word) → bytes_of v ≡ bytes_of w → v ≡ w
bytes_injective v w e = one_word (sym (read_word_lem v) ∙ ap read_word e ∙ read_word_lem w)

-- The spelling is joined to the form's letters.
pub spelling_joined : (f : Form) → Joined (spelling f) (letters f)
spelling_joined f = joined_sym (freely_joined (letters f))

-- An accepted call: the form, and what was written.
pub record SpelledAs (s w w' : List ℕ) (n : ℕ) (f : Form) : Type 0 where
  pub reads : decode s ≡ accepted f
  pub number : length (spelling f) ≡ n
  pub low : length (spelling f) ≤ limit
  pub room : length (spelling f) ≤ length w
  pub holds : w' ≡ sets w 0 (bytes_of (spelling f))

pub spelled_as : {s w w' : List ℕ} {r : Result ℕ Refusal} {n : ℕ} → Spelled s w w' r → reply_of r ≡ accepted n
    → (f : Form) × SpelledAs s w w' n f
spelled_as {s} {w} {w'} {r} {n} h a = go (find s (length w))
  where
    never : (k q : ℕ) → spelled_in s (length w) ≡ refused k q → ⊥
    never k q o = accepted_refused (sym a ∙ h.result ∙ ap (valued length) o)

    go : Found s (length w) → (f : Form) × SpelledAs s w w' n f
    go (unreadable k q e o) = absurd (never k q o)
    go (too_long f e l o) = absurd (never 8 0 o)
    go (too_short f e g l o) = absurd (never 7 0 o)
    go (found f e g l o) = (
      f,
      record {
        reads = e;
        number = accepted_same (sym (h.result ∙ ap (valued length) o) ∙ a);
        low = g;
        room = l;
        holds = h.bytes ∙ ap (λ (x : Outcome Word). after x w (λ y. sets w 0 (bytes_of y))) o;
      },
    )

-- The bytes written are those of the spelling.
pub front_spelled : {s w w' : List ℕ} {n : ℕ} {f : Form} → SpelledAs s w w' n f → take n w' ≡ bytes_of (spelling f)
front_spelled {s} {w} {w'} {n} {f} c =
    ap (take n) c.holds
    ∙ sets_front (bytes_of (spelling f)) w n (bytes_length (spelling f) ∙ c.number) (omega (arith, c.number, c.room))

-- What is answered where the record is read.
pub word_of_record : {s w w' : List ℕ} {r : Result ℕ Refusal} → Spelled s w w' r → None (RecordRefusal s)
    → WordOfRecord s w w' (reply_of r)
word_of_record {s} {w} {w'} {r} h none = go (find s (length w))
  where
    left : {o : Outcome Word} → spelled_in s (length w) ≡ o → w' ≡ after o w (λ y. sets w 0 (bytes_of y))
    left e = h.bytes ∙ ap (λ (o : Outcome Word). after o w (λ y. sets w 0 (bytes_of y))) e

    of_form : (f : Form) → decode s ≡ accepted f → SpelledInto (spelling f) w w' (reply_of r)
        → WordOfRecord s w w' (reply_of r)
    of_form f e a = record {
      form = f;
      is_record = (decoded↔record s f h.are_bytes).0 e;
      word = spelling f;
      spells = λ x. (spells_only f x, λ q. subst (λ (y : Word). Spells f y) (sym q) (spells f));
      same_map = joined_map (spelling f) (letters f) (spelling_joined f);
      answer = a;
    }

    written : (f : Form) → length (spelling f) ≤ limit → length (spelling f) ≤ length w
        → spelled_in s (length w) ≡ accepted (spelling f) → SpelledInto (spelling f) w w' (reply_of r)
    written f low room o =
        let long = bytes_length (spelling f) in
        is_written low room (h.result ∙ ap (valued length) o)
        (ap (take (length (spelling f))) (left o) ∙ sets_front (bytes_of (spelling f)) w _ long room)
        (ap (drop (length (spelling f))) (left o) ∙ sets-beyond (bytes_of (spelling f)) w _ long room)

    go : Found s (length w) → WordOfRecord s w w' (reply_of r)
    go (unreadable k q e o) = absurd (none k q ((decoded↔refusal s h.are_bytes k q).0 e))
    go (too_long f e l o) = of_form f e (passes_limit l (h.result ∙ ap (valued length) o) (left o))
    go (too_short f e k l o) = of_form f e (passes_buffer k l (h.result ∙ ap (valued length) o) (left o))
    go (found f e k l o) = of_form f e (written f k l o)

-- The spelling is joined to a word whose form is that of the record.
pub joined_spelling : {s w w' : List ℕ} {n : ℕ} {x y : Word} {f : Form} → SpelledAs s w w' n f
    → decode s ≡ accepted (form_of y) → take n w' ≡ bytes_of x → Joined x y
joined_spelling {s} {w} {w'} {n} {x} {y} {f} c reads a =
    let one : x ≡ spelling f = bytes_injective x (spelling f) (sym a ∙ front_spelled c) in
    let same : f ≡ form_of y = accepted_same (sym c.reads ∙ reads) in
    subst (λ (z : Word). Joined z y) (sym one)
    (joined_trans (spelling_joined f) (subst (λ (g : Form). Joined (letters g) y) (sym same) (form_joined y)))

-- The spelling as a word that is sent.
pub spelling_sent : {s w w' : List ℕ} {n : ℕ} {f : Form} (m : Memory) → SpelledAs s w w' n f
    → (ShortTable (take n w') m → ⊥) → (ShortBuffer (take n w') m → ⊥) → NoWordRefusal (take n w') m
spelling_sent {s} {w} {w'} {n} {f} m c tables buffer =
    let size : length (take n w') ≡ length (spelling f) = ap length (front_spelled c) ∙ bytes_length (spelling f) in
    record {
      not_long = λ l. omega (arith, size, c.low, l);
      lettered = word_lettered (take n w') (spelling f) (ap read_word (front_spelled c) ∙ read_word_lem (spelling f));
      long_tables = tables;
      long_buffer = buffer;
    }

-- The record of the spelling.
pub spelling_again : {s w w' : List ℕ} {n : ℕ} {f : Form} (x : Word) → Bytes s → SpelledAs s w w' n f
    → take n w' ≡ bytes_of x → encode_word x ≡ s
spelling_again {s} {w} {w'} {n} {f} x bytes c a =
    let one : x ≡ spelling f = bytes_injective x (spelling f) (sym a ∙ front_spelled c) in
    let good = decode_form s f c.reads in
    let same : f ≡ form_of (spelling f) =
    the_form_joined (spelling f) f good.0.reduced good.0.trimmed (freely_joined (letters f)) in
    ap encode_word one ∙ ap encode (sym same) ∙ sym (decode-accepts s f bytes c.reads).0
