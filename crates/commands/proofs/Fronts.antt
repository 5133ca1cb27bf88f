-- What is said of a call's reply and of the front of the buffer that it wrote to. Assumes nothing.
use mathlib.Core.Path.{◌≡◌, refl, sym, ap, ap₂, ◌∙◌}
use mathlib.Core.Bool.{cond}
use mathlib.Core.List.{List}
use Prim.Native.Nat.{ℕ, ◌≤◌}
use native.Mathlib.Omega.{arith}
use borrow.Author.Tests.{ltb-false}
use lib.Dec.{ltb}
use lib.ListN.{length, take}
use lib.Seq.{sets}
use Rattle.std.specs.Prelude.{Result}
use Rattle.lists.proofs.Writes.{sets_front}
use Rattle.numerals.specs.Decimals.{decimal}
use Rattle.group.specs.Letters.{Word}
use Rattle.group.proofs.Bytes.{bytes_length}
use Rattle.group.specs.Bytes.{bytes_of}
use Rattle.group.specs.Forms.{Form}
use Rattle.group.specs.Limits.{limit}
use Rattle.refusals.specs.Outcomes.{Outcome, accepted, refused, after, then, valued, drop_value, reply_of}
use Rattle.refusals.specs.declared.Refusal.{Refusal}
use Rattle.refusals.proofs.Outcomes.{accepted_same, accepted_refused, passed}
use Rattle.records.specs.Reading.{decode}
use Rattle.pairs.specs.Promises.{Measured}
use Rattle.spelling.specs.Spelling.{spelling}
use Rattle.spelling.specs.Promises.{word_in, spelled_in, Spelled}
use Rattle.notation.specs.Promises.{form_text, text_in, TextWritten}
use Rattle.commands.specs.Answers.{said, room_size}
use Rattle.commands.specs.Records.{text_of_record}
use Rattle.commands.specs.inside.Steps.{front_of}

-- A number that a call counts: what is said of the number is what is said of the thing counted.
pub number_said : {A : Type 0} (count : A → ℕ) (o : Outcome A)
    → said decimal (valued count o) ≡ said (λ x. decimal (count x)) o
number_said count (accepted x) = refl
number_said count (refused n p) = refl

-- Nothing but whether it is accepted.
pub verdict_said : {A : Type 0} (text : List ℕ) (o : Outcome A)
    → said {A = ℕ} (λ n. text) (valued (λ x. 0) o) ≡ said (λ x. text) o
verdict_said text (accepted x) = refl
verdict_said text (refused n p) = refl

-- What was written to the front of a buffer, in which it fits.
pub front_found : {A : Type 0} (bytes : A → List ℕ) (count : A → ℕ) (o : Outcome A) (buffer : List ℕ)
    → ((x : A) → o ≡ accepted x → (length (bytes x) ≡ count x) × (count x ≤ length buffer))
    → front_of (valued count o) (after o buffer (λ x. sets buffer 0 (bytes x))) ≡ then o (λ x. accepted (bytes x))
front_found bytes count (accepted x) buffer fits =
    let h = fits x refl in
    ap accepted (sets_front (bytes x) buffer (count x) h.0 h.1)
front_found bytes count (refused n p) buffer fits = refl

-- The same things shown, one after another.
pub said-then : {A : Type 0} (bytes : A → List ℕ) (o : Outcome A)
    → said (λ t. t) (then o (λ x. accepted (bytes x))) ≡ said bytes o
said-then bytes (accepted x) = refl
said-then bytes (refused n p) = refl

-- What stands at the front of a buffer, shown.
pub shown_front : (show : List ℕ → List ℕ) (o : Outcome ℕ) (bytes : List ℕ)
    → said (λ n. show (take n bytes)) o ≡ said show (front_of o bytes)
shown_front show (accepted n) bytes = refl
shown_front show (refused n p) bytes = refl

-- A verdict on a record.
pub checked_said : {A : Type 0} (text : List ℕ) {v : Outcome ℕ} (o : Outcome A) → v ≡ drop_value o
    → said {A = ℕ} (λ n. text) v ≡ said (λ x. text) o
checked_said text o e = ap (said {A = ℕ} (λ n. text)) e ∙ verdict_said text o

-- A count of a record's form.
pub measure_said : (count : Form → ℕ) {s : List ℕ} {r : Result ℕ Refusal} → Measured count s r
    → said decimal (reply_of r) ≡ said (λ f. decimal (count f)) (decode s)
measure_said count {s} m = ap (said decimal) m.result ∙ number_said count (decode s)

-- A word that is accepted beside a buffer fits it.
word_fits : (n : ℕ) (w v : Word) → word_in n w ≡ accepted v → length v ≤ n
word_fits n w v e =
    let short = passed (ltb limit (length w)) 8 0 (cond (ltb n (length w)) (refused 7 0) (accepted w)) v e in
    let room = passed (ltb n (length w)) 7 0 (accepted w) v short.1 in
    let same : w ≡ v = accepted_same room.1 in
    omega (arith, ltb-false n (length w) room.0, ap length same)

spelling-fits : (s : List ℕ) (n : ℕ) (w : Word) → spelled_in s n ≡ accepted w → length w ≤ n
spelling-fits s n w e = go (decode s) refl
  where
    go : (o : Outcome Form) → decode s ≡ o → length w ≤ n
    go (accepted f) d =
        word_fits n (spelling f) w (sym (ap (λ (x : Outcome Form). then x (λ g. word_in n (spelling g))) d) ∙ e)
    go (refused k p) d =
        absurd (accepted_refused (sym e ∙ ap (λ (x : Outcome Form). then x (λ g. word_in n (spelling g))) d))

-- The word of a record.
pub spelled_said : {s word word' : List ℕ} {r : Result ℕ Refusal} → length word ≡ room_size → Spelled s word word' r
    → said (λ n. take n word') (reply_of r) ≡ said bytes_of (spelled_in s room_size)
spelled_said {s} {word} {word'} {r} size h =
    let o = spelled_in s (length word) in
    shown_front (λ t. t) (reply_of r) word'
    ∙ ap₂ (λ (x : Outcome ℕ) (y : List ℕ). said (λ t. t) (front_of x y)) h.result h.bytes
    ∙ ap (said (λ t. t))
    (front_found bytes_of length o word (λ w e. (bytes_length w, spelling-fits s (length word) w e)))
    ∙ said-then bytes_of o
    ∙ ap (λ (n : ℕ). said bytes_of (spelled_in s n)) size

-- The text of a record's form, beside a buffer of n bytes.
abbrev text_beside : List ℕ → ℕ → Outcome (List ℕ)
text_beside s n = then (decode s) (λ f. cond (ltb n (length (form_text f))) (refused 7 0) (accepted (form_text f)))

text_fits : (s : List ℕ) (n : ℕ) (t : List ℕ) → text_beside s n ≡ accepted t → length t ≤ n
text_fits s n t e = go (decode s) refl
  where
    beside : Form → Outcome (List ℕ)
    beside f = cond (ltb n (length (form_text f))) (refused 7 0) (accepted (form_text f))

    go : (o : Outcome Form) → decode s ≡ o → length t ≤ n
    go (accepted f) d =
        let h = passed (ltb n (length (form_text f))) 7 0 (accepted (form_text f)) t
        (sym (ap (λ (x : Outcome Form). then x beside) d) ∙ e) in
        let same : form_text f ≡ t = accepted_same h.1 in
        omega (arith, ltb-false n (length (form_text f)) h.0, ap length same)
    go (refused k p) d = absurd (accepted_refused (sym e ∙ ap (λ (x : Outcome Form). then x beside) d))

-- The text of a record.
pub text_said : {s out out' : List ℕ} {r : Result ℕ Refusal} → length out ≡ room_size → TextWritten s out out' r
    → said (λ n. take n out') (reply_of r) ≡ said (λ t. t) (text_of_record s)
text_said {s} {out} {out'} {r} size h =
    let o = text_in s out in
    shown_front (λ t. t) (reply_of r) out'
    ∙ ap₂ (λ (x : Outcome ℕ) (y : List ℕ). said (λ t. t) (front_of x y)) h.placed.result h.placed.bytes
    ∙ ap (said (λ t. t)) (front_found (λ t. t) length o out (λ t e. (refl, text_fits s (length out) t e)))
    ∙ said-then (λ t. t) o
    ∙ ap (λ (n : ℕ). said (λ t. t) (text_beside s n)) size
