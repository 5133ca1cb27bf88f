-- The record of a line and its item, from what the calls answer and leave. Assumes nothing.
use mathlib.Core.Path.{◌≡◌, refl, sym, ap, ap₂, subst, ◌∙◌}
use mathlib.Core.Bool.{true, false, cond}
use mathlib.Core.List.{List, [], ◌∷◌}
use Prim.Native.Nat.{ℕ, suc, ◌/◌, ◌%◌, ◌<◌, ◌≤◌}
use native.Mathlib.Omega.{arith}
use borrow.Author.Tests.{ltb-false}
use lib.Dec.{ltb}
use lib.ListN.{length, get_or, take}
use Rattle.std.specs.Prelude.{Result, Ok, Err}
use Rattle.group.specs.Letters.{Word}
use Rattle.group.specs.Limits.{limit}
use Rattle.group.specs.Products.{form_of}
use Rattle.group.specs.Powers.{SignedPower, exponent_sizes}
use Rattle.group.proofs.Bytes.{read_length}
use Rattle.group.proofs.Powers.{product_sum}
use Rattle.group.proofs.Sizes.{form_sum}
use Rattle.group.proofs.Limits.{limit_counts}
use Rattle.fields.specs.Fields.{two_bytes, field}
use Rattle.refusals.specs.Refusals.{number_of, place_of}
use Rattle.refusals.specs.Outcomes.{Outcome, accepted, refused, then, reply_of}
use Rattle.refusals.specs.Memory.{Memory}
use Rattle.refusals.specs.declared.Refusal.{Refusal}
use Rattle.refusals.proofs.Outcomes.{accepted_same, accepted_refused, passed}
use Rattle.records.specs.Format.{encode, buffer_size}
use Rattle.records.proofs.Lengths.{encode_size}
use Rattle.letters.specs.Judging.{line_read}
use Rattle.forest.specs.Filling.{product_form, tables_for}
use Rattle.words.specs.Recording.{encode_word, judged_with, Recorded}
use Rattle.words.proofs.LineReads.{line_judged}
use Rattle.words.proofs.Judged.{accepted_record}
use Rattle.wordlists.specs.Items.{refused_tag}
use Rattle.wordlists.proofs.Lines.{read_refused}
use Rattle.notation.specs.Promises.{room_for, judged_text, TextRecorded}
use Rattle.appending.specs.Hexadecimal.{hex_of}
use Rattle.commands.specs.Answers.{saying, denying, line_of, room_size}
use Rattle.commands.specs.Words.{is_text_value, word_record, text_record, LineRecord, of_word, of_text, item_by}
use Rattle.commands.specs.inside.Steps.{front_of}
use Rattle.commands.proofs.Fronts.{front_found}

-- Memory that serves every word and text.
pub record Full (m : Memory) : Type 0 where
  pub b : length m.b ≡ suc limit
  pub a : length m.a ≡ suc limit
  pub buffer : length m.buffer ≡ room_size

-- What is judged of a line beside it is what the line is read as.
pub full_judged : (line : List ℕ) (m : Memory) → Full m → judged_with line m ≡ line_read line
full_judged line m f = line_judged {line = line} {m = m} (record {
  b_long = λ few. omega (arith, few, f.b);
  a_long = λ few. omega (arith, few, f.a);
  buffer_long = λ few. omega (arith, few, f.buffer);
})

module _ {line : List ℕ} {m m' : Memory} {r : Result ℕ Refusal} (f : Full m) where
  -- The record of a word stands at the front.
  pub word_front : Recorded line m m' r → front_of (reply_of r) m'.buffer ≡ word_record (line_read line)
  word_front h =
      ap₂ front_of h.result h.leaves.bytes
      ∙ front_found encode_word (λ w. length (encode_word w)) (judged_with line m) m.buffer (λ w e. (refl, fits w e))
      ∙ ap word_record (full_judged line m f)
    where
      fits : (w : Word) → judged_with line m ≡ accepted w → length (encode_word w) ≤ length m.buffer
      fits w e =
          let fit = accepted_record line (length m.b) (length m.a) (length m.buffer) w e in
          omega (
            arith,
            encode_size (form_of w),
            form_sum w,
            read_length line w fit.fit.reads,
            fit.roomy,
          )

  -- The record of a text stands at the front.
  pub text_front : (h : TextRecorded line m m' r) → front_of (reply_of r) m'.buffer ≡ text_record h.found
  text_front h =
      ap₂ front_of h.result h.bytes
      ∙ front_found (λ ps. encode (product_form ps)) (λ ps. length (encode (product_form ps))) (judged_text h.found m)
      m.buffer (λ ps e. (refl, fits h.found ps e))
      ∙ ap (λ (o : Outcome (List SignedPower)). then o (λ ps. accepted (encode (product_form ps)))) same
    where
      tables : List SignedPower → Outcome (List SignedPower)
      tables qs =
          cond (ltb (length m.buffer) (buffer_size (exponent_sizes qs))) (refused 7 0) (accepted qs)

      roomy : (o : Outcome (List SignedPower)) (ps : List SignedPower) → then o tables ≡ accepted ps
          → buffer_size (exponent_sizes ps) ≤ length m.buffer
      roomy (accepted qs) ps e =
          let h = passed (ltb (length m.buffer) (buffer_size (exponent_sizes qs))) 7 0 (accepted qs) ps e in
          let one : qs ≡ ps = accepted_same h.1 in
          subst (λ (x : List SignedPower). buffer_size (exponent_sizes x) ≤ length m.buffer) one
          (ltb-false (length m.buffer) (buffer_size (exponent_sizes qs)) h.0)
      roomy (refused n p) ps e = absurd (accepted_refused (sym e))

      fits : (o : Outcome (List SignedPower)) (ps : List SignedPower) → judged_text o m ≡ accepted ps
          → length (encode (product_form ps)) ≤ length m.buffer
      fits (accepted qs) ps e =
          omega (
            arith,
            encode_size (product_form ps),
            product_sum ps,
            roomy (tables_for (length m.b) (length m.a) qs) ps e,
          )
      fits (refused n p) ps e = absurd (accepted_refused (sym e))

      same : judged_text h.found m ≡ then h.found (room_for (suc limit) (suc limit) room_size)
      same =
          ap₂ (λ (x y : ℕ). then h.found (room_for x y (length m.buffer))) f.b f.a
          ∙ ap (λ (z : ℕ). then h.found (room_for (suc limit) (suc limit) z)) f.buffer

  -- So the record of a line is found.
  pub word_found : is_text_value line ≡ false → Recorded line m m' r → LineRecord line (front_of (reply_of r) m'.buffer)
  word_found e h = subst (LineRecord line) (sym (word_front h)) (of_word e)

  pub text_found : is_text_value line ≡ true → TextRecorded line m m' r
      → LineRecord line (front_of (reply_of r) m'.buffer)
  text_found e h = subst (LineRecord line) (sym (text_front h)) (of_text e h.found h.reads)

-- The bytes of the item of a refused word, its place in the two bytes of a number.
pub item_bytes : {n k p q : ℕ} {place : List ℕ} → n ≡ k → place ≡ (p / 256 % 256) ∷ (p % 256) ∷ [] → p ≡ q → q < 65536
    → denying (line_of (hex_of (15 ∷ 0 ∷ 3 ∷ n ∷ get_or place 0 0 ∷ get_or place 1 0 ∷ [])))
    ≡ denying (line_of (hex_of (field refused_tag (k ∷ two_bytes q))))
item_bytes {n} {k} {p} {q} e b same small =
    let high : p / 256 % 256 ≡ q / 256 = rw same (omega (arith, small)) in
    ap₂ (λ (m : ℕ) (l : List ℕ). denying (line_of (hex_of (15 ∷ 0 ∷ 3 ∷ m ∷ get_or l 0 0 ∷ get_or l 1 0 ∷ [])))) e
    (b ∙ ap₂ (λ (x y : ℕ). x ∷ y ∷ []) high (ap (λ (x : ℕ). x % 256) same))

-- The item of a word that is accepted, and of one that is not.
item_accepted : (o : Outcome Word) (t : List ℕ) → accepted t ≡ word_record o → saying (line_of (hex_of t)) ≡ item_by o
item_accepted (accepted w) t e = ap (λ (s : List ℕ). saying (line_of (hex_of s))) (accepted_same e)
item_accepted (refused n p) t e = absurd (accepted_refused e)

item_refused : (o : Outcome Word) (n p : ℕ) → refused n p ≡ word_record o → o ≡ refused n p
item_refused (accepted w) n p e = absurd (accepted_refused (sym e))
item_refused (refused k q) n p e = sym (refused_same e)
  where
    refused_same : ◌≡◌ {A = Outcome (List ℕ)} (refused n p) (refused k q)
        → ◌≡◌ {A = Outcome Word} (refused n p) (refused k q)
    refused_same h = cc

module _ {line : List ℕ} {m m' : Memory} {r : Result ℕ Refusal} (f : Full m) (h : Recorded line m m' r) where
  pub item-said : {n : ℕ} {t : List ℕ} → r ≡ Ok n → t ≡ take n m'.buffer
      → saying (line_of (hex_of t)) ≡ item_by (line_read line)
  item-said {n} {t} e c =
      item_accepted (line_read line) t
      (ap accepted c ∙ ap (λ (x : Result ℕ Refusal). front_of (reply_of x) m'.buffer) (sym e) ∙ word_front f h)

  module _ {q : Refusal} (e : r ≡ Err q) where
    so : line_read line ≡ refused (number_of q) (place_of q)
    so =
        item_refused (line_read line) (number_of q) (place_of q)
        (ap (λ (x : Result ℕ Refusal). front_of (reply_of x) m'.buffer) (sym e) ∙ word_front f h)

    pub item-place : place_of q < 65536
    item-place = omega (arith, (read_refused line (number_of q) (place_of q) so).1, limit_counts)

    pub item_denied : denying (line_of (hex_of (field refused_tag (number_of q ∷ two_bytes (place_of q)))))
        ≡ item_by (line_read line)
    item_denied = ap item_by (sym so)
