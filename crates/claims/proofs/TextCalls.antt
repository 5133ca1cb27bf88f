-- An accepted call of text to record: its powers, its record, and what it leaves; and an accepted call on a word, in
-- letters or in subscript notation. Assumes nothing.
use mathlib.Core.Path.{◌≡◌, refl, sym, ap, ap₂, subst, ◌∙◌}
use mathlib.Core.List.{List}
use Prim.Native.Nat.{ℕ, suc, ◌+◌, ◌≤◌}
use native.Mathlib.Omega.{arith}
use lib.ListN.{length, take}
use lib.Seq.{sets}
use Rattle.std.specs.Prelude.{Result}
use Rattle.refusals.specs.declared.Refusal.{Refusal}
use Rattle.lists.proofs.Writes.{sets_front}
use Rattle.group.specs.Letters.{Word}
use Rattle.group.specs.Limits.{limit}
use Rattle.group.specs.Forms.{b_side, a_side, levels}
use Rattle.group.specs.Powers.{SignedPower, product_letters, exponent_sizes}
use Rattle.group.proofs.Powers.{product_sum}
use Rattle.refusals.specs.Outcomes.{Outcome, accepted, refused, after, reply_of}
use Rattle.refusals.specs.Memory.{Memory, memory}
use Rattle.refusals.proofs.Outcomes.{accepted_refused, accepted_same, valued_accepted}
use Rattle.records.specs.Format.{encode, buffer_size}
use Rattle.records.proofs.Lengths.{encode_size}
use Rattle.records.proofs.WordForms.{product_within}
use Rattle.tokens.specs.Tokens.{AllInRange}
use Rattle.tokens.specs.Texts.{text_of}
use Rattle.tokens.specs.Reading.{TextRead, misspelled, large, read}
use Rattle.tokens.proofs.Texts.{text_injective}
use Rattle.forest.specs.Filling.{product_form, product_table}
use Rattle.words.specs.Recording.{encode_word}
use Rattle.notation.specs.Promises.{judged_text, TextRecorded}
use Rattle.claims.specs.Refusals.{TextRefusal}
use Rattle.claims.specs.Answers.{IsRefused, Refuses}
use Rattle.claims.specs.Given.{RecordOfText}
use Rattle.claims.specs.Calls.{CallOn, by_word, by_text, record_by}
use Rattle.claims.proofs.Answers.{is_refused_lem, refuses_when}
use Rattle.claims.proofs.Written.{record_written, Listed}
use Rattle.claims.proofs.WordCalls.{word_listed}
use Rattle.claims.proofs.TextRefusals.{text↔refusal, Room, is_high, is_short, no_buffer, is_roomy, judge_room}

-- The number of bytes of the record of powers.
abbrev record_size : List SignedPower → ℕ
record_size ps = length (encode (product_form ps))

-- What the buffer holds at exit.
abbrev buffer_by : Memory → Outcome (List SignedPower) → List ℕ
buffer_by m o = after o m.buffer (λ ps. sets m.buffer 0 (encode (product_form ps)))

-- Text to record refuses as the text is judged, and then leaves everything.
pub text_refused : {t : List ℕ} {m m' : Memory} {r : Result ℕ Refusal} → TextRecorded t m m' r
    → Refuses (reply_of r) (TextRefusal t m) × (IsRefused (reply_of r) → m' ≡ m)
text_refused {t} {m} {m'} h = (
  refuses_when record_size (judged_text h.found m) h.result (TextRefusal t m) (text↔refusal t m h.reads),
  (λ x. kept (is_refused_lem record_size (judged_text h.found m) h.result x).2),
)
  where
    kept : {n p : ℕ} → judged_text h.found m ≡ refused n p → m' ≡ m
    kept e =
        ap₂ (λ (b a : List ℕ). memory b a m'.buffer)
        (h.b_table ∙ ap (λ (o : Outcome (List SignedPower)). product_table b_side o m.b) e)
        (h.a_table ∙ ap (λ (o : Outcome (List SignedPower)). product_table a_side o m.a) e)
        ∙ ap (λ (l : List ℕ). memory m.b m.a l) (h.bytes ∙ ap (buffer_by m) e)

-- An accepted text: its powers, and that there is room.
pub record Taken (t : List ℕ) (m : Memory) (o : Outcome (List SignedPower)) (ps : List SignedPower) : Type 0 where
  pub in_range : AllInRange ps
  pub text : t ≡ text_of ps
  pub small : exponent_sizes ps ≤ limit
  pub low : levels (product_form ps) ≤ suc limit
  pub roomy : buffer_size (exponent_sizes ps) ≤ length m.buffer
  pub judged_so : judged_text o m ≡ accepted ps

text_taken : {t : List ℕ} {m : Memory} {o : Outcome (List SignedPower)} → TextRead t o → (ps : List SignedPower)
    → judged_text o m ≡ accepted ps → Taken t m o ps
text_taken (misspelled k f) qs e = absurd (accepted_refused (sym e))
text_taken (large ps range text more) qs e = absurd (accepted_refused (sym e))
text_taken {t} {m} (read ps range text few) qs e = go (judge_room m ps)
  where
    go : Room m ps → Taken t m (accepted ps) qs
    go (is_high h f) = absurd (accepted_refused (sym e ∙ f))
    go (is_short low h f) = absurd (accepted_refused (sym e ∙ f))
    go (no_buffer low full h f) = absurd (accepted_refused (sym e ∙ f))
    go (is_roomy low full h f) =
        let same : ps ≡ qs = accepted_same (sym f ∙ e) in
        subst (Taken t m (accepted ps)) same
        (record { in_range = range; text = text; small = few; low = low; roomy = h; judged_so = f })

-- The powers of an accepted call.
pub text_call : {t : List ℕ} {m m' : Memory} {r : Result ℕ Refusal} {n : ℕ} (h : TextRecorded t m m' r)
    → reply_of r ≡ accepted n
    → (ps : List SignedPower) × Taken t m h.found ps × (record_size ps ≡ n)
text_call {t} {m} {m'} {r} {n} h e =
    let x = valued_accepted record_size (judged_text h.found m) n (sym h.result ∙ e) in
    (x.0, text_taken h.reads x.0 x.1, x.2)

-- What it leaves.
module _ {t : List ℕ} {m m' : Memory} {r : Result ℕ Refusal} {n : ℕ} (ps : List SignedPower) (h : TextRecorded t m m' r)
    (e : reply_of r ≡ accepted n) (is : t ≡ text_of ps) where
  taken : Taken t m h.found ps × (record_size ps ≡ n)
  taken =
      let x = text_call h e in
      let same : x.0 ≡ ps = text_injective x.0 ps (sym x.1.text ∙ is) in
      subst (λ (qs : List SignedPower). Taken t m h.found qs × (record_size qs ≡ n)) same (x.1, x.2)

  bytes : m'.buffer ≡ sets m.buffer 0 (encode_word (product_letters ps))
  bytes = h.bytes ∙ ap (buffer_by m) taken.0.judged_so

  fits : n ≤ length m.buffer
  fits = omega (arith, taken.1, encode_size (product_form ps), product_sum ps, taken.0.roomy)

  pub text_keeps_map : RecordOfText m m' n ps
  text_keeps_map =
      record_written (limit + 1) n (product_letters ps) m m' (product_within ps taken.0.small taken.0.low)
      (h.b_table ∙ ap (λ (o : Outcome (List SignedPower)). product_table b_side o m.b) taken.0.judged_so)
      (h.a_table ∙ ap (λ (o : Outcome (List SignedPower)). product_table a_side o m.a) taken.0.judged_so)
      bytes
      (sym taken.1)
      fits

  pub text_listed : Listed (product_letters ps) (take n m'.buffer)
  text_listed = record {
    is = ap (take n) bytes ∙ sets_front (encode_word (product_letters ps)) m.buffer n taken.1 fits;
    within = product_within ps taken.0.small taken.0.low;
  }

-- An accepted call on a word, in either notation, writes the record of the word.
pub call_listed : (w : Word) (f : CallOn w) → Listed w (record_by f)
call_listed w (by_word f) = word_listed w f.contract f.taken refl
call_listed w (by_text ps e f) =
    subst (λ (x : Word). Listed x (record_by (by_text ps e f))) (sym e) (text_listed ps f.contract f.taken refl)
