-- A word that is accepted beside some memory is accepted beside arrays that are long enough for every word, and the
-- bytes that word to record counts at the front of the buffer are its record. Assumes nothing.
use mathlib.Core.Path.{◌≡◌, refl, sym, ap, ◌∙◌}
use mathlib.Core.Bool.{cond}
use mathlib.Core.List.{List}
use Prim.Native.Nat.{ℕ, suc, ◌+◌, ◌≤◌}
use native.Mathlib.Omega.{arith}
use lib.ListN.{length, take}
use lib.Dec.{ltb}
use lib.Seq.{sets, length-sets}
use borrow.Author.Tests.{le-ltb}
use Rattle.std.specs.Prelude.{Result, Err}
use Rattle.refusals.specs.declared.Refusal.{Refusal}
use Rattle.lists.proofs.Writes.{sets_front}
use Rattle.group.specs.Letters.{Word}
use Rattle.group.specs.Bytes.{Reading}
use Rattle.group.specs.Products.{form_of}
use Rattle.group.specs.Limits.{limit}
use Rattle.group.proofs.Bytes.{read_length}
use Rattle.group.proofs.Sizes.{form_sum}
use Rattle.refusals.specs.Outcomes.{Outcome, accepted, refused, then, reply_of}
use Rattle.refusals.proofs.Outcomes.{accepted_refused}
use Rattle.refusals.proofs.Answered.{count_in}
use Rattle.refusals.specs.Memory.{Memory}
use Rattle.refusals.specs.Placing.{Placed}
use Rattle.refusals.proofs.Answered.{count_accepted, count_refused}
use Rattle.records.specs.Format.{buffer_size}
use Rattle.records.specs.inside.Exchanging.{smaller_in}
use Rattle.records.proofs.Lengths.{encode_size}
use Rattle.records.proofs.SmallerRecords.{smaller_front, smaller_answered}
use Rattle.records.proofs.ReadBack.{frames-encode}
use Rattle.records.specs.Reading.{frames}
use Rattle.fields.specs.Fields.{Bytes}
use Rattle.letters.specs.Judging.{judged_reading, judged}
use Rattle.words.specs.Recording.{encode_word, count_record, buffer_after, judged_record, judged_with, Recorded}
use Rattle.words.proofs.Judged.{RecordFit, accepted_record}
use Rattle.updates.specs.declared.deciding.Decision.{Decision}
use Rattle.updates.specs.Entering.{stored_form}
use Rattle.updates.specs.inside.Steps.{Judged, DecidedWith}

module _ (word : List ℕ) (nb na nr : ℕ) (w : Word) (h : judged_record word nb na nr ≡ accepted w) where
  told : RecordFit word nb na nr w
  told = accepted_record word nb na nr w h

  -- Tables of e entries and a buffer of n bytes are long enough for the word.
  pub judged_sized : (e n : ℕ) → suc (length word) ≤ e → buffer_size (length word) ≤ n
      → judged_record word e e n ≡ accepted w
  judged_sized e n tall wide =
      let tables : judged word e e ≡ accepted w =
      simp (le-ltb limit (length word) told.fit.short)
      (ap (λ (q : Reading). judged_reading q (length word) e e) told.fit.reads
      ∙ simp (le-ltb e (length word + 1) (omega arith))) in
      ap (λ (o : Outcome Word). then o (λ v. cond (ltb n (buffer_size (length word))) (refused 7 0)
      (accepted v))) tables
      ∙ simp (le-ltb n (buffer_size (length word)) wide)

  -- So is a buffer for its record.
  pub own_sized : (n : ℕ) → buffer_size (length word) ≤ n → length (encode_word w) ≤ n
  own_sized n wide = omega (arith, encode_size (form_of w), form_sum w, read_length word w told.fit.reads)

  -- An accepted word is within the limit.
  pub within_limit : length word ≤ limit
  within_limit = told.fit.short

  -- As many letters as the limit allows: for every word that is accepted.
  pub judged_own : judged_record word (suc limit) (suc limit) (buffer_size limit) ≡ accepted w
  judged_own = judged_sized (suc limit) (buffer_size limit) (omega (arith, told.fit.short))
      (omega (arith, told.fit.short))

module _ {word : List ℕ} {entry exit : Memory} {r : Result ℕ Refusal} (h : Recorded word entry exit r) where
  -- A refused word has no record.
  pub none_recorded : (n p : ℕ) → judged_with word entry ≡ refused n p → count_in r ≡ 0
  none_recorded n p e = count_refused r n p (h.result ∙ ap (λ (o : Outcome Word). count_record o) e)

  module _ (w : Word) (so : judged_with word entry ≡ accepted w) where
    pub own_count : count_in r ≡ length (encode_word w)
    own_count =
        count_accepted r (length (encode_word w)) (h.result ∙ ap (λ (o : Outcome Word). count_record o) so)

    -- It is not refused.
    pub own_answered : (x : Refusal) → r ≡ Err x → ⊥
    own_answered x e =
        accepted_refused (sym (sym (ap reply_of e) ∙ h.result ∙ ap (λ (o : Outcome Word). count_record o) so))

    own_bytes : exit.buffer ≡ sets entry.buffer 0 (encode_word w)
    own_bytes = h.leaves.bytes ∙ ap (λ (o : Outcome Word). buffer_after o entry.buffer) so

    own_fits : length (encode_word w) ≤ length entry.buffer
    own_fits =
        let told = accepted_record word (length entry.b) (length entry.a) (length entry.buffer) w so in
        omega (
          arith,
          encode_size (form_of w),
          form_sum w,
          told.roomy,
          read_length word w told.fit.reads,
        )

    pub own_inside : count_in r ≤ length exit.buffer
    own_inside =
        omega (
          arith,
          own_count,
          own_fits,
          ap length own_bytes,
          length-sets entry.buffer 0 (encode_word w),
        )

    pub own_front : take (count_in r) exit.buffer ≡ encode_word w
    own_front =
        ap (take (count_in r)) own_bytes
        ∙ sets_front (encode_word w) entry.buffer (count_in r) (sym own_count) (omega (arith, own_count, own_fits))

-- Whatever the word is, the bytes that are counted lie inside the buffer.
pub count_inside : {word : List ℕ} {entry exit : Memory} {r : Result ℕ Refusal} → Recorded word entry exit r
    → count_in r ≤ length exit.buffer
count_inside {word} {entry} {exit} {r} h = go (judged_with word entry) refl
  where
    go : (o : Outcome Word) → judged_with word entry ≡ o → count_in r ≤ length exit.buffer
    go (accepted w) e = own_inside h w e
    go (refused n p) e = omega (arith, none_recorded h n p e)

-- A decision on it is one on the word.
pub decided_with : {word : List ℕ} {entry exit : Memory} {r q : Result ℕ Refusal} {h n m : ℕ} {s out' : List ℕ}
    {d : Result Decision Refusal}
    (out : List ℕ) → Recorded word entry exit r → n ≡ count_in r
    → Placed (smaller_in (take n exit.buffer) out) out out' q → m ≡ count_in q → Judged (take m out') h s d
    → DecidedWith word entry (length out) h s d
decided_with {word} {entry} {exit} {r} {q} {h} {n} {m} {s} {out'} {d} out told e placed k j = record {
  are_bytes = j.are_bytes;
  decides = λ w so room. j.decides (stored_form w)
      (ap (λ (i : ℕ). take i out') k
      ∙ smaller_front (take n exit.buffer) out q placed (form_of w) (own w so)
      (omega (arith, ap length (own w so), room)));
}
  where
    own : (w : Word) → judged_with word entry ≡ accepted w → take n exit.buffer ≡ encode_word w
    own w so = ap (λ (i : ℕ). take i exit.buffer) e ∙ own_front told w so

-- Where either step refuses, no word is accepted that has room.
module _ {word : List ℕ} {entry exit : Memory} {r : Result ℕ Refusal} {h : ℕ} {s : List ℕ}
    (told : Recorded word entry exit r)
    (bytes : Bytes s) where
  pub unwritten : (x : Refusal) → r ≡ Err x → (n : ℕ) → DecidedWith word entry n h s (Err x)
  unwritten x e n = record { are_bytes = bytes; decides = λ w so room. absurd (own_answered told w so x e) }

  pub unplaced : {n : ℕ} {q : Result ℕ Refusal} {out' : List ℕ} (out : List ℕ) → n ≡ count_in r
      → Placed (smaller_in (take n exit.buffer) out) out out' q → (x : Refusal) → q ≡ Err x
      → DecidedWith word entry (length out) h s (Err x)
  unplaced {n} {q} {out'} out e placed x is = record {
    are_bytes = bytes;
    decides = λ w so room.
        let own : take n exit.buffer ≡ encode_word w =
        ap (λ (i : ℕ). take i exit.buffer) e ∙ own_front told w so in
        absurd (smaller_answered (take n exit.buffer) out q placed (ap frames own ∙ frames-encode (form_of w))
        (omega (arith, ap length own, room)) x is);
  }
