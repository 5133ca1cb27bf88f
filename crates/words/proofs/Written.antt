-- An accepted word is written, and a refused one leaves its memory as it was. Assumes nothing.
use mathlib.Core.Path.{◌≡◌, sym, ap, ◌∙◌}
use mathlib.Core.List.{List}
use Prim.Native.Nat.{ℕ, ◌+◌, ◌≤◌}
use native.Mathlib.Omega.{arith}
use lib.ListN.{length, take, length-take}
use lib.Seq.{sets-eq, take_at}
use Rattle.std.specs.Prelude.{⊤, Result, Ok, Err}
use Rattle.group.specs.Letters.{Word}
use Rattle.group.specs.Forms.{b_side, a_side}
use Rattle.group.specs.Products.{form_of}
use Rattle.group.proofs.Bytes.{read_length}
use Rattle.group.proofs.Sizes.{form_sum}
use Rattle.refusals.specs.declared.Refusal.{Refusal}
use Rattle.refusals.specs.Refusals.{number_of, place_of}
use Rattle.refusals.specs.Outcomes.{Outcome, refused, drop_value, verdict_of}
use Rattle.refusals.specs.Memory.{Memory}
use Rattle.refusals.proofs.Outcomes.{accepted_same, drop_accepted, drop_refused}
use Rattle.records.proofs.Lengths.{encode_size}
use Rattle.forest.specs.Filling.{table_after}
use Rattle.words.specs.Recording.{encode_word, count_record, buffer_after, judged_with, Left}
use Rattle.words.specs.inside.Writing.{Accepts, WordWritten}
use Rattle.words.proofs.Judged.{accepted_record}

-- Nothing is altered where the outcome is a refusal.
pub left_kept : (o : Outcome Word) (n p : ℕ) (m : Memory) → o ≡ refused n p → Left o m m
left_kept o n p m e = record {
  b_table = sym (ap (λ (q : Outcome Word). table_after b_side q m.b) e);
  a_table = sym (ap (λ (q : Outcome Word). table_after a_side q m.a) e);
  bytes = sym (ap (λ (q : Outcome Word). buffer_after q m.buffer) e);
}

-- A verdict's refusal is the word's outcome.
pub verdict_refused : (o : Outcome Word) (v : Result ⊤ Refusal) (r : Refusal) → verdict_of v ≡ drop_value o → v ≡ Err r
    → o ≡ refused (number_of r) (place_of r)
verdict_refused o v r h e = drop_refused o (sym (ap verdict_of e) ∙ h)

pub verdict_accepts : (word : List ℕ) (m : Memory) (v : Result ⊤ Refusal)
    → verdict_of v ≡ drop_value (judged_with word m) → v ≡ Ok tt → Accepts word m
verdict_accepts word m v h e =
    let f = drop_accepted (judged_with word m) (sym (ap verdict_of e) ∙ h) in
    record { letters = f.0; judged_so = f.1 }

-- The bytes at the front of the buffer of an accepted word are its record.
pub front_record : (word : List ℕ) (m m' : Memory) (n : ℕ) (f : Accepts word m) → WordWritten word m m' n
    → (n ≡ length (encode_word f.letters)) × (take n m'.buffer ≡ encode_word f.letters)
front_record word m m' n f w =
    let v = f.letters in
    let so = f.judged_so in
    let fit = accepted_record word (length m.b) (length m.a) (length m.buffer) v so in
    let count : n ≡ length (encode_word v) =
    accepted_same (w.result ∙ ap (λ (o : Outcome Word). count_record o) so) in
    let fits : 0 + length (encode_word v) ≤ length m.buffer =
    omega (arith, encode_size (form_of v), form_sum v, fit.roomy, read_length word v fit.fit.reads) in (
      count,
      ap (take n)
          (w.leaves.bytes
          ∙ ap (λ (o : Outcome Word). buffer_after o m.buffer) so
          ∙ sets-eq (encode_word v) m.buffer 0 fits)
          ∙ take_at (encode_word v) _ n (sym count),
    )

-- The record lies inside the buffer.
pub record_inside : {word : List ℕ} {m m' : Memory} {n : ℕ} → Accepts word m → WordWritten word m m' n
    → n ≤ length m'.buffer
record_inside {word} {m} {m'} {n} f w =
    let front = front_record word m m' n f w in
    let short : length (take n m'.buffer) ≤ length m'.buffer = omega (arith, length-take n m'.buffer) in
    omega (arith, front.0, ap length front.1, short)
