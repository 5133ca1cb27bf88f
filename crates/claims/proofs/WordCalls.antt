-- An accepted call of word to record: its word, its record, and what it leaves. Assumes nothing.
use mathlib.Core.Path.{◌≡◌, refl, sym, ap, ap₂, ◌∙◌}
use mathlib.Core.List.{List}
use mathlib.Core.Logic.{◌↔◌}
use Prim.Native.Nat.{ℕ, ◌+◌, ◌≤◌}
use native.Mathlib.Omega.{arith}
use lib.ListN.{length, take}
use Rattle.std.specs.Prelude.{Result}
use Rattle.refusals.specs.declared.Refusal.{Refusal}
use Rattle.group.specs.Letters.{Word}
use Rattle.group.specs.Bytes.{bytes_of}
use Rattle.group.specs.Chains.{Joined}
use Rattle.group.specs.Forms.{b_side, a_side}
use Rattle.group.specs.Products.{form_of}
use Rattle.group.specs.Limits.{limit}
use Rattle.group.proofs.Bytes.{read_length}
use Rattle.group.proofs.Sizes.{form_sum}
use Rattle.refusals.specs.Outcomes.{Outcome, accepted, refused, reply_of}
use Rattle.refusals.specs.Memory.{Memory, memory}
use Rattle.refusals.proofs.Outcomes.{accepted_refused}
use Rattle.records.proofs.WordForms.{form_within}
use Rattle.records.proofs.Lengths.{encode_size}
use Rattle.forest.specs.Filling.{table_after}
use Rattle.words.specs.Recording.{judged_with, encode_word, count_record, buffer_after, Left, Recorded}
use Rattle.words.specs.inside.Writing.{WordWritten}
use Rattle.words.proofs.Judged.{accepted_record}
use Rattle.words.proofs.Written.{front_record}
use Rattle.claims.specs.Given.{RecordOfWord}
use Rattle.claims.proofs.Written.{record_written, Listed, listed↔joined}
use Rattle.claims.proofs.Refusals.{Judged, refuses, accepts, judge_word, judged_accepted}

-- Nothing is altered where the outcome is a refusal.
pub left_refused : {o : Outcome Word} {m m' : Memory} (n p : ℕ) → o ≡ refused n p → Left o m m' → m' ≡ m
left_refused {o} {m} {m'} n p e h =
    ap₂ (λ (b a : List ℕ). memory b a m'.buffer)
    (h.b_table ∙ ap (λ (q : Outcome Word). table_after b_side q m.b) e)
    (h.a_table ∙ ap (λ (q : Outcome Word). table_after a_side q m.a) e)
    ∙ ap (λ (l : List ℕ). memory m.b m.a l)
    (h.bytes ∙ ap (λ (q : Outcome Word). buffer_after q m.buffer) e)

-- A word that was judged good has at most as many letters as the limit.
pub judged_within : (u : List ℕ) (m : Memory) (w : Word) → judged_with u m ≡ accepted w → length w ≤ limit
judged_within u m w e =
    let fit = accepted_record u (length m.b) (length m.a) (length m.buffer) w e in
    omega (arith, fit.fit.short, read_length u w fit.fit.reads)

-- Two words within the limit have one record just when a chain joins them.
pub records↔joined : (w x : Word) → length w ≤ limit → length x ≤ limit
    → (encode_word w ≡ encode_word x) ↔ Joined w x
records↔joined w x few few' =
    listed↔joined w x (record { is = refl; within = form_within w few })
    (record { is = refl; within = form_within x few' })

-- An accepted call, its word and its record.
pub record CallOf (u : List ℕ) (m m' : Memory) (n : ℕ) : Type 0 where
  pub word : Word
  pub bytes : u ≡ bytes_of word
  pub judged_so : judged_with u m ≡ accepted word

pub call_of : {u : List ℕ} {m m' : Memory} {r : Result ℕ Refusal} {n : ℕ} → Recorded u m m' r → reply_of r ≡ accepted n
    → CallOf u m m' n
call_of {u} {m} {m'} {r} {n} h e = go (judge_word u m)
  where
    go : Judged u m → CallOf u m m' n
    go (refuses k p c j) = absurd (accepted_refused (sym e ∙ h.result ∙ ap (λ (o : Outcome Word). count_record o) j))
    go (accepts w b c j) = record { word = w; bytes = b; judged_so = j }

-- The same for the word that the bytes are.
pub record FrontOf (u : List ℕ) (m m' : Memory) (n : ℕ) (w : Word) : Type 0 where
  pub judged_so : judged_with u m ≡ accepted w
  pub count : n ≡ length (encode_word w)
  pub front : take n m'.buffer ≡ encode_word w

pub call_front : {u : List ℕ} {m m' : Memory} {r : Result ℕ Refusal} {n : ℕ} {w : Word} → Recorded u m m' r
    → reply_of r ≡ accepted n → u ≡ bytes_of w → FrontOf u m m' n w
call_front {u} {m} {m'} {r} {n} {w} h e b = go (judge_word u m)
  where
    written : WordWritten u m m' n
    written = record { result = sym e ∙ h.result; leaves = h.leaves }

    go : Judged u m → FrontOf u m m' n w
    go (refuses k p c j) = absurd (accepted_refused (sym e ∙ h.result ∙ ap (λ (o : Outcome Word). count_record o) j))
    go (accepts v a c j) =
        let so = judged_accepted u m w c b in
        let front = front_record u m m' n (record { letters = w; judged_so = so }) written in
        record { judged_so = so; count = front.0; front = front.1 }

-- The record that an accepted call writes.
pub word_listed : {u : List ℕ} {m m' : Memory} {r : Result ℕ Refusal} {n : ℕ} (w : Word) → Recorded u m m' r
    → reply_of r ≡ accepted n → u ≡ bytes_of w → Listed w (take n m'.buffer)
word_listed {u} {m} {m'} {r} {n} w h e b =
    let call = call_front {w = w} h e b in
    record { is = call.front; within = form_within w (judged_within u m w call.judged_so) }

-- Its record lies inside the buffer.
record_fits : (u : List ℕ) (m : Memory) (w : Word) → judged_with u m ≡ accepted w
    → length (encode_word w) ≤ length m.buffer
record_fits u m w so =
    let fit = accepted_record u (length m.b) (length m.a) (length m.buffer) w so in
    omega (arith, encode_size (form_of w), form_sum w, fit.roomy, read_length u w fit.fit.reads)

pub call_keeps_map : {u : List ℕ} {m m' : Memory} {r : Result ℕ Refusal} {n : ℕ} {w : Word} → Recorded u m m' r
    → reply_of r ≡ accepted n → u ≡ bytes_of w → RecordOfWord m m' n w
call_keeps_map {u} {m} {m'} {r} {n} {w} h e b =
    let call = call_front h e b in
    let so = call.judged_so in
    record_written (length w + 1) n w m m' (form_within w (judged_within u m w so))
    (h.leaves.b_table ∙ ap (λ (o : Outcome Word). table_after b_side o m.b) so)
    (h.leaves.a_table ∙ ap (λ (o : Outcome Word). table_after a_side o m.a) so)
    (h.leaves.bytes ∙ ap (λ (o : Outcome Word). buffer_after o m.buffer) so)
    call.count
    (omega (arith, record_fits u m w so, call.count))
