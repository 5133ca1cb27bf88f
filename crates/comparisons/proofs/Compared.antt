-- Two words: the answer and what is left, in each case; the records that are compared are framed. Assumes nothing.
use mathlib.Core.Path.{◌≡◌, refl, sym, ap, ap₂, subst, ◌∙◌}
use mathlib.Core.Bool.{true, true≢false}
use mathlib.Core.List.{List}
use Prim.Native.Nat.{ℕ}
use lib.ListN.{take}
use native.Mathlib.Omega.{arith}
use Rattle.std.specs.Prelude.{⊤, length, Result, Ok, Err, MatchResult, IsErrAnd, IsOk, is_ok}
use Rattle.group.specs.Letters.{Word}
use Rattle.group.specs.Products.{form_of}
use Rattle.refusals.specs.declared.Refusal.{Refusal}
use Rattle.refusals.specs.Refusals.{number_of, place_of}
use Rattle.refusals.specs.Outcomes.{Outcome, accepted, refused, drop_value, verdict_of, reply_of}
use Rattle.refusals.specs.Memory.{Memory}
use Rattle.records.specs.Reading.{frames}
use Rattle.records.proofs.ReadBack.{frames-encode}
use Rattle.refusals.proofs.Outcomes.{accepted_refused}
use Rattle.words.specs.Recording.{judged_with, count_record, encode_word, Left, Recorded, beside}
use Rattle.words.specs.inside.Writing.{Accepts, WordWritten}
use Rattle.words.proofs.Written.{left_kept, verdict_refused, verdict_accepts, front_record}
use Rattle.comparisons.specs.Comparing.{refused_word, decided, decision_of, verdict_on, Compared}
use Rattle.comparisons.specs.declared.Comparison.{Comparison}
use Rattle.comparisons.specs.declared.RefusedWord.{RefusedWord}
use Rattle.comparisons.specs.declared.RefusedWord.TheVariants.{First, Second}

-- A refusal of one word as `map_err` names it.
pub named_refusal : (name : Refusal → RefusedWord) (v : Result ⊤ Refusal) {o : Result ⊤ RefusedWord}
    → MatchResult v (λ x. o ≡ Ok x) (λ e. IsErrAnd o (λ d. d ≡ name e)) → (q : RefusedWord) → o ≡ Err q
    → (x : Refusal) × (v ≡ Err x) × (q ≡ name x)
named_refusal name (Ok x) {o} h q e = absurd (ok_err (sym h ∙ e))
  where
    ok_err : {y : ⊤} → ◌≡◌ {A = Result ⊤ RefusedWord} (Ok y) (Err q) → ⊥
    ok_err g = let z : ◌≡◌ {A = ℕ} 0 1 = cc in omega arith
named_refusal name (Err x) {o} h q e =
    (x, refl, subst (λ (r : Result ⊤ RefusedWord). IsErrAnd r (λ d. d ≡ name x)) e h)

-- An acceptance as `map_err` keeps it: the word is accepted beside its memory.
pub kept_acceptance : (word : List ℕ) (m : Memory) (v : Result ⊤ Refusal) {o : Result ⊤ RefusedWord} {y : ⊤}
    → verdict_of v ≡ drop_value (judged_with word m) → is_ok o ≡ is_ok v → o ≡ Ok y → Accepts word m
kept_acceptance word m (Ok tt) h e f = verdict_accepts word m (Ok tt) h refl
kept_acceptance word m (Err x) {o} {y} h e f =
    absurd (true≢false (sym (ap (λ (r : Result ⊤ RefusedWord). is_ok r) f) ∙ e))

-- An answer whose outcome is a number is one.
has_answer : (q : Result ℕ Refusal) (n : ℕ) → reply_of q ≡ accepted n → IsOk q
has_answer (Ok k) n e = refl
has_answer (Err r) n e = absurd (accepted_refused (sym e))

-- A word that is accepted has a record.
pub recorded_ok : {word : List ℕ} {m m' : Memory} (q : Result ℕ Refusal) → Accepts word m → Recorded word m m' q
    → IsOk q
recorded_ok q a w = has_answer q (length (encode_word a.letters)) (w.result ∙ ap count_record a.judged_so)

-- The first word is refused, whatever the second is.
pub first_refused : (word1 : List ℕ) (m1 : Memory) (word2 : List ℕ) (m2 : Memory) (v : Result ⊤ Refusal)
    {q : RefusedWord} {r : Result Comparison RefusedWord} → verdict_of v ≡ drop_value (judged_with word1 m1)
    → (x : Refusal) × (v ≡ Err x) × (q ≡ First x) → r ≡ Err q → Compared word1 m1 m1 word2 m2 m2 r
first_refused word1 m1 word2 m2 v {q} {r} h (x, e, f) g = go (judged_with word2 m2) refl
  where
    so : judged_with word1 m1 ≡ refused (number_of x) (place_of x)
    so = verdict_refused (judged_with word1 m1) v x h e

    says : decision_of r ≡ refused_word 0 (number_of x) (place_of x)
    says = ap decision_of (g ∙ ap Err f)

    go : (o : Outcome Word) → judged_with word2 m2 ≡ o → Compared word1 m1 m1 word2 m2 m2 r
    go (accepted w) e = record {
      result = says ∙ sym (ap₂ decided so e);
      leaves1 = left_kept _ (number_of x) (place_of x) m1 (ap₂ beside so e);
      leaves2 = left_kept _ (number_of x) (place_of x) m2 (ap₂ beside e so);
    }
    go (refused n p) e = record {
      result = says ∙ sym (ap₂ decided so e);
      leaves1 = left_kept _ n p m1 (ap₂ beside so e);
      leaves2 = left_kept _ (number_of x) (place_of x) m2 (ap₂ beside e so);
    }

-- The first word is accepted, and the second refused.
pub second_refused : (word1 : List ℕ) (m1 : Memory) (word2 : List ℕ) (m2 : Memory) (v : Result ⊤ Refusal)
    {q : RefusedWord} {r : Result Comparison RefusedWord} → Accepts word1 m1
    → verdict_of v ≡ drop_value (judged_with word2 m2) → (x : Refusal) × (v ≡ Err x) × (q ≡ Second x) → r ≡ Err q
    → Compared word1 m1 m1 word2 m2 m2 r
second_refused word1 m1 word2 m2 v {q} {r} a h (x, e, f) g =
    let so = verdict_refused (judged_with word2 m2) v x h e in
    record {
      result = ap decision_of (g ∙ ap Err f) ∙ sym (ap₂ decided a.judged_so so);
      leaves1 = left_kept _ (number_of x) (place_of x) m1 (ap₂ beside a.judged_so so);
      leaves2 = left_kept _ (number_of x) (place_of x) m2 (ap₂ beside so a.judged_so);
    }

-- The record that was written for an accepted word is framed.
pub framed : {word : List ℕ} {m m' : Memory} {n : ℕ} → Accepts word m → WordWritten word m m' n
    → frames (take n m'.buffer) ≡ true
framed {word} {m} {m'} {n} f w = ap frames (front_record word m m' n f w).1 ∙ frames-encode (form_of f.letters)

-- Both words are accepted and written: the answer is the verdict on their records.
pub both_written : (word1 : List ℕ) (m1 m1' : Memory) (word2 : List ℕ) (m2 m2' : Memory) {n k : ℕ} → Accepts word1 m1
    → Accepts word2 m2 → (r : Result Comparison RefusedWord) → WordWritten word1 m1 m1' n → WordWritten word2 m2 m2' k
    → decision_of r ≡ verdict_on (take n m1'.buffer) (take k m2'.buffer) → Compared word1 m1 m1' word2 m2 m2' r
both_written word1 m1 m1' word2 m2 m2' {n} {k} f1 f2 r w1 w2 says = record {
  result =
      says
      ∙ ap₂ verdict_on (front_record word1 m1 m1' n f1 w1).1 (front_record word2 m2 m2' k f2 w2).1
      ∙ sym (ap₂ decided f1.judged_so f2.judged_so);
  leaves1 = own m1 m1' word1 w1.leaves (sym (ap (beside (judged_with word1 m1)) f2.judged_so));
  leaves2 = own m2 m2' word2 w2.leaves (sym (ap (beside (judged_with word2 m2)) f1.judged_so));
}
  where
    own : (m m' : Memory) (word : List ℕ) {o : Outcome Word} → Left (judged_with word m) m m'
        → judged_with word m ≡ o → Left o m m'
    own m m' word left e = subst (λ (o : Outcome Word). Left o m m') e left
