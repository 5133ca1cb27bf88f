-- The two-word call: what it refuses, what it leaves, what it decides, by the outcomes of its two words.
-- Assumes nothing.
use mathlib.Core.Path.{◌≡◌, refl, sym, ap, ap₂, ◌∙◌, subst}
use mathlib.Core.Bool.{Bool, true, false, true≢false}
use mathlib.Core.List.{List}
use mathlib.Core.Logic.{inl, inr, ◌↔◌}
use Prim.Native.Nat.{ℕ, ◌≤◌}
use native.Mathlib.Omega.{arith}
use lib.ListN.{length}
use Rattle.std.specs.Prelude.{Result, Ok}
use Rattle.refusals.specs.declared.Refusal.{Refusal}
use Rattle.lists.specs.SameBytes.{same_bytes}
use Rattle.lists.proofs.SameBytes.{same_bytes_lem, bytes_same}
use Rattle.group.specs.Letters.{Word, inverse}
use Rattle.group.specs.Chains.{Joined}
use Rattle.group.specs.Forms.{Form}
use Rattle.group.specs.Limits.{limit}
use Rattle.group.specs.Products.{form_of}
use Rattle.group.proofs.Exchange.{form_inverse}
use Rattle.refusals.specs.Outcomes.{Outcome, accepted, refused}
use Rattle.refusals.specs.Memory.{Memory}
use Rattle.records.specs.Format.{encode, Within}
use Rattle.records.specs.Exchange.{exchanged}
use Rattle.records.proofs.WordForms.{form_within, word_record}
use Rattle.records.proofs.Exchanges.{exchanged-encode, exchange_record}
use Rattle.words.specs.Recording.{judged_with, encode_word, count_record, Left, Recorded}
use Rattle.comparisons.specs.Comparing.{Decision, same, inverse as inverses, different, refused_word, verdict_by}
use Rattle.comparisons.specs.Comparing.{decided}
use Rattle.comparisons.specs.Comparing.{decision_of, ComparedBy, Compared}
use Rattle.comparisons.specs.declared.Comparison.{Comparison}
use Rattle.comparisons.specs.declared.RefusedWord.{RefusedWord}
use Rattle.claims.specs.Refusals.{WordRefusal}
use Rattle.claims.specs.Answers.{None, WordRefused, Answered, RefusesWords}
use Rattle.claims.specs.Given.{Decides}
use Rattle.claims.proofs.Refusals.{judged↔refusal, accepted_none, none_accepted}
use Rattle.claims.proofs.Written.{Listed, listed↔joined}
use Rattle.claims.proofs.WordCalls.{left_refused, judged_within, records↔joined}

-- Decisions that differ.
other_word : {i q n p : ℕ} → refused_word 1 i q ≡ refused_word 0 n p → ⊥
other_word h = let z : ◌≡◌ {A = ℕ} 1 0 = cc in omega arith

same_inverse : same ≡ inverses → ⊥
same_inverse h = let z : ◌≡◌ {A = ℕ} 0 1 = cc in omega arith

same_different : same ≡ different → ⊥
same_different h = let z : ◌≡◌ {A = ℕ} 0 1 = cc in omega arith

inverse_different : inverses ≡ different → ⊥
inverse_different h = let z : ◌≡◌ {A = ℕ} 0 1 = cc in omega arith

no_refusal : (a b : Bool) {word n p : ℕ} → verdict_by a b ≡ refused_word word n p → ⊥
no_refusal true b h = let z : ◌≡◌ {A = ℕ} 0 1 = cc in omega arith
no_refusal false true h = let z : ◌≡◌ {A = ℕ} 0 1 = cc in omega arith
no_refusal false false h = let z : ◌≡◌ {A = ℕ} 0 1 = cc in omega arith

not_answered : {d : Decision} {word n p : ℕ} → Answered d → d ≡ refused_word word n p → ⊥
not_answered (inl e) h = no_refusal true true (sym e ∙ h)
not_answered (inr (inl e)) h = no_refusal false true (sym e ∙ h)
not_answered (inr (inr e)) h = no_refusal false false (sym e ∙ h)

-- Whether two words have one record, and whether the first has the other's with its sides exchanged.
abbrev equals : Word → Word → Bool
equals w x = same_bytes (encode_word w) (encode_word x)

abbrev exchanges : Word → Word → Bool
exchanges w x = same_bytes (encode_word w) (exchanged (encode_word x))

-- Which word was refused.
first_word : (o q : Outcome Word) (n p : ℕ) → decided o q ≡ refused_word 0 n p → o ≡ refused n p
first_word (refused i j) q n p d = cc
first_word (accepted w) (refused i j) n p d = absurd (other_word d)
first_word (accepted w) (accepted x) n p d = absurd (no_refusal (equals w x) (exchanges w x) d)

second_word : (o q : Outcome Word) (n p : ℕ) → decided o q ≡ refused_word 1 n p
    → ((w : Word) × (o ≡ accepted w)) × (q ≡ refused n p)
second_word (refused i j) q n p d = absurd (other_word (sym d))
second_word (accepted w) (refused i j) n p d = ((w, refl), cc)
second_word (accepted w) (accepted x) n p d = absurd (no_refusal (equals w x) (exchanges w x) d)

-- What is left of the memories, by the two outcomes.
module _ {m m' k k' : Memory} {c : Result Comparison RefusedWord} where
  -- A refusal leaves both.
  kept-both : (o q : Outcome Word) → ComparedBy o q m m' k k' c → WordRefused (decision_of c) → (m' ≡ m) × (k' ≡ k)
  kept-both (refused i j) (refused a b) h d = (left_refused a b refl h.leaves1, left_refused i j refl h.leaves2)
  kept-both (refused i j) (accepted x) h d = (left_refused i j refl h.leaves1, left_refused i j refl h.leaves2)
  kept-both (accepted w) (refused i j) h d = (left_refused i j refl h.leaves1, left_refused i j refl h.leaves2)
  kept-both (accepted w) (accepted x) h (word, n, p, d) =
      absurd (no_refusal (equals w x) (exchanges w x) (sym h.result ∙ d))

  -- An answer leaves each as the word's own outcome does.
  left_both : (o q : Outcome Word) → ComparedBy o q m m' k k' c → Answered (decision_of c)
      → ((w : Word) × (o ≡ accepted w) × Left o m m') × ((x : Word) × (q ≡ accepted x) × Left q k k')
  left_both (refused i j) q h a = absurd (not_answered a h.result)
  left_both (accepted w) (refused i j) h a = absurd (not_answered a h.result)
  left_both (accepted w) (accepted x) h a = ((w, refl, h.leaves1), (x, refl, h.leaves2))

-- A decision by two tests.
answered : (a b : Bool) {d : Decision} → d ≡ verdict_by a b → Answered d
answered true b e = inl e
answered false true e = inr (inl e)
answered false false e = inr (inr e)

decides : (a b : Bool) {d : Decision} {w x : Word} → d ≡ verdict_by a b → (a ≡ true) ↔ Joined w x
    → (b ≡ true) ↔ Joined w (inverse x) → Decides d w x
decides true b e j k = record {
  same_just_when = ((λ s. j.0 refl), λ p. e);
  inverse_just_when = ((λ f. absurd (same_inverse (sym e ∙ f))), λ n. absurd (n.0 (j.0 refl)));
  different_just_when = ((λ f. absurd (same_different (sym e ∙ f))), λ n. absurd (n.0 (j.0 refl)));
}
decides false true e j k = record {
  same_just_when = ((λ s. absurd (same_inverse (sym s ∙ e))), λ p. absurd (true≢false (sym (j.1 p))));
  inverse_just_when = ((λ f. ((λ p. true≢false (sym (j.1 p))), k.0 refl)), λ n. e);
  different_just_when = ((λ f. absurd (inverse_different (sym e ∙ f))), λ n. absurd (n.1 (k.0 refl)));
}
decides false false e j k = record {
  same_just_when = ((λ s. absurd (same_different (sym s ∙ e))), λ p. absurd (true≢false (sym (j.1 p))));
  inverse_just_when =
      ((λ f. absurd (inverse_different (sym f ∙ e))), λ n. absurd (true≢false (sym (k.1 n.1))));
  different_just_when = ((λ f. ((λ p. true≢false (sym (j.1 p))), λ p. true≢false (sym (k.1 p)))), λ n. e);
}

-- The test of two lists, where they are equal just under a condition.
same↔when : (s t : List ℕ) {P : Type 0} → (s ≡ t) ↔ P → (same_bytes s t ≡ true) ↔ P
same↔when s t j = (
  (λ e. j.0 (same_bytes_lem s t e)),
  (λ p. ap (λ (l : List ℕ). same_bytes s l) (sym (j.1 p)) ∙ bytes_same s),
)

-- The record of a word with its sides exchanged is that of its inverse.
inverse_listed : (x : Word) → length x ≤ limit → Listed (inverse x) (exchanged (encode_word x))
inverse_listed x few = record {
  is = exchanged-encode (form_of x) ∙ ap encode (sym (form_inverse x));
  within =
      subst (λ (f : Form). Within f) (sym (form_inverse x)) (exchange_record (form_of x) (word_record x few)).within;
}

-- A memory that is left as the word's own call leaves it.
own_call : {u : List ℕ} {m m' : Memory} → (w : Word) × (judged_with u m ≡ accepted w) × Left (judged_with u m) m m'
    → (r : Result ℕ Refusal) × Recorded u m m' r
own_call (w, e, left) = (
  Ok (length (encode_word w)),
  record { result = sym (ap (λ (o : Outcome Word). count_record o) e); leaves = left },
)

module _ (u v : List ℕ) (m m' k k' : Memory) (c : Result Comparison RefusedWord) (h : Compared u m m' v k k' c) where
  first_just_when : (n p : ℕ) → (decision_of c ≡ refused_word 0 n p) ↔ WordRefusal u m n p
  first_just_when n p = (
    (λ d. (judged↔refusal u m n p).0 (first_word (judged_with u m) (judged_with v k) n p (sym h.result ∙ d))),
    (λ r. h.result ∙ ap (λ (o : Outcome Word). decided o (judged_with v k)) ((judged↔refusal u m n p).1 r)),
  )

  second_just_when : (n p : ℕ) → (decision_of c ≡ refused_word 1 n p) ↔ (None (WordRefusal u m) × WordRefusal v k n p)
  second_just_when n p = (
    (λ d.
        let x = second_word (judged_with u m) (judged_with v k) n p (sym h.result ∙ d) in
        (accepted_none u m x.0.0 x.0.1, (judged↔refusal v k n p).0 x.1)),
    (λ r. h.result ∙ ap₂ decided (none_accepted u m r.0).1 ((judged↔refusal v k n p).1 r.1)),
  )

  answered_just_when : Answered (decision_of c) ↔ (None (WordRefusal u m) × None (WordRefusal v k))
  answered_just_when = (
    (λ a.
        let x = left_both (judged_with u m) (judged_with v k) h a in
        (accepted_none u m x.0.0 x.0.1, accepted_none v k x.1.0 x.1.1)),
    (λ r.
        let w = none_accepted u m r.0 in
        let x = none_accepted v k r.1 in
        answered (equals w.0 x.0) (exchanges w.0 x.0) (h.result ∙ ap₂ decided w.1 x.1)),
  )

  -- What is refused, and that a refusal leaves both memories.
  pub two_refused : RefusesWords (decision_of c) (WordRefusal u m) (WordRefusal v k)
      × (WordRefused (decision_of c) → (m' ≡ m) × (k' ≡ k))
  two_refused = (
    record {
      first_just_when = first_just_when;
      second_just_when = second_just_when;
      answered_just_when = answered_just_when;
    },
    kept-both (judged_with u m) (judged_with v k) h,
  )

  -- An answer leaves each memory as the word's own call does.
  pub own_calls : Answered (decision_of c)
      → ((r : Result ℕ Refusal) × Recorded u m m' r) × ((q : Result ℕ Refusal) × Recorded v k k' q)
  own_calls a = let x = left_both (judged_with u m) (judged_with v k) h a in (own_call x.0, own_call x.1)

  -- Two accepted words: same, inverse or different by chains.
  pub two_decided : (w x : Word) → judged_with u m ≡ accepted w → judged_with v k ≡ accepted x
      → Decides (decision_of c) w x
  two_decided w x e f =
      let few = judged_within u m w e in
      let few' = judged_within v k x f in
      let own : Listed w (encode_word w) = record { is = refl; within = form_within w few } in
      decides (equals w x) (exchanges w x) (h.result ∙ ap₂ decided e f)
      (same↔when (encode_word w) (encode_word x) (records↔joined w x few few'))
      (same↔when (encode_word w) (exchanged (encode_word x)) (listed↔joined w (inverse x) own (inverse_listed x few')))
