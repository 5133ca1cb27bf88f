-- The demands of the functions: the relations of the calls, and the claims on them. An export's numbers say what an
-- answer of its call says, so that its demands are those of the call. Assumes nothing.
use mathlib.Core.Path.{◌≡◌, refl, sym, ◌∙◌, subst}
use mathlib.Core.List.{List}
use Prim.Native.Nat.{ℕ, ◌≤◌}
use lib.ListN.{length, take}
use Rattle.std.specs.Prelude.{⊤, Result}
use Rattle.refusals.specs.declared.Refusal.{Refusal}
use Rattle.group.specs.Letters.{Word}
use Rattle.group.specs.Bytes.{bytes_of}
use Rattle.group.specs.Limits.{limit}
use Rattle.group.specs.Products.{form_of}
use Rattle.group.specs.Powers.{SignedPower, product_letters, form_powers}
use Rattle.group.proofs.Reduced.{form_reduced, form_trimmed}
use Rattle.group.proofs.Theorems.{form_map, the_form}
use Rattle.refusals.specs.Outcomes.{Outcome, accepted, verdict_of, reply_of}
use Rattle.refusals.specs.Memory.{Memory, memory}
use Rattle.records.specs.Format.{Within}
use Rattle.records.specs.Checking.{Checked}
use Rattle.records.proofs.WordForms.{form_within}
use Rattle.tokens.specs.Texts.{text_of}
use Rattle.notation.specs.Promises.{TextRecorded, TextWritten}
use Rattle.words.specs.Recording.{encode_word, Recorded}
use Rattle.comparisons.specs.Comparing.{Decision, decision_of, Compared}
use Rattle.comparisons.specs.declared.Comparison.{Comparison}
use Rattle.comparisons.specs.declared.RefusedWord.{RefusedWord}
use Rattle.lengths.specs.Weights.{form_length}
use Rattle.pairs.specs.Promises.{Paired, label_sum, Measured}
use Rattle.spelling.specs.Promises.{Spelled}
use Rattle.spelling.specs.Spelling.{spelling}
use Rattle.claims.specs.Answers.{Answered}
use Rattle.claims.specs.Given.{VerdictOfWords}
use Rattle.claims.proofs.Demands.{demand1, demand2}
use Rattle.claims.proofs.Exports.{exports_answer_as_calls}
use Rattle.claims.proofs.Refusals.{no_refusal↔none, judged_accepted}
use Rattle.claims.proofs.Written.{listed↔joined}
use Rattle.claims.proofs.WordCalls.{call_keeps_map, call_front, judged_within}
use Rattle.claims.proofs.TwoWordCalls.{two_decided, own_calls}
use Rattle.claims.proofs.SpellingCalls.{spelled_as, front_spelled, spelling_again}
use Rattle.claims.proofs.TextCalls.{text_keeps_map, text_listed}
use Rattle.claims.proofs.PhraseCalls.{phrase_gives, phrased_as, phrase_form}
use Rattle.calls.specs.Functions.{Library}
use Rattle.calls.specs.Calls.{Exports}
use Rattle.calls.specs.Demanded.{WordToRecord, CheckRecord, RecordToTreePair, RecordToLength, RecordToWord}
use Rattle.calls.specs.Demanded.{TextToRecord, RecordToText, TwoWords, Demanded, DemandedOfExports, Fits}
use Rattle.calls.specs.Demanded.{OneRecord}
use Rattle.calls.proofs.Always.{always_below}
use Rattle.calls.proofs.Calls.{calls}

-- Demands 1 and 2 of a call that ends with its contract.
word_to_record_lem : {u : List ℕ} {m m' : Memory} {r : Result ℕ Refusal} → Recorded u m m' r
    → WordToRecord u m m' (reply_of r)
word_to_record_lem {u} {m} {m'} {r} h =
    let first = demand1.word_to_record_lem u m m' r h in
    record {
      refuses = first.0;
      unaltered = first.1;
      gives = λ n e. let w = demand2.is_word u m m' r n h e in (w.0, w.1, call_keeps_map h e w.1);
    }

check_record_lem : {s : List ℕ} {r : Result ⊤ Refusal} → Checked s r → CheckRecord s (verdict_of r)
check_record_lem {s} {r} h =
    record { refuses = demand1.check_record_lem s r h; accepts = demand1.accepted_record s r h }

record_to_tree_pair_lem : {s p q p' q' : List ℕ} {r : Result ℕ Refusal} → Paired s p q p' q' r
    → RecordToTreePair s p q p' q' (reply_of r)
record_to_tree_pair_lem {s} {p} {q} {p'} {q'} {r} h =
    let first = demand1.record_to_tree_pair_lem s p q p' q' r h in
    record {
      refuses = first.0;
      unaltered = first.1;
      gives = λ n e. demand2.gives_pair s (record {
        lent_minus = p;
        lent_plus = q;
        left_minus = p';
        left_plus = q';
        answer = r;
        count = n;
        contract = h;
        taken = e;
      });
    }

record_to_length_lem : {s : List ℕ} {r : Result ℕ Refusal} → Measured form_length s r → RecordToLength s (reply_of r)
record_to_length_lem {s} {r} h = record {
  refuses = demand1.record_to_length_lem s r h;
  gives = λ n e. demand2.gives_length s (record { answer = r; count = n; contract = h; taken = e });
}

record_to_label_length_lem : {s : List ℕ} {r : Result ℕ Refusal} → Measured label_sum s r
    → RecordToLength s (reply_of r)
record_to_label_length_lem {s} {r} h = record {
  refuses = demand1.record_to_label_length_lem s r h;
  gives = λ n e. demand2.gives_label_length s (record { answer = r; count = n; contract = h; taken = e });
}

record_to_word_lem : {s t t' : List ℕ} {r : Result ℕ Refusal} → Spelled s t t' r → RecordToWord s t t' (reply_of r)
record_to_word_lem {s} {t} {t'} {r} h =
    let first = demand1.record_to_word_lem s t t' r h in
    record { refuses = first.0; unaltered = first.1; gives = demand2.gives_word s t t' r h }

text_to_record_lem : {t : List ℕ} {m m' : Memory} {r : Result ℕ Refusal} → TextRecorded t m m' r
    → TextToRecord t m m' (reply_of r)
text_to_record_lem {t} {m} {m'} {r} h =
    let first = demand1.text_to_record_lem t m m' r h in
    record {
      refuses = first.0;
      unaltered = first.1;
      gives = λ n e.
          let ps = demand2.is_text t m m' r n h e in (ps.0, ps.1, ps.2, text_keeps_map ps.0 h e ps.2);
    }

record_to_text_lem : {s t t' : List ℕ} {r : Result ℕ Refusal} → TextWritten s t t' r → RecordToText s t t' (reply_of r)
record_to_text_lem {s} {t} {t'} {r} h =
    let first = demand1.record_to_text_lem s t t' r h in
    record { refuses = first.0; unaltered = first.1; gives = λ n e. phrase_gives h e }

-- Where the two-word call answers, each memory is left as by the word's own call, which accepts.
verdict : {u v : List ℕ} {m m' k k' : Memory} {r : Result Comparison RefusedWord} → Compared u m m' v k k' r
    → Answered (decision_of r)
    → VerdictOfWords u m m' v k k' (decision_of r)
verdict {u} {v} {m} {m'} {k} {k'} {r} h a =
    let none = (demand1.same_element_lem u v m m' k k' r h).0.answered_just_when.0 a in
    let own = own_calls u v m m' k k' r h a in
    let one = (demand1.word_to_record_lem u m m' own.0.0 own.0.1).0.accepted_just_when.1 none.0 in
    let two = (demand1.word_to_record_lem v k k' own.1.0 own.1.1).0.accepted_just_when.1 none.1 in
    let w = demand2.is_word u m m' own.0.0 one.0 own.0.1 one.1 in
    let x = demand2.is_word v k k' own.1.0 two.0 own.1.1 two.1 in
    record {
      first = w.0;
      second = x.0;
      bytes = (w.1, x.1);
      first_left = (one.0, call_keeps_map own.0.1 one.1 w.1);
      second_left = (two.0, call_keeps_map own.1.1 two.1 x.1);
      decides =
          two_decided u v m m' k k' r h w.0 x.0
          (judged_accepted u m w.0 ((no_refusal↔none u m).1 none.0) w.1)
          (judged_accepted v k x.0 ((no_refusal↔none v k).1 none.1) x.1);
    }

same_element_lem : {u v : List ℕ} {m m' k k' : Memory} {r : Result Comparison RefusedWord} → Compared u m m' v k k' r
    → TwoWords u m m' v k k' (decision_of r)
same_element_lem {u} {v} {m} {m'} {k} {k'} {r} h =
    let first = demand1.same_element_lem u v m m' k k' r h in
    record { refuses = first.0; unaltered = first.1; gives = verdict h }

pub demanded : Demanded
demanded = record {
  word_to_record_lem = always_below calls.word_to_record_lem (λ κs u u' b b' a a' e e' r. word_to_record_lem);
  check_record_lem = always_below calls.check_record_lem (λ κs s s' r. check_record_lem);
  record_to_tree_pair_lem = always_below calls.record_to_tree_pair_lem (λ κs s s' p p' q q' r. record_to_tree_pair_lem);
  record_to_length_lem = always_below calls.record_to_length_lem (λ κs s s' r. record_to_length_lem);
  record_to_label_length_lem = always_below calls.record_to_label_length_lem (λ κs s s' r. record_to_label_length_lem);
  record_to_word_lem = always_below calls.record_to_word_lem (λ κs s s' t t' r. record_to_word_lem);
  same_element_lem =
      always_below calls.same_element_lem (λ κs u u' b b' a a' e e' v v' c c' d d' g g' r. same_element_lem);
  text_to_record_lem = always_below calls.text_to_record_lem (λ κs t t' b b' a a' e e' r. text_to_record_lem);
  record_to_text_lem = always_below calls.record_to_text_lem (λ κs s s' t t' r. record_to_text_lem);
}

-- What holds of what a call answers holds of what is read in the numbers of its export.
pub demanded_of_exports : {L : Library} → Exports L → DemandedOfExports L
demanded_of_exports exports = record {
  word_to_record_lem = always_below exports.word_to_record_lem (λ κs u u' b b' a a' e e' r h.
      let m = memory b.now a.now e.now in
      let m' = memory b'.now a'.now e'.now in
      let x = exports_answer_as_calls.word_to_record_lem u.now m m' r h in
      subst (λ (o : Outcome ℕ). WordToRecord u.now m m' o) (sym x.2) (word_to_record_lem x.1));
  check_record_lem = always_below exports.check_record_lem (λ κs s s' r h.
      let x = exports_answer_as_calls.check_record_lem s.now r h in
      subst (λ (o : Outcome ℕ). CheckRecord s.now o) (sym x.2) (check_record_lem x.1));
  record_to_tree_pair_lem = always_below exports.record_to_tree_pair_lem (λ κs s s' p p' q q' r h.
      let x = exports_answer_as_calls.record_to_tree_pair_lem s.now p.now q.now p'.now q'.now r h in
      subst (λ (o : Outcome ℕ). RecordToTreePair s.now p.now q.now p'.now q'.now o) (sym x.2)
      (record_to_tree_pair_lem x.1));
  record_to_length_lem = always_below exports.record_to_length_lem (λ κs s s' r h.
      let x = exports_answer_as_calls.record_to_length_lem s.now r h in
      subst (λ (o : Outcome ℕ). RecordToLength s.now o) (sym x.2) (record_to_length_lem x.1));
  record_to_label_length_lem = always_below exports.record_to_label_length_lem (λ κs s s' r h.
      let x = exports_answer_as_calls.record_to_label_length_lem s.now r h in
      subst (λ (o : Outcome ℕ). RecordToLength s.now o) (sym x.2) (record_to_label_length_lem x.1));
  record_to_word_lem = always_below exports.record_to_word_lem (λ κs s s' t t' r h.
      let x = exports_answer_as_calls.record_to_word_lem s.now t.now t'.now r h in
      subst (λ (o : Outcome ℕ). RecordToWord s.now t.now t'.now o) (sym x.2) (record_to_word_lem x.1));
  same_element_lem = always_below exports.same_element_lem (λ κs u u' b b' a a' e e' v v' c c' d d' g g' r h.
      let m = memory b.now a.now e.now in
      let m' = memory b'.now a'.now e'.now in
      let k = memory c.now d.now g.now in
      let k' = memory c'.now d'.now g'.now in
      let x = exports_answer_as_calls.same_element_lem u.now v.now m m' k k' r h in
      (subst (λ (o : Decision). TwoWords u.now m m' v.now k k' o) (sym x.2) (same_element_lem x.1), x.3));
  text_to_record_lem = always_below exports.text_to_record_lem (λ κs t t' b b' a a' e e' r h.
      let m = memory b.now a.now e.now in
      let m' = memory b'.now a'.now e'.now in
      let x = exports_answer_as_calls.text_to_record_lem t.now m m' r h in
      subst (λ (o : Outcome ℕ). TextToRecord t.now m m' o) (sym x.2) (text_to_record_lem x.1));
  record_to_text_lem = always_below exports.record_to_text_lem (λ κs s s' t t' r h.
      let x = exports_answer_as_calls.record_to_text_lem s.now t.now t'.now r h in
      subst (λ (o : Outcome ℕ). RecordToText s.now t.now t'.now o) (sym x.2) (record_to_text_lem x.1));
}

-- The record of a word is what an accepted call on it writes.
writes_record : {u : List ℕ} {m m' : Memory} {r : Result ℕ Refusal} (w : Word) (n : ℕ) → Recorded u m m' r
    → u ≡ bytes_of w → reply_of r ≡ accepted n → (length w ≤ limit) × (take n m'.buffer ≡ encode_word w)
writes_record {u} {m} w n h b e =
    let call = call_front {w = w} h e b in
    (judged_within u m w call.judged_so, call.front)

-- The word that is written for a record has that record.
spells_record : {s t t' : List ℕ} {r : Result ℕ Refusal} (n : ℕ) → Spelled s t t' r → reply_of r ≡ accepted n
    → (x : Word) × (take n t' ≡ bytes_of x) × (length x ≤ limit) × (encode_word x ≡ s)
spells_record n h e =
    let f = spelled_as h e in
    let front = front_spelled f.1 in
    (spelling f.0, front, f.1.low, spelling_again (spelling f.0) h.are_bytes f.1 front)

-- A word whose reduced form is within the limits.
fits_within : (w : Word) → Fits w → Within (form_of w)
fits_within w h = subst Within (the_form w h.form h.reduced h.trimmed h.same_map) h.within

within_fits : (w : Word) → Within (form_of w) → Fits w
within_fits w h = record {
  form = form_of w;
  reduced = form_reduced w;
  trimmed = form_trimmed w;
  same_map = form_map w;
  within = h;
}

-- The record of a text is what an accepted call on it writes.
writes_text : {t : List ℕ} {m m' : Memory} {r : Result ℕ Refusal} (ps : List SignedPower) (n : ℕ)
    → TextRecorded t m m' r
    → t ≡ text_of ps → reply_of r ≡ accepted n
    → Fits (product_letters ps) × (take n m'.buffer ≡ encode_word (product_letters ps))
writes_text ps n h b e =
    let call = text_listed ps h e b in (within_fits (product_letters ps) call.within, call.is)

-- The text that is written for a record has that record.
phrases_record : {s t t' : List ℕ} {r : Result ℕ Refusal} (n : ℕ) → TextWritten s t t' r → reply_of r ≡ accepted n
    → (ps : List SignedPower) × (take n t' ≡ text_of ps) × Fits (product_letters ps)
    × (encode_word (product_letters ps) ≡ s)
phrases_record {s} n h e =
    let f = phrased_as h e in
    let again = phrase_form h.are_bytes f.1 in
    (form_powers f.0, f.1.front, within_fits (product_letters (form_powers f.0)) again.within, sym again.is)

pub one_record : {L : Library} → Exports L → OneRecord L
one_record exports = record {
  record_of = encode_word;
  equal_just_when_joined = λ w x h k.
      listed↔joined w x (record { is = refl; within = fits_within w h })
      (record { is = refl; within = fits_within x k });
  short_fits = λ w few. within_fits w (form_within w few);
  written = always_below calls.word_to_record_lem (λ κs u u' b b' a a' e e' r h w n. writes_record w n h);
  exported = always_below exports.word_to_record_lem (λ κs u u' b b' a a' e e' r h w n is q.
      let m = memory b.now a.now e.now in
      let m' = memory b'.now a'.now e'.now in
      let x = exports_answer_as_calls.word_to_record_lem u.now m m' r h in
      writes_record w n x.1 is (sym x.2 ∙ q));
  spelled = always_below calls.record_to_word_lem (λ κs s s' t t' r h n. spells_record n h);
  spelled_exported = always_below exports.record_to_word_lem (λ κs s s' t t' r h n e.
      let x = exports_answer_as_calls.record_to_word_lem s.now t.now t'.now r h in
      spells_record n x.1 (sym x.2 ∙ e));
  written_text = always_below calls.text_to_record_lem (λ κs t t' b b' a a' e e' r h ps n. writes_text ps n h);
  exported_text = always_below exports.text_to_record_lem (λ κs t t' b b' a a' e e' r h ps n is q.
      let m = memory b.now a.now e.now in
      let m' = memory b'.now a'.now e'.now in
      let x = exports_answer_as_calls.text_to_record_lem t.now m m' r h in
      writes_text ps n x.1 is (sym x.2 ∙ q));
  phrased = always_below calls.record_to_text_lem (λ κs s s' t t' r h n. phrases_record n h);
  phrased_exported = always_below exports.record_to_text_lem (λ κs s s' t t' r h n e.
      let x = exports_answer_as_calls.record_to_text_lem s.now t.now t'.now r h in
      phrases_record n x.1 (sym x.2 ∙ e));
}
