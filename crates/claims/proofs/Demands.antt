-- The demands of specs/Demands.antt, proved, call by call. Assumes nothing.
use mathlib.Core.Path.{◌≡◌, refl, sym, ap, ◌∙◌}
use mathlib.Core.List.{List}
use mathlib.Core.Logic.{◌↔◌}
use Prim.Native.Nat.{ℕ}
use lib.ListN.{length}
use Rattle.std.specs.Prelude.{⊤, Result}
use Rattle.refusals.specs.declared.Refusal.{Refusal}
use Rattle.group.specs.Letters.{Word}
use Rattle.group.specs.Bytes.{bytes_of}
use Rattle.group.specs.Chains.{Joined}
use Rattle.group.specs.Forms.{Form}
use Rattle.refusals.specs.Outcomes.{accepted, drop_value, reply_of, verdict_of}
use Rattle.refusals.proofs.Outcomes.{valued_accepted}
use Rattle.refusals.specs.Memory.{Memory}
use Rattle.records.specs.Format.{IsRecord}
use Rattle.records.specs.Reading.{decode}
use Rattle.records.specs.Checking.{Checked}
use Rattle.geodesics.proofs.LabelSums.{form_labels}
use Rattle.words.specs.Recording.{encode_word, judged_with, Recorded}
use Rattle.comparisons.specs.Comparing.{decision_of}
use Rattle.registers.specs.Reading.{read_register}
use Rattle.tokens.proofs.Texts.{text_injective}
use Rattle.thompson.specs.Codes.{read_outcome, outcome_of}
use Rattle.thompson.proofs.Codes.{reply_read}
use Rattle.claims.specs.Refusals.{WordRefusal, RecordRefusal}
use Rattle.claims.specs.Answers.{IsRefused, Refuses}
use Rattle.claims.specs.Registers.{RegisterRefusal}
use Rattle.claims.specs.Calls.{CallOn, by_word, by_text, record_by, MemoryCall, SpellingCall, spelled_by, TwoWordCall}
use Rattle.claims.specs.Calls.{ExportedMemoryCall, ExportedCall, exported_word, exported_text, exported_record}
use Rattle.claims.specs.Given.{Decides}
use Rattle.claims.specs.Demands.{Demand1, Demand2, Demand3}
use Rattle.claims.proofs.Answers.{is_refused_lem, refuses_when}
use Rattle.claims.proofs.Records.{records_are_accepted}
use Rattle.claims.proofs.Refusals.{judged↔refusal, no_refusal↔none, judged_accepted, decoded↔refusal}
use Rattle.claims.proofs.Written.{Listed, listed↔joined, listed_form}
use Rattle.claims.proofs.WordCalls.{left_refused, call_of, call_keeps_map}
use Rattle.claims.proofs.TwoWordCalls.{two_refused, own_calls, two_decided}
use Rattle.claims.proofs.PairCalls.{pair_refused, pair_gives, length_refused, length_gives}
use Rattle.claims.proofs.SpellingCalls.{spelling_refused, spelled_as, word_of_record}
use Rattle.claims.proofs.SpellingCalls.{joined_spelling, spelling_sent, spelling_again}
use Rattle.claims.proofs.TextRefusals.{no_text_refusal↔none}
use Rattle.claims.proofs.TextCalls.{text_refused, text_call, text_keeps_map, call_listed}
use Rattle.claims.proofs.PhraseCalls.{phrase_refused, phrased_as, phrase_gives, phrase_sent, phrase_again}
use Rattle.claims.proofs.RegisterRefusals.{read↔refusal}
use Rattle.claims.proofs.EnterCalls.{enter_refused}
use Rattle.claims.proofs.ListRefusals.{list_refused}
use Rattle.claims.proofs.PackedRefusals.{pack_refused, unpack_refused, node_refused, grow_refused}

-- Word to record refuses as the word is judged, and then leaves everything.
word_refused : {u : List ℕ} {m m' : Memory} {r : Result ℕ Refusal} → Recorded u m m' r
    → Refuses (reply_of r) (WordRefusal u m) × (IsRefused (reply_of r) → m' ≡ m)
word_refused {u} {m} h = (
  refuses_when (λ w. length (encode_word w)) (judged_with u m) h.result (WordRefusal u m) (judged↔refusal u m),
  (λ x.
      let o = is_refused_lem (λ w. length (encode_word w)) (judged_with u m) h.result x in
      left_refused o.0 o.1 o.2 h.leaves),
)

-- The check refuses as the record is refused.
check_refused : {s : List ℕ} {r : Result ⊤ Refusal} → Checked s r → Refuses (verdict_of r) (RecordRefusal s)
check_refused {s} h =
    refuses_when (λ f. 0) (decode s) h.result (RecordRefusal s) (decoded↔refusal s h.are_bytes)

-- It accepts the records of forms and nothing else.
check_accepts : {s : List ℕ} {r : Result ⊤ Refusal} → Checked s r
    → (verdict_of r ≡ accepted 0) ↔ ((f : Form) × IsRecord s f)
check_accepts {s} h =
    let accepts = (check_refused h).accepted_just_when in
    let records = records_are_accepted s h.are_bytes in (
      (λ e. records.0 (accepts.0 (0, e))),
      λ f.
          let a = accepts.1 (records.1 f) in
          let x = valued_accepted (λ g. 0) (decode s) a.0 (sym h.result ∙ a.1) in
          h.result ∙ ap (λ o. drop_value o) x.1,
    )

-- Two accepted words have equal records just when a chain joins them.
equal↔joined : (w x : Word) (f : CallOn w) (g : CallOn x) → (record_by f ≡ record_by g) ↔ Joined w x
equal↔joined w x f g = listed↔joined w x (call_listed w f) (call_listed x g)

-- An accepted call of an export is an accepted call of what it passes on to.
abbrev passed_on : {R : Memory → Memory → Result ℕ Refusal → Type 0} → ExportedMemoryCall R → MemoryCall R
passed_on f = record {
  lent = f.lent;
  left = f.left;
  answer = f.contract.passed;
  count = f.answer.value;
  contract = f.contract.meets;
  taken =
      sym (reply_read f.contract.passed)
      ∙ sym (ap outcome_of f.contract.numbers)
      ∙ ap (λ (n : ℕ). read_outcome n f.answer.value) f.taken;
}

exported_listed : (w : Word) (f : ExportedCall w) → Listed w (exported_record f)
exported_listed w (exported_word f) = call_listed w (by_word (passed_on f))
exported_listed w (exported_text ps e f) = call_listed w (by_text ps e (passed_on f))

-- A two-word call that answers has judged both words good.
decides_by : (w x : Word) (f : TwoWordCall (bytes_of w) (bytes_of x)) → Decides (decision_of f.answer) w x
decides_by w x f =
    let m = f.lent1 in
    let k = f.lent2 in
    let refused = (two_refused (bytes_of w) (bytes_of x) m f.left1 k f.left2 f.answer f.contract).0 in
    let none = refused.answered_just_when.0 f.taken in
    two_decided (bytes_of w) (bytes_of x) m f.left1 k f.left2 f.answer f.contract w x
    (judged_accepted (bytes_of w) m w ((no_refusal↔none (bytes_of w) m).1 none.0) refl)
    (judged_accepted (bytes_of x) k x ((no_refusal↔none (bytes_of x) k).1 none.1) refl)

-- The spelling of a word's record is joined to the word.
spelling_joins : (w x : Word) (f : CallOn w) (g : SpellingCall (record_by f)) → spelled_by g ≡ bytes_of x → Joined x w
spelling_joins w x f g =
    joined_spelling (spelled_as g.contract g.taken).1 (listed_form w (call_listed w f))

-- The record of the spelling is the record.
spelling_recorded : (s : List ℕ) (g : SpellingCall s) (x : Word) (f : CallOn x) → spelled_by g ≡ bytes_of x
    → record_by f ≡ s
spelling_recorded s g x f e =
    (call_listed x f).is ∙ spelling_again x g.contract.are_bytes (spelled_as g.contract g.taken).1 e

pub demand1 : Demand1
demand1 = record {
  word_to_record_lem = λ u m m' r. word_refused;
  check_record_lem = λ s r. check_refused;
  record_to_tree_pair_lem = λ s p q p' q' r. pair_refused;
  record_to_length_lem = λ s r. length_refused;
  record_to_label_length_lem = λ s r. length_refused;
  record_to_word_lem = λ s t t' r. spelling_refused;
  same_element_lem = two_refused;
  accepted_word = no_refusal↔none;
  accepted_record = λ s r. check_accepts;
  text_to_record_lem = λ t m m' r. text_refused;
  record_to_text_lem = λ s t t' r. phrase_refused;
  accepted_text = no_text_refusal↔none;
  check_register_lem = λ s r h.
      refuses_when (λ q. 0) (read_register s) h.result (RegisterRefusal s) (read↔refusal s h.are_bytes);
  enter_word_lem = enter_refused;
  list_to_records_lem = λ list m m' r. list_refused;
  pack_shape_lem = λ s xs ys xs' ys' r. pack_refused;
  unpack_shape_lem = λ xs ys s s' r. unpack_refused;
  carets_before_lem = λ xs ys k r. node_refused;
  subtree_end_lem = λ xs ys k r. node_refused;
  grow_caret_lem = λ xs ys xs' ys' k r. grow_refused;
}

pub demand2 : Demand2
demand2 = record {
  is_word = λ u m m' r n h e. let call = call_of h e in (call.word, call.bytes);
  keeps_map = λ w f. call_keeps_map f.contract f.taken refl;
  gives_pair = λ s f. pair_gives f.contract f.count f.taken;
  gives_length = λ s f. length_gives (λ g. refl) f.contract f.count f.taken;
  gives_label_length = λ s f. length_gives form_labels f.contract f.count f.taken;
  gives_word = λ s t t' r. word_of_record;
  joined = spelling_joins;
  accepted_again = λ s g m. spelling_sent m (spelled_as g.contract g.taken).1;
  record_again = spelling_recorded;
  leaves_both = λ u v f.
      own_calls u v f.lent1 f.left1 f.lent2 f.left2 f.answer f.contract f.taken;
  is_text = λ t m m' r n h e. let call = text_call h e in (call.0, call.1.in_range, call.1.text);
  one_list = text_injective;
  text_keeps_map = λ ps f. text_keeps_map ps f.contract f.taken refl;
  gives_text = λ s g. phrase_gives g.contract g.taken;
  text_accepted_again = λ s g m. phrase_sent m (phrased_as g.contract g.taken).1;
  text_record_again = λ s g f.
      phrase_again g.contract.are_bytes (phrased_as g.contract g.taken).1 f.contract f.taken;
}

pub demand3 : Demand3
demand3 = record {
  equal_just_when_joined = equal↔joined;
  exported_just_when_joined = λ w x f g. listed↔joined w x (exported_listed w f) (exported_listed x g);
  decides_by_chains = decides_by;
}
