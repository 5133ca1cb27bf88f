-- The calls of `enter_word`, by the cases of a filing: what they refuse, what they answer, what they leave.
-- Assumes nothing.
use mathlib.Core.Path.{◌≡◌, refl, sym, ap, subst, ◌∙◌}
use mathlib.Core.List.{List}
use mathlib.Core.Logic.{inl}
use Prim.Native.Nat.{ℕ, suc, ◌+◌, ◌<◌, ◌≤◌}
use native.Mathlib.Omega.{arith}
use lib.ListN.{length}
use Rattle.std.specs.Prelude.{Ok, Result}
use Rattle.group.specs.Letters.{Word}
use Rattle.group.specs.Bytes.{bytes_of}
use Rattle.refusals.specs.declared.Refusal.{Refusal}
use Rattle.refusals.specs.Outcomes.{Outcome, accepted, refused, valued}
use Rattle.refusals.specs.Memory.{Memory}
use Rattle.refusals.proofs.Outcomes.{accepted_same, accepted_refused}
use Rattle.fields.specs.Fields.{head_size}
use Rattle.records.specs.Format.{encode}
use Rattle.words.specs.Recording.{judged_with, encode_word, count_record, Left, Recorded}
use Rattle.words.specs.Recording.{beside}
use Rattle.registers.specs.Format.{Register, entry_base, register_bytes, live_most}
use Rattle.registers.specs.Reading.{live}
use Rattle.registers.specs.WellFormed.{WellFormed}
use Rattle.registers.proofs.WellFormed.{holds_well_formed, reads_well_formed}
use Rattle.registers.proofs.Written.{register_written}
use Rattle.updates.specs.Accounts.{account_in}
use Rattle.updates.specs.Entering.{new_entry, present, reply_number, stored_form, with_entry, Found, grown, kept}
use Rattle.updates.specs.Entering.{entered_in, register_after, Answer, answer_of, entered_of}
use Rattle.updates.specs.Entering.{number_of_entered, EnteredWord}
use Rattle.updates.specs.declared.Entered.{Entered}
use Rattle.updates.proofs.StoredForms.{stored_read}
use Rattle.updates.proofs.Following.{grown-holds}
use Rattle.updates.proofs.Fitting.{grown-length}
use Rattle.updates.proofs.Charging.{charges_new, charges_present}
use Rattle.claims.specs.Answers.{Refuses, IsRefused}
use Rattle.claims.specs.Refusals.{NoWordRefusal}
use Rattle.claims.specs.Given.{RecordOfWord}
use Rattle.claims.specs.Registers.{Unfiled, HasFour, NoRoom, EnterRefusal, is_present, is_new_value, EnteredAs}
use Rattle.claims.specs.Registers.{EntersWords, OnlyNew, OnlyNewBytes, StoredSmaller, StoredIsSmaller}
use Rattle.claims.specs.Registers.{Charged, Charges}
use Rattle.claims.proofs.Answers.{is_refused_lem, refuses_when}
use Rattle.claims.proofs.Refusals.{judged_accepted}
use Rattle.claims.proofs.WordCalls.{left_refused, judged_within, call_front, call_keeps_map}
use Rattle.claims.proofs.Filed.{none↔unfiled}
use Rattle.claims.proofs.NewEntries.{only_new_there}
use Rattle.claims.proofs.StoredRecords.{stored-smaller}
use Rattle.claims.proofs.Filings.{Filing, is_refused, is_found, is_added, judge_filing, entered↔refusal}

-- Replies that differ.
present_new : {k n : ℕ} → present k ≡ new_entry n → ⊥
present_new h = let z : ◌≡◌ {A = ℕ} 0 1 = cc in omega arith

new_number : {k n : ℕ} → new_entry k ≡ new_entry n → k ≡ n
new_number h = cc

-- A register with room.
fewer : (h : ℕ) (q : Register) → (HasFour h q → ⊥) → live h q.entries < live_most
fewer h q n = omega (arith, n)

fits : (s : List ℕ) (q : Register) (w : Word) → (NoRoom s q w → ⊥)
    → length (register_bytes q) + (head_size + entry_base + length (encode (stored_form w))) ≤ length s
fits s q w n = at_most (λ a. n (inl a))
  where
    at_most : (length s < length (register_bytes q) + (head_size + entry_base + length (encode (stored_form w))) → ⊥)
        → length (register_bytes q) + (head_size + entry_base + length (encode (stored_form w))) ≤ length s
    at_most a = omega (arith, a)

-- A call.
module _ (u : List ℕ) (m m' : Memory) (h : ℕ) (s s' : List ℕ) (r : Result Entered Refusal)
    (c : EnteredWord u m m' h s s' r) where
  abbrev outcome : Outcome Found
  outcome = entered_in u m s h

  answers : (o : Outcome Found) → outcome ≡ o → entered_of r ≡ answer_of h o
  answers o e = c.result ∙ ap (answer_of h) e

  leaves : (o : Outcome Found) → outcome ≡ o → s' ≡ register_after o s
  leaves o e = c.register ∙ ap (λ (x : Outcome Found). register_after x s) e

  numbered : number_of_entered r ≡ valued (λ x. reply_number x.answer) outcome
  numbered = ap (valued (λ x. reply_number x.reply)) c.result ∙ go outcome
    where
      go : (o : Outcome Found)
          → valued (λ x. reply_number x.reply) (answer_of h o) ≡ valued (λ x. reply_number x.answer) o
      go (accepted x) = refl
      go (refused n p) = refl

  -- What is refused, and that a refusal alters nothing.
  pub enter_refused : Refuses (number_of_entered r) (EnterRefusal u m h s)
      × (IsRefused (number_of_entered r) → (m' ≡ m) × (s' ≡ s))
  enter_refused = (
    refuses_when (λ x. reply_number x.answer) outcome numbered (EnterRefusal u m h s)
        (entered↔refusal u m h s c.are_bytes),
    (λ x.
        let o = is_refused_lem (λ x. reply_number x.answer) outcome numbered x in (
          left_refused o.0 o.1 (ap (beside (judged_with u m)) o.2) c.leaves,
          leaves (refused o.0 o.1) o.2,
        )),
  )

  -- An accepted call: its reply, and its account.
  module _ (x : Answer) (e : entered_of r ≡ accepted x) where
    answer_is : (y : Found) → outcome ≡ accepted y
        → x ≡ record { reply = y.answer; account = account_in h y.register }
    answer_is y f = accepted_same (sym e ∙ answers (accepted y) f)

    not_refused : (n p : ℕ) → outcome ≡ refused n p → ⊥
    not_refused n p f = accepted_refused (sym e ∙ answers (refused n p) f)

    -- Tables and record buffer are left as by word to record.
    word_call : (w : Word) (y : Found) → judged_with u m ≡ accepted w → outcome ≡ accepted y
        → Recorded u m m' (Ok (length (encode_word w)))
    word_call w y j f = record {
      result = sym (ap (λ (o : Outcome Word). count_record o) j);
      leaves = subst (λ (o : Outcome Word). Left o m m') (ap (beside (judged_with u m)) f) c.leaves;
    }

    memory_left : (w : Word) (y : Found) → u ≡ bytes_of w → judged_with u m ≡ accepted w → outcome ≡ accepted y
        → RecordOfWord m m' (length (encode_word w)) w
    memory_left w y b j f = call_keeps_map {w = w} (word_call w y j f) refl b

    -- The register with a new entry, in the buffer at exit.
    register_new : (w : Word) (q : Register) → judged_with u m ≡ accepted w → WellFormed s q → Unfiled q w
        → (HasFour h q → ⊥) → (NoRoom s q w → ⊥) → outcome ≡ accepted (grown (with_entry q h (stored_form w)))
        → WellFormed s' (with_entry q h (stored_form w))
    register_new w q j wf new few room f =
        let short = judged_within u m w j in
        subst (λ (z : List ℕ). WellFormed z (with_entry q h (stored_form w)))
        (sym (leaves (accepted (grown (with_entry q h (stored_form w)))) f))
        (holds_well_formed _ _ (grown-holds s q h (stored_form w)
        (register_written s q c.are_bytes ((reads_well_formed s q c.are_bytes).1 wf))
        ((none↔unfiled s q w wf short).1 new) (fewer h q few) (stored_read w short) c.two_bytes_is
        (omega (arith, fits s q w room, grown-length q h (stored_form w)))))

    entered_as : Filing u m h s → EnteredAs u m m' h s s' x.reply
    entered_as (is_refused n p z f) = absurd (not_refused n p f)
    entered_as (is_found w q k a j z f) = record {
      word = w;
      register = q;
      judged = a;
      replied =
          is_present k (ap (λ (y : Answer). y.reply) (answer_is (kept q k) f)) z (leaves (accepted (kept q k)) f);
      left = (length (encode_word w), memory_left w (kept q k) a.word j f);
    }
    entered_as (is_added w q a j new few room f) =
        let more : Register = with_entry q h (stored_form w) in
        let next : suc q.last ≡ q.last + 1 = omega arith in
        record {
          word = w;
          register = q;
          judged = a;
          replied =
              is_new_value (ap (λ (y : Answer). y.reply) (answer_is (grown more) f) ∙ ap new_entry next) new few room
              (register_new w q j a.register new few room f);
          left = (length (encode_word w), memory_left w (grown more) a.word j f);
        }

    -- The account, where the register q became p.
    charged_by : (q p : Register) (y : Found) → WellFormed s q → WellFormed s' p → y.register ≡ p
        → outcome ≡ accepted y → Charged h s s' x
    charged_by q p y wf wp is f =
        let so = answer_is y f in
        let reads = (reads_well_formed s q c.are_bytes).1 wf in
        let account = ap (λ (z : Answer). z.account) so in
        let reply = ap (λ (z : Answer). z.reply) so in
        record {
          before = q;
          after = p;
          before_is = wf;
          after_is = wp;
          account = account ∙ ap (account_in h) is;
          by_one = λ k n. account ∙ charges_new u m s h q y k reads f (sym reply ∙ n);
          by_nothing = λ k n. account ∙ charges_present u m s h q y k reads f (sym reply ∙ n);
        }

    charged_as : Filing u m h s → Charged h s s' x
    charged_as (is_refused n p z f) = absurd (not_refused n p f)
    charged_as (is_found w q k a j z f) =
        charged_by q q (kept q k) a.register
        (subst (λ (z : List ℕ). WellFormed z q) (sym (leaves (accepted (kept q k)) f)) a.register) refl f
    charged_as (is_added w q a j new few room f) =
        let more : Register = with_entry q h (stored_form w) in
        charged_by q more (grown more) a.register (register_new w q j a.register new few room f) refl f

    -- The bytes that a new entry changes.
    only_new_as : (k : ℕ) (w : Word) (q : Register) → x.reply ≡ new_entry k → u ≡ bytes_of w → WellFormed s q
        → Filing u m h s → OnlyNew s s' k h (length (register_bytes q)) (encode (stored_form w))
    only_new_as k w q n b wf (is_refused i p z f) = absurd (not_refused i p f)
    only_new_as k w q n b wf (is_found v p i a j z f) =
        absurd (present_new (sym (ap (λ (y : Answer). y.reply) (answer_is (kept p i) f)) ∙ n))
    only_new_as k w q n b wf (is_added v p a j new few room f) =
        let more : Register = with_entry p h (stored_form v) in
        let one : v ≡ w = accepted_same (sym j ∙ judged_accepted u m w a.accepts b) in
        let reads = (reads_well_formed s p c.are_bytes).1 a.register in
        let is : p ≡ q = accepted_same (sym reads ∙ (reads_well_formed s q c.are_bytes).1 wf) in
        let number = new_number (sym (ap (λ (y : Answer). y.reply) (answer_is (grown more) f)) ∙ n) in
        subst (λ (z : Word). OnlyNew s s' k h (length (register_bytes q)) (encode (stored_form z))) one
        (subst (λ (z : Register). OnlyNew s s' k h (length (register_bytes z)) (encode (stored_form v))) is
        (subst (λ (i : ℕ). OnlyNew s s' i h (length (register_bytes p)) (encode (stored_form v))) number
        (subst (λ (z : List ℕ). OnlyNew s z (suc p.last) h (length (register_bytes p)) (encode (stored_form v)))
        (sym (leaves (accepted (grown more)) f))
        (only_new_there s p h (stored_form v) (register_written s p c.are_bytes reads)
        (fits s p v room)))))

    -- The record that a new entry stores.
    stored_as : (k : ℕ) (w : Word) (q : Register) → u ≡ bytes_of w
        → OnlyNew s s' k h (length (register_bytes q)) (encode (stored_form w)) → Filing u m h s
        → StoredSmaller m m' s' (length (register_bytes q)) w
    stored_as k w q b o d = by d
      where
        at : (y : Found) → NoWordRefusal u m → outcome ≡ accepted y
            → StoredSmaller m m' s' (length (register_bytes q)) w
        at y a f =
            let j = judged_accepted u m w a b in
            stored-smaller m m' s s' k h (length (register_bytes q)) w (judged_within u m w j)
            (memory_left w y b j f) (call_front {w = w} (word_call w y j f) refl b).front o

        by : Filing u m h s → StoredSmaller m m' s' (length (register_bytes q)) w
        by (is_refused i p z f) = absurd (not_refused i p f)
        by (is_found v p i a j z f) = at (kept p i) a.accepts f
        by (is_added v p a j new few room f) = at (grown (with_entry p h (stored_form v))) a.accepts f

pub enters_words : EntersWords
enters_words u m m' h s s' r x c e = entered_as u m m' h s s' r c x e (judge_filing u m h s c.are_bytes)

pub account_charged : Charges
account_charged u m m' h s s' r x c e = charged_as u m m' h s s' r c x e (judge_filing u m h s c.are_bytes)

pub only_new_bytes : OnlyNewBytes
only_new_bytes u m m' h s s' r x k w q c e n b wf =
    only_new_as u m m' h s s' r c x e k w q n b wf (judge_filing u m h s c.are_bytes)

pub stored_is_smaller : StoredIsSmaller
stored_is_smaller u m m' h s s' r x k w q c e n b wf =
    let filing = judge_filing u m h s c.are_bytes in
    stored_as u m m' h s s' r c x e k w q b (only_new_as u m m' h s s' r c x e k w q n b wf filing) filing
