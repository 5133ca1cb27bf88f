-- The exports for C and Rust answer as the calls that they pass on to: the two numbers of an answer say what an answer
-- that meets the call's contract says, so that the demands on the calls hold of the exports. proofs/Exports.antt has
-- the proof. What the claim speaks of, and where it is defined:
--     Passed code contract r   the contract of each export                                            thompson, Codes
--     outcome_of, decision_in  what a caller reads in the numbers: 0 and a value, or number and place thompson, Codes
--     reply_in, live_of        the same in the four numbers of a filing; the live count of an account thompson, Codes
--     code_of_decision, code_of_reply  the numbers of a decision, of a filing's reply                thompson, Codes
--     the contracts, and reply_of, verdict_of, decision_of, node_end_of       the glossary of Demands.antt
-- Assumes nothing.
use Rattle.std.specs.Prelude.{◌≡◌, List, ℕ, ⊤, Result}
use Rattle.refusals.specs.declared.Refusal.{Refusal}
use Rattle.refusals.specs.declared.NodeNumber.{NodeNumber}
use Rattle.updates.specs.declared.Account.{Account}
use Rattle.refusals.specs.Outcomes.{verdict_of, reply_of}
use Rattle.refusals.specs.Memory.{Memory}
use Rattle.refusals.specs.Placing.{Placed}
use Rattle.records.specs.Checking.{Checked}
use Rattle.trees.specs.Shapes.{subtree_end_value}
use Rattle.lengths.specs.Weights.{form_length}
use Rattle.pairs.specs.Promises.{Paired, label_sum, Measured}
use Rattle.spelling.specs.Promises.{Spelled}
use Rattle.notation.specs.Promises.{TextRecorded, TextWritten}
use Rattle.words.specs.Recording.{Recorded}
use Rattle.comparisons.specs.Comparing.{Compared, decision_of}
use Rattle.comparisons.specs.declared.Comparison.{Comparison}
use Rattle.comparisons.specs.declared.RefusedWord.{RefusedWord}
use Rattle.wordlists.specs.Listing.{Listed}
use Rattle.packed.specs.Packing.{carets_before_value}
use Rattle.packed.specs.Answers.{node_end_of}
use Rattle.packed.specs.Promises.{packing, unpacking, growing, Repacked, AnswersNode}
use Rattle.registers.specs.Answers.{RegisterChecked}
use Rattle.updates.specs.Accounts.{AccountRead}
use Rattle.updates.specs.Entering.{replied_of, EnteredWord}
use Rattle.updates.specs.declared.Entered.{Entered}
use Rattle.thompson.specs.Codes.{code_of, code_of_decision, outcome_of, decision_in, Passed}
use Rattle.thompson.specs.Codes.{code_of_reply, live_of, reply_in}
use Rattle.thompson.specs.declared.Answer.{Answer}
use Rattle.thompson.specs.declared.Filing.{Filing}

-- Each exported call answers as its call does. A decision and a filing's reply could be read in other numbers too;
-- those answered are just the numbers of what is read in them.
pub record ExportsAnswerAsCalls : Type 0 where
  pub word_to_record_lem : (u : List ℕ) (m m' : Memory) (a : Answer)
      → Passed (λ r. code_of (reply_of r)) (Recorded u m m') a
      → (r : Result ℕ Refusal) × Recorded u m m' r × (outcome_of a ≡ reply_of r)
  pub list_to_records_lem : (list : List ℕ) (m m' : Memory) (a : Answer)
      → Passed (λ r. code_of (reply_of r)) (Listed list m m') a
      → (r : Result ℕ Refusal) × Listed list m m' r × (outcome_of a ≡ reply_of r)
  pub check_record_lem : (s : List ℕ) (a : Answer) → Passed (λ r. code_of (verdict_of r)) (Checked s) a
      → (r : Result ⊤ Refusal) × Checked s r × (outcome_of a ≡ verdict_of r)
  pub record_to_tree_pair_lem : (s p q p' q' : List ℕ) (a : Answer)
      → Passed (λ r. code_of (reply_of r)) (Paired s p q p' q') a
      → (r : Result ℕ Refusal) × Paired s p q p' q' r × (outcome_of a ≡ reply_of r)
  pub record_to_length_lem : (s : List ℕ) (a : Answer) → Passed (λ r. code_of (reply_of r)) (Measured form_length s) a
      → (r : Result ℕ Refusal) × Measured form_length s r × (outcome_of a ≡ reply_of r)
  pub record_to_label_length_lem : (s : List ℕ) (a : Answer)
      → Passed (λ r. code_of (reply_of r)) (Measured label_sum s) a
      → (r : Result ℕ Refusal) × Measured label_sum s r × (outcome_of a ≡ reply_of r)
  pub record_to_word_lem : (s t t' : List ℕ) (a : Answer) → Passed (λ r. code_of (reply_of r)) (Spelled s t t') a
      → (r : Result ℕ Refusal) × Spelled s t t' r × (outcome_of a ≡ reply_of r)
  pub same_element_lem : (u v : List ℕ) (m m' k k' : Memory) (a : Answer)
      → Passed (λ r. code_of_decision (decision_of r)) (Compared u m m' v k k') a
      → (r : Result Comparison RefusedWord) × Compared u m m' v k k' r × (decision_in a ≡ decision_of r)
      × (a ≡ code_of_decision (decision_in a))
  pub text_to_record_lem : (t : List ℕ) (m m' : Memory) (a : Answer)
      → Passed (λ r. code_of (reply_of r)) (TextRecorded t m m') a
      → (r : Result ℕ Refusal) × TextRecorded t m m' r × (outcome_of a ≡ reply_of r)
  pub record_to_text_lem : (s t t' : List ℕ) (a : Answer) → Passed (λ r. code_of (reply_of r)) (TextWritten s t t') a
      → (r : Result ℕ Refusal) × TextWritten s t t' r × (outcome_of a ≡ reply_of r)
  pub enter_word_lem : (u : List ℕ) (m m' : Memory) (h : ℕ) (s s' : List ℕ) (a : Filing)
      → Passed (λ r. code_of_reply (replied_of r)) (EnteredWord u m m' h s s') a
      → (r : Result Entered Refusal) × EnteredWord u m m' h s s' r × (reply_in a ≡ replied_of r)
      × (a ≡ code_of_reply (reply_in a))
  pub check_register_lem : (s : List ℕ) (a : Answer) → Passed (λ r. code_of (verdict_of r)) (RegisterChecked s) a
      → (r : Result ⊤ Refusal) × RegisterChecked s r × (outcome_of a ≡ verdict_of r)
  pub live-entries : (s : List ℕ) (h : ℕ) (a : Answer) → Passed (λ r. code_of (live_of r)) (AccountRead s h) a
      → (r : Result Account Refusal) × AccountRead s h r × (outcome_of a ≡ live_of r)
  pub pack_shape_lem : (s xs ys xs' ys' : List ℕ) (a : Answer)
      → Passed (λ r. code_of (reply_of r)) (Repacked (packing s xs ys) xs ys xs' ys') a
      → (r : Result ℕ Refusal) × Repacked (packing s xs ys) xs ys xs' ys' r × (outcome_of a ≡ reply_of r)
  pub unpack_shape_lem : (xs ys s s' : List ℕ) (a : Answer)
      → Passed (λ r. code_of (reply_of r)) (Placed (unpacking xs ys s) s s') a
      → (r : Result ℕ Refusal) × Placed (unpacking xs ys s) s s' r × (outcome_of a ≡ reply_of r)
  pub carets_before_lem : (xs ys : List ℕ) (k : ℕ) (a : Answer)
      → Passed (λ r. code_of (reply_of r)) (λ r. AnswersNode (λ s. carets_before_value s k) xs ys k (reply_of r)) a
      → (r : Result ℕ Refusal) × AnswersNode (λ s. carets_before_value s k) xs ys k (reply_of r)
      × (outcome_of a ≡ reply_of r)
  pub subtree_end_lem : (xs ys : List ℕ) (k : ℕ) (a : Answer)
      → Passed (λ r. code_of (node_end_of r)) (λ r. AnswersNode (λ s. subtree_end_value s k) xs ys k (node_end_of r)) a
      → (r : Result NodeNumber Refusal) × AnswersNode (λ s. subtree_end_value s k) xs ys k (node_end_of r)
      × (outcome_of a ≡ node_end_of r)
  pub grow_caret_lem : (xs ys xs' ys' : List ℕ) (k : ℕ) (a : Answer)
      → Passed (λ r. code_of (reply_of r)) (Repacked (growing xs ys k) xs ys xs' ys') a
      → (r : Result ℕ Refusal) × Repacked (growing xs ys k) xs ys xs' ys' r × (outcome_of a ≡ reply_of r)
