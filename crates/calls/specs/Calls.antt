-- The contracts that the claims speak of are those of the functions: every call of a function, on any arguments, ends
-- with its relation. A field names the function, with its own code (Functions.antt), and the relation, so that with
-- another contract, or with a demand on its caller, the function has no proof here. `x.now` is what stands behind the
-- reference x: of a slice its elements. proofs/Calls.antt has the proofs, which are the functions' theorems.
--     Calls     the calls of document 01, of 02, [1] and [3] to [6], and of the receipt program
--     Exports   the calls for C and Rust, as the library L exports them: thompson in Claims.antt, and thompson_c, which
--               C links, in that crate's proofs/Exported.antt
-- Assumes nothing.
use Rattle.std.specs.Prelude.{◌≡◌}
use Rattle.refusals.specs.Outcomes.{verdict_of, reply_of}
use Rattle.refusals.specs.Memory.{memory}
use Rattle.refusals.specs.Placing.{Placed}
use Rattle.records.specs.Checking.{Checked}
use Rattle.words.specs.Recording.{Recorded}
use Rattle.comparisons.specs.Comparing.{Compared, decision_of}
use Rattle.wordlists.specs.Listing.{Listed}
use Rattle.trees.specs.Shapes.{subtree_end_value}
use Rattle.lengths.specs.Weights.{form_length}
use Rattle.pairs.specs.Promises.{Paired, label_sum, Measured}
use Rattle.spelling.specs.Promises.{Spelled}
use Rattle.notation.specs.Promises.{TextRecorded, TextWritten}
use Rattle.registers.specs.Finding.{found}
use Rattle.registers.specs.Answers.{RegisterChecked, Summarised, search_of, heading_at}
use Rattle.updates.specs.Accounts.{AccountRead}
use Rattle.updates.specs.Entering.{replied_of, EnteredWord}
use Rattle.packed.specs.Packing.{carets_before_value}
use Rattle.packed.specs.Answers.{node_end_of}
use Rattle.packed.specs.Promises.{packing, unpacking, growing, Repacked, AnswersNode}
use Rattle.receipts.specs.Promises.{Begun, ServedPart, Finished}
use Rattle.thompson.specs.Codes.{code_of, code_of_decision, code_of_reply, live_of, Passed}
use Rattle.calls.specs.Always.{Always}
use Rattle.calls.specs.Functions.{word_to_record, list_to_records, check_record, record_to_tree_pair, record_to_length}
use Rattle.calls.specs.Functions.{record_to_label_length, record_to_word, same_element, text_to_record, record_to_text}
use Rattle.calls.specs.Functions.{check_register, summary, find, entry_at, enter_word, account_of, pack_shape}
use Rattle.calls.specs.Functions.{unpack_shape, carets_before, subtree_end, grow_caret, begin, serve, finish, Library}
use Rattle.calls.specs.Functions.{export}

-- The calls of the papers and of the receipt program.
pub record Calls : Type 2 where
  pub word_to_record_lem : Always word_to_record
      (λ κs u u' b b' a a' e e' r. Recorded u.now (memory b.now a.now e.now)
      (memory b'.now a'.now e'.now) r)
  pub list_to_records_lem : Always list_to_records
      (λ κs l l' b b' a a' e e' r. Listed l.now (memory b.now a.now e.now)
      (memory b'.now a'.now e'.now) r)
  pub check_record_lem : Always check_record (λ κs s s' r. Checked s.now r)
  pub record_to_tree_pair_lem : Always record_to_tree_pair
      (λ κs s s' p p' q q' r. Paired s.now p.now q.now p'.now q'.now r)
  pub record_to_length_lem : Always record_to_length
      (λ κs s s' r. Measured form_length s.now r)
  pub record_to_label_length_lem : Always record_to_label_length
      (λ κs s s' r. Measured label_sum s.now r)
  pub record_to_word_lem : Always record_to_word
      (λ κs s s' t t' r. Spelled s.now t.now t'.now r)
  pub same_element_lem : Always same_element
      (λ κs u u' b b' a a' e e' v v' c c' d d' g g' r. Compared
      u.now (memory b.now a.now e.now) (memory b'.now a'.now e'.now)
      v.now (memory c.now d.now g.now) (memory c'.now d'.now g'.now) r)
  pub text_to_record_lem : Always text_to_record
      (λ κs t t' b b' a a' e e' r. TextRecorded t.now (memory b.now a.now e.now)
      (memory b'.now a'.now e'.now) r)
  pub record_to_text_lem : Always record_to_text
      (λ κs s s' t t' r. TextWritten s.now t.now t'.now r)
  pub check_register_lem : Always check_register
      (λ κs s s' r. RegisterChecked s.now r)
  pub summary : Always summary (λ κs s s' h h' r. Summarised s.now h r)
  pub find : Always find (λ κs s s' b b' r. r ≡ search_of (found s.now b.now))
  pub entry_at : Always entry_at (λ κs s s' i i' r. r ≡ heading_at s.now i)
  pub enter_word_lem : Always enter_word
      (λ κs u u' b b' a a' e e' h h' s s' r. EnteredWord u.now (memory b.now a.now e.now)
      (memory b'.now a'.now e'.now) h s.now s'.now r)
  pub account_of_is : Always account_of
      (λ κs s s' h h' r. AccountRead s.now h r)
  pub pack_shape_lem : Always pack_shape
      (λ κs s s' x x' y y' r. Repacked (packing s.now x.now y.now) x.now y.now x'.now y'.now r)
  pub unpack_shape_lem : Always unpack_shape
      (λ κs x x' y y' s s' r. Placed (unpacking x.now y.now s.now) s.now s'.now r)
  pub carets_before_lem : Always carets_before
      (λ κs x x' y y' k k' r. AnswersNode (λ s. carets_before_value s k.0) x.now y.now k.0 (reply_of r))
  pub subtree_end_lem : Always subtree_end
      (λ κs x x' y y' k k' r. AnswersNode (λ s. subtree_end_value s k.0) x.now y.now k.0 (node_end_of r))
  pub grow_caret_lem : Always grow_caret
      (λ κs x x' y y' k k' r. Repacked (growing x.now y.now k.0) x.now y.now x'.now y'.now r)
  pub begin : Always begin (λ κs out out' r. Begun out.now out'.now r)
  pub serve : Always serve
      (λ κs part part' k k' held held' line line' out out' r. ServedPart part.now k held line.now out.now
      line'.now out'.now r)
  pub finish : Always finish
      (λ κs k k' held held' line line' out out' r. Finished k held line.now out.now out'.now r)

-- The exports of L: the numbers of an answer that meets the contract of the call.
pub record Exports (L : Library) : Type 2 where
  pub word_to_record_lem : Always (export L.word_to_record)
      (λ κs u u' b b' a a' e e' r. Passed (λ x. code_of (reply_of x))
      (Recorded u.now (memory b.now a.now e.now) (memory b'.now a'.now e'.now)) r)
  pub list_to_records_lem : Always (export L.list_to_records)
      (λ κs l l' b b' a a' e e' r. Passed (λ x. code_of (reply_of x))
      (Listed l.now (memory b.now a.now e.now) (memory b'.now a'.now e'.now)) r)
  pub check_record_lem : Always (export L.check_record)
      (λ κs s s' r. Passed (λ x. code_of (verdict_of x)) (Checked s.now) r)
  pub record_to_tree_pair_lem : Always (export L.record_to_tree_pair)
      (λ κs s s' p p' q q' r. Passed (λ x. code_of (reply_of x)) (Paired s.now p.now q.now p'.now q'.now) r)
  pub record_to_length_lem : Always (export L.record_to_length)
      (λ κs s s' r. Passed (λ x. code_of (reply_of x)) (Measured form_length s.now) r)
  pub record_to_label_length_lem : Always (export L.record_to_label_length)
      (λ κs s s' r. Passed (λ x. code_of (reply_of x)) (Measured label_sum s.now) r)
  pub record_to_word_lem : Always (export L.record_to_word)
      (λ κs s s' t t' r. Passed (λ x. code_of (reply_of x)) (Spelled s.now t.now t'.now) r)
  pub same_element_lem : Always (export L.same_element)
      (λ κs u u' b b' a a' e e' v v' c c' d d' g g' r. Passed (λ x. code_of_decision (decision_of x)) (Compared
      u.now (memory b.now a.now e.now) (memory b'.now a'.now e'.now)
      v.now (memory c.now d.now g.now) (memory c'.now d'.now g'.now)) r)
  pub text_to_record_lem : Always (export L.text_to_record)
      (λ κs t t' b b' a a' e e' r. Passed (λ x. code_of (reply_of x))
      (TextRecorded t.now (memory b.now a.now e.now) (memory b'.now a'.now e'.now)) r)
  pub record_to_text_lem : Always (export L.record_to_text)
      (λ κs s s' t t' r. Passed (λ x. code_of (reply_of x)) (TextWritten s.now t.now t'.now) r)
  pub enter_word_lem : Always (export L.enter_word)
      (λ κs u u' b b' a a' e e' h h' s s' r. Passed (λ x. code_of_reply (replied_of x)) (EnteredWord u.now
      (memory b.now a.now e.now) (memory b'.now a'.now e'.now) h s.now s'.now) r)
  pub check_register_lem : Always (export L.check_register)
      (λ κs s s' r. Passed (λ x. code_of (verdict_of x)) (RegisterChecked s.now) r)
  pub live_entries_lem : Always (export L.live_entries)
      (λ κs s s' h h' r. Passed (λ x. code_of (live_of x)) (AccountRead s.now h) r)
  pub pack_shape_lem : Always (export L.pack_shape)
      (λ κs s s' x x' y y' r. Passed (λ a. code_of (reply_of a))
      (Repacked (packing s.now x.now y.now) x.now y.now x'.now y'.now) r)
  pub unpack_shape_lem : Always (export L.unpack_shape)
      (λ κs x x' y y' s s' r. Passed (λ a. code_of (reply_of a))
      (Placed (unpacking x.now y.now s.now) s.now s'.now) r)
  pub carets_before_lem : Always (export L.carets_before)
      (λ κs x x' y y' k k' r. Passed (λ a. code_of (reply_of a))
      (λ a. AnswersNode (λ s. carets_before_value s k) x.now y.now k (reply_of a)) r)
  pub subtree_end_lem : Always (export L.subtree_end)
      (λ κs x x' y y' k k' r. Passed (λ a. code_of (node_end_of a))
      (λ a. AnswersNode (λ s. subtree_end_value s k) x.now y.now k (node_end_of a)) r)
  pub grow_caret_lem : Always (export L.grow_caret)
      (λ κs x x' y y' k k' r. Passed (λ a. code_of (reply_of a))
      (Repacked (growing x.now y.now k) x.now y.now x'.now y'.now) r)
