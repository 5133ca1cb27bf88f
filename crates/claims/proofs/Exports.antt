-- The claims of specs/Exports.antt, proved: the numbers of an answer are read back as what it says. Assumes nothing.
use mathlib.Core.Path.{ap, ◌∙◌}
use Rattle.thompson.specs.Codes.{outcome_of}
use Rattle.thompson.proofs.Codes.{verdict_read, reply_read, node_end_read, live_read, comparison_exact, entered_exact}
use Rattle.claims.specs.Exports.{ExportsAnswerAsCalls}

pub exports_answer_as_calls : ExportsAnswerAsCalls
exports_answer_as_calls = record {
  word_to_record_lem = λ u m m' a h. (h.passed, h.meets, ap outcome_of h.numbers ∙ reply_read h.passed);
  list_to_records_lem = λ list m m' a h. (h.passed, h.meets, ap outcome_of h.numbers ∙ reply_read h.passed);
  check_record_lem = λ s a h. (h.passed, h.meets, ap outcome_of h.numbers ∙ verdict_read h.passed);
  record_to_tree_pair_lem =
      λ s p q p' q' a h. (h.passed, h.meets, ap outcome_of h.numbers ∙ reply_read h.passed);
  record_to_length_lem = λ s a h. (h.passed, h.meets, ap outcome_of h.numbers ∙ reply_read h.passed);
  record_to_label_length_lem = λ s a h. (h.passed, h.meets, ap outcome_of h.numbers ∙ reply_read h.passed);
  record_to_word_lem = λ s t t' a h. (h.passed, h.meets, ap outcome_of h.numbers ∙ reply_read h.passed);
  same_element_lem =
      λ u v m m' k k' a h.
      let exact = comparison_exact h.passed h.numbers in (h.passed, h.meets, exact.0, exact.1);
  text_to_record_lem = λ t m m' a h. (h.passed, h.meets, ap outcome_of h.numbers ∙ reply_read h.passed);
  record_to_text_lem = λ s t t' a h. (h.passed, h.meets, ap outcome_of h.numbers ∙ reply_read h.passed);
  enter_word_lem = λ u m m' h s s' a p.
      let exact = entered_exact p.passed p.numbers in (p.passed, p.meets, exact.0, exact.1);
  check_register_lem = λ s a h. (h.passed, h.meets, ap outcome_of h.numbers ∙ verdict_read h.passed);
  live-entries = λ s h a p. (p.passed, p.meets, ap outcome_of p.numbers ∙ live_read p.passed);
  pack_shape_lem = λ s xs ys xs' ys' a h. (h.passed, h.meets, ap outcome_of h.numbers ∙ reply_read h.passed);
  unpack_shape_lem = λ xs ys s s' a h. (h.passed, h.meets, ap outcome_of h.numbers ∙ reply_read h.passed);
  carets_before_lem = λ xs ys k a h. (h.passed, h.meets, ap outcome_of h.numbers ∙ reply_read h.passed);
  subtree_end_lem = λ xs ys k a h. (h.passed, h.meets, ap outcome_of h.numbers ∙ node_end_read h.passed);
  grow_caret_lem = λ xs ys xs' ys' k a h. (h.passed, h.meets, ap outcome_of h.numbers ∙ reply_read h.passed);
}
