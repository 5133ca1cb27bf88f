-- The theorem of all claims: the proofs, each under the name of its claim. Assumes nothing.
use Rattle.calls.specs.Claims.{Claims}
use Rattle.calls.proofs.Demanded as Demanded
use Rattle.calls.proofs.DemandedOfLists as DemandedOfLists
use Rattle.calls.proofs.DemandedOfRegisters as DemandedOfRegisters
use Rattle.calls.proofs.DemandedOfShapes as DemandedOfShapes
use Rattle.calls.proofs.Calls as Calls
use Rattle.claims.proofs.Demands as Demands
use Rattle.claims.proofs.Exports as Exports
use Rattle.claims.proofs.Records as Records
use Rattle.claims.proofs.Forms as Forms
use Rattle.claims.proofs.Sentences as Sentences
use Rattle.claims.proofs.Trees as Trees
use Rattle.claims.proofs.Lengths as Lengths
use Rattle.claims.proofs.Spellings as Spellings
use Rattle.claims.proofs.Texts as Texts
use Rattle.claims.proofs.Lists as Lists
use Rattle.claims.proofs.Registers as Registers
use Rattle.claims.proofs.EnterCalls as EnterCalls
use Rattle.claims.proofs.PackedGiven as PackedGiven
use Rattle.claims.proofs.Packed as Packed
use Rattle.claims.proofs.Receipts as Receipts
use Rattle.commands.proofs.LineParts as LineParts
use Rattle.worked.proofs.Worked as Worked
use Rattle.worked.proofs.Shapes as Shapes

pub claims : Claims
claims = record {
  demanded = Demanded.demanded;
  demanded_of_exports = Demanded.demanded_of_exports Calls.exports;
  one_record = Demanded.one_record Calls.exports;
  demanded_of_lists = DemandedOfLists.demanded_of_lists Calls.exports;
  demanded_of_registers = DemandedOfRegisters.demanded_of_registers Calls.exports;
  demanded_of_shapes = DemandedOfShapes.demanded_of_shapes Calls.exports;
  calls = Calls.calls;
  exports = Calls.exports;
  demand1 = Demands.demand1;
  demand2 = Demands.demand2;
  demand3 = Demands.demand3;
  exports_answer_as_calls = Exports.exports_answer_as_calls;
  records_of_forms = Records.records_of_forms;
  records_are_read = Records.records_are_read;
  record_has_one_form = Records.record_has_one_form;
  records_are_accepted = Records.records_are_accepted;
  form_keeps_map = Forms.form_keeps_map;
  equal_forms_are_joined = Forms.equal_forms_are_joined;
  equal_forms_are_one_map = Forms.equal_forms_are_one_map;
  reduced_form_is_unique = Forms.reduced_form_is_unique;
  the_form_of_word = Forms.the_form_of_word;
  form_is_small = Forms.form_is_small;
  inverse_undoes = Sentences.inverse_undoes;
  ends_fixed = Sentences.ends_fixed;
  zeros_ignored = Sentences.zeros_ignored;
  generators_conjugate = Sentences.generators_conjugate;
  presentations_agree = Sentences.presentations_agree;
  joined_is_one_map = Sentences.joined_is_one_map;
  step_keeps_element = Sentences.step_keeps_element;
  step_can_be_taken = Sentences.step_can_be_taken;
  reduced_is_no_step = Sentences.reduced_is_no_step;
  steps_end = Sentences.steps_end;
  letters_at_ends = Sentences.letters_at_ends;
  behind_is_in_front = Sentences.behind_is_in_front;
  inverse_exchanges = Sentences.inverse_exchanges;
  only_identity_is_its_inverse = Sentences.only_identity_is_its_inverse;
  leaves-and-carets = Trees.leaves-and-carets;
  pair_of_form = Trees.pair_of_form;
  every_pair_is_form = Trees.every_pair_is_form;
  no_redundant_caret = Trees.no_redundant_caret;
  pair_is_map = Trees.pair_is_map;
  shapes_of_trees = Trees.shapes_of_trees;
  kinds_of_carets = Trees.kinds_of_carets;
  symmetric_weights = Trees.symmetric_weights;
  length_is_sum = Trees.length_is_sum;
  length_is_least = Lengths.length_is_least;
  letter_changes_by_one = Lengths.letter_changes_by_one;
  some_letter_lowers = Lengths.some_letter_lowers;
  zero_is_identity = Lengths.zero_is_identity;
  length_is_reached = Lengths.length_is_reached;
  no_shorter_word = Lengths.no_shorter_word;
  few_carets = Lengths.few_carets;
  labels_give_length = Lengths.labels_give_length;
  narrow_sum = Lengths.narrow_sum;
  one_reading = Lengths.one_reading;
  labels_of_carets = Lengths.labels_of_carets;
  table_one = Lengths.table_one;
  label_length_is_sum = Lengths.label_length_is_sum;
  second_engine = Lengths.second_engine;
  deleting_ends = Spellings.deleting_ends;
  forms_are_spelled = Spellings.forms_are_spelled;
  spelling_has_length = Spellings.spelling_has_length;
  decimals_are_numerals = Texts.decimals_are_numerals;
  texts_are_tokens = Texts.texts_are_tokens;
  texts_are_letters = Texts.texts_are_letters;
  list_is_calls = Lists.list_is_calls;
  some_calls = Lists.some_calls;
  last_word_fills = Lists.last_word_fills;
  list_records_joined = Lists.list_records_joined;
  registers_are_read = Registers.registers_are_read;
  enters_words = EnterCalls.enters_words;
  only_new_bytes = EnterCalls.only_new_bytes;
  stored_is_smaller = EnterCalls.stored_is_smaller;
  history = Registers.history;
  same_entry = Registers.same_entry;
  charges = Registers.charges;
  shapes_given = PackedGiven.shapes_given;
  pack_unpack = Packed.pack_unpack;
  packed_is_tree = Packed.packed_is_tree;
  grown_is_packed = Packed.grown_is_packed;
  both_by_shape = Packed.both_by_shape;
  lines_of_bytes = Receipts.lines_of_bytes;
  lines_in_parts = Receipts.lines_in_parts;
  serves_met_lines = Receipts.serves_met_lines;
  cut_keeps_receipt = Receipts.cut_keeps_receipt;
  receipts_of_input = Receipts.receipts_of_input;
  cut_keeps_item = LineParts.cut_keeps_item;
  cut_keeps_two_words = LineParts.cut_keeps_two_words;
  cut_keeps_record = LineParts.cut_keeps_record;
  hex_in_parts = LineParts.hex_in_parts;
  worked = Worked.worked;
  worked_forms = Worked.worked_forms;
  worked_registers = Worked.worked_registers;
  worked_verdicts = Worked.worked_verdicts;
  worked_shapes = Shapes.worked_shapes;
}
