-- Every call of an export that C links, on any arguments, ends with the relation of its contract, which are the
-- functions' own theorems; so what the papers demand is met by the exports themselves. What is said stands in crate
-- calls, in specs/Exported.antt and in the files that it names, with one definition for the library thompson and for
-- this one. Assumes nothing.
use Rattle.calls.specs.Calls.{Exports}
use Rattle.calls.specs.Exported.{Exported}
use Rattle.calls.proofs.Exported.{exported_by}
use Rattle.thompson_c.proofs.Functions.{thompson_c}
use Rattle.thompson_c.proofs.thompson_word_to_record.Met as word_to_record
use Rattle.thompson_c.proofs.thompson_list_to_records.Met as list_to_records
use Rattle.thompson_c.proofs.thompson_check_record.Met as check_record
use Rattle.thompson_c.proofs.thompson_record_to_tree_pair.Met as record_to_tree_pair
use Rattle.thompson_c.proofs.thompson_record_to_length.Met as record_to_length
use Rattle.thompson_c.proofs.thompson_record_to_label_length.Met as record_to_label_length
use Rattle.thompson_c.proofs.thompson_record_to_word.Met as record_to_word
use Rattle.thompson_c.proofs.thompson_same_element.Met as same_element
use Rattle.thompson_c.proofs.thompson_text_to_record.Met as text_to_record
use Rattle.thompson_c.proofs.thompson_record_to_text.Met as record_to_text
use Rattle.thompson_c.proofs.thompson_enter_word.Met as enter_word
use Rattle.thompson_c.proofs.thompson_check_register.Met as check_register
use Rattle.thompson_c.proofs.thompson_live_entries.Met as live_entries
use Rattle.thompson_c.proofs.thompson_pack_shape.Met as pack_shape
use Rattle.thompson_c.proofs.thompson_unpack_shape.Met as unpack_shape
use Rattle.thompson_c.proofs.thompson_carets_before.Met as carets_before
use Rattle.thompson_c.proofs.thompson_subtree_end.Met as subtree_end
use Rattle.thompson_c.proofs.thompson_grow_caret.Met as grow_caret

pub exports : Exports thompson_c
exports = record {
  word_to_record_lem = record { meets = λ M. word_to_record.met };
  list_to_records_lem = record { meets = λ M. list_to_records.met };
  check_record_lem = record { meets = λ M. check_record.met };
  record_to_tree_pair_lem = record { meets = λ M. record_to_tree_pair.met };
  record_to_length_lem = record { meets = λ M. record_to_length.met };
  record_to_label_length_lem = record { meets = λ M. record_to_label_length.met };
  record_to_word_lem = record { meets = λ M. record_to_word.met };
  same_element_lem = record { meets = λ M. same_element.met };
  text_to_record_lem = record { meets = λ M. text_to_record.met };
  record_to_text_lem = record { meets = λ M. record_to_text.met };
  enter_word_lem = record { meets = λ M. enter_word.met };
  check_register_lem = record { meets = λ M. check_register.met };
  live_entries_lem = record { meets = λ M. live_entries.met };
  pack_shape_lem = record { meets = λ M. pack_shape.met };
  unpack_shape_lem = record { meets = λ M. unpack_shape.met };
  carets_before_lem = record { meets = λ M. carets_before.met };
  subtree_end_lem = record { meets = λ M. subtree_end.met };
  grow_caret_lem = record { meets = λ M. grow_caret.met };
}

pub exported : Exported thompson_c
exported = exported_by exports
