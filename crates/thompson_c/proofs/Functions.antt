-- The exports that C links, each by its contract, its code and its name, which Rattle made of its source; `thompson_c`
-- is all of them, each under the signature of the export of the library thompson that it passes on to. The code is with
-- that of all that is called, so also with the library's. Assumes nothing.
use Rattle.calls.specs.Always.{Function}
use Rattle.calls.specs.Functions.{Library, as_export}

abbrev pub thompson_word_to_record : Function
thompson_word_to_record = record {
  ended = Rattle.thompson_c.specs.contracts.thompson_word_to_record.ended;
  code = Rattle.thompson_c.proofs.thompson_word_to_record.Symbol.code;
  name = Rattle.thompson_c.proofs.thompson_word_to_record.Symbol.name;
}

abbrev pub thompson_list_to_records : Function
thompson_list_to_records = record {
  ended = Rattle.thompson_c.specs.contracts.thompson_list_to_records.ended;
  code = Rattle.thompson_c.proofs.thompson_list_to_records.Symbol.code;
  name = Rattle.thompson_c.proofs.thompson_list_to_records.Symbol.name;
}

abbrev pub thompson_check_record : Function
thompson_check_record = record {
  ended = Rattle.thompson_c.specs.contracts.thompson_check_record.ended;
  code = Rattle.thompson_c.proofs.thompson_check_record.Symbol.code;
  name = Rattle.thompson_c.proofs.thompson_check_record.Symbol.name;
}

abbrev pub thompson_record_to_tree_pair : Function
thompson_record_to_tree_pair = record {
  ended = Rattle.thompson_c.specs.contracts.thompson_record_to_tree_pair.ended;
  code = Rattle.thompson_c.proofs.thompson_record_to_tree_pair.Symbol.code;
  name = Rattle.thompson_c.proofs.thompson_record_to_tree_pair.Symbol.name;
}

abbrev pub thompson_record_to_length : Function
thompson_record_to_length = record {
  ended = Rattle.thompson_c.specs.contracts.thompson_record_to_length.ended;
  code = Rattle.thompson_c.proofs.thompson_record_to_length.Symbol.code;
  name = Rattle.thompson_c.proofs.thompson_record_to_length.Symbol.name;
}

abbrev pub thompson_record_to_label_length : Function
thompson_record_to_label_length = record {
  ended = Rattle.thompson_c.specs.contracts.thompson_record_to_label_length.ended;
  code = Rattle.thompson_c.proofs.thompson_record_to_label_length.Symbol.code;
  name = Rattle.thompson_c.proofs.thompson_record_to_label_length.Symbol.name;
}

abbrev pub thompson_record_to_word : Function
thompson_record_to_word = record {
  ended = Rattle.thompson_c.specs.contracts.thompson_record_to_word.ended;
  code = Rattle.thompson_c.proofs.thompson_record_to_word.Symbol.code;
  name = Rattle.thompson_c.proofs.thompson_record_to_word.Symbol.name;
}

abbrev pub thompson_same_element : Function
thompson_same_element = record {
  ended = Rattle.thompson_c.specs.contracts.thompson_same_element.ended;
  code = Rattle.thompson_c.proofs.thompson_same_element.Symbol.code;
  name = Rattle.thompson_c.proofs.thompson_same_element.Symbol.name;
}

abbrev pub thompson_text_to_record : Function
thompson_text_to_record = record {
  ended = Rattle.thompson_c.specs.contracts.thompson_text_to_record.ended;
  code = Rattle.thompson_c.proofs.thompson_text_to_record.Symbol.code;
  name = Rattle.thompson_c.proofs.thompson_text_to_record.Symbol.name;
}

abbrev pub thompson_record_to_text : Function
thompson_record_to_text = record {
  ended = Rattle.thompson_c.specs.contracts.thompson_record_to_text.ended;
  code = Rattle.thompson_c.proofs.thompson_record_to_text.Symbol.code;
  name = Rattle.thompson_c.proofs.thompson_record_to_text.Symbol.name;
}

abbrev pub thompson_enter_word : Function
thompson_enter_word = record {
  ended = Rattle.thompson_c.specs.contracts.thompson_enter_word.ended;
  code = Rattle.thompson_c.proofs.thompson_enter_word.Symbol.code;
  name = Rattle.thompson_c.proofs.thompson_enter_word.Symbol.name;
}

abbrev pub thompson_check_register : Function
thompson_check_register = record {
  ended = Rattle.thompson_c.specs.contracts.thompson_check_register.ended;
  code = Rattle.thompson_c.proofs.thompson_check_register.Symbol.code;
  name = Rattle.thompson_c.proofs.thompson_check_register.Symbol.name;
}

abbrev pub thompson_live_entries : Function
thompson_live_entries = record {
  ended = Rattle.thompson_c.specs.contracts.thompson_live_entries.ended;
  code = Rattle.thompson_c.proofs.thompson_live_entries.Symbol.code;
  name = Rattle.thompson_c.proofs.thompson_live_entries.Symbol.name;
}

abbrev pub thompson_pack_shape : Function
thompson_pack_shape = record {
  ended = Rattle.thompson_c.specs.contracts.thompson_pack_shape.ended;
  code = Rattle.thompson_c.proofs.thompson_pack_shape.Symbol.code;
  name = Rattle.thompson_c.proofs.thompson_pack_shape.Symbol.name;
}

abbrev pub thompson_unpack_shape : Function
thompson_unpack_shape = record {
  ended = Rattle.thompson_c.specs.contracts.thompson_unpack_shape.ended;
  code = Rattle.thompson_c.proofs.thompson_unpack_shape.Symbol.code;
  name = Rattle.thompson_c.proofs.thompson_unpack_shape.Symbol.name;
}

abbrev pub thompson_carets_before : Function
thompson_carets_before = record {
  ended = Rattle.thompson_c.specs.contracts.thompson_carets_before.ended;
  code = Rattle.thompson_c.proofs.thompson_carets_before.Symbol.code;
  name = Rattle.thompson_c.proofs.thompson_carets_before.Symbol.name;
}

abbrev pub thompson_subtree_end : Function
thompson_subtree_end = record {
  ended = Rattle.thompson_c.specs.contracts.thompson_subtree_end.ended;
  code = Rattle.thompson_c.proofs.thompson_subtree_end.Symbol.code;
  name = Rattle.thompson_c.proofs.thompson_subtree_end.Symbol.name;
}

abbrev pub thompson_grow_caret : Function
thompson_grow_caret = record {
  ended = Rattle.thompson_c.specs.contracts.thompson_grow_caret.ended;
  code = Rattle.thompson_c.proofs.thompson_grow_caret.Symbol.code;
  name = Rattle.thompson_c.proofs.thompson_grow_caret.Symbol.name;
}

abbrev pub thompson_c : Library
thompson_c = record {
  word_to_record = as_export thompson_word_to_record;
  list_to_records = as_export thompson_list_to_records;
  check_record = as_export thompson_check_record;
  record_to_tree_pair = as_export thompson_record_to_tree_pair;
  record_to_length = as_export thompson_record_to_length;
  record_to_label_length = as_export thompson_record_to_label_length;
  record_to_word = as_export thompson_record_to_word;
  same_element = as_export thompson_same_element;
  text_to_record = as_export thompson_text_to_record;
  record_to_text = as_export thompson_record_to_text;
  enter_word = as_export thompson_enter_word;
  check_register = as_export thompson_check_register;
  live_entries = as_export thompson_live_entries;
  pack_shape = as_export thompson_pack_shape;
  unpack_shape = as_export thompson_unpack_shape;
  carets_before = as_export thompson_carets_before;
  subtree_end = as_export thompson_subtree_end;
  grow_caret = as_export thompson_grow_caret;
}
