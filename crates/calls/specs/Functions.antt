-- The functions that the claims speak of, each by its contract, its code and its name, which Rattle made of its source.
--     those of the papers and of the receipt program stand first, by their names
--     thompson_..    the exports: the calls of the library thompson for C and Rust
--     Export T       some function of the signature T, `export` as a function; `as_export` a function as an export
--     Library        the exports of a library: for each of those of thompson one of its signature
--     thompson       the library thompson itself; crate thompson_c, whose exports C links, has its own in proofs/
-- Assumes nothing.
use mir.Syntax.{Callee}
use prog.Wired.{Code}
use denote.Triple.Clauses.{Ended}
use Rattle.calls.specs.Always.{Function}

abbrev pub word_to_record : Function
word_to_record = record {
  ended = Rattle.words.specs.contracts.word_to_record.ended;
  code = Rattle.words.proofs.word_to_record.Symbol.code;
  name = Rattle.words.proofs.word_to_record.Symbol.name;
}

abbrev pub list_to_records : Function
list_to_records = record {
  ended = Rattle.wordlists.specs.contracts.list_to_records.ended;
  code = Rattle.wordlists.proofs.list_to_records.Symbol.code;
  name = Rattle.wordlists.proofs.list_to_records.Symbol.name;
}

abbrev pub check_record : Function
check_record = record {
  ended = Rattle.records.specs.contracts.check_record.ended;
  code = Rattle.records.proofs.check_record.Symbol.code;
  name = Rattle.records.proofs.check_record.Symbol.name;
}

abbrev pub record_to_tree_pair : Function
record_to_tree_pair = record {
  ended = Rattle.pairs.specs.contracts.record_to_tree_pair.ended;
  code = Rattle.pairs.proofs.record_to_tree_pair.Symbol.code;
  name = Rattle.pairs.proofs.record_to_tree_pair.Symbol.name;
}

abbrev pub record_to_length : Function
record_to_length = record {
  ended = Rattle.pairs.specs.contracts.record_to_length.ended;
  code = Rattle.pairs.proofs.record_to_length.Symbol.code;
  name = Rattle.pairs.proofs.record_to_length.Symbol.name;
}

abbrev pub record_to_label_length : Function
record_to_label_length = record {
  ended = Rattle.pairs.specs.contracts.record_to_label_length.ended;
  code = Rattle.pairs.proofs.record_to_label_length.Symbol.code;
  name = Rattle.pairs.proofs.record_to_label_length.Symbol.name;
}

abbrev pub record_to_word : Function
record_to_word = record {
  ended = Rattle.spelling.specs.contracts.record_to_word.ended;
  code = Rattle.spelling.proofs.record_to_word.Symbol.code;
  name = Rattle.spelling.proofs.record_to_word.Symbol.name;
}

abbrev pub same_element : Function
same_element = record {
  ended = Rattle.comparisons.specs.contracts.same_element.ended;
  code = Rattle.comparisons.proofs.same_element.Symbol.code;
  name = Rattle.comparisons.proofs.same_element.Symbol.name;
}

abbrev pub text_to_record : Function
text_to_record = record {
  ended = Rattle.notation.specs.contracts.text_to_record.ended;
  code = Rattle.notation.proofs.text_to_record.Symbol.code;
  name = Rattle.notation.proofs.text_to_record.Symbol.name;
}

abbrev pub record_to_text : Function
record_to_text = record {
  ended = Rattle.notation.specs.contracts.record_to_text.ended;
  code = Rattle.notation.proofs.record_to_text.Symbol.code;
  name = Rattle.notation.proofs.record_to_text.Symbol.name;
}

abbrev pub check_register : Function
check_register = record {
  ended = Rattle.registers.specs.contracts.check_register.ended;
  code = Rattle.registers.proofs.check_register.Symbol.code;
  name = Rattle.registers.proofs.check_register.Symbol.name;
}

abbrev pub summary : Function
summary = record {
  ended = Rattle.registers.specs.contracts.summary.ended;
  code = Rattle.registers.proofs.summary.Symbol.code;
  name = Rattle.registers.proofs.summary.Symbol.name;
}

abbrev pub find : Function
find = record {
  ended = Rattle.registers.specs.contracts.find.ended;
  code = Rattle.registers.proofs.find.Symbol.code;
  name = Rattle.registers.proofs.find.Symbol.name;
}

abbrev pub entry_at : Function
entry_at = record {
  ended = Rattle.registers.specs.contracts.entry_at.ended;
  code = Rattle.registers.proofs.entry_at.Symbol.code;
  name = Rattle.registers.proofs.entry_at.Symbol.name;
}

abbrev pub enter_word : Function
enter_word = record {
  ended = Rattle.updates.specs.contracts.enter_word.ended;
  code = Rattle.updates.proofs.enter_word.Symbol.code;
  name = Rattle.updates.proofs.enter_word.Symbol.name;
}

abbrev pub account_of : Function
account_of = record {
  ended = Rattle.updates.specs.contracts.account_of.ended;
  code = Rattle.updates.proofs.account_of.Symbol.code;
  name = Rattle.updates.proofs.account_of.Symbol.name;
}

abbrev pub pack_shape : Function
pack_shape = record {
  ended = Rattle.packed.specs.contracts.pack_shape.ended;
  code = Rattle.packed.proofs.pack_shape.Symbol.code;
  name = Rattle.packed.proofs.pack_shape.Symbol.name;
}

abbrev pub unpack_shape : Function
unpack_shape = record {
  ended = Rattle.packed.specs.contracts.unpack_shape.ended;
  code = Rattle.packed.proofs.unpack_shape.Symbol.code;
  name = Rattle.packed.proofs.unpack_shape.Symbol.name;
}

abbrev pub carets_before : Function
carets_before = record {
  ended = Rattle.packed.specs.contracts.carets_before.ended;
  code = Rattle.packed.proofs.carets_before.Symbol.code;
  name = Rattle.packed.proofs.carets_before.Symbol.name;
}

abbrev pub subtree_end : Function
subtree_end = record {
  ended = Rattle.packed.specs.contracts.subtree_end.ended;
  code = Rattle.packed.proofs.subtree_end.Symbol.code;
  name = Rattle.packed.proofs.subtree_end.Symbol.name;
}

abbrev pub grow_caret : Function
grow_caret = record {
  ended = Rattle.growing.specs.contracts.grow_caret.ended;
  code = Rattle.growing.proofs.grow_caret.Symbol.code;
  name = Rattle.growing.proofs.grow_caret.Symbol.name;
}

abbrev pub begin : Function
begin = record {
  ended = Rattle.receipts.specs.contracts.begin.ended;
  code = Rattle.receipts.proofs.begin.Symbol.code;
  name = Rattle.receipts.proofs.begin.Symbol.name;
}

abbrev pub serve : Function
serve = record {
  ended = Rattle.receipts.specs.contracts.serve.ended;
  code = Rattle.receipts.proofs.serve.Symbol.code;
  name = Rattle.receipts.proofs.serve.Symbol.name;
}

abbrev pub finish : Function
finish = record {
  ended = Rattle.receipts.specs.contracts.finish.ended;
  code = Rattle.receipts.proofs.finish.Symbol.code;
  name = Rattle.receipts.proofs.finish.Symbol.name;
}

-- The exports.
abbrev pub thompson_word_to_record : Function
thompson_word_to_record = record {
  ended = Rattle.thompson.specs.contracts.thompson_word_to_record.ended;
  code = Rattle.thompson.proofs.thompson_word_to_record.Symbol.code;
  name = Rattle.thompson.proofs.thompson_word_to_record.Symbol.name;
}

abbrev pub thompson_list_to_records : Function
thompson_list_to_records = record {
  ended = Rattle.thompson.specs.contracts.thompson_list_to_records.ended;
  code = Rattle.thompson.proofs.thompson_list_to_records.Symbol.code;
  name = Rattle.thompson.proofs.thompson_list_to_records.Symbol.name;
}

abbrev pub thompson_check_record : Function
thompson_check_record = record {
  ended = Rattle.thompson.specs.contracts.thompson_check_record.ended;
  code = Rattle.thompson.proofs.thompson_check_record.Symbol.code;
  name = Rattle.thompson.proofs.thompson_check_record.Symbol.name;
}

abbrev pub thompson_record_to_tree_pair : Function
thompson_record_to_tree_pair = record {
  ended = Rattle.thompson.specs.contracts.thompson_record_to_tree_pair.ended;
  code = Rattle.thompson.proofs.thompson_record_to_tree_pair.Symbol.code;
  name = Rattle.thompson.proofs.thompson_record_to_tree_pair.Symbol.name;
}

abbrev pub thompson_record_to_length : Function
thompson_record_to_length = record {
  ended = Rattle.thompson.specs.contracts.thompson_record_to_length.ended;
  code = Rattle.thompson.proofs.thompson_record_to_length.Symbol.code;
  name = Rattle.thompson.proofs.thompson_record_to_length.Symbol.name;
}

abbrev pub thompson_record_to_label_length : Function
thompson_record_to_label_length = record {
  ended = Rattle.thompson.specs.contracts.thompson_record_to_label_length.ended;
  code = Rattle.thompson.proofs.thompson_record_to_label_length.Symbol.code;
  name = Rattle.thompson.proofs.thompson_record_to_label_length.Symbol.name;
}

abbrev pub thompson_record_to_word : Function
thompson_record_to_word = record {
  ended = Rattle.thompson.specs.contracts.thompson_record_to_word.ended;
  code = Rattle.thompson.proofs.thompson_record_to_word.Symbol.code;
  name = Rattle.thompson.proofs.thompson_record_to_word.Symbol.name;
}

abbrev pub thompson_same_element : Function
thompson_same_element = record {
  ended = Rattle.thompson.specs.contracts.thompson_same_element.ended;
  code = Rattle.thompson.proofs.thompson_same_element.Symbol.code;
  name = Rattle.thompson.proofs.thompson_same_element.Symbol.name;
}

abbrev pub thompson_text_to_record : Function
thompson_text_to_record = record {
  ended = Rattle.thompson.specs.contracts.thompson_text_to_record.ended;
  code = Rattle.thompson.proofs.thompson_text_to_record.Symbol.code;
  name = Rattle.thompson.proofs.thompson_text_to_record.Symbol.name;
}

abbrev pub thompson_record_to_text : Function
thompson_record_to_text = record {
  ended = Rattle.thompson.specs.contracts.thompson_record_to_text.ended;
  code = Rattle.thompson.proofs.thompson_record_to_text.Symbol.code;
  name = Rattle.thompson.proofs.thompson_record_to_text.Symbol.name;
}

abbrev pub thompson_enter_word : Function
thompson_enter_word = record {
  ended = Rattle.thompson.specs.contracts.thompson_enter_word.ended;
  code = Rattle.thompson.proofs.thompson_enter_word.Symbol.code;
  name = Rattle.thompson.proofs.thompson_enter_word.Symbol.name;
}

abbrev pub thompson_check_register : Function
thompson_check_register = record {
  ended = Rattle.thompson.specs.contracts.thompson_check_register.ended;
  code = Rattle.thompson.proofs.thompson_check_register.Symbol.code;
  name = Rattle.thompson.proofs.thompson_check_register.Symbol.name;
}

abbrev pub thompson_live_entries : Function
thompson_live_entries = record {
  ended = Rattle.thompson.specs.contracts.thompson_live_entries.ended;
  code = Rattle.thompson.proofs.thompson_live_entries.Symbol.code;
  name = Rattle.thompson.proofs.thompson_live_entries.Symbol.name;
}

abbrev pub thompson_pack_shape : Function
thompson_pack_shape = record {
  ended = Rattle.thompson.specs.contracts.thompson_pack_shape.ended;
  code = Rattle.thompson.proofs.thompson_pack_shape.Symbol.code;
  name = Rattle.thompson.proofs.thompson_pack_shape.Symbol.name;
}

abbrev pub thompson_unpack_shape : Function
thompson_unpack_shape = record {
  ended = Rattle.thompson.specs.contracts.thompson_unpack_shape.ended;
  code = Rattle.thompson.proofs.thompson_unpack_shape.Symbol.code;
  name = Rattle.thompson.proofs.thompson_unpack_shape.Symbol.name;
}

abbrev pub thompson_carets_before : Function
thompson_carets_before = record {
  ended = Rattle.thompson.specs.contracts.thompson_carets_before.ended;
  code = Rattle.thompson.proofs.thompson_carets_before.Symbol.code;
  name = Rattle.thompson.proofs.thompson_carets_before.Symbol.name;
}

abbrev pub thompson_subtree_end : Function
thompson_subtree_end = record {
  ended = Rattle.thompson.specs.contracts.thompson_subtree_end.ended;
  code = Rattle.thompson.proofs.thompson_subtree_end.Symbol.code;
  name = Rattle.thompson.proofs.thompson_subtree_end.Symbol.name;
}

abbrev pub thompson_grow_caret : Function
thompson_grow_caret = record {
  ended = Rattle.thompson.specs.contracts.thompson_grow_caret.ended;
  code = Rattle.thompson.proofs.thompson_grow_caret.Symbol.code;
  name = Rattle.thompson.proofs.thompson_grow_caret.Symbol.name;
}

-- An export of the signature T: its code and its name.
pub record Export (T : Ended) : Type 0 where
  pub code : Code
  pub name : Callee

abbrev pub export : {T : Ended} → Export T → Function
export {T} e = record { ended = T; code = e.code; name = e.name }

abbrev pub as_export : (f : Function) → Export f.ended
as_export f = record { code = f.code; name = f.name }

-- The exports of a library.
pub record Library : Type 0 where
  pub word_to_record : Export thompson_word_to_record.ended
  pub list_to_records : Export thompson_list_to_records.ended
  pub check_record : Export thompson_check_record.ended
  pub record_to_tree_pair : Export thompson_record_to_tree_pair.ended
  pub record_to_length : Export thompson_record_to_length.ended
  pub record_to_label_length : Export thompson_record_to_label_length.ended
  pub record_to_word : Export thompson_record_to_word.ended
  pub same_element : Export thompson_same_element.ended
  pub text_to_record : Export thompson_text_to_record.ended
  pub record_to_text : Export thompson_record_to_text.ended
  pub enter_word : Export thompson_enter_word.ended
  pub check_register : Export thompson_check_register.ended
  pub live_entries : Export thompson_live_entries.ended
  pub pack_shape : Export thompson_pack_shape.ended
  pub unpack_shape : Export thompson_unpack_shape.ended
  pub carets_before : Export thompson_carets_before.ended
  pub subtree_end : Export thompson_subtree_end.ended
  pub grow_caret : Export thompson_grow_caret.ended

abbrev pub thompson : Library
thompson = record {
  word_to_record = as_export thompson_word_to_record;
  list_to_records = as_export thompson_list_to_records;
  check_record = as_export thompson_check_record;
  record_to_tree_pair = as_export thompson_record_to_tree_pair;
  record_to_length = as_export thompson_record_to_length;
  record_to_label_length = as_export thompson_record_to_label_length;
  record_to_word = as_export thompson_record_to_word;
  same_element = as_export thompson_same_element;
  text_to_record = as_export thompson_text_to_record;
  record_to_text = as_export thompson_record_to_text;
  enter_word = as_export thompson_enter_word;
  check_register = as_export thompson_check_register;
  live_entries = as_export thompson_live_entries;
  pack_shape = as_export thompson_pack_shape;
  unpack_shape = as_export thompson_unpack_shape;
  carets_before = as_export thompson_carets_before;
  subtree_end = as_export thompson_subtree_end;
  grow_caret = as_export thompson_grow_caret;
}
