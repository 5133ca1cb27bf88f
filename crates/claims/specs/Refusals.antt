-- The refusals of words, records and texts (01, 'Who caused the refusal'; 02, [1]): for each its number, its place and
-- its condition, given where no earlier one of its order holds. For words the order is 1, 2, 6, 7; for records 3, 4, 5,
-- 8, 7; for texts 9, 10, 11, 6, 7.
--     WordRefusal u m number place        of the bytes u as a word, with the memory m lent
--     RecordRefusal s number place        of the bytes s as a record
--     PairRefusal s i j number place      of the bytes s as a record, beside buffers of i and j bytes for its shapes
--     SpellingRefusal s i number place    of the bytes s as a record, beside a buffer of i bytes for its spelling
--     TextRefusal t m number place        of the bytes t as a text, with the memory m lent
--     PhraseRefusal s i number place      of the bytes s as a record, beside a buffer of i bytes for its text
-- Assumes nothing.
use Rattle.std.specs.Prelude.{◌≡◌, List, ◌⊎◌, ℕ, ◌+◌, ◌*◌, ◌<◌, ◌≤◌, length}
use Rattle.group.specs.Letters.{Word}
use Rattle.group.specs.Bytes.{FirstNotLetter}
use Rattle.group.specs.Limits.{limit}
use Rattle.group.specs.Maps.{SameMap}
use Rattle.group.specs.Forms.{Side, Form, exponent, letters}
use Rattle.group.specs.Reducing.{Reduced}
use Rattle.group.specs.Powers.{SignedPower, product_letters, exponent_sizes, form_powers}
use Rattle.tokens.specs.Tokens.{AllInRange}
use Rattle.tokens.specs.Texts.{text_of, FirstMisspelled}
use Rattle.records.specs.Format.{base_size, IsRecord}
use Rattle.records.specs.Faults.{Framed, record_entries, Sound, FirstFault, form_read, FirstBreak}
use Rattle.trees.specs.Trees.{Tree, carets}
use Rattle.trees.specs.Pairs.{SmallestPair}
use Rattle.spelling.specs.Spelling.{Spells}
use Rattle.refusals.specs.Memory.{Memory}

-- 1: more letters than the limit; bytes are counted.
abbrev pub Long : List ℕ → Type 0
Long u = limit < length u

-- 2: a byte that is no letter; the offset is that of the first.
abbrev pub Unlettered : List ℕ → Type 0
Unlettered u = (k : ℕ) × FirstNotLetter u k

-- 6: a table with fewer entries than there are letters, and one.
abbrev pub ShortTable : List ℕ → Memory → Type 0
ShortTable u m = (length m.b < length u + 1) ⊎ (length m.a < length u + 1)

-- 7: a record buffer with fewer bytes than 6 and four times the letters.
abbrev pub ShortBuffer : List ℕ → Memory → Type 0
ShortBuffer u m = length m.buffer < base_size + 4 * length u

-- What is refused of a word and of what is lent with it.
pub data WordRefusal (u : List ℕ) (m : Memory) (number place : ℕ) : Type 0 where
  long : number ≡ 1 → place ≡ limit → Long u → WordRefusal u m number place
  unlettered : number ≡ 2 → (Long u → ⊥) → FirstNotLetter u place → WordRefusal u m number place
  short_table : number ≡ 6 → place ≡ 0 → (Long u → ⊥) → (Unlettered u → ⊥) → ShortTable u m
      → WordRefusal u m number place
  short_buffer : number ≡ 7 → place ≡ 0 → (Long u → ⊥) → (Unlettered u → ⊥) → (ShortTable u m → ⊥) → ShortBuffer u m
      → WordRefusal u m number place

-- None of the four conditions holds.
pub record NoWordRefusal (u : List ℕ) (m : Memory) : Type 0 where
  pub not_long : Long u → ⊥
  pub lettered : Unlettered u → ⊥
  pub long_tables : ShortTable u m → ⊥
  pub long_buffer : ShortBuffer u m → ⊥

-- What is refused of a record: 3, the fields do not frame it; 4, the offset of the first faulty entry; 5, the smallest
-- index that breaks the reduced form's clause.
pub data RecordRefusal (s : List ℕ) (number place : ℕ) : Type 0 where
  unframed : number ≡ 3 → place ≡ 0 → (Framed s → ⊥) → RecordRefusal s number place
  faulty : number ≡ 4 → Framed s → FirstFault (record_entries s) place → RecordRefusal s number place
  unreduced : number ≡ 5 → Framed s → Sound (record_entries s) → FirstBreak (form_read s) place
      → RecordRefusal s number place

-- 7 for shapes: a buffer with fewer bytes than 2N + 1, N the carets of the record's smallest tree pair.
pub record ShortShape (s : List ℕ) (i j : ℕ) : Type 0 where
  pub form : Form
  pub is_record : IsRecord s form
  pub minus : Tree
  pub plus : Tree
  pub smallest : SmallestPair form minus plus
  pub short : (i < 2 * carets minus + 1) ⊎ (j < 2 * carets minus + 1)

-- What is refused of a record and of the buffers lent with it for its tree pair.
pub data PairRefusal (s : List ℕ) (i j number place : ℕ) : Type 0 where
  unread : RecordRefusal s number place → PairRefusal s i j number place
  short_shape : number ≡ 7 → place ≡ 0 → ShortShape s i j → PairRefusal s i j number place

-- 8: the word that spells the record's form has more letters than the limit.
pub record LongSpelling (s : List ℕ) : Type 0 where
  pub form : Form
  pub is_record : IsRecord s form
  pub word : Word
  pub spells : Spells form word
  pub long : limit < length word

-- 7 for spelling: a buffer with fewer bytes than that word has letters.
pub record ShortWord (s : List ℕ) (i : ℕ) : Type 0 where
  pub form : Form
  pub is_record : IsRecord s form
  pub word : Word
  pub spells : Spells form word
  pub fits : length word ≤ limit
  pub short : i < length word

-- What is refused of a record and of the buffer lent with it for its spelling.
pub data SpellingRefusal (s : List ℕ) (i number place : ℕ) : Type 0 where
  unspelled : RecordRefusal s number place → SpellingRefusal s i number place
  long_spelling : number ≡ 8 → place ≡ 0 → LongSpelling s → SpellingRefusal s i number place
  short_word : number ≡ 7 → place ≡ 0 → ShortWord s i → SpellingRefusal s i number place

-- 9: a piece of the text that is no token of a power in range; the offset is that of the first.
abbrev pub Misspelled : List ℕ → Type 0
Misspelled t = (k : ℕ) × FirstMisspelled t k

-- 10: the text is that of powers whose exponents' sizes sum above the limit.
pub record LargeSum (t : List ℕ) : Type 0 where
  pub powers : List SignedPower
  pub in_range : AllInRange powers
  pub text : t ≡ text_of powers
  pub large : limit < exponent_sizes powers

-- 11: the text is that of powers, and in the reduced form with their letters' map an index above the limit has, on some
-- side, an exponent above 0.
pub record HighForm (t : List ℕ) : Type 0 where
  pub powers : List SignedPower
  pub in_range : AllInRange powers
  pub text : t ≡ text_of powers
  pub form : Form
  pub reduced : Reduced form
  pub same_map : SameMap (letters form) (product_letters powers)
  pub side : Side
  pub index : ℕ
  pub high : limit < index
  pub occurs : 0 < exponent side form index

-- 6 for texts and for lists: a table with fewer entries than the limit and one.
abbrev pub ShortTables : Memory → Type 0
ShortTables m = (length m.b < limit + 1) ⊎ (length m.a < limit + 1)

-- 7 for texts: a record buffer with fewer bytes than 6 and four times the sum of the exponents' sizes.
pub record ShortRecord (t : List ℕ) (m : Memory) : Type 0 where
  pub powers : List SignedPower
  pub in_range : AllInRange powers
  pub text : t ≡ text_of powers
  pub short : length m.buffer < base_size + 4 * exponent_sizes powers

-- What is refused of a text and of what is lent with it.
pub data TextRefusal (t : List ℕ) (m : Memory) (number place : ℕ) : Type 0 where
  misspelled : number ≡ 9 → FirstMisspelled t place → TextRefusal t m number place
  large_sum : number ≡ 10 → place ≡ 0 → (Misspelled t → ⊥) → LargeSum t → TextRefusal t m number place
  high_form : number ≡ 11 → place ≡ 0 → (Misspelled t → ⊥) → (LargeSum t → ⊥) → HighForm t
      → TextRefusal t m number place
  short_tables : number ≡ 6 → place ≡ 0 → (Misspelled t → ⊥) → (LargeSum t → ⊥) → (HighForm t → ⊥) → ShortTables m
      → TextRefusal t m number place
  short_record_is : number ≡ 7 → place ≡ 0 → (Misspelled t → ⊥) → (LargeSum t → ⊥) → (HighForm t → ⊥)
      → (ShortTables m → ⊥) → ShortRecord t m → TextRefusal t m number place

-- None of the five conditions holds.
pub record NoTextRefusal (t : List ℕ) (m : Memory) : Type 0 where
  pub spelled : Misspelled t → ⊥
  pub small_sum : LargeSum t → ⊥
  pub low_form : HighForm t → ⊥
  pub full_tables : ShortTables m → ⊥
  pub long_buffer : ShortRecord t m → ⊥

-- 7 for a text that is written: a buffer with fewer bytes than the text of the record's form.
pub record ShortText (s : List ℕ) (i : ℕ) : Type 0 where
  pub form : Form
  pub is_record : IsRecord s form
  pub short : i < length (text_of (form_powers form))

-- What is refused of a record and of the buffer lent with it for its text.
pub data PhraseRefusal (s : List ℕ) (i number place : ℕ) : Type 0 where
  unphrased : RecordRefusal s number place → PhraseRefusal s i number place
  short_text : number ≡ 7 → place ≡ 0 → ShortText s i → PhraseRefusal s i number place
