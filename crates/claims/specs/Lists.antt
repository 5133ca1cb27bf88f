-- Many words in one call (02, [4]), over the contracts of `list_to_records` and `word_to_record`. Read `ListIsCalls`
-- first; proofs/Lists.antt has the proofs, under the same names in snake case.
--     ListRefusal          the conditions of 6 and 7, in their order
--     ListIsCalls          the list call answers and leaves what one call a word does, one after another
--     SomeCalls            such calls can always be made
--     LastWordFills        an entry of the tables is that of the last accepted word that reaches it
--     ListRecordsJoined    two words that stand in lists have equal items just when a chain joins them
-- Letters: `list` bytes lent as a list; m, m' tables and output lent with it, at entry and at exit; r its answer; c, cs
-- calls of word to record; b, a, b', a' tables; w, x words.
-- Names used, and where each is defined:
--     Listed list m m' r      the contract of `list_to_records`                           wordlists, Listing
--     Recorded u m m' r       the contract of `word_to_record`                            words, Recording
--     reply_of r              an answer as accepted, or as refused with number and place  refusals, Outcomes
--     lines_of list           the lines; line_bytes ls: their bytes, ends of line left out  lines, Lines
--     line_read l             the word that a line is, or refusal 1 or 2 of it            letters, Judging
--     item o, items ls        the bytes for what a line is read as; for all lines         wordlists, Items
--     refused_tag             0F hex, the tag of a refused word                           wordlists, Items
--     field t s, two_bytes p  tag, length and the bytes s; a number in two bytes          fields, Fields
--     base_size, buffer_size n  6; the bytes that word to record needs for n letters      records, Format
--     ShortTables m           a table with fewer entries than the limit and one           claims, Refusals
--     MemoryCall R            an accepted call, by its contract R                         claims, Calls
--     At cs i c               entry i of cs, counted from 0, is c                         lists, Entries
--     exponent s f i          the exponent of x_i on a side of the form f                 group, Forms
--     form_of w               the reduced form of a word                                  group, Products
--     bytes_of w, Joined w x  the bytes of a word; a chain joins two words                group, Bytes, Chains
-- Assumes nothing.
use Rattle.std.specs.Prelude.{◌≡◌, List, [], ◌∷◌, ◌++◌, ◌⊎◌, ◌↔◌, ℕ, ◌+◌, ◌*◌, ◌<◌, ◌≤◌, length, take, drop, get_or}
use Rattle.std.specs.Prelude.{Result}
use Rattle.refusals.specs.declared.Refusal.{Refusal}
use Rattle.lists.specs.Entries.{At}
use Rattle.lines.specs.Lines.{lines_of, line_bytes}
use Rattle.group.specs.Letters.{Word}
use Rattle.group.specs.Bytes.{bytes_of}
use Rattle.group.specs.Chains.{Joined}
use Rattle.group.specs.Forms.{b_side, a_side, exponent}
use Rattle.group.specs.Products.{form_of}
use Rattle.group.specs.Limits.{limit}
use Rattle.refusals.specs.Outcomes.{Outcome, accepted, refused, reply_of}
use Rattle.refusals.specs.Memory.{Memory}
use Rattle.fields.specs.Fields.{two_bytes, field}
use Rattle.records.specs.Format.{base_size, buffer_size}
use Rattle.letters.specs.Judging.{line_read}
use Rattle.words.specs.Recording.{Recorded}
use Rattle.wordlists.specs.Items.{refused_tag, item, items}
use Rattle.wordlists.specs.Listing.{Listed}
use Rattle.claims.specs.Refusals.{ShortTables}
use Rattle.claims.specs.Calls.{MemoryCall}

-- 7: an output with fewer bytes than 6 a line and four times the bytes of all lines, ends of line left out.
abbrev pub ShortOutput : List ℕ → Memory → Type 0
ShortOutput list m = length m.buffer < base_size * length (lines_of list) + 4 * line_bytes (lines_of list)

-- What is refused of what is lent with a list: 6, then 7; nothing is refused of the list itself.
pub data ListRefusal (list : List ℕ) (m : Memory) (number place : ℕ) : Type 0 where
  few_entries : number ≡ 6 → place ≡ 0 → ShortTables m → ListRefusal list m number place
  few_bytes : number ≡ 7 → place ≡ 0 → (ShortTables m → ⊥) → ShortOutput list m → ListRefusal list m number place

-- One call of word to record, with a buffer of any content that is long enough.
pub record LineCall : Type 0 where
  pub line : List ℕ
  pub lent : Memory
  pub left : Memory
  pub answer : Result ℕ Refusal
  pub called : Recorded line lent left answer
  pub roomy : buffer_size (length line) ≤ length lent.buffer

-- The lines of the calls.
abbrev pub lines_called : List LineCall → List (List ℕ)
lines_called [] = []
lines_called (c ∷ cs) = c.line ∷ lines_called cs

-- The bytes of an outcome: the record at the front of the buffer; of a refusal its number in one byte and its place in
-- two, as a field.
abbrev pub bytes_of_answer : Outcome ℕ → List ℕ → List ℕ
bytes_of_answer (accepted n) buffer = take n buffer
bytes_of_answer (refused number place) buffer = field refused_tag (number ∷ two_bytes place)

-- What a call gave.
abbrev pub gave : LineCall → List ℕ
gave c = bytes_of_answer (reply_of c.answer) c.left.buffer

-- What the calls gave, one behind another.
abbrev pub bytes_given : List LineCall → List ℕ
bytes_given [] = []
bytes_given (c ∷ cs) = gave c ++ bytes_given cs

-- The first call is lent the tables b, a, each later one the tables as the call before left them, and the last leaves
-- b', a'.
abbrev pub CallsFrom : List LineCall → (b a b' a' : List ℕ) → Type 0
CallsFrom [] b a b' a' = (b' ≡ b) × (a' ≡ a)
CallsFrom (c ∷ cs) b a b' a' =
    (c.lent.b ≡ b) × (c.lent.a ≡ a) × CallsFrom cs c.left.b c.left.a b' a'

-- The tables and the output at exit are what the calls leave and give, everything behind the n bytes is unchanged, and
-- the calls refuse words only, by 1 or 2.
pub record SameAsCalls (m m' : Memory) (n : ℕ) (cs : List LineCall) (b' a' : List ℕ) : Type 0 where
  pub b_table : m'.b ≡ b'
  pub a_table : m'.a ≡ a'
  pub count : n ≡ length (bytes_given cs)
  pub bytes : take n m'.buffer ≡ bytes_given cs
  pub beyond : drop n m'.buffer ≡ drop n m.buffer
  pub only_words : (i : ℕ) (c : LineCall) (k p : ℕ) → At cs i c → reply_of c.answer ≡ refused k p
      → (k ≡ 1) ⊎ (k ≡ 2)

-- "The answers must equal those of one call a word. The tables are left as those calls would leave them, one after
-- another."
abbrev pub ListIsCalls : Type 0
ListIsCalls =
    (list : List ℕ) (m m' : Memory) (r : Result ℕ Refusal) (n : ℕ) → Listed list m m' r → reply_of r ≡ accepted n
    → (cs : List LineCall) (b' a' : List ℕ) → lines_called cs ≡ lines_of list → CallsFrom cs m.b m.a b' a'
    → SameAsCalls m m' n cs b' a'

-- Calls on any lines, from any tables.
abbrev pub SomeCalls : Type 0
SomeCalls =
    (ls : List (List ℕ)) (b a : List ℕ)
    → (cs : List LineCall) × (b' a' : List ℕ) × (lines_called cs ≡ ls) × CallsFrom cs b a b' a'

-- No accepted word of the lines has i letters or more.
abbrev pub NoneReaches : ℕ → List (List ℕ) → Type 0
NoneReaches i ls = (k : ℕ) (w : Word) → At ls k (bytes_of w) → length w ≤ limit → length w < i

-- Entry i of both tables behind the lines: that of the last accepted word of at least i letters, or as it was where
-- there is none.
pub record EntryBehind (ls : List (List ℕ)) (m m' : Memory) (i : ℕ) : Type 0 where
  pub last_word : (before behind : List (List ℕ)) (w : Word) → ls ≡ before ++ (bytes_of w ∷ behind)
      → length w ≤ limit → i ≤ length w → NoneReaches i behind
      → (get_or m'.b i 0 ≡ exponent b_side (form_of w) i) × (get_or m'.a i 0 ≡ exponent a_side (form_of w) i)
  pub no_word : NoneReaches i ls → (get_or m'.b i 0 ≡ get_or m.b i 0) × (get_or m'.a i 0 ≡ get_or m.a i 0)

-- The same of every accepted list call and every entry.
abbrev pub LastWordFills : Type 0
LastWordFills =
    (list : List ℕ) (m m' : Memory) (r : Result ℕ Refusal) (n : ℕ) → Listed list m m' r → reply_of r ≡ accepted n
    → (i : ℕ) → EntryBehind (lines_of list) m m' i

-- The bytes at the place of the item of a line l that stands behind other lines.
abbrev pub item_at : (before : List (List ℕ)) (l out : List ℕ) → List ℕ
item_at before l out = take (length (item (line_read l))) (drop (length (items before)) out)

-- Two words within the limit, each a line of a list that was accepted, have equal items just when a chain joins them,
-- whatever the other lines are and whatever the lent memory held.
abbrev pub ListRecordsJoined : Type 0
ListRecordsJoined =
    (list list₂ : List ℕ) (c : MemoryCall (Listed list)) (d : MemoryCall (Listed list₂)) (w x : Word)
    → length w ≤ limit → length x ≤ limit → (before behind before₂ behind₂ : List (List ℕ))
    → lines_of list ≡ before ++ (bytes_of w ∷ behind) → lines_of list₂ ≡ before₂ ++ (bytes_of x ∷ behind₂)
    → (item_at before (bytes_of w) c.left.buffer ≡ item_at before₂ (bytes_of x) d.left.buffer) ↔ Joined w x
