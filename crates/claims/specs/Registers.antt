-- The register of first filings (02, [3] and [7]), over the contracts of `check_register` and `enter_word`. Read
-- `History` and `SameEntry` first; proofs/Registers.antt and proofs/EnterCalls.antt have the proofs.
--     RegistersAreRead    what is read as a register is well-formed, by 02's sentence, and nothing else is
--     EnterRefusal        the conditions of 1, 2, 6, 7, 12, 13 and 14, one by one, in their order
--     EntersWords         what a filing that is not refused answers and leaves
--     OnlyNewBytes        the bytes that a new entry changes
--     StoredIsSmaller     the record that it stores, beside the word's own
--     History, SameEntry  any run of filings from a fresh register
--     Charges             the account of the holder who files
-- Letters: u bytes lent as a word; m, m' what is lent with it, at entry and at exit; h a holder; s, s' the register's
-- bytes at entry and at exit; q a register; r, v an answer.
-- Names used, and where each is defined:
--     RegisterChecked s v     the contract of `check_register`                      registers, Answers
--     EnteredWord u m m' h s s' r   the contract of `enter_word`                    updates, Entering
--     WellFormed s q          the bytes s are the register q, by 02's sentence      registers, WellFormed
--     read_register s         the register that is read in s, or 12                 registers, Reading
--     number_for f es         the number of the entry with a form, if there is one  registers, Reading
--     found s b               the number of the first entry with the record b       registers, Finding
--     live h es               how many of the entries es are the holder's           registers, Reading
--     register_bytes q, entry_field n h b  the bytes of a register; of an entry     registers, Format
--     entered_of r            an answer as accepted, or as refused with number and place   updates, Entering
--     new_entry k, present k  what is accepted: a new entry, the entry that holds the element   updates, Entering
--     stored_form w           the form under which a word's element is kept         updates, Entering
--     with_entry q h f        q with one more entry, numbered one above the last    updates, Entering
--     account_in h q, raised a n  a holder's account; charged by n                  updates, Accounts
--     is_above b, exchanged b  the record b is above, in byte order, the record with its sides exchanged; that one
--                                                                                   records, Exchange
--     IsRecord b f            b is the record of the form f                         records, Format
--     SameElement w x         a chain joins one word to the other or its inverse    updates, History
--     Run cs s s', Fresh s    a run of calls; a fresh register                      updates, History
--     HistoryOf cs s'         the plain list answers as the run did                 updates, History
--     Meets o n               the answer o names entry n                            updates, History
--     WordRefusal, NoWordRefusal u m   the conditions of 1, 2, 6 and 7; none holds  claims, Refusals
--     RecordOfWord m m' n w   what word to record leaves of tables and buffer       claims, Given
-- Assumes nothing.
use Rattle.std.specs.Prelude.{◌≡◌, true, false, List, ◌∷◌, ◌++◌, ◌⊎◌, ◌↔◌, ℕ, ◌+◌, ◌<◌, ◌≤◌, length, take, drop, get_or}
use Rattle.std.specs.Prelude.{⊤, Result}
use Rattle.refusals.specs.declared.Refusal.{Refusal}
use Rattle.lists.specs.Entries.{At}
use Rattle.group.specs.Letters.{Word}
use Rattle.group.specs.Bytes.{bytes_of}
use Rattle.group.specs.Forms.{Form, letters}
use Rattle.refusals.specs.Outcomes.{accepted, verdict_of}
use Rattle.refusals.specs.Memory.{Memory}
use Rattle.fields.specs.Fields.{four_bytes, head_size}
use Rattle.records.specs.Format.{encode, IsRecord}
use Rattle.records.specs.Exchange.{exchanged, is_above}
use Rattle.registers.specs.Format.{Entry, Register, entry_base, entry_field, register_bytes, number_most, live_most}
use Rattle.registers.specs.Reading.{live, number_for, read_register}
use Rattle.registers.specs.Finding.{found}
use Rattle.registers.specs.WellFormed.{WellFormed}
use Rattle.registers.specs.Answers.{RegisterChecked}
use Rattle.updates.specs.Accounts.{account_in, raised}
use Rattle.updates.specs.Entering.{Reply, new_entry, present, Answer, entered_of, stored_form, with_entry, EnteredWord}
use Rattle.updates.specs.History.{SameElement, Entering, Run, Fresh, HistoryOf, Meets}
use Rattle.updates.specs.declared.Entered.{Entered}
use Rattle.claims.specs.Refusals.{WordRefusal, NoWordRefusal}
use Rattle.claims.specs.Given.{RecordOfWord}

-- Some register is what the bytes are.
abbrev pub IsRegister : List ℕ → Type 0
IsRegister s = (q : Register) × WellFormed s q

-- 12: the bytes are no well-formed register, or too many.
pub record RegisterRefusal (s : List ℕ) (number place : ℕ) : Type 0 where
  pub twelve : number ≡ 12
  pub no_place : place ≡ 0
  pub none : IsRegister s → ⊥

-- What is read of the bytes handed to a call is what is well-formed there: one register, or none. There `find`, which
-- looks at any bytes, finds the entry with a form's record.
pub record RegistersAreRead : Type 0 where
  pub read_just_when : (s : List ℕ) (v : Result ⊤ Refusal) → RegisterChecked s v → (q : Register)
      → (read_register s ≡ accepted q) ↔ WellFormed s q
  pub accepted_just_when : (s : List ℕ) (v : Result ⊤ Refusal) → RegisterChecked s v
      → (verdict_of v ≡ accepted 0) ↔ IsRegister s
  pub found_there : (s : List ℕ) (v : Result ⊤ Refusal) → RegisterChecked s v → (q : Register) → WellFormed s q
      → (f : Form)
      → found s (encode f) ≡ number_for f q.entries

-- An entry of the register, with the number k, holds the element of the word or of its inverse.
pub record Filed (q : Register) (w : Word) (k : ℕ) : Type 0 where
  pub place : ℕ
  pub entry : Entry
  pub stands : At q.entries place entry
  pub number : entry.number ≡ k
  pub same : SameElement (letters entry.form) w

-- No entry does.
abbrev pub Unfiled : Register → Word → Type 0
Unfiled q w = (k : ℕ) → Filed q w k → ⊥

-- 13: the holder has four entries.
abbrev pub HasFour : (h : ℕ) → Register → Type 0
HasFour h q = live_most ≤ live h q.entries

-- 14: the entry does not fit behind the last one, 9 bytes and its record, or its number would pass 4,294,967,295.
abbrev pub NoRoom : List ℕ → Register → Word → Type 0
NoRoom s q w =
    (length s < length (register_bytes q) + (head_size + entry_base + length (encode (stored_form w))))
    ⊎ (number_most < q.last + 1)

-- A word that is accepted, and the register that the bytes are.
pub record Accepted (u : List ℕ) (m : Memory) (s : List ℕ) (w : Word) (q : Register) : Type 0 where
  pub accepts : NoWordRefusal u m
  pub word : u ≡ bytes_of w
  pub register : WellFormed s q

-- What is refused of a filing: a word's own refusals, then 12, then, unless an entry holds the element, 13 and 14.
pub data EnterRefusal (u : List ℕ) (m : Memory) (h : ℕ) (s : List ℕ) (number place : ℕ) : Type 0 where
  of_word : WordRefusal u m number place → EnterRefusal u m h s number place
  not_register : NoWordRefusal u m → RegisterRefusal s number place → EnterRefusal u m h s number place
  holder_full : (w : Word) (q : Register) → number ≡ 13 → place ≡ 0 → Accepted u m s w q → Unfiled q w → HasFour h q
      → EnterRefusal u m h s number place
  register_full : (w : Word) (q : Register) → number ≡ 14 → place ≡ 0 → Accepted u m s w q → Unfiled q w
      → (HasFour h q → ⊥) → NoRoom s q w → EnterRefusal u m h s number place

-- The answer: the number of the entry that holds the element, with the register unchanged; or, where no entry does, the
-- holder has fewer than four and there is room, one above the last number given, with that entry behind the last one.
pub data Replied (h : ℕ) (s s' : List ℕ) (q : Register) (w : Word) (y : Reply) : Type 0 where
  is_present : (k : ℕ) → y ≡ present k → Filed q w k → s' ≡ s → Replied h s s' q w y
  is_new_value : y ≡ new_entry (q.last + 1) → Unfiled q w → (HasFour h q → ⊥) → (NoRoom s q w → ⊥)
      → WellFormed s' (with_entry q h (stored_form w)) → Replied h s s' q w y

-- What a filing that is not refused answers and leaves: tables and record buffer as word to record does.
pub record EnteredAs (u : List ℕ) (m m' : Memory) (h : ℕ) (s s' : List ℕ) (y : Reply) : Type 0 where
  pub word : Word
  pub register : Register
  pub judged : Accepted u m s word register
  pub replied : Replied h s s' register word y
  pub left : (n : ℕ) × RecordOfWord m m' n word

abbrev pub EntersWords : Type 0
EntersWords =
    (u : List ℕ) (m m' : Memory) (h : ℕ) (s s' : List ℕ) (r : Result Entered Refusal) (x : Answer)
    → EnteredWord u m m' h s s' r
    → entered_of r ≡ accepted x → EnteredAs u m m' h s s' x.reply

-- The bytes that a new entry with the number k changes, where the entries end at `end` and its record are the bytes b:
-- the first field's number, the entry, and a byte 00 behind it if a byte is free.
pub record OnlyNew (s s' : List ℕ) (k h end : ℕ) (b : List ℕ) : Type 0 where
  pub as_long : length s' ≡ length s
  pub fits : end + (head_size + entry_base + length b) ≤ length s
  pub number : take 4 (drop head_size s') ≡ four_bytes k
  pub entry : take (head_size + entry_base + length b) (drop end s') ≡ entry_field k h b
  pub mark : end + (head_size + entry_base + length b) < length s
      → get_or s' (end + (head_size + entry_base + length b)) 1 ≡ 0
  pub others : (i : ℕ) → (i < head_size) ⊎ ((head_size + 4 ≤ i) × (i < end))
      ⊎ (end + (head_size + entry_base + length b) < i)
      → get_or s' i 0 ≡ get_or s i 0

-- "no other byte but the first field's changes".
abbrev pub OnlyNewBytes : Type 0
OnlyNewBytes =
    (u : List ℕ) (m m' : Memory) (h : ℕ) (s s' : List ℕ) (r : Result Entered Refusal) (x : Answer) (k : ℕ) (w : Word)
    (q : Register)
    → EnteredWord u m m' h s s' r → entered_of r ≡ accepted x → x.reply ≡ new_entry k → u ≡ bytes_of w → WellFormed s q
    → OnlyNew s s' k h (length (register_bytes q)) (encode (stored_form w))

-- The record that a new entry stores behind number and holder, where the entries ended at `end`: of the word's own
-- record, which tables and record buffer hold at exit as word to record leaves them, and the record with its sides
-- exchanged, the smaller in byte order; it is the record of the word or of its inverse.
pub record StoredSmaller (m m' : Memory) (s' : List ℕ) (end : ℕ) (w : Word) : Type 0 where
  pub own : List ℕ
  pub left : RecordOfWord m m' (length own) w
  pub own_is : take (length own) m'.buffer ≡ own
  pub stored : List ℕ
  pub stored_is : take (length stored) (drop (end + head_size + entry_base) s') ≡ stored
  pub smaller : ((is_above own ≡ false) × (stored ≡ own)) ⊎ ((is_above own ≡ true) × (stored ≡ exchanged own))
  pub form : Form
  pub is_record : IsRecord stored form
  pub of_either : SameElement (letters form) w

abbrev pub StoredIsSmaller : Type 0
StoredIsSmaller =
    (u : List ℕ) (m m' : Memory) (h : ℕ) (s s' : List ℕ) (r : Result Entered Refusal) (x : Answer) (k : ℕ) (w : Word)
    (q : Register)
    → EnteredWord u m m' h s s' r → entered_of r ≡ accepted x → x.reply ≡ new_entry k → u ≡ bytes_of w → WellFormed s q
    → StoredSmaller m m' s' (length (register_bytes q)) w

-- From a fresh register, any run of filings, each handed the register's bytes as the call before left them, answers
-- each filing not refused as a plain list that keeps each element's first such filing, numbered from 1; and the
-- accounts' counts sum to the filings given a new entry.
abbrev pub History : Type 0
History = (cs : List Entering) (s s' : List ℕ) → Fresh s → Run cs s s' → HistoryOf cs s'

-- Two filings of such a run that are answered with an entry meet the same one exactly when a chain joins one word to
-- the other, or to the other's inverse.
abbrev pub SameEntry : Type 0
SameEntry =
    (before between behind : List Entering) (c d : Entering) (s s' : List ℕ) → Fresh s
    → Run (before ++ (c ∷ (between ++ (d ∷ behind)))) s s'
    → (u v : Word) → c.word ≡ bytes_of u → d.word ≡ bytes_of v → (n k : ℕ) → Meets (entered_of c.answer) n
    → Meets (entered_of d.answer) k → (n ≡ k) ↔ SameElement u v

-- A filing charges the holder's account by one where it gives a new entry and by nothing otherwise; the answer carries
-- the account as it is in the register at exit.
pub record Charged (h : ℕ) (s s' : List ℕ) (x : Answer) : Type 0 where
  pub before : Register
  pub after : Register
  pub before_is : WellFormed s before
  pub after_is : WellFormed s' after
  pub account : x.account ≡ account_in h after
  pub by_one : (k : ℕ) → x.reply ≡ new_entry k → x.account ≡ raised (account_in h before) 1
  pub by_nothing : (k : ℕ) → x.reply ≡ present k → x.account ≡ raised (account_in h before) 0

abbrev pub Charges : Type 0
Charges =
    (u : List ℕ) (m m' : Memory) (h : ℕ) (s s' : List ℕ) (r : Result Entered Refusal) (x : Answer)
    → EnteredWord u m m' h s s' r
    → entered_of r ≡ accepted x → Charged h s s' x
