-- What the paper asks of a record's bytes, sentence by sentence (01, 'The record', 'Who caused the refusal').
--     Framed s          two fields frame s exactly
--     record_entries s   the entries of both fields           Faulty before e     what is wrong with an entry
--     Sound entries     no entry is faulty                   FirstFault es p     the first faulty entry, at offset p
--     form_read s        the form of the powers read          FirstBreak f i      the first index that breaks the clause
-- Assumes nothing.
use Rattle.std.specs.Prelude.{◌≡◌, List, [], ◌∷◌, ◌++◌, ℕ, ◌+◌, ◌%◌, ◌<◌, ◌≤◌, length}
use Rattle.group.specs.Forms.{Side, b_side, a_side, Form}
use Rattle.group.specs.Limits.{limit}
use Rattle.group.specs.Reducing.{Applies}
use Rattle.fields.specs.Fields.{field}
use Rattle.records.specs.Format.{Power, power, b_tag, a_tag}
use Rattle.records.specs.Reading.{a_start, b_powers, a_powers, form_of_powers}

-- The bytes are the field of the b side, then the field of the a side, and end there; a body has whole entries.
pub record Framed (s : List ℕ) : Type 0 where
  pub b_body : List ℕ
  pub a_body : List ℕ
  pub bytes : s ≡ field b_tag b_body ++ field a_tag a_body
  pub b_whole : length b_body % 4 ≡ 0
  pub a_whole : length a_body % 4 ≡ 0

-- An entry of a record: its side, its offset from the record's start, its index and its exponent.
pub record Entry : Type 0 where
  pub side : Side
  pub offset : ℕ
  pub index : ℕ
  pub exponent : ℕ

-- The entries of a side's powers, four bytes each, the first at an offset.
abbrev pub entries_from : Side → ℕ → List Power → List Entry
entries_from s at [] = []
entries_from s at (power i e ∷ ps) =
    record { side = s; offset = at; index = i; exponent = e } ∷ entries_from s (at + 4) ps

-- The entries of the b side, then those of the a side.
abbrev pub record_entries : List ℕ → List Entry
record_entries s = entries_from b_side 3 (b_powers s) ++ entries_from a_side (a_start s) (a_powers s)

-- The sum of the exponents of entries.
abbrev pub running_sum : List Entry → ℕ
running_sum [] = 0
running_sum (e ∷ es) = e.exponent + running_sum es

-- What is wrong with an entry, where `before` are the entries before it, of both fields: exponent 0, an index above the
-- limit, an index not above the one before it in its field, or an exponent that takes the running sum above the limit.
pub data Faulty (before : List Entry) (e : Entry) : Type 0 where
  no_exponent : e.exponent ≡ 0 → Faulty before e
  high_index : limit < e.index → Faulty before e
  not_rising : (u : List Entry) (d : Entry) → before ≡ u ++ (d ∷ []) → d.side ≡ e.side → e.index ≤ d.index
      → Faulty before e
  high_sum : limit < running_sum before + e.exponent → Faulty before e

-- No entry of a list is faulty.
abbrev pub Sound : List Entry → Type 0
Sound entries = (u v : List Entry) (d : Entry) → entries ≡ u ++ (d ∷ v) → Faulty u d → ⊥

-- The first faulty entry of a list stands at an offset.
pub record FirstFault (entries : List Entry) (place : ℕ) : Type 0 where
  pub before : List Entry
  pub behind : List Entry
  pub entry : Entry
  pub order : entries ≡ before ++ (entry ∷ behind)
  pub faulty : Faulty before entry
  pub first : Sound before
  pub placed : entry.offset ≡ place

-- The form of the powers that are read.
abbrev pub form_read : List ℕ → Form
form_read s = form_of_powers (b_powers s) (a_powers s)

-- The smallest index that breaks the reduced form's clause: a reducing step applies there, and at no smaller index.
pub record FirstBreak (f : Form) (i : ℕ) : Type 0 where
  pub breaks : Applies i f
  pub least : (j : ℕ) → j < i → Applies j f → ⊥
