-- The register of first filings (02, [3]): its entries, and its bytes in tagged fields. Numbers are high byte first.
--     Entry         an entry: number, holder, form of the element    entry_bytes e      its field
--     Register      the last number given, the entries in order      register_bytes r   its bytes
--     stored r s    the buffer s with the register r at its front, and a byte 00 behind it where one is free
-- Assumes nothing.
use Rattle.std.specs.Prelude.{cond, List, [], ◌∷◌, ◌++◌, ℕ, ◌+◌, length, ltb}
use Rattle.std.proofs.lemmas.List.Edits.{sets}
use Rattle.group.specs.Forms.{Form}
use Rattle.fields.specs.Fields.{two_bytes, four_bytes, head_size, field}
use Rattle.records.specs.Format.{encode}

-- "Each entry … holds entry number (4 bytes), holder (2 bytes, any number) and record": the record is that of a form.
pub record Entry : Type 0 where
  pub number : ℕ
  pub holder : ℕ
  pub form : Form

-- The last entry number given, and the entries in order.
pub record Register : Type 0 where
  pub last : ℕ
  pub entries : List Entry

-- The tags of the first field and of an entry, 10 and 11 hex.
abbrev pub last_tag : ℕ
last_tag = 16

abbrev pub entry_tag : ℕ
entry_tag = 17

-- The bytes of an entry number, of the number and the holder in front of an entry's record, of the first field.
abbrev pub number_size : ℕ
number_size = 4

abbrev pub entry_base : ℕ
entry_base = number_size + 2

abbrev pub first_size : ℕ
first_size = head_size + number_size

-- The most bytes of a register, the highest entry number, the most live entries of a holder.
abbrev pub register_most : ℕ
register_most = 65536

abbrev pub number_most : ℕ
number_most = 4294967295

abbrev pub live_most : ℕ
live_most = 4

-- An entry's field: number, holder, record.
abbrev pub entry_field : (number holder : ℕ) (bytes : List ℕ) → List ℕ
entry_field number holder bytes = field entry_tag (four_bytes number ++ (two_bytes holder ++ bytes))

abbrev pub entry_bytes : Entry → List ℕ
entry_bytes e = entry_field e.number e.holder (encode e.form)

abbrev pub entries_bytes : List Entry → List ℕ
entries_bytes [] = []
entries_bytes (e ∷ es) = entry_bytes e ++ entries_bytes es

-- The first field, then the entries.
abbrev pub register_bytes : Register → List ℕ
register_bytes r = field last_tag (four_bytes r.last) ++ entries_bytes r.entries

-- The byte 00 behind the last entry, if a byte is free: `n` bytes are taken of `m`.
abbrev pub end_mark : (n m : ℕ) → List ℕ
end_mark n m = cond (ltb n m) (0 ∷ []) []

-- The register's bytes and the mark behind them at the front of a buffer; what follows is as it was.
abbrev pub stored : Register → List ℕ → List ℕ
stored r s = sets s 0 (register_bytes r ++ end_mark (length (register_bytes r)) (length s))
