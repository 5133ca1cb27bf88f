-- A well-formed register, sentence by sentence (02, [3]): "A well-formed register has entry numbers of at least 1,
-- strictly rising, none above the last given, readable records, no record twice and no holder above four"; "The buffer
-- ends the list, or a byte 00 does"; and ([7]) the smaller of a record and the record with its two sides exchanged is
-- stored, "and well-formed means that too". Assumes nothing.
use Rattle.std.specs.Prelude.{◌≡◌, false, List, [], ◌∷◌, ◌++◌, ◌⊎◌, ℕ, ◌<◌, ◌≤◌, length}
use Rattle.lists.specs.Entries.{At}
use Rattle.records.specs.Format.{encode, IsRecord}
use Rattle.records.specs.Exchange.{is_above}
use Rattle.registers.specs.Format.{Entry, Register, register_bytes, register_most, live_most}
use Rattle.registers.specs.Reading.{live}

-- The rules on entries in order.
pub record Rules (es : List Entry) : Type 0 where
  pub at_least_1 : (i : ℕ) (e : Entry) → At es i e → 1 ≤ e.number
  pub rising : (i j : ℕ) (e d : Entry) → At es i e → At es j d → i < j → e.number < d.number
  pub once : (i j : ℕ) (e d : Entry) → At es i e → At es j d → encode e.form ≡ encode d.form → i ≡ j
  pub four : (h : ℕ) → live h es ≤ live_most

-- The bytes s are the register r, then the end of the buffer or a byte 00; r follows the rules; each record is one, and
-- not above the record with its sides exchanged.
pub record WellFormed (s : List ℕ) (r : Register) : Type 0 where
  pub behind : List ℕ
  pub bytes : s ≡ register_bytes r ++ behind
  pub ended : (behind ≡ []) ⊎ ((t : List ℕ) × (behind ≡ 0 ∷ t))
  pub short : length s ≤ register_most
  pub rules : Rules r.entries
  pub none_above : (i : ℕ) (e : Entry) → At r.entries i e → e.number ≤ r.last
  pub readable : (i : ℕ) (e : Entry) → At r.entries i e → IsRecord (encode e.form) e.form
  pub not_above : (i : ℕ) (e : Entry) → At r.entries i e → is_above (encode e.form) ≡ false
