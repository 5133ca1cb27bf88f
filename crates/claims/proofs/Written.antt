-- What an accepted call on a word leaves: its form's exponents in the tables, and its record at the front of the
-- buffer.
--     record_written     the papers' sentence of it, for tables filled up to any number of entries
--     Listed w s         s is the record of w, whose form is within the limits
--     listed↔joined      two such records are equal just when a chain joins the words
-- Assumes nothing.
use mathlib.Core.Path.{◌≡◌, sym, ap, ◌∙◌}
use mathlib.Core.List.{List}
use mathlib.Core.Logic.{◌↔◌}
use Prim.Native.Nat.{ℕ, ◌≤◌, ◌<◌}
use native.Mathlib.Omega.{arith}
use lib.ListN.{length, take, drop, get_or}
use lib.Seq.{sets, drop_at, length-sets}
use Rattle.lists.proofs.Writes.{sets_front, sets-beyond}
use Rattle.lists.specs.Tables.{values, filled}
use Rattle.lists.proofs.Tables.{values_length, filled_at}
use Rattle.group.specs.Letters.{Word}
use Rattle.group.specs.Chains.{Joined}
use Rattle.group.specs.Forms.{b_side, a_side, exponent}
use Rattle.group.specs.Products.{form_of}
use Rattle.group.proofs.Reduced.{form_canonical, form_reduced, form_trimmed}
use Rattle.group.proofs.Theorems.{form_map, forms↔joined}
use Rattle.refusals.specs.Outcomes.{accepted}
use Rattle.refusals.specs.Memory.{Memory}
use Rattle.records.specs.Format.{encode, Within, IsRecord}
use Rattle.records.specs.Reading.{decode}
use Rattle.records.proofs.ReadBack.{encode_injective}
use Rattle.records.proofs.Accepted.{decode-encode}
use Rattle.words.specs.Recording.{encode_word}
use Rattle.claims.specs.Given.{RecordWritten}

-- The bytes are the record of a word, and its form is within the limits.
pub record Listed (w : Word) (s : List ℕ) : Type 0 where
  pub is : s ≡ encode_word w
  pub within : Within (form_of w)

-- Two such records are equal just when a chain joins the words.
pub listed↔joined : (w x : Word) {s t : List ℕ} → Listed w s → Listed x t → (s ≡ t) ↔ Joined w x
listed↔joined w x h k = (
  (λ e.
      (forms↔joined w x).0
      (encode_injective (form_of w) (form_of x) (form_trimmed w) h.within (form_trimmed x) k.within
      (sym h.is ∙ e ∙ k.is))),
  (λ j. h.is ∙ ap encode ((forms↔joined w x).1 j) ∙ sym k.is),
)

-- Such a record is read as the form of the word.
pub listed_form : (w : Word) {s : List ℕ} → Listed w s → decode s ≡ accepted (form_of w)
listed_form w h = ap decode h.is ∙ decode-encode (form_of w) (form_canonical w) h.within

-- It is the record of that form.
pub listed_record : (w : Word) {s : List ℕ} → Listed w s → IsRecord s (form_of w)
listed_record w h = record { bytes = h.is; within = h.within; reduced = form_reduced w; trimmed = form_trimmed w }

-- The entries of a table that was filled, and those beyond.
module _ (k : ℕ) (f : ℕ → ℕ) (t t' : List ℕ) (e : t' ≡ filled k f t) where
  table_at : (i : ℕ) → i < k → get_or t' i 0 ≡ f i
  table_at i h = ap (λ (l : List ℕ). get_or l i 0) e ∙ filled_at k f t i h

  table-beyond : drop k t' ≡ drop k t
  table-beyond = ap (drop k) e ∙ drop_at (values k f) (drop k t) k (values_length k f)

module _ (k n : ℕ) (w : Word) (m m' : Memory) (within : Within (form_of w))
    (b_table : m'.b ≡ filled k (exponent b_side (form_of w)) m.b)
    (a_table : m'.a ≡ filled k (exponent a_side (form_of w)) m.a)
    (bytes : m'.buffer ≡ sets m.buffer 0 (encode_word w))
    (count : n ≡ length (encode_word w)) (fits : n ≤ length m.buffer) where
  front : take n m'.buffer ≡ encode_word w
  front = ap (take n) bytes ∙ sets_front (encode_word w) m.buffer n (sym count) fits

  pub record_written : RecordWritten k m m' n w
  record_written = record {
    form = form_of w;
    bytes = front;
    count = (count, omega (arith, fits, ap length bytes, length-sets m.buffer 0 (encode_word w)));
    is_record = listed_record w (record { is = front; within = within });
    same_map = form_map w;
    b_table = table_at k (exponent b_side (form_of w)) m.b m'.b b_table;
    a_table = table_at k (exponent a_side (form_of w)) m.a m'.a a_table;
    beyond = (
      table-beyond k (exponent b_side (form_of w)) m.b m'.b b_table,
      table-beyond k (exponent a_side (form_of w)) m.a m'.a a_table,
      ap (drop n) bytes ∙ sets-beyond (encode_word w) m.buffer n (sym count) fits,
    );
  }
