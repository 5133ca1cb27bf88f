-- The frame of a record: the tests of `frames` are those of two fields with whole entries.
--     Frame s     what `frames` tests, in numbers
-- Assumes nothing.
use mathlib.Core.Path.{◌≡◌, refl, sym, ◌∙◌, ap, ap₂}
use mathlib.Core.Bool.{true}
use mathlib.Core.List.{List, ◌∷◌, ◌++◌, append-nil}
use mathlib.Core.Logic.{◌↔◌}
use Prim.Native.Nat.{ℕ, suc, ◌+◌, ◌/◌, ◌%◌, ◌≤◌}
use native.Mathlib.Omega.{arith}
use lib.Dec.{eqb, ltb}
use lib.ListN.{length, get_or, drop, length-append}
use lib.Seq.{drop-cons, drop_at, drop-length}
use borrow.Author.Tests.{ltb-false, eqb-true, le-ltb, eq-eqb}
use Rattle.records.specs.Format.{entries, b_tag, a_tag, base_size}
use Rattle.fields.specs.Fields.{two_bytes, field, two_at, Bytes}
use Rattle.records.specs.Reading.{b_length, a_start, a_length, frames, entries_at, b_powers, a_powers}
use Rattle.records.specs.Faults.{Framed}
use Rattle.records.proofs.Tests.{both_left, both_right_lem, true_both, unless_fails, unless_passes, fails_unless}
use Rattle.fields.proofs.Numbers.{drop_on, read_at, two_read, two_written}
use Rattle.records.proofs.Lengths.{entries-length}
use Rattle.records.proofs.WrittenEntries.{entries_at_length, entries_written}

-- The tests of `frames`, in numbers.
pub record Frame (s : List ℕ) : Type 0 where
  pub room : a_start s ≤ length s
  pub b_tag_is : get_or s 0 0 ≡ b_tag
  pub a_tag_is : get_or s (3 + b_length s) 0 ≡ a_tag
  pub ends : length s ≡ a_start s + a_length s
  pub b_whole : b_length s % 4 ≡ 0
  pub a_whole : a_length s % 4 ≡ 0

pub frames→frame : (s : List ℕ) → frames s ≡ true → Frame s
frames→frame s e =
    let p = unless_passes (ltb (length s) base_size) _ e in
    let q = unless_passes (ltb (length s) (a_start s)) _ p in
    let r = both_right_lem (eqb (get_or s 0 0) b_tag) _ q in
    let t = both_right_lem (eqb (get_or s (3 + b_length s) 0) a_tag) _ r in
    let w = both_right_lem (eqb (length s) (a_start s + a_length s)) _ t in
    record {
      room = ltb-false (length s) (a_start s) (unless_fails (ltb (length s) (a_start s)) _ p);
      b_tag_is = eqb-true (get_or s 0 0) b_tag (both_left (eqb (get_or s 0 0) b_tag) _ q);
      a_tag_is = eqb-true (get_or s (3 + b_length s) 0) a_tag (both_left (eqb (get_or s (3 + b_length s) 0) a_tag) _ r);
      ends = eqb-true (length s) (a_start s + a_length s) (both_left (eqb (length s) (a_start s + a_length s)) _ t);
      b_whole = eqb-true (b_length s % 4) 0 (both_left (eqb (b_length s % 4) 0) _ w);
      a_whole = eqb-true (a_length s % 4) 0 (both_right_lem (eqb (b_length s % 4) 0) _ w);
    }

pub frame→frames : (s : List ℕ) → Frame s → frames s ≡ true
frame→frames s h =
    fails_unless (ltb (length s) base_size) _ (le-ltb (length s) base_size (omega (arith, h.room)))
    (fails_unless (ltb (length s) (a_start s)) _ (le-ltb (length s) (a_start s) h.room)
    (true_both (eqb (get_or s 0 0) b_tag) _ (eq-eqb (get_or s 0 0) b_tag h.b_tag_is)
    (true_both (eqb (get_or s (3 + b_length s) 0) a_tag) _ (eq-eqb (get_or s (3 + b_length s) 0) a_tag h.a_tag_is)
    (true_both (eqb (length s) (a_start s + a_length s)) _ (eq-eqb (length s) (a_start s + a_length s) h.ends)
    (true_both (eqb (b_length s % 4) 0) (eqb (a_length s % 4) 0)
    (eq-eqb (b_length s % 4) 0 h.b_whole) (eq-eqb (a_length s % 4) 0 h.a_whole))))))

-- The two fields of the bodies b and a, one behind the other.
module _ (b a : List ℕ) where
  abbrev pub fields : List ℕ
  fields = field b_tag b ++ field a_tag a

  pub fields_b : b_length fields ≡ length b
  fields_b = omega arith

  -- What follows the b side's field.
  fields_behind : drop (3 + b_length fields) fields ≡ field a_tag a
  fields_behind =
      drop_on fields (b ++ field a_tag a) 3 (b_length fields) (3 + b_length fields) refl refl
      ∙ drop_at b (field a_tag a) (b_length fields) (sym fields_b)

  pub fields_a : a_length fields ≡ length a
  fields_a =
      two_read fields a (4 + b_length fields) (length a)
      (drop_on fields (field a_tag a) (3 + b_length fields) 1 (4 + b_length fields) fields_behind (omega arith))

  -- What follows the start of the a side's body.
  pub fields_start : drop (a_start fields) fields ≡ a
  fields_start = drop_on fields (field a_tag a) (3 + b_length fields) 3 (a_start fields) fields_behind (omega arith)

  pub fields_frame : length b % 4 ≡ 0 → length a % 4 ≡ 0 → Frame fields
  fields_frame h k =
      let n : length fields ≡ 6 + length b + length a = omega (arith, length-append b (field a_tag a)) in
      record {
        room = omega (arith, fields_b);
        b_tag_is = refl;
        a_tag_is = read_at fields (field a_tag a) (3 + b_length fields) fields_behind;
        ends = omega (arith, fields_b, fields_a);
        b_whole = ap (λ (m : ℕ). m % 4) fields_b ∙ h;
        a_whole = ap (λ (m : ℕ). m % 4) fields_a ∙ k;
      }

-- Bytes with a tag, a length and so many bytes are the field of the entries that are read.
field_written : (s : List ℕ) (tag at k j m : ℕ) → Bytes s → k ≡ at + 1 → j ≡ at + 3 → m ≡ j + two_at s k
    → m ≤ length s → get_or s at 0 ≡ tag → two_at s k % 4 ≡ 0
    → drop at s ≡ field tag (entries (entries_at s j (two_at s k / 4))) ++ drop m s
field_written s tag at k j m bytes p q r h e w =
    drop-cons s at 0 (omega arith)
    ∙ ap₂ (λ (x n : ℕ). x ∷ drop n s) e next
    ∙ ap (λ (l : List ℕ). tag ∷ l) (two_written s k j bytes (omega arith) (omega arith))
    ∙ ap₂ (λ (n : ℕ) (l : List ℕ). tag ∷ (two_bytes n ++ l)) size
    (entries_written s j (two_at s k / 4) m bytes (omega arith) h)
  where
    next : suc at ≡ k
    next = omega arith

    size : two_at s k ≡ length (entries (entries_at s j (two_at s k / 4)))
    size = omega (arith, entries-length (entries_at s j (two_at s k / 4)), entries_at_length s j (two_at s k / 4))

-- Bytes that two fields frame are the fields of the entries that are read.
pub frame_written : (s : List ℕ) → Bytes s → Frame s → s ≡ fields (entries (b_powers s)) (entries (a_powers s))
frame_written s bytes h =
    field_written s b_tag 0 1 3 (3 + b_length s) bytes refl refl refl (omega (arith, h.room)) h.b_tag_is h.b_whole
    ∙ ap (λ (l : List ℕ). field b_tag (entries (b_powers s)) ++ l)
    (field_written s a_tag (3 + b_length s) (4 + b_length s) (a_start s) (length s) bytes (omega arith) (omega arith)
    h.ends (omega arith) h.a_tag_is h.a_whole
    ∙ ap (λ (l : List ℕ). field a_tag (entries (a_powers s)) ++ l) (drop-length s)
    ∙ append-nil (field a_tag (entries (a_powers s))))

entries_whole : (s : List ℕ) (at k : ℕ) → length (entries (entries_at s at k)) % 4 ≡ 0
entries_whole s at k = omega (arith, entries-length (entries_at s at k), entries_at_length s at k)

-- The tests pass just where two fields with whole entries frame the bytes.
pub frames↔framed : (s : List ℕ) → Bytes s → (frames s ≡ true) ↔ Framed s
frames↔framed s bytes = ((λ e. framed (frames→frame s e)), (λ h. frame→frames s (frame h)))
  where
    framed : Frame s → Framed s
    framed h =
        record {
          b_body = entries (b_powers s);
          a_body = entries (a_powers s);
          bytes = frame_written s bytes h;
          b_whole = entries_whole s 3 (b_length s / 4);
          a_whole = entries_whole s (a_start s) (a_length s / 4);
        }

    frame : Framed s → Frame s
    frame h = rw h.bytes (fields_frame h.b_body h.a_body h.b_whole h.a_whole)
