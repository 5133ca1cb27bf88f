-- A register at the front of a buffer is read back, and one that was stored stands there. Assumes nothing.
use mathlib.Core.Path.{◌≡◌, refl, ap, ◌∙◌}
use mathlib.Core.Bool.{Bool, true, false, cond}
use mathlib.Core.List.{List, [], ◌∷◌, ◌++◌, append_assoc, append-nil}
use Prim.Native.Nat.{ℕ, zero, suc, ◌+◌, ◌-◌, ◌≤◌}
use native.Mathlib.Omega.{arith}
use native.Mathlib.Nat.{not-suc-le-zero}
use lib.ListN.{length, drop, length-append, drop_of_length-le}
use lib.Dec.{ltb}
use lib.Seq.{take_at, drop_at, sets, sets-eq}
use borrow.Author.Tests.{le-ltb, ltb-true, ltb-false}
use Rattle.group.specs.Forms.{Form}
use Rattle.refusals.specs.Outcomes.{Outcome, accepted, refused, then}
use Rattle.fields.specs.Fields.{two_bytes, two_at, four_bytes, four_at_value, head_size}
use Rattle.fields.proofs.Numbers.{two_read, four_read}
use Rattle.records.specs.Format.{encode}
use Rattle.registers.specs.Format.{Entry, Register, register_most, number_size, entry_base, first_size}
use Rattle.registers.specs.Format.{entry_bytes, entries_bytes, register_bytes, stored}
use Rattle.registers.specs.Reading.{ends, entry_size, number_in, holder_in, record_in, entry_stands, stored_in}
use Rattle.registers.specs.Reading.{entry_of, read_entry, read_entries, sound, judged_entries, read_register}

-- An entry at the front of bytes.
module _ (e : Entry) (rest : List ℕ) where
  abbrev pub at_front : List ℕ
  at_front = entry_bytes e ++ rest

  pub number_back : number_in at_front ≡ e.number
  number_back = four_read at_front (two_bytes e.holder ++ (encode e.form ++ rest)) head_size e.number refl

  pub holder_back : holder_in at_front ≡ e.holder
  holder_back = two_read at_front (encode e.form ++ rest) (head_size + number_size) e.holder refl

  pub size_back : two_at at_front 1 ≡ entry_base + length (encode e.form)
  size_back =
      two_read at_front (four_bytes e.number ++ (two_bytes e.holder ++ (encode e.form ++ rest))) 1 _ refl
      ∙ omega arith

  pub length_back : length at_front ≡ head_size + entry_base + length (encode e.form) + length rest
  length_back = omega (arith, length-append (encode e.form) rest)

  pub rest_back : drop (entry_size at_front) at_front ≡ rest
  rest_back =
      let n : entry_size at_front ≡ length (entry_bytes e) = omega (arith, size_back) in
      ap (λ (k : ℕ). drop k at_front) n ∙ drop_at (encode e.form) rest (length (encode e.form)) refl

  pub record_back : record_in at_front ≡ encode e.form
  record_back = take_at (encode e.form) rest (two_at at_front 1 - entry_base) (omega (arith, size_back))

  -- It stands there.
  pub one_stands : entry_stands at_front ≡ true
  one_stands =
      go (ltb (length at_front) (entry_size at_front)) (ltb (two_at at_front 1) entry_base)
      (le-ltb (length at_front) (entry_size at_front) (omega (arith, size_back, length_back)))
      (le-ltb (two_at at_front 1) entry_base (omega (arith, size_back)))
    where
      go : (p q : Bool) → p ≡ false → q ≡ false → cond p false (cond q false true) ≡ true
      go p q a b = rw a (rw b refl)

  -- It is read back.
  pub entry_back : stored_in (encode e.form) ≡ accepted e.form → read_entry at_front ≡ accepted e
  entry_back h =
      go (entry_stands at_front) one_stands (number_in at_front) (holder_in at_front) (stored_in (record_in at_front))
      number_back holder_back (ap stored_in record_back ∙ h)
    where
      go : (p : Bool) → p ≡ true → (n k : ℕ) (o : Outcome Form) → n ≡ e.number → k ≡ e.holder
          → o ≡ accepted e.form → cond p (entry_of n k o) (refused 12 0) ≡ accepted e
      go p hp n k o a b c = rw hp (rw a (rw b (rw c refl)))

-- Entries whose records are read back as stored ones.
abbrev pub Readable : List Entry → Type 0
Readable [] = Unit {0}
Readable (e ∷ es) = (stored_in (encode e.form) ≡ accepted e.form) × Readable es

entries_step : (e : Entry) (es : List Entry) (rest : List ℕ) (k : ℕ)
    → stored_in (encode e.form) ≡ accepted e.form → read_entries k rest ≡ accepted es
    → read_entries (suc k) (entry_bytes e ++ rest) ≡ accepted (e ∷ es)
unfolding read_entries
entries_step e es rest k h g =
    go (read_entry (entry_bytes e ++ rest))
    (read_entries k (drop (entry_size (entry_bytes e ++ rest)) (entry_bytes e ++ rest)))
    (entry_back e rest h) (ap (read_entries k) (rest_back e rest) ∙ g)
  where
    go : (o : Outcome Entry) (q : Outcome (List Entry)) → o ≡ accepted e → q ≡ accepted es
        → then o (λ x. then q (λ xs. accepted (x ∷ xs))) ≡ accepted (e ∷ es)
    go o q a b = rw a (rw b refl)

-- What an entry takes of the bytes left.
pub bytes_left : (e : Entry) (es : List Entry) (tail : List ℕ) (k : ℕ)
    → length (entries_bytes (e ∷ es) ++ tail) ≤ suc k → length (entries_bytes es ++ tail) ≤ k
bytes_left e es tail k n =
    omega (
      arith,
      n,
      ap length (append_assoc (entry_bytes e) (entries_bytes es) tail),
      length-append (entry_bytes e) (entries_bytes es ++ tail),
    )

pub entries_back : (es : List Entry) (tail : List ℕ) (k : ℕ) → Readable es → ends tail ≡ true
    → length (entries_bytes es ++ tail) ≤ k → read_entries k (entries_bytes es ++ tail) ≡ accepted es
unfolding read_entries
entries_back [] tail zero h t n = refl
entries_back [] tail (suc k) h t n = rw t refl
entries_back (e ∷ es) tail zero h t n = absurd (not-suc-le-zero n)
entries_back (e ∷ es) tail (suc k) h t n =
    ap (read_entries (suc k)) (append_assoc (entry_bytes e) (entries_bytes es) tail)
    ∙ entries_step e es (entries_bytes es ++ tail) k h.0
    (entries_back es tail k h.1 t (bytes_left e es tail k n))

-- Where the register is the front of a buffer, and its entries end there.
pub register_front : (r : Register) (tail : List ℕ) → Readable r.entries → sound r.last r.entries ≡ true
    → ends tail ≡ true → length (register_bytes r ++ tail) ≤ register_most
    → read_register (register_bytes r ++ tail) ≡ accepted r
register_front r tail h g t n =
    let s : List ℕ = register_bytes r ++ tail in
    let long : ltb register_most (length s) ≡ false = le-ltb register_most (length s) n in
    let room : ltb (length s) first_size ≡ false =
    le-ltb (length s) first_size (omega (arith, length-append (entries_bytes r.entries) tail)) in
    let read : read_entries (length s) (drop first_size s) ≡ accepted r.entries =
    entries_back r.entries tail (length s) h t (omega arith) in
    go (ltb register_most (length s)) (ltb (length s) first_size) long room (read_entries (length s) (drop first_size s))
    (four_at_value s head_size) read (four_read s (entries_bytes r.entries ++ tail) head_size r.last refl)
  where
    go : (p q : Bool) → p ≡ false → q ≡ false → (o : Outcome (List Entry)) (l : ℕ) → o ≡ accepted r.entries
        → l ≡ r.last
        → cond (cond p false (cond q false true)) (then o (λ es. judged_entries l es)) (refused 12 0) ≡ accepted r
    go p q hp hq o l a b = rw hp (rw hq (rw a (rw b (rw g refl))))

-- What `stored` puts at the front of a buffer.
pub stored_front : (r : Register) (s : List ℕ) → length (register_bytes r) ≤ length s
    → (tail : List ℕ) × (stored r s ≡ register_bytes r ++ tail) × (ends tail ≡ true)
stored_front r s h = go (ltb (length (register_bytes r)) (length s)) refl
  where
    go : (p : Bool) → ltb (length (register_bytes r)) (length s) ≡ p
        → (tail : List ℕ) × (stored r s ≡ register_bytes r ++ tail) × (ends tail ≡ true)
    go true p =
        let lt = ltb-true (length (register_bytes r)) (length s) p in
        let more = length-append (register_bytes r) (0 ∷ []) in (
          0 ∷ drop (length (register_bytes r) + 1) s,
          rw p (sets-eq (register_bytes r ++ (0 ∷ [])) s 0 (omega (arith, more, lt))
              ∙ append_assoc (register_bytes r) (0 ∷ []) (drop (0 + length (register_bytes r ++ (0 ∷ []))) s)
              ∙ ap (λ (k : ℕ). register_bytes r ++ (0 ∷ drop k s)) (last_place more)),
          refl,
        )
      where
        last_place : length (register_bytes r ++ (0 ∷ [])) ≡ length (register_bytes r) + 1
            → 0 + length (register_bytes r ++ (0 ∷ [])) ≡ length (register_bytes r) + 1
        last_place e = omega (arith, e)
    go false p =
        let le = ltb-false (length (register_bytes r)) (length s) p in (
          [],
          rw p (ap (λ (l : List ℕ). sets s 0 l) (append-nil (register_bytes r))
              ∙ sets-eq (register_bytes r) s 0 (omega (arith, h))
              ∙ ap (λ (l : List ℕ). register_bytes r ++ l)
              (drop_of_length-le s {i = 0 + length (register_bytes r)} (omega (arith, le)))),
          refl,
        )
