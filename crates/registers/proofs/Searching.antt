-- The search for a record, entry by entry. Assumes nothing.
use mathlib.Core.Path.{◌≡◌, refl, sym, ap, ◌∙◌}
use mathlib.Core.Bool.{Bool, true, false}
use mathlib.Core.List.{List}
use mathlib.Core.Option.{none, some}
use Prim.Native.Nat.{ℕ, zero, suc, ◌+◌, ◌-◌, ◌≤◌}
use native.Mathlib.Omega.{arith}
use lib.ListN.{length, take, drop, length-drop}
use lib.Seq.{drop-drop}
use Rattle.std.specs.Prelude.{Some, None}
use Rattle.lists.specs.SameBytes.{same_bytes}
use Rattle.lists.proofs.SameBytes.{same_bytes_lem, bytes_same}
use Rattle.registers.specs.declared.Heading.{Heading}
use Rattle.registers.specs.Format.{first_size}
use Rattle.registers.specs.Reading.{entry_size, entry_stands, number_in, record_in}
use Rattle.registers.specs.Finding.{find_in, found}
use Rattle.registers.specs.Answers.{search_of}
use Rattle.registers.proofs.EntryHeads.{stands_true, EntryStood, record_part, next_is}

-- What is left to search, with as many entries left as there can be.
pub record Searching (s bytes : List ℕ) (at : ℕ) : Type 0 where
  pub fuel : ℕ
  pub enough : length s ≤ fuel + at
  pub goes_on : find_in fuel (drop at s) bytes ≡ found s bytes

pub search_starts : (s bytes : List ℕ) → Searching s bytes first_size
search_starts s bytes = record { fuel = length s; enough = omega arith; goes_on = refl }

-- One entry.
find_none : (k : ℕ) (s bytes : List ℕ) → entry_stands s ≡ false → find_in k s bytes ≡ none
unfolding find_in
find_none zero s bytes e = refl
find_none (suc k) s bytes e = simp e

find_same : (k : ℕ) (s bytes : List ℕ) → entry_stands s ≡ true → same_bytes (record_in s) bytes ≡ true
    → find_in (suc k) s bytes ≡ some (number_in s)
unfolding find_in
find_same k s bytes e same = simp (e, same)

find_other : (k : ℕ) (s bytes : List ℕ) → entry_stands s ≡ true → same_bytes (record_in s) bytes ≡ false
    → find_in (suc k) s bytes ≡ find_in k (drop (entry_size s) s) bytes
unfolding find_in
find_other k s bytes e other = simp (e, other)

-- None stands there.
pub search_none : {s bytes : List ℕ} {at : ℕ} → Searching s bytes at → entry_stands (drop at s) ≡ false
    → None ≡ search_of (found s bytes)
search_none {s} {bytes} {at} w e =
    ap search_of (sym (find_none w.fuel (drop at s) bytes e) ∙ w.goes_on)

-- One with the record.
pub search_same : {s bytes : List ℕ} {at : ℕ} {h : Heading} → Searching s bytes at → EntryStood s at h
    → take (h.next - h.start) (drop h.start s) ≡ bytes → Some h.number ≡ search_of (found s bytes)
search_same {s} {bytes} {at} {h} w e is = go w.fuel w.enough w.goes_on
  where
    same : same_bytes (record_in (drop at s)) bytes ≡ true
    same = rw (sym (sym (record_part e.headed e.head) ∙ is)) (bytes_same (record_in (drop at s)))

    go : (k : ℕ) → length s ≤ k + at → find_in k (drop at s) bytes ≡ found s bytes
        → Some h.number ≡ search_of (found s bytes)
    go zero le on = absurd (omega (arith, e.stands.whole, length-drop at s))
    go (suc k) le on =
        ap (λ (g : Heading). Some g.number) e.head
        ∙ ap search_of (sym (find_same k (drop at s) bytes (stands_true e.stands) same) ∙ on)

-- One with another record.
pub search_more : {s bytes : List ℕ} {at : ℕ} {h : Heading} {r : Bool} → Searching s bytes at → EntryStood s at h
    → (take (h.next - h.start) (drop h.start s) ≡ bytes → r ≡ true) → r ≡ false → Searching s bytes h.next
search_more {s} {bytes} {at} {h} {r} w e if-same not_same = go w.fuel w.enough w.goes_on
  where
    differs : (p : Bool) → same_bytes (record_in (drop at s)) bytes ≡ p → p ≡ false
    differs true q =
        let is = if-same (record_part e.headed e.head ∙ same_bytes_lem (record_in (drop at s)) bytes q) in
        let z : ◌≡◌ {A = ℕ} 0 1 = cc in
        absurd (omega arith)
    differs false q = refl

    go : (k : ℕ) → length s ≤ k + at → find_in k (drop at s) bytes ≡ found s bytes → Searching s bytes h.next
    go zero le on = absurd (omega (arith, e.stands.whole, length-drop at s))
    go (suc k) le on =
        let behind : drop (entry_size (drop at s)) (drop at s) ≡ drop h.next s =
        drop-drop (entry_size (drop at s)) at s ∙ ap (λ (j : ℕ). drop j s) (sym (next_is e.headed e.head)) in
        let is = differs (same_bytes (record_in (drop at s)) bytes) refl in
        record {
          fuel = k;
          enough = omega (arith, next_is e.headed e.head);
          goes_on =
              ap (λ (l : List ℕ). find_in k l bytes) (sym behind)
              ∙ sym (find_other k (drop at s) bytes (stands_true e.stands) is) ∙ on;
        }
