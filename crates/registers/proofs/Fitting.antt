-- The tests of one entry against those before it. Assumes nothing.
use mathlib.Core.Path.{◌≡◌, refl, sym, ap, ◌∙◌}
use mathlib.Core.Bool.{Bool, true, false}
use mathlib.Core.List.{List}
use Prim.Native.Nat.{ℕ, ◌-◌}
use lib.ListN.{take, drop}
use lib.Dec.{ltb}
use Rattle.registers.specs.declared.Heading.{Heading}
use Rattle.registers.specs.Format.{live_most}
use Rattle.clause.specs.Clause.{both}
use Rattle.registers.specs.Reading.{number_in, holder_in, record_in, stored_in}
use Rattle.registers.specs.inside.Steps.{EntryHead, accepts, is_new_value, entry_fits}
use Rattle.registers.specs.inside.Steps.{fingerprint, count_at}
use Rattle.registers.proofs.EntryHeads.{EntryStood, record_part}

-- The head of an entry that stands, with the fingerprint of its part of the buffer, and that of a head.
pub entry_head : {s : List ℕ} {at : ℕ} {h : Heading} {x : ℕ} → EntryStood s at h
    → x ≡ fingerprint (take (h.next - h.start) (drop h.start s)) → EntryHead s at h x
entry_head e p =
    record { stands = e.headed; head = e.head; print = p ∙ ap fingerprint (record_part e.headed e.head) }

pub print_is : {s : List ℕ} {at : ℕ} {h : Heading} {x : ℕ} → EntryHead s at h x
    → x ≡ fingerprint (take (h.next - h.start) (drop h.start s))
print_is e = e.print ∙ ap fingerprint (sym (record_part e.stands e.head))

-- The entry's own tests, one after another; the record is a part of the buffer.
module _ {s : List ℕ} {at : ℕ} {h : Heading} {x : ℕ} (e : EntryHead s at h x) (low : ℕ) (table : List ℕ) where
  abbrev bytes : List ℕ
  bytes = take (h.next - h.start) (drop h.start s)

  bytes_are : bytes ≡ record_in (drop at s)
  bytes_are = record_part e.stands e.head

  number_is : h.number ≡ number_in (drop at s)
  number_is = ap (λ (g : Heading). g.number) e.head

  holder_is : h.holder ≡ holder_in (drop at s)
  holder_is = ap (λ (g : Heading). g.holder) e.head

  -- The tests, by the head and the part of the buffer.
  pub fits_so : entry_fits s at low table
      ≡ both (ltb low h.number)
      (both (accepts (stored_in bytes))
      (both (ltb (count_at table h.holder) live_most) (is_new_value s bytes table low)))
  fits_so = rw (number_is, holder_is, bytes_are) refl

-- Four tests in a row, of which the last is made where the three before it hold.
pub and_then : {a r v : Bool} → a ≡ true → v ≡ r → v ≡ both a r
and_then e k = rw e k

pub and_else : {a v : Bool} (r : Bool) → v ≡ a → a ≡ false → v ≡ both a r
and_else r k e = rw e (k ∙ e)

pub all_four : (a b d e v w r : Bool) → v ≡ both a b → w ≡ both v d → w ≡ true → r ≡ e
    → r ≡ both a (both b (both d e))
all_four true true true e v w r p q t k = k
all_four true true false e v w r p q t k = cc
all_four true false d e v w r p q t k = cc
all_four false b d e v w r p q t k = cc

pub not_three : (a b d e v w : Bool) → v ≡ both a b → w ≡ both v d → w ≡ false → w ≡ both a (both b (both d e))
not_three true true true e v w p q t = cc
not_three true true false e v w p q t = t
not_three true false d e v w p q t = t
not_three false b d e v w p q t = t
