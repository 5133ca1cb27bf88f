-- A new entry changes the first field's number and what stands behind the last entry: `stored` by three writes.
-- Assumes nothing.
use mathlib.Core.Path.{◌≡◌, refl, sym, ap, ap₂, ◌∙◌, subst}
use mathlib.Core.List.{List, ◌++◌, append_assoc}
use Prim.Native.Nat.{ℕ, suc, ◌+◌}
use native.Mathlib.Omega.{arith}
use lib.ListN.{length, drop, length-append}
use lib.Seq.{take_at, drop_at, sets, sets-eq}
use Rattle.lists.proofs.Writes.{sets-append}
use Rattle.group.specs.Forms.{Form}
use Rattle.fields.specs.Fields.{four_bytes, head_size, field}
use Rattle.registers.specs.Format.{Entry, Register, last_tag, entry_bytes, entries_bytes, register_bytes, end_mark, stored}
use Rattle.registers.proofs.Written.{Holds}
use Rattle.updates.specs.Entering.{with_entry}
use Rattle.updates.proofs.Fitting.{parted}

-- What stands at a place, written there again, changes nothing.
sets_again : (p v q : List ℕ) → sets (p ++ (v ++ q)) (length p) v ≡ p ++ (v ++ q)
sets_again p v q =
    sets-eq v (p ++ (v ++ q)) (length p) (omega (arith, length-append p (v ++ q), length-append v q))
    ∙ ap₂ (λ (x y : List ℕ). (x ++ v) ++ y) (take_at p (v ++ q) (length p) refl)
    (ap (λ (l : List ℕ). drop (length p + length v) l) (sym (append_assoc p v q))
    ∙ drop_at (p ++ v) q (length p + length v) (length-append p v))
    ∙ append_assoc p v q

-- The first field and the entries again, over a buffer that begins with a register: only the number is new.
pub front_again : (last next : ℕ) (es : List Entry) (tail : List ℕ)
    → sets (register_bytes (record { last = last; entries = es }) ++ tail) 0
    (register_bytes (record { last = next; entries = es }))
    ≡ sets (register_bytes (record { last = last; entries = es }) ++ tail) head_size (four_bytes next)
front_again last next es tail = sets_again (field last_tag (four_bytes next)) (entries_bytes es) tail

-- The three writes of a new entry.
module _ (s : List ℕ) (r : Register) (h : ℕ) (f : Form) (w : Holds s r) where
  abbrev e : Entry
  e = record { number = suc r.last; holder = h; form = f }

  abbrev same : Register
  same = record { last = suc r.last; entries = r.entries }

  abbrev mark : List ℕ
  mark = end_mark (length (register_bytes (with_entry r h f))) (length s)

  front : sets s 0 (register_bytes same) ≡ sets s head_size (four_bytes (suc r.last))
  front =
      subst (λ (x : List ℕ). sets x 0 (register_bytes same) ≡ sets x head_size (four_bytes (suc r.last)))
      (sym w.written)
      (front_again r.last (suc r.last) r.entries w.tail)

  pub only_new : stored (with_entry r h f) s
      ≡ sets (sets (sets s head_size (four_bytes (suc r.last))) (length (register_bytes r)) (entry_bytes e))
      (length (register_bytes r) + length (entry_bytes e)) mark
  only_new =
      let place : 0 + length (register_bytes same) ≡ length (register_bytes r) = omega arith in
      ap (λ (l : List ℕ). sets s 0 (l ++ mark)) (parted r h f)
      ∙ ap (λ (l : List ℕ). sets s 0 l) (append_assoc (register_bytes same) (entry_bytes e) mark)
      ∙ sym (sets-append (register_bytes same) s 0 (entry_bytes e ++ mark))
      ∙ ap₂ (λ (x : List ℕ) (n : ℕ). sets x n (entry_bytes e ++ mark)) front place
      ∙ sym (sets-append (entry_bytes e) (sets s head_size (four_bytes (suc r.last))) (length (register_bytes r)) mark)
