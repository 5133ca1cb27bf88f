-- Room for a new entry, and what an entering comes to: 13 by the holder's live entries, 14 by the number and the bytes,
-- else the register with the entry. Assumes nothing.
use mathlib.Core.Path.{◌≡◌, refl, sym, ap, ◌∙◌}
use mathlib.Core.Bool.{Bool, true, false, cond}
use mathlib.Core.List.{List, [], ◌∷◌, ◌++◌, append_assoc, append-nil}
use Prim.Native.Nat.{ℕ, suc, ◌+◌, ◌<◌, ◌≤◌}
use native.Mathlib.Omega.{arith}
use lib.ListN.{length, length-append}
use lib.Dec.{ltb}
use borrow.Author.Tests.{le-ltb, lt-ltb, ltb-false}
use Rattle.group.specs.Forms.{Form}
use Rattle.refusals.specs.Outcomes.{accepted, refused}
use Rattle.refusals.proofs.Outcomes.{accepted_same, passed}
use Rattle.fields.specs.Fields.{four_bytes, head_size, field}
use Rattle.records.specs.Format.{encode}
use Rattle.registers.specs.Format.{Entry, Register, register_most, number_most, live_most, last_tag, entry_base, first_size}
use Rattle.registers.specs.Format.{entry_bytes, entries_bytes, register_bytes}
use Rattle.registers.specs.Reading.{live}
use Rattle.registers.proofs.Written.{Holds}
use Rattle.updates.specs.Entering.{with_entry, no_room, entered}

-- The bytes of entries, one behind another.
pub entries-append : (es ds : List Entry) → entries_bytes (es ++ ds) ≡ entries_bytes es ++ entries_bytes ds
entries-append [] ds = refl
entries-append (e ∷ es) ds =
    ap (λ (l : List ℕ). entry_bytes e ++ l) (entries-append es ds)
    ∙ sym (append_assoc (entry_bytes e) (entries_bytes es) (entries_bytes ds))

-- The bytes of a register with a new entry: its own with the next number, then the entry's.
pub parted : (r : Register) (h : ℕ) (f : Form)
    → register_bytes (with_entry r h f)
    ≡ register_bytes (record { last = suc r.last; entries = r.entries })
    ++ entry_bytes (record { number = suc r.last; holder = h; form = f })
parted r h f =
    let e : Entry = record { number = suc r.last; holder = h; form = f } in
    ap (λ (l : List ℕ). field last_tag (four_bytes (suc r.last)) ++ l)
    (entries-append r.entries (e ∷ [])
    ∙ ap (λ (l : List ℕ). entries_bytes r.entries ++ l) (append-nil (entry_bytes e)))

pub entry_length_lem : (e : Entry) → length (entry_bytes e) ≡ head_size + entry_base + length (encode e.form)
entry_length_lem e = omega arith

pub grown-length : (r : Register) (h : ℕ) (f : Form)
    → length (register_bytes (with_entry r h f))
    ≡ length (register_bytes r) + (head_size + entry_base + length (encode f))
grown-length r h f =
    let e : Entry = record { number = suc r.last; holder = h; form = f } in
    let same : Register = record { last = suc r.last; entries = r.entries } in
    omega (
      arith,
      ap length (parted r h f),
      length-append (register_bytes same) (entry_bytes e),
      entry_length_lem e,
    )

-- What an entering comes to, by its tests.
module _ (r : Register) (n h : ℕ) (f : Form) where
  -- The holder has four.
  pub entered_full : live_most ≤ live h r.entries → entered r n h (f ∷ []) ≡ refused 13 0
  entered_full le =
      let m : live_most < live h r.entries + 1 = omega (arith, le) in
      simp (lt-ltb live_most (live h r.entries + 1) m)

  -- It has fewer: the number and the bytes are tested.
  pub entered_room : live h r.entries < live_most → entered r n h (f ∷ []) ≡ no_room (with_entry r h f) n
  entered_room lt =
      let m : live h r.entries + 1 ≤ live_most = omega (arith, lt) in
      simp (le-ltb live_most (live h r.entries + 1) m)

  -- The highest number was given.
  pub entered_last : live h r.entries < live_most → number_most ≤ r.last → entered r n h (f ∷ []) ≡ refused 14 0
  entered_last lt le =
      let m : number_most < suc r.last = omega (arith, le) in
      entered_room lt ∙ simp (lt-ltb number_most (suc r.last) m)

  -- The entry does not fit, whatever the number.
  pub entered_large : live h r.entries < live_most
      → n < length (register_bytes r) + (head_size + entry_base + length (encode f))
      → entered r n h (f ∷ []) ≡ refused 14 0
  entered_large lt le =
      let m : n < length (register_bytes (with_entry r h f)) = omega (arith, le, grown-length r h f) in
      entered_room lt
      ∙ go (ltb number_most (suc r.last)) (ltb n (length (register_bytes (with_entry r h f))))
      (lt-ltb n (length (register_bytes (with_entry r h f))) m)
    where
      go : (p q : Bool) → q ≡ true
          → cond p (refused 14 0) (cond q (refused 14 0) (accepted (with_entry r h f))) ≡ refused 14 0
      go true q e = refl
      go false q e = rw e refl

  -- It fits.
  pub entered-fits : live h r.entries < live_most → r.last < number_most
      → length (register_bytes r) + (head_size + entry_base + length (encode f)) ≤ n
      → entered r n h (f ∷ []) ≡ accepted (with_entry r h f)
  entered-fits lt low le =
      let m : suc r.last ≤ number_most = omega (arith, low) in
      let k : length (register_bytes (with_entry r h f)) ≤ n = omega (arith, le, grown-length r h f) in
      entered_room lt
      ∙ go (ltb number_most (suc r.last)) (ltb n (length (register_bytes (with_entry r h f))))
      (le-ltb number_most (suc r.last) m) (le-ltb n (length (register_bytes (with_entry r h f))) k)
    where
      go : (p q : Bool) → p ≡ false → q ≡ false
          → cond p (refused 14 0) (cond q (refused 14 0) (accepted (with_entry r h f))) ≡ accepted (with_entry r h f)
      go p q a b = rw a (rw b refl)

  -- What an accepted entering tells.
  pub record Room : Type 0 where
    pub live_few : live h r.entries < live_most
    pub last_low : r.last < number_most
    pub room : length (register_bytes r) + (head_size + entry_base + length (encode f)) ≤ n

  pub entered_accepted : (q : Register) → entered r n h (f ∷ []) ≡ accepted q → (q ≡ with_entry r h f) × Room
  entered_accepted q e =
      let few = passed (ltb live_most (live h r.entries + 1)) 13 0 (no_room (with_entry r h f) n) q e in
      let number = passed (ltb number_most (suc r.last)) 14 0 _ q few.1 in
      let size = passed (ltb n (length (register_bytes (with_entry r h f)))) 14 0 _ q number.1 in (
        sym (accepted_same size.1),
        record {
          live_few = omega (arith, ltb-false live_most (live h r.entries + 1) few.0);
          last_low = omega (arith, ltb-false number_most (suc r.last) number.0);
          room =
              omega (
                arith,
                ltb-false n (length (register_bytes (with_entry r h f))) size.0,
                grown-length r h f,
              );
        },
      )

-- A register in a buffer with room for a new entry: where it goes, and how long the buffer is.
pub record RoomIn (s : List ℕ) (r : Register) (h : ℕ) (f : Form) : Type 0 where
  pub live_few : live h r.entries < live_most
  pub last_low : r.last < number_most
  pub room : length (register_bytes r) + (head_size + entry_base + length (encode f)) ≤ length s
  pub behind : first_size ≤ length (register_bytes r)
  pub short : length s ≤ register_most

pub room_in : (s : List ℕ) (r : Register) (h : ℕ) (f : Form) → Holds s r
    → entered r (length s) h (f ∷ []) ≡ accepted (with_entry r h f) → RoomIn s r h f
room_in s r h f w e =
    let q = (entered_accepted r (length s) h f (with_entry r h f) e).1 in
    record {
      live_few = q.live_few;
      last_low = q.last_low;
      room = q.room;
      behind = omega arith;
      short = w.short;
    }
