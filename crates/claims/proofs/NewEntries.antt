-- A register with a new entry, written over the buffer of the old one: only its number, the entry and the byte behind
-- it are changed. Assumes nothing.
use mathlib.Core.Path.{◌≡◌, refl, ap, ◌∙◌}
use mathlib.Core.Bool.{Bool, true, false, cond}
use mathlib.Core.List.{List, [], ◌∷◌, ◌++◌, append_assoc}
use mathlib.Core.Logic.{◌⊎◌, inl, inr}
use Prim.Native.Nat.{ℕ, suc, ◌+◌, ◌<◌, ◌≤◌}
use native.Mathlib.Omega.{arith}
use lib.Dec.{ltb}
use lib.ListN.{length, take, drop, get_or, set, length-append}
use lib.Seq.{sets, length-sets, get_or-set_other, take_at, drop_at, get_or_at}
use Rattle.group.specs.Forms.{Form}
use Rattle.fields.specs.Fields.{four_bytes, head_size}
use Rattle.records.specs.Format.{encode}
use Rattle.registers.specs.Format.{Entry, Register, entry_base}
use Rattle.registers.specs.Format.{entry_field, entry_bytes, register_bytes, end_mark, stored}
use Rattle.registers.specs.Reading.{ends}
use Rattle.registers.proofs.ReadBack.{stored_front}
use Rattle.registers.proofs.WellFormed.{ends_so}
use Rattle.registers.proofs.Written.{Holds}
use Rattle.updates.specs.Entering.{with_entry}
use Rattle.updates.proofs.Fitting.{parted, entry_length_lem, grown-length}
use Rattle.updates.proofs.OnlyNew.{only_new}
use Rattle.claims.specs.Registers.{OnlyNew}

-- What is not written over is as it was.
unwritten : (v l : List ℕ) (i j : ℕ) → (j < i) ⊎ (i + length v ≤ j) → get_or (sets l i v) j 0 ≡ get_or l j 0
unwritten [] l i j h = refl
unwritten (x ∷ v) l i j h =
    unwritten v (set l i x) (suc i) j (next h) ∙ get_or-set_other l i j x 0 (λ e. apart h e)
  where
    next : (j < i) ⊎ (i + length (x ∷ v) ≤ j) → (j < suc i) ⊎ (suc i + length v ≤ j)
    next (inl a) = inl (omega (arith, a))
    next (inr a) = inr (omega (arith, a))

    apart : (j < i) ⊎ (i + length (x ∷ v) ≤ j) → j ≡ i → ⊥
    apart (inl a) e = omega (arith, a, e)
    apart (inr a) e = omega (arith, a, e)

mark_short : (n m : ℕ) → length (end_mark n m) ≤ 1
mark_short n m = go (ltb n m)
  where
    go : (b : Bool) → length {A = ℕ} (cond b (0 ∷ []) []) ≤ 1
    go true = omega arith
    go false = omega arith

-- A new entry behind the others of a register q in s.
module _ (s : List ℕ) (q : Register) (h : ℕ) (f : Form) where
  abbrev new : Entry
  new = record { number = suc q.last; holder = h; form = f }

  abbrev more : Register
  more = with_entry q h f

  -- Only the number, the entry and the byte behind it are changed.
  module _ (w : Holds s q)
      (room : length (register_bytes q) + (head_size + entry_base + length (encode f)) ≤ length s) where
    abbrev end : ℕ
    end = length (register_bytes q)

    abbrev size : ℕ
    size = head_size + entry_base + length (encode f)

    abbrev same : Register
    same = record { last = suc q.last; entries = q.entries }

    abbrev mark : List ℕ
    mark = end_mark (length (register_bytes more)) (length s)

    as_long : length (stored more s) ≡ length s
    as_long = length-sets s 0 (register_bytes more ++ mark)

    -- What stands behind it.
    abbrev there : (tail : List ℕ) × (stored more s ≡ register_bytes more ++ tail) × (ends tail ≡ true)
    there = stored_front more s (omega (arith, room, grown-length q h f))

    -- The buffer: the first field and the old entries, the new one, what stands behind it.
    in_parts : stored more s ≡ register_bytes same ++ (entry_bytes new ++ there.0)
    in_parts =
        there.1
        ∙ ap (λ (l : List ℕ). l ++ there.0) (parted q h f)
        ∙ append_assoc (register_bytes same) (entry_bytes new) there.0

    number_there : take 4 (drop head_size (stored more s)) ≡ four_bytes (suc q.last)
    number_there = ap (λ (l : List ℕ). take 4 (drop head_size l)) there.1

    entry_there : take size (drop end (stored more s)) ≡ entry_field (suc q.last) h (encode f)
    entry_there =
        let place : length (register_bytes same) ≡ end = omega arith in
        ap (λ (l : List ℕ). take size (drop end l)) in_parts
        ∙ ap (take size) (drop_at (register_bytes same) (entry_bytes new ++ there.0) end place)
        ∙ take_at (entry_bytes new) there.0 size (entry_length_lem new)

    mark_there : end + size < length s → get_or (stored more s) (end + size) 1 ≡ 0
    mark_there lt = go (ends_so there.0 there.2)
      where
        go : (there.0 ≡ []) ⊎ ((t : List ℕ) × (there.0 ≡ 0 ∷ t))
            → get_or (stored more s) (end + size) 1 ≡ 0
        go (inl e) =
            absurd
            (omega (
              arith,
              lt,
              as_long,
              ap length there.1,
              length-append (register_bytes more) there.0,
              ap length e,
              grown-length q h f,
            ))
        go (inr (t, e)) =
            ap (λ (l : List ℕ). get_or l (end + size) 1)
            (there.1 ∙ ap (λ (l : List ℕ). register_bytes more ++ l) e)
            ∙ get_or_at (register_bytes more) 0 t 1 (end + size) (grown-length q h f)

    others_there : (i : ℕ) → (i < head_size) ⊎ ((head_size + 4 ≤ i) × (i < end)) ⊎ (end + size < i)
        → get_or (stored more s) i 0 ≡ get_or s i 0
    others_there i c =
        let one : List ℕ = sets s head_size (four_bytes (suc q.last)) in
        let two : List ℕ = sets one end (entry_bytes new) in
        ap (λ (l : List ℕ). get_or l i 0) (only_new s q h f w)
        ∙ unwritten mark two (end + length (entry_bytes new)) i (third c)
        ∙ unwritten (entry_bytes new) one end i (second c)
        ∙ unwritten (four_bytes (suc q.last)) s head_size i (first c)
      where
        behind-first : head_size + 4 ≤ end
        behind-first = omega arith

        first : (i < head_size) ⊎ ((head_size + 4 ≤ i) × (i < end)) ⊎ (end + size < i)
            → (i < head_size) ⊎ (head_size + length (four_bytes (suc q.last)) ≤ i)
        first (inl a) = inl a
        first (inr (inl a)) = inr a.0
        first (inr (inr a)) = inr (omega (arith, a, behind-first))

        second : (i < head_size) ⊎ ((head_size + 4 ≤ i) × (i < end)) ⊎ (end + size < i)
            → (i < end) ⊎ (end + length (entry_bytes new) ≤ i)
        second (inl a) = inl (omega (arith, a, behind-first))
        second (inr (inl a)) = inl a.1
        second (inr (inr a)) = inr (omega (arith, a, entry_length_lem new))

        third : (i < head_size) ⊎ ((head_size + 4 ≤ i) × (i < end)) ⊎ (end + size < i)
            → (i < end + length (entry_bytes new)) ⊎ (end + length (entry_bytes new) + length mark ≤ i)
        third (inl a) = inl (omega (arith, a, behind-first))
        third (inr (inl a)) = inl (omega (arith, a.1))
        third (inr (inr a)) =
            inr (omega (arith, a, entry_length_lem new, mark_short (length (register_bytes more)) (length s)))

    pub only_new_there : OnlyNew s (stored more s) (suc q.last) h end (encode f)
    only_new_there = record {
      as_long = as_long;
      fits = room;
      number = number_there;
      entry = entry_there;
      mark = mark_there;
      others = others_there;
    }
