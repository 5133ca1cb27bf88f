-- The bytes of a line kept all at once (01, 'The receipt program'): they are kept one after another, and those for
-- which there is no room are left out. Assumes nothing.
use mathlib.Core.Path.{◌≡◌, refl, sym, ap, ◌∙◌}
use mathlib.Core.List.{List, [], ◌∷◌, ◌++◌, append_assoc, append-nil}
use Prim.Native.Nat.{ℕ, zero, suc, ◌+◌, ◌-◌, ◌<◌, ◌≤◌, min}
use native.Mathlib.Decide.{dec_lt}
use native.Mathlib.Numerals.{add-one}
use native.Mathlib.Omega.{arith}
use borrow.Rule.Slice.PartMut.{put_mid}
use lib.ListN.{length, take, drop, set, length-take, length-drop, length-set, drop_of_length-le}
use lib.Seq.{sets, sets-eq, set_out, take_all, take-nil, drop-drop}
use Rattle.lines.specs.Feeding.{kept_line, kept_count}
use Rattle.lines.specs.inside.Keeping.{Kept}
use Rattle.lines.proofs.Feeding.{keep_inside, keep_outside}

-- Beyond the end nothing is written.
sets_out : (bytes l : List ℕ) (i : ℕ) → length l ≤ i → sets l i bytes ≡ l
sets_out [] l i h = refl
sets_out (x ∷ bytes) l i h =
    sets_out bytes (set l i x) (suc i) (omega (arith, length-set l i x)) ∙ set_out l i x h

-- Only the bytes for which there is room are written.
sets_room : (bytes l : List ℕ) (i n : ℕ) → length l ≤ i + n → sets l i (take n bytes) ≡ sets l i bytes
sets_room [] l i n h = ap (sets l i) (take-nil {A = ℕ} n)
sets_room (x ∷ bytes) l i zero h = sym (sets_out (x ∷ bytes) l i (omega arith))
sets_room (x ∷ bytes) l i (suc n) h = sets_room bytes (set l i x) (suc i) n (omega (arith, length-set l i x))

-- There is no room.
pub kept_out : {bytes l : List ℕ} {held : ℕ} → length l < held → Kept bytes l held l held
kept_out {bytes} {l} {held} out = record { count = omega arith; holds = sym (sets_out bytes l held (omega arith)) }

-- As many bytes were copied as there is room for.
pub kept_copy : {bytes l room new : List ℕ} {held n : ℕ} → held ≤ length l → room ≡ take (length l - held) (drop held l)
    → n ≡ min (length bytes) (length room) → new ≡ take n bytes ++ drop n room
    → Kept bytes l held (put_mid held (length l - held) l new) (held + n)
kept_copy {bytes} {l} {room} {new} {held} {n} in_bounds e count copied = record {
  count = omega (arith, size);
  holds =
      simp (copied, none, append-nil, behind, drop-drop, ← append_assoc)
      (ap (λ (k : ℕ). (take held l ++ take n bytes) ++ drop (held + k) l) (sym front)
      ∙ sym (sets-eq (take n bytes) l held (omega (arith, front, size))) ∙ whole (dec_lt n (length bytes)));
}
  where
    behind : room ≡ drop held l
    behind = e ∙ take_all (length l - held) (drop held l) (omega (arith, length-drop held l))

    size : n ≡ min (length bytes) (length l - held)
    size = omega (arith, ap length behind, length-drop held l)

    front : length (take n bytes) ≡ n
    front = omega (arith, length-take n bytes, size)

    none : drop (length l - held) (drop held l) ≡ []
    none = drop_of_length-le (drop held l) (omega (arith, length-drop held l))

    whole : Dec (n < length bytes) → sets l held (take n bytes) ≡ sets l held bytes
    whole (yes lt) = sets_room bytes l held n (omega (arith, size))
    whole (no all) = ap (sets l held) (take_all n bytes (omega arith))

-- No byte is kept.
pub kept_none : {line : List ℕ} {held : ℕ} {exit : List ℕ} {end : ℕ} → Kept [] line held exit end
    → (exit ≡ line) × (end ≡ held)
kept_none k = (k.holds, omega (arith, k.count))

-- One byte is kept, and then the others.
pub kept_next : {bytes line : List ℕ} {held : ℕ} {exit : List ℕ} {end : ℕ} (x : ℕ) → Kept (x ∷ bytes) line held exit end
    → Kept bytes (kept_line line held x) (kept_count line held) exit end
kept_next {bytes} {line} {held} {exit} {end} x k = go (dec_lt held (length line))
  where
    go : Dec (held < length line) → Kept bytes (kept_line line held x) (kept_count line held) exit end
    go (yes lt) =
        let rest : Kept bytes (set line held x) (held + 1) exit end = record {
          count = omega (arith, k.count, length-set line held x);
          holds = k.holds ∙ ap (λ (n : ℕ). sets (set line held x) n bytes) (sym (add-one held));
        } in
        rw (sym (keep_inside line held x lt).0, sym (keep_inside line held x lt).1) rest
    go (no full) =
        let out : length line ≤ held = omega arith in
        let rest : Kept bytes line held exit end = record {
          count = omega (arith, k.count);
          holds = k.holds ∙ sets_out (x ∷ bytes) line held out ∙ sym (sets_out bytes line held out);
        } in
        rw (sym (keep_outside line held x out).0, sym (keep_outside line held x out).1) rest
