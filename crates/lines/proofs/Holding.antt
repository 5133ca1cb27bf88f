-- What a line buffer holds: the bytes of the line, cut to the size of the buffer; with one byte more of the line, it
-- holds one byte more at most. Assumes nothing.
use mathlib.Core.Path.{◌≡◌, sym, ap, ◌∙◌}
use mathlib.Core.List.{List, [], ◌∷◌, ◌++◌}
use Prim.Native.Nat.{ℕ, ◌+◌, ◌<◌, ◌≤◌}
use native.Mathlib.Decide.{dec_lt}
use native.Mathlib.Numerals.{add-one}
use native.Mathlib.Omega.{arith}
use lib.ListN.{length, take, set, length-append, length-take, length-set}
use lib.Seq.{take_all, take-nil, take-append-le, take-suc-set}
use Rattle.lines.specs.Feeding.{kept_line, kept_count}
use Rattle.lines.proofs.Feeding.{keep_inside, keep_outside}

-- The first bytes of the line l stand at the front of the buffer, as many as there is room for.
pub record Holding (l line : List ℕ) (held : ℕ) : Type 0 where
  pub count : held ≡ length (take (length line) l)
  pub bytes : take held line ≡ take (length line) l

-- No byte of the line has come.
pub hold_none : (line : List ℕ) → Holding [] line 0
hold_none line =
    let none : take (length line) [] ≡ [] = take-nil {A = ℕ} (length line) in
    record { count = ap length (sym none); bytes = sym none }

-- One byte more.
pub hold_more : {l line : List ℕ} {held : ℕ} (x : ℕ) → Holding l line held
    → Holding (l ++ (x ∷ [])) (kept_line line held x) (kept_count line held)
hold_more {l} {line} {held} x h = go (dec_lt held (length line))
  where
    size : held ≡ length (take (length line) l)
    size = h.count

    go : Dec (held < length line) → Holding (l ++ (x ∷ [])) (kept_line line held x) (kept_count line held)
    go (yes lt) =
        let short : length l < length line = omega (arith, size, length-take (length line) l) in
        let cut : take (length line) l ≡ l = take_all (length line) l (omega arith) in
        let more : take (length line) (l ++ (x ∷ [])) ≡ l ++ (x ∷ []) =
        take_all (length line) (l ++ (x ∷ [])) (omega (arith, length-append l (x ∷ []))) in
        let next : take (held + 1) (set line held x) ≡ l ++ (x ∷ []) =
        ap (λ (n : ℕ). take n (set line held x)) (add-one held) ∙ take-suc-set line held x lt
        ∙ ap (λ (t : List ℕ). t ++ (x ∷ [])) (h.bytes ∙ cut) in
        let kept : Holding (l ++ (x ∷ [])) (set line held x) (held + 1) = record {
          count = rw (length-set, more, length-append) (omega (arith, size, ap length cut));
          bytes = rw (length-set) (next ∙ sym more);
        } in
        rw (sym (keep_inside line held x lt).0, sym (keep_inside line held x lt).1) kept
    go (no full) =
        let long : length line ≤ length l = omega (arith, size, length-take (length line) l) in
        let same : take (length line) (l ++ (x ∷ [])) ≡ take (length line) l =
        take-append-le (length line) l (x ∷ []) long in
        let kept : Holding (l ++ (x ∷ [])) line held = record {
          count = size ∙ ap length (sym same);
          bytes = h.bytes ∙ sym same;
        } in
        rw (sym (keep_outside line held x (omega arith)).0, sym (keep_outside line held x (omega arith)).1) kept

-- One byte more is held at most.
pub keep_size : (line : List ℕ) (held x : ℕ)
    → length (take (kept_count line held) (kept_line line held x)) ≤ length (take held line) + 1
keep_size line held x = go (dec_lt held (length line))
  where
    go : Dec (held < length line)
        → length (take (kept_count line held) (kept_line line held x)) ≤ length (take held line) + 1
    go (yes lt) =
        let kept : length (take (held + 1) (set line held x)) ≤ length (take held line) + 1 =
        omega (arith, length-take (held + 1) (set line held x), length-set line held x, length-take held line) in
        rw (sym (keep_inside line held x lt).0, sym (keep_inside line held x lt).1) kept
    go (no full) =
        let kept : length (take held line) ≤ length (take held line) + 1 = omega arith in
        rw (sym (keep_outside line held x (omega arith)).0, sym (keep_outside line held x (omega arith)).1) kept
