-- Runs of writes joined, one behind another; none of these asks whether the bytes fit.
--     sets-append   two runs are one            write_then   two writes are one
--     sets-replicate   equal elements, one by one
--     copy_wrote    a copy to the front             write-part   a write into a lent part, seen in the whole
--     write_start, write-more, write-rest, write_done   a loop of writes: its start, a turn, all that is left, its end
-- Assumes nothing.
use mathlib.Core.Path.{◌≡◌, refl, sym, ap, ◌∙◌}
use mathlib.Core.List.{List, [], ◌∷◌, ◌++◌, append-nil}
use Prim.Native.Nat.{ℕ, suc, ◌+◌, ◌-◌, ◌≤◌}
use native.Mathlib.Nat.{add-zero, add-suc, suc-add, le-add_right}
use native.Mathlib.Omega.{arith}
use lib.ListN.{take, drop, length, set, replicate, length-append, length-set, length-drop, length-replicate}
use lib.ListN.{replicate-append-replicate, take-append-drop, drop_of_length-le}
use lib.Seq.{take_all, take_at, drop_at, sets, sets-eq, length-sets, drop-set-add, take-set-le}
use Rattle.lists.specs.inside.Writes.{Wrote, Writing}

pub sets-append : (a l : List ℕ) (i : ℕ) (b : List ℕ) → sets (sets l i a) (i + length a) b ≡ sets l i (a ++ b)
sets-append [] l i b = ap (λ (k : ℕ). sets l k b) (add-zero i)
sets-append (x ∷ a) l i b =
    ap (λ (k : ℕ). sets (sets (set l i x) (suc i) a) k b) (add-suc i (length a) ∙ sym (suc-add i (length a)))
    ∙ sets-append a (set l i x) (suc i) b

-- What was written at the front stands there.
pub sets_front : (a l : List ℕ) (n : ℕ) → length a ≡ n → n ≤ length l → take n (sets l 0 a) ≡ a
sets_front a l n e h =
    ap (take n) (sets-eq a l 0 (omega arith)) ∙ take_at a (drop (0 + length a) l) n e

-- What is behind it is as it was.
pub sets-beyond : (a l : List ℕ) (n : ℕ) → length a ≡ n → n ≤ length l → drop n (sets l 0 a) ≡ drop n l
sets-beyond a l n e h =
    let same : 0 + length a ≡ n = omega arith in
    ap (drop n) (sets-eq a l 0 (omega arith))
    ∙ drop_at a (drop (0 + length a) l) n e
    ∙ ap (λ (k : ℕ). drop k l) same

-- One element more of a run of equal elements.
pub sets-replicate : (l : List ℕ) (i k x : ℕ)
    → set (sets l i (replicate k x)) (i + k) x ≡ sets l i (replicate (k + 1) x)
sets-replicate l i k x =
    ap (λ (n : ℕ). set (sets l i (replicate k x)) (i + n) x) (sym (length-replicate k x))
    ∙ sets-append (replicate k x) l i (x ∷ [])
    ∙ ap (λ (a : List ℕ). sets l i a) (replicate-append-replicate k 1 x)

pub write_then : {a b s t u : List ℕ} {i j r : ℕ} → Wrote a s i t j → Wrote b t j u r → Wrote (a ++ b) s i u r
write_then {a} {b} {s} {t} {u} {i} {j} {r} v w = record {
  ends = omega (arith, length-append a b, v.ends, w.ends);
  holds =
      w.holds
      ∙ ap (λ (k : ℕ). sets t k b) v.ends
      ∙ ap (λ (l : List ℕ). sets l (i + length a) b) v.holds
      ∙ sets-append a s i b;
}

-- The same bytes by another name.
pub wrote_same : {a b s t : List ℕ} {i r : ℕ} → a ≡ b → Wrote a s i t r → Wrote b s i t r
wrote_same {a} {b} {s} {t} {i} {r} e w = record {
  ends = w.ends ∙ ap (λ (l : List ℕ). i + length l) e;
  holds = w.holds ∙ ap (λ (l : List ℕ). sets s i l) e;
}

pub wrote_none : (s : List ℕ) (i : ℕ) → Wrote [] s i s i
wrote_none s i = record { ends = omega arith; holds = refl }

-- All of a list was copied to the front of another.
pub copy_wrote : (a l m : List ℕ) (n : ℕ) → n ≡ length a → n ≤ length l
    → m ≡ take (length a) a ++ drop (length a) l → Wrote a l 0 m n
copy_wrote a l m n e h c =
    let whole : take (length a) a ≡ a = take_all (length a) a (omega arith) in
    let end : length a ≡ 0 + length a = omega arith in
    record {
      ends = omega arith;
      holds =
          c ∙ ap (λ (b : List ℕ). b ++ drop (length a) l) whole ∙ ap (λ (k : ℕ). a ++ drop k l) end
          ∙ sym (sets-eq a l 0 (omega arith));
    }

part_sets : (f : ℕ) (s b : List ℕ) (i : ℕ) → f ≤ length s → take f s ++ sets (drop f s) i b ≡ sets s (f + i) b
part_sets f s [] i h = take-append-drop f s
part_sets f s (x ∷ b) i h =
    ap (λ (l : List ℕ). take f s ++ sets l (suc i) b) (sym (drop-set-add f s i x))
    ∙ ap
    (λ (l : List ℕ). l ++ sets (drop f (set s (f + i) x)) (suc i) b)
    (sym (take-set-le f s (f + i) x (le-add_right f i)))
    ∙ part_sets f (set s (f + i) x) b (suc i) (rw length-set h)
    ∙ ap (λ (k : ℕ). sets (set s (f + i) x) k b) (add-suc f i)

-- The part from f on was lent, written from its start, and came back: the whole is written at f.
pub write_part : (f : ℕ) (b s y : List ℕ) (r : ℕ) → f ≤ length s
    → Wrote b (take (length s - f) (drop f s)) 0 y r
    → Wrote b s f (take f s ++ (y ++ drop (length s - f) (drop f s))) (f + r)
write_part f b s y r h w =
    let le : length (drop f s) ≤ length s - f = omega (arith, length-drop f s) in
    let none : drop (length s - f) (drop f s) ≡ [] = drop_of_length-le (drop f s) le in
    record {
      ends = omega (arith, w.ends);
      holds =
          ap (λ (l : List ℕ). take f s ++ (y ++ l)) none
          ∙ ap
          (λ (l : List ℕ). take f s ++ l)
          (append-nil y ∙ w.holds ∙ ap (λ (l : List ℕ). sets l 0 b) (take_all (length s - f) (drop f s) le))
          ∙ part_sets f s b 0 h
          ∙ ap (λ (k : ℕ). sets s k b) (add-zero f);
    }

pub write_start : (bytes entry : List ℕ) (at : ℕ) → Writing bytes entry at bytes entry at
write_start bytes entry at = record { ends = refl; holds = refl }

pub write_more : {a b s t bytes entry : List ℕ} {i j at : ℕ} → Wrote a s i t j
    → Writing (a ++ b) s i bytes entry at → Writing b t j bytes entry at
write_more {a} {b} {s} {t} {bytes} {entry} {i} {j} {at} w h = record {
  ends = omega (arith, length-append a b, w.ends, h.ends);
  holds =
      ap (λ (k : ℕ). sets t k b) w.ends
      ∙ ap (λ (l : List ℕ). sets l (i + length a) b) w.holds
      ∙ sets-append a s i b
      ∙ h.holds;
}

-- The same bytes left, by another name.
pub writing_same : {a b s bytes entry : List ℕ} {i at : ℕ} → a ≡ b → Writing a s i bytes entry at
    → Writing b s i bytes entry at
writing_same {a} {b} {s} {bytes} {entry} {i} {at} e h = record {
  ends = ap (λ (l : List ℕ). i + length l) (sym e) ∙ h.ends;
  holds = ap (λ (l : List ℕ). sets s i l) (sym e) ∙ h.holds;
}

-- Amid a run that is itself amid a run.
pub writing_then : {a b c s t u : List ℕ} {i j k : ℕ} → Writing a u k b t j → Writing b t j c s i → Writing a u k c s i
writing_then v w = record { ends = v.ends ∙ w.ends; holds = v.holds ∙ w.holds }

pub write_done : {s bytes entry : List ℕ} {i at : ℕ} → Writing [] s i bytes entry at → Wrote bytes entry at s i
write_done {s} {bytes} {entry} {i} {at} h = record { ends = omega (arith, h.ends); holds = h.holds }

pub write_rest : {left t u bytes entry : List ℕ} {j at r : ℕ} → Writing left t j bytes entry at → Wrote left t j u r
    → Wrote bytes entry at u r
write_rest {left} {t} {u} {bytes} {entry} {j} {at} {r} h w = record {
  ends = omega (arith, h.ends, w.ends);
  holds = w.holds ∙ h.holds;
}

pub writing_length : {a s bytes entry : List ℕ} {i at : ℕ} → Writing a s i bytes entry at → length s ≡ length entry
writing_length {a} {s} {bytes} {entry} {i} {at} h =
    sym (length-sets s i a) ∙ ap length h.holds ∙ length-sets entry at bytes
