-- Numbers in two and four bytes, written and read back: what follows an offset of the bytes is what was written there,
-- and bytes that are read are what would be written. Assumes nothing.
use mathlib.Core.Path.{◌≡◌, sym, ◌∙◌, ap, ap₂}
use mathlib.Core.List.{List, ◌∷◌, ◌++◌}
use Prim.Native.Nat.{ℕ, suc, ◌+◌, ◌/◌, ◌%◌, ◌≤◌}
use native.Mathlib.Nat.{add-zero}
use native.Mathlib.Numerals.{add-one}
use native.Mathlib.Omega.{arith}
use lib.ListN.{length, get_or, drop}
use lib.Seq.{drop-cons, drop-drop, get_or-drop}
use Rattle.fields.specs.Fields.{Bytes, two_bytes, two_at, four_bytes, four_at_value}

-- What follows a later offset, by what follows an earlier one.
pub drop_on : (s t : List ℕ) (at k m : ℕ) → drop at s ≡ t → m ≡ at + k → drop m s ≡ drop k t
drop_on s t at k m h e = ap (λ (n : ℕ). drop n s) e ∙ sym (drop-drop k at s) ∙ ap (λ (l : List ℕ). drop k l) h

pub read_at : (s t : List ℕ) (at : ℕ) → drop at s ≡ t → get_or s at 0 ≡ get_or t 0 0
read_at s t at h =
    ap (λ (n : ℕ). get_or s n 0) (sym (add-zero at)) ∙ sym (get_or-drop at s 0 0) ∙ ap (λ (l : List ℕ). get_or l 0 0) h

read_next : (s t : List ℕ) (at : ℕ) → drop at s ≡ t → get_or s (at + 1) 0 ≡ get_or t 1 0
read_next s t at h = sym (get_or-drop at s 1 0) ∙ ap (λ (l : List ℕ). get_or l 1 0) h

-- A number written in two bytes is read back.
pub two_read : (s t : List ℕ) (at x : ℕ) → drop at s ≡ two_bytes x ++ t → two_at s at ≡ x
two_read s t at x h = omega (arith, read_at s (two_bytes x ++ t) at h, read_next s (two_bytes x ++ t) at h)

-- So is one in four bytes.
pub four_read : (s t : List ℕ) (at x : ℕ) → drop at s ≡ four_bytes x ++ t → four_at_value s at ≡ x
four_read s t at x h =
    omega (
      arith,
      two_read s (two_bytes (x % 65536) ++ t) at (x / 65536) h,
      two_read s t (at + 2) (x % 65536) (drop_on s (four_bytes x ++ t) at 2 (at + 2) h (omega arith)),
    )

-- Two bytes that are read are those of the number.
pub two_written : (s : List ℕ) (at m : ℕ) → Bytes s → m ≡ at + 2 → m ≤ length s
    → drop at s ≡ two_bytes (two_at s at) ++ drop m s
two_written s at m bytes e h =
    drop-cons s at 0 (omega arith)
    ∙ ap (λ (l : List ℕ). get_or s at 0 ∷ l) (drop-cons s (suc at) 0 (omega arith))
    ∙ ap (λ (n : ℕ). get_or s at 0 ∷ get_or s n 0 ∷ drop (suc n) s) (sym (add-one at))
    ∙ ap (λ (n : ℕ). get_or s at 0 ∷ get_or s (at + 1) 0 ∷ drop n s) end
    ∙ ap₂ (λ (x y : ℕ). x ∷ y ∷ drop m s) high low
  where
    end : suc (at + 1) ≡ m
    end = omega arith

    high : get_or s at 0 ≡ two_at s at / 256
    high = omega (arith, bytes at, bytes (at + 1))

    low : get_or s (at + 1) 0 ≡ two_at s at % 256
    low = omega (arith, bytes at, bytes (at + 1))

-- So are four.
pub four_written : (s : List ℕ) (at m : ℕ) → Bytes s → m ≡ at + 4 → m ≤ length s
    → drop at s ≡ four_bytes (four_at_value s at) ++ drop m s
four_written s at m bytes e h =
    two_written s at (at + 2) bytes (omega arith) (omega arith)
    ∙ ap (λ (l : List ℕ). two_bytes (two_at s at) ++ l) (two_written s (at + 2) m bytes (omega arith) h)
    ∙ ap₂ (λ (x y : ℕ). two_bytes x ++ (two_bytes y ++ drop m s)) high low
  where
    high : two_at s at ≡ four_at_value s at / 65536
    high = omega (arith, bytes (at + 2), bytes (at + 2 + 1))

    low : two_at s (at + 2) ≡ four_at_value s at % 65536
    low = omega (arith, bytes (at + 2), bytes (at + 2 + 1))
