-- The fields of a receipt, written one behind another. Assumes nothing.
use mathlib.Core.Path.{◌≡◌, ap, ◌∙◌}
use mathlib.Core.List.{List, [], ◌∷◌, ◌++◌, append_assoc}
use Prim.Native.Nat.{ℕ, ◌+◌, ◌<◌, ◌≤◌, ◌^◌}
use native.Mathlib.Omega.{arith}
use lib.ListN.{length, length-append}
use Rattle.lines.specs.Lines.{line_feed}
use Rattle.lists.specs.inside.Writes.{Wrote}
use Rattle.lists.proofs.Writes.{write_then, wrote_same}
use Rattle.numerals.specs.Decimals.{decimal}
use Rattle.numerals.proofs.Decimals.{decimal-length}
use Rattle.printing.specs.inside.Printing.{Put}
use Rattle.printing.proofs.Fitting.{put_behind}
use Rattle.appending.specs.Hexadecimal.{hex_of}
use Rattle.rows.specs.inside.Steps.{number_then, number_size, four_numbers, numbers_size, record_row}

-- A field with the byte behind it, then the rest.
pub write_field : {s t u : List ℕ} {i j r : ℕ} (field : List ℕ) (behind : ℕ) (rest : List ℕ)
    → Wrote (field ++ (behind ∷ [])) s i t j → Wrote rest t j u r → Wrote (field ++ (behind ∷ rest)) s i u r
write_field field behind rest v w = wrote_same (append_assoc field (behind ∷ []) rest) (write_then v w)

-- A number of 64 bits and a byte take at most so many bytes.
number_length : (n behind : ℕ) → n < 2 ^ 64 → length (number_then n behind) ≤ number_size
number_length n behind h = omega (arith, length-append (decimal n) (behind ∷ []), decimal-length n h)

-- Bytes behind them: there is room where there is room for the longest number.
pub behind_number : {bytes s t u : List ℕ} {i j r : ℕ} (n behind : ℕ) → n < 2 ^ 64
    → i + (number_size + length bytes) ≤ length s → Wrote (number_then n behind) s i t j → Put bytes t j u r
    → Wrote bytes t j u r
behind_number n behind h room w p = put_behind (omega (arith, number_length n behind h)) w p

-- Where a number and a byte behind it end.
pub number_end : {s t : List ℕ} {i j : ℕ} (n behind : ℕ) → n < 2 ^ 64 → Wrote (number_then n behind) s i t j
    → j ≤ i + number_size
number_end n behind h w = omega (arith, w.ends, number_length n behind h)

-- Where four numbers end.
pub numbers_end : {s t : List ℕ} {i j : ℕ} (k l m n : ℕ) → k < 2 ^ 64 → l < 2 ^ 64 → m < 2 ^ 64 → n < 2 ^ 64
    → Wrote (four_numbers k l m n) s i t j → j ≤ i + numbers_size
numbers_end k l m n hk hl hm hn w =
    omega (
      arith,
      w.ends,
      length-append (number_then k 32) (number_then l 32 ++ (number_then m 32 ++ number_then n 32)),
      length-append (number_then l 32) (number_then m 32 ++ number_then n 32),
      length-append (number_then m 32) (number_then n 32),
      number_length k 32 hk,
      number_length l 32 hl,
      number_length m 32 hm,
      number_length n 32 hn,
    )

-- A number and a space in front of other bytes.
number_field : (n : ℕ) (s t rest : List ℕ) → s ++ rest ≡ t → (number_then n 32 ++ s) ++ rest ≡ decimal n ++ (32 ∷ t)
number_field n s t rest e =
    append_assoc (number_then n 32) s rest
    ∙ append_assoc (decimal n) (32 ∷ []) (s ++ rest)
    ∙ ap (λ (u : List ℕ). decimal n ++ (32 ∷ u)) e

-- Four numbers, a record and byte 0A hex are one row.
pub record_row_lem : (k l m n : ℕ) (bytes : List ℕ)
    → four_numbers k l m n ++ (hex_of bytes ++ (line_feed ∷ [])) ≡ record_row k l m n bytes
record_row_lem k l m n bytes =
    number_field k _ _ (hex_of bytes ++ (line_feed ∷ []))
    (number_field l _ _ (hex_of bytes ++ (line_feed ∷ []))
    (number_field m _ _ (hex_of bytes ++ (line_feed ∷ []))
    (append_assoc (decimal n) (32 ∷ []) (hex_of bytes ++ (line_feed ∷ [])))))
