-- The bytes of a receipt (01, 'The receipt program'): those of its fields and one behind each. A number below 2^64 has
-- at most 20 digits, and the record of a word of n letters at most 6 + 4n bytes. Assumes nothing.
use mathlib.Core.Path.{◌≡◌, refl, sym, subst}
use mathlib.Core.List.{List, [], ◌∷◌}
use Prim.Native.Nat.{ℕ, ◌+◌, ◌^◌, ◌<◌, ◌≤◌}
use native.Mathlib.Decide.{dec_lt}
use native.Mathlib.Omega.{arith}
use borrow.Author.Tests.{le-ltb}
use lib.ListN.{length, length-append}
use Rattle.group.specs.Letters.{Word}
use Rattle.lines.specs.Lines.{line_feed}
use Rattle.group.specs.Limits.{limit}
use Rattle.group.specs.Products.{form_of}
use Rattle.group.specs.Bytes.{Reading, is_word, not_letter_is, read_word}
use Rattle.group.proofs.Bytes.{not_letter, read_length}
use Rattle.group.proofs.Sizes.{form_sum}
use Rattle.refusals.specs.Outcomes.{Outcome, refused}
use Rattle.records.specs.Format.{encode}
use Rattle.records.proofs.Lengths.{encode_size}
use Rattle.trees.specs.Pairs.{carets_of}
use Rattle.lengths.specs.Weights.{form_length}
use Rattle.letters.specs.Judging.{judged_reading, line_read}
use Rattle.numerals.specs.Decimals.{ascii, decimal}
use Rattle.appending.specs.Hexadecimal.{hex_of}
use Rattle.rows.specs.Receipts.{join_fields, form_receipt, refusal_receipt, receipt_by, receipt_of}
use Rattle.rows.specs.Receipts.{receipt_size}
use Rattle.rows.specs.inside.Steps.{refusal_size}
use Rattle.numerals.proofs.Decimals.{decimal-length}
use Rattle.appending.proofs.Hex.{hex_length}
use Rattle.rows.proofs.WordSizes.{length_most, carets-most}
use Rattle.rows.proofs.LineReads.{read_long, read_short}

-- The bytes of five fields in a row, and of four.
five_length : (a b c d e : List ℕ)
    → length (join_fields (a ∷ b ∷ c ∷ d ∷ e ∷ [])) ≡ length a + length b + length c + length d + length e + 5
five_length a b c d e =
    let le = length-append e (line_feed ∷ []) in
    let ld = length-append d (32 ∷ join_fields (e ∷ [])) in
    let lc = length-append c (32 ∷ join_fields (d ∷ e ∷ [])) in
    let lb = length-append b (32 ∷ join_fields (c ∷ d ∷ e ∷ [])) in
    let la = length-append a (32 ∷ join_fields (b ∷ c ∷ d ∷ e ∷ [])) in
    omega (arith, le, ld, lc, lb, la)

four_length : (a b c d : List ℕ)
    → length (join_fields (a ∷ b ∷ c ∷ d ∷ [])) ≡ length a + length b + length c + length d + 4
four_length a b c d =
    let ld = length-append d (line_feed ∷ []) in
    let lc = length-append c (32 ∷ join_fields (d ∷ [])) in
    let lb = length-append b (32 ∷ join_fields (c ∷ d ∷ [])) in
    let la = length-append a (32 ∷ join_fields (b ∷ c ∷ d ∷ [])) in
    omega (arith, ld, lc, lb, la)

-- The receipt of a word of n letters.
form_length_lem : (k : ℕ) (w : Word) → k < 2 ^ 64 → length w ≤ limit
    → length (form_receipt k (length w) (form_of w)) ≤ receipt_size (length w)
form_length_lem k w h short =
    omega (
      arith,
      five_length (decimal k) (decimal (length w)) (decimal (carets_of (form_of w))) (decimal (form_length (form_of w)))
          (hex_of (encode (form_of w))),
      decimal-length k h,
      decimal-length (length w) (omega (arith, short)),
      decimal-length (carets_of (form_of w)) (omega (arith, short, carets-most w)),
      decimal-length (form_length (form_of w)) (omega (arith, short, carets-most w, length_most (form_of w))),
      hex_length (encode (form_of w)),
      encode_size (form_of w),
      form_sum w,
    )

-- The receipt of a refusal.
refusal-length : (k refusal place : ℕ) → k < 2 ^ 64 → refusal < 2 ^ 64 → place < 2 ^ 64
    → length (refusal_receipt k refusal place) ≤ refusal_size
refusal-length k refusal place h i j =
    omega (
      arith,
      four_length (decimal k) (ascii "refused") (decimal refusal) (decimal place),
      decimal-length k h,
      decimal-length refusal i,
      decimal-length place j,
    )

-- The receipt of a line, in each of the cases of its reading.
pub receipt_length : (k : ℕ) (line : List ℕ) → k < 2 ^ 64 → length (receipt_of k line) ≤ receipt_size (length line)
receipt_length k line h = go (dec_lt limit (length line))
  where
    Goal : Outcome Word → Type 0
    Goal o = length (receipt_by k o) ≤ receipt_size (length line)

    reading : length line ≤ limit → (r : Reading) → read_word line ≡ r
        → Goal (judged_reading r (length line) (length line + 1) (length line + 1))
    reading short (not_letter_is offset) e =
        let place : offset < 2 ^ 64 = omega (arith, short, ((not_letter line offset).0 e).within) in
        omega (arith, refusal-length k 2 offset h (omega arith) place)
    reading short (is_word w) e =
        let n = read_length line w e in
        let size : length (form_receipt k (length w) (form_of w)) ≤ receipt_size (length line) =
        omega (arith, n, form_length_lem k w h (omega (arith, short, n))) in
        simp (le-ltb (length line + 1) (length line + 1) (omega arith)) size

    go : Dec (limit < length line) → Goal (line_read line)
    go (yes long) =
        let size : Goal (refused 1 limit) = omega (arith, refusal-length k 1 limit h (omega arith) (omega arith)) in
        subst Goal (sym (read_long line long)) size
    go (no short) =
        let size = reading (omega arith) (read_word line) refl in
        subst Goal (sym (read_short line (omega arith))) size
