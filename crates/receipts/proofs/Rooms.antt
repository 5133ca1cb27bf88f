-- Whether a buffer is long enough for the receipts of a part. Assumes nothing.
use Rattle.std.proofs.Common.{◌≡◌, ℕ, ◌+◌, ◌-◌, ◌*◌, ◌/◌, ◌<◌, ◌≤◌, not, ltb, leb, sym, ap, ◌∙◌, arith, le-ltb}
use Rattle.std.proofs.Common.{lt-ltb, le-leb}
use native.Mathlib.Decide.{dec_lt}
use borrow.Author.Tests.{lt-leb}
use Rattle.receipts.specs.Serving.{line_size, part_size}
use Rattle.rows.specs.Receipts.{receipt_size}

-- Room for it, and for as many bytes as a division gives.
pub enough : (out part : ℕ) → 8 * line_size ≤ out
    → leb part ((out - 8 * line_size) / (receipt_size 0 + 8)) ≡ not (ltb out (part_size part))
enough out part h = go (dec_lt out (part_size part))
  where
    go : Dec (out < part_size part)
        → leb part ((out - 8 * line_size) / (receipt_size 0 + 8)) ≡ not (ltb out (part_size part))
    go (yes lt) =
        lt-leb part ((out - 8 * line_size) / (receipt_size 0 + 8)) (omega arith)
        ∙ sym (ap not (lt-ltb out (part_size part) lt))
    go (no le) =
        le-leb part ((out - 8 * line_size) / (receipt_size 0 + 8)) (omega arith)
        ∙ sym (ap not (le-ltb out (part_size part) (omega arith)))
