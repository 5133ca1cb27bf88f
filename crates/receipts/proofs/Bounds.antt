-- What is taken of a part of an input has its bounds: the bytes of the receipts, the line number and the line buffer.
-- Assumes nothing.
use Rattle.std.proofs.Common.{◌≡◌, ℕ, ◌+◌, ◌*◌, ◌^◌, ◌<◌, ◌≤◌, List, [], ◌∷◌, length, take, sym, refl, ◌∙◌, subst}
use Rattle.std.proofs.Common.{arith, length-append}
use native.Mathlib.Decide.{ℕ_discrete}
use Rattle.lines.specs.Lines.{line_feed}
use Rattle.lines.specs.Feeding.{kept_line, kept_count}
use Rattle.lines.proofs.Feeding.{keep_length}
use Rattle.lines.proofs.Holding.{keep_size}
use Rattle.rows.specs.Receipts.{receipt_of, receipt_size}
use Rattle.receipts.specs.Serving.{Amid, next_number, receipt_then, served}
use Rattle.receipts.proofs.Parts.{served_end, served_more}
use Rattle.rows.proofs.Sizes.{receipt_length}

-- The room that n bytes of a part need, with so many bytes of a line held.
abbrev pub room : (n bytes : ℕ) → ℕ
room n bytes = n * receipt_size 0 + 8 * (n + bytes)

-- The bounds of what is taken.
pub record Bounds (s : List ℕ) (line : List ℕ) (held : ℕ) (m : Amid) : Type 0 where
  pub bytes : length m.receipts ≤ room (length s) (length (take held line))
  pub numbered : m.number < 2 ^ 64
  pub size : length m.line ≡ length line

-- A line feed: the receipt and those of the rest.
bound_end : (x : ℕ) (s : List ℕ) (k : ℕ) (line : List ℕ) (held : ℕ) (m : Amid) → k < 2 ^ 64 → Bounds s line 0 m
    → Bounds (x ∷ s) line held (receipt_then (receipt_of k (take held line)) m)
bound_end x s k line held m h b = record {
  bytes =
      omega (
        arith,
        length-append (receipt_of k (take held line)) m.receipts,
        receipt_length k (take held line) h,
        b.bytes,
      );
  numbered = b.numbered;
  size = b.size;
}

-- Any other byte: one more byte of the line is held at most.
bound_more : (x : ℕ) (s line : List ℕ) (held : ℕ) (m : Amid) → Bounds s (kept_line line held x) (kept_count line held) m
    → Bounds (x ∷ s) line held m
bound_more x s line held m b = record {
  bytes = omega (arith, b.bytes, keep_size line held x);
  numbered = b.numbered;
  size = b.size ∙ keep_length line held x;
}

-- The receipts of a part, the number and the line buffer.
pub served_bounds : (s : List ℕ) (k : ℕ) (line : List ℕ) (held : ℕ) → k < 2 ^ 64
    → Bounds s line held (served s k line held)
unfolding served
served_bounds [] k line held h = record { bytes = omega arith; numbered = h; size = refl }
served_bounds (x ∷ s) k line held h =
    go (λ k' line' held' h'. served_bounds s k' line' held' h') (ℕ_discrete x line_feed)
  where
    Rest : Type 0
    Rest = (k' : ℕ) (line' : List ℕ) (held' : ℕ) → k' < 2 ^ 64 → Bounds s line' held' (served s k' line' held')

    go : Rest → Dec (x ≡ line_feed) → Bounds (x ∷ s) line held (served (x ∷ s) k line held)
    go rest (yes e) =
        subst (Bounds (x ∷ s) line held) (sym (served_end x s k line held e))
        (bound_end x s k line held (served s (next_number k) line 0) h (rest (next_number k) line 0 (omega arith)))
    go rest (no other) =
        subst (Bounds (x ∷ s) line held) (sym (served_more x s k line held other))
        (bound_more x s line held (served s k (kept_line line held x) (kept_count line held))
        (rest k (kept_line line held x) (kept_count line held) h))
