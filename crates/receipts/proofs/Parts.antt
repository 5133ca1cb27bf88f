-- Laws of an input that comes in parts: the steps of `served`, and two parts one behind another. Assumes nothing.
use Rattle.std.proofs.Common.{◌≡◌, ℕ, List, [], ◌∷◌, ◌++◌, take, sym, refl, ap, ◌∙◌, append_assoc, eq-eqb, ne_eqb}
use native.Mathlib.Decide.{ℕ_discrete}
use Rattle.lines.specs.Lines.{line_feed}
use Rattle.lines.specs.Feeding.{kept_line, kept_count}
use Rattle.rows.specs.Receipts.{receipt_of}
use Rattle.receipts.specs.Serving.{Amid, next_number, receipt_then, served}

module _ (x : ℕ) (s : List ℕ) (k : ℕ) (line : List ℕ) (held : ℕ) where
  -- A line feed gives a receipt.
  pub served_end : x ≡ line_feed
      → served (x ∷ s) k line held ≡ receipt_then (receipt_of k (take held line)) (served s (next_number k) line 0)
  unfolding served
  served_end e = simp (eq-eqb x line_feed e)

  -- Any other byte is kept.
  pub served_more : (x ≡ line_feed → ⊥)
      → served (x ∷ s) k line held ≡ served s k (kept_line line held x) (kept_count line held)
  unfolding served
  served_more other = simp (ne_eqb x line_feed other)

-- The bytes t behind what was taken.
abbrev pub served_behind : List ℕ → Amid → Amid
served_behind t m = receipt_then m.receipts (served t m.number m.line m.held)

-- Receipts in front of receipts.
receipt_then_lem : (a b : List ℕ) (m : Amid) → receipt_then a (receipt_then b m) ≡ receipt_then (a ++ b) m
receipt_then_lem a b m =
    ap (λ (r : List ℕ). record { receipts = r; number = m.number; line = m.line; held = m.held })
    (sym (append_assoc a b m.receipts))

-- Two parts one behind another.
pub served-append : (s t : List ℕ) (k : ℕ) (line : List ℕ) (held : ℕ)
    → served (s ++ t) k line held ≡ served_behind t (served s k line held)
unfolding served
served-append [] t k line held = refl
served-append (x ∷ s) t k line held =
    go (λ k' line' held'. served-append s t k' line' held') (ℕ_discrete x line_feed)
  where
    Rest : Type 0
    Rest = (k' : ℕ) (line' : List ℕ) (held' : ℕ)
        → served (s ++ t) k' line' held' ≡ served_behind t (served s k' line' held')

    go : Rest → Dec (x ≡ line_feed) → served (x ∷ (s ++ t)) k line held ≡ served_behind t (served (x ∷ s) k line held)
    go rest (yes e) =
        served_end x (s ++ t) k line held e
        ∙ ap (receipt_then (receipt_of k (take held line))) (rest (next_number k) line 0)
        ∙ receipt_then_lem (receipt_of k (take held line)) (served s (next_number k) line 0).receipts _
        ∙ ap (served_behind t) (sym (served_end x s k line held e))
    go rest (no other) =
        served_more x (s ++ t) k line held other
        ∙ rest k (kept_line line held x) (kept_count line held)
        ∙ ap (served_behind t) (sym (served_more x s k line held other))
