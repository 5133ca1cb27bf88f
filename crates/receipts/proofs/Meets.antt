-- What is served of a part is the receipts of the lines that are met in it, and the line buffer is left as it is there
-- (01, 'The receipt program'). Assumes nothing.
use Rattle.std.proofs.Common.{◌≡◌, ℕ, suc, ◌+◌, ◌^◌, ◌≤◌, List, [], ◌∷◌, ◌++◌, length, take, sym, refl, ap, ◌∙◌, arith}
use native.Mathlib.Decide.{ℕ_discrete}
use Rattle.lines.specs.Lines.{line_feed}
use Rattle.lines.specs.Feeding.{kept_line, kept_count, Met, meet_lines}
use Rattle.lines.proofs.Meeting.{met_end, met_more}
use Rattle.rows.specs.Receipts.{receipt_of, receipts_from}
use Rattle.receipts.specs.Serving.{Amid, next_number, served}
use Rattle.receipts.proofs.Parts.{served_end, served_more}
use Rattle.receipts.proofs.Lines.{next_number_lem}

-- The same line buffer and the same count.
pub record SameLine (m : Amid) (n : Met) : Type 0 where
  pub line : m.line ≡ n.line
  pub held : m.held ≡ n.held

-- The line buffer is left as it is where lines are met.
pub serve_same_line : (s : List ℕ) (k : ℕ) (line : List ℕ) (held : ℕ)
    → SameLine (served s k line held) (meet_lines s line held)
unfolding served meet_lines
serve_same_line [] k line held = record { line = refl; held = refl }
serve_same_line (x ∷ s) k line held = go (λ k' line' held'. serve_same_line s k' line' held') (ℕ_discrete x line_feed)
  where
    go : ((k' : ℕ) (line' : List ℕ) (held' : ℕ) → SameLine (served s k' line' held') (meet_lines s line' held'))
        → Dec (x ≡ line_feed) → SameLine (served (x ∷ s) k line held) (meet_lines (x ∷ s) line held)
    go rest (yes e) =
        let next = rest (next_number k) line 0 in
        rw (served_end x s k line held e, met_end s line held x e) record { line = next.line; held = next.held }
    go rest (no other) =
        rw (served_more x s k line held other, met_more s line held x other)
        (rest k (kept_line line held x) (kept_count line held))

-- The receipts are those of the lines that are met, where no number wraps.
pub serve_met_lines : (s : List ℕ) (k : ℕ) (line : List ℕ) (held : ℕ) → k + length s ≤ 2 ^ 64
    → (served s k line held).receipts ≡ receipts_from k (meet_lines s line held).lines
unfolding served meet_lines
serve_met_lines [] k line held few = refl
serve_met_lines (x ∷ s) k line held few =
    go (λ k' line' held' few'. serve_met_lines s k' line' held' few') (ℕ_discrete x line_feed)
  where
    Rest : Type 0
    Rest = (k' : ℕ) (line' : List ℕ) (held' : ℕ) → k' + length s ≤ 2 ^ 64
        → (served s k' line' held').receipts ≡ receipts_from k' (meet_lines s line' held').lines

    next : Rest → (t : List ℕ) → t ≡ s
        → (served t (next_number k) line 0).receipts ≡ receipts_from (suc k) (meet_lines t line 0).lines
    next rest [] e = refl
    next rest (y ∷ t) e =
        let wide : 1 ≤ length s = omega (arith, ap length e) in
        let same : next_number k ≡ suc k = next_number_lem k (omega (arith, few)) in
        ap (λ (u : List ℕ). (served u (next_number k) line 0).receipts) e
        ∙ ap (λ (n : ℕ). (served s n line 0).receipts) same
        ∙ rest (suc k) line 0 (omega (arith, few))
        ∙ ap (λ (u : List ℕ). receipts_from (suc k) (meet_lines u line 0).lines) (sym e)

    go : Rest → Dec (x ≡ line_feed)
        → (served (x ∷ s) k line held).receipts ≡ receipts_from k (meet_lines (x ∷ s) line held).lines
    go rest (yes e) =
        ap (λ (m : Amid). m.receipts) (served_end x s k line held e)
        ∙ ap (λ (r : List ℕ). receipt_of k (take held line) ++ r) (next rest s refl)
        ∙ sym (ap (λ (m : Met). receipts_from k m.lines) (met_end s line held x e))
    go rest (no other) =
        ap (λ (m : Amid). m.receipts) (served_more x s k line held other)
        ∙ rest k (kept_line line held x) (kept_count line held) (omega (arith, few))
        ∙ sym (ap (λ (m : Met). receipts_from k m.lines) (met_more s line held x other))
