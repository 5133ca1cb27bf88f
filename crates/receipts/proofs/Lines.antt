-- The receipts of an input that comes in parts are those of its lines (01, 'The receipt program'): a line buffer holds
-- one byte more than a word has letters, which is all that a receipt asks of a line. Assumes nothing.
use Rattle.std.proofs.Common.{◌≡◌, ℕ, suc, ◌+◌, ◌^◌, ◌<◌, ◌≤◌, List, [], ◌∷◌, ◌++◌, length, take, sym, refl, ap, ◌∙◌}
use Rattle.std.proofs.Common.{append_assoc, arith, length-take, take_all}
use native.Mathlib.Decide.{dec_lt, ℕ_discrete}
use Rattle.lines.specs.Lines.{line_feed, last_line, lines_from}
use Rattle.lines.specs.Feeding.{kept_line, kept_count}
use Rattle.lines.proofs.Feeding.{keep_length}
use Rattle.lines.proofs.Lines.{lines_end, lines_more}
use Rattle.lines.proofs.Holding.{Holding, hold_none, hold_more}
use Rattle.group.specs.Limits.{limit}
use Rattle.letters.specs.Judging.{line_read}
use Rattle.rows.specs.Receipts.{receipt_by, receipt_of, receipts_from}
use Rattle.receipts.specs.Serving.{Amid, line_size, next_number, receipt_then, served}
use Rattle.rows.proofs.LineReads.{read_long}
use Rattle.receipts.proofs.Parts.{served_end, served_more}

-- A line cut to one byte more than the limit is read as the whole line.
pub read_cut : (line : List ℕ) → line_read (take line_size line) ≡ line_read line
read_cut line = go (dec_lt limit (length line))
  where
    go : Dec (limit < length line) → line_read (take line_size line) ≡ line_read line
    go (yes long) =
        read_long (take line_size line) (omega (arith, length-take line_size line)) ∙ sym (read_long line long)
    go (no short) = ap line_read (take_all line_size line (omega arith))

-- So it has its receipt.
pub receipt_cut : (k : ℕ) (line : List ℕ) → receipt_of k (take line_size line) ≡ receipt_of k line
receipt_cut k line = ap (receipt_by k) (read_cut line)

-- An unended last line, cut or whole: it is empty just when the whole is.
last_cut : (k : ℕ) (l : List ℕ) → receipts_from k (last_line (take line_size l)) ≡ receipts_from k (last_line l)
last_cut k [] = refl
last_cut k (x ∷ l) = ap (λ (r : List ℕ). r ++ []) (receipt_cut k (x ∷ l))

-- All receipts, that of an unended last line with them.
abbrev pub closed : Amid → List ℕ
closed m = m.receipts ++ receipts_from m.number (last_line (take m.held m.line))

-- A receipt in front.
pub closed_then : (r : List ℕ) (m : Amid) → closed (receipt_then r m) ≡ r ++ closed m
closed_then r m = append_assoc r m.receipts (receipts_from m.number (last_line (take m.held m.line)))

-- A number below 2^64 - 1 has its successor.
pub next_number_lem : (k : ℕ) → k + 1 < 2 ^ 64 → next_number k ≡ suc k
next_number_lem k h = omega arith

-- The buffer holds the bytes of a line.
record Line (l line : List ℕ) (held : ℕ) : Type 0 where
  size : length line ≡ line_size
  holding : Holding l line held

line_held : {l line : List ℕ} {held : ℕ} → Line l line held → take held line ≡ take line_size l
line_held {l} {line} {held} h = h.holding.bytes ∙ ap (λ (n : ℕ). take n l) h.size

-- Nothing behind the last line feed.
served_none : (k k' : ℕ) (line : List ℕ) → closed (served [] k line 0) ≡ receipts_from k' (lines_from [] [])
unfolding served lines_from
served_none k k' line = refl

-- The bytes s behind the begun line l.
served_from : (s l : List ℕ) (k : ℕ) (line : List ℕ) (held : ℕ) → Line l line held → k + length s ≤ 2 ^ 64
    → closed (served s k line held) ≡ receipts_from k (lines_from l s)
unfolding served lines_from
served_from [] l k line held h few =
    ap (λ (t : List ℕ). receipts_from k (last_line t)) (line_held h) ∙ last_cut k l
served_from (x ∷ s) l k line held h few =
    go (λ l' k' line' held' h' few'. served_from s l' k' line' held' h' few') (ℕ_discrete x line_feed)
  where
    Rest : Type 0
    Rest = (l' : List ℕ) (k' : ℕ) (line' : List ℕ) (held' : ℕ) → Line l' line' held' → k' + length s ≤ 2 ^ 64
        → closed (served s k' line' held') ≡ receipts_from k' (lines_from l' s)

    next : Rest → (t : List ℕ) → t ≡ s
        → closed (served t (next_number k) line 0) ≡ receipts_from (suc k) (lines_from [] t)
    next rest [] e = served_none (next_number k) (suc k) line
    next rest (y ∷ t) e =
        let none : Line [] line 0 = record { size = h.size; holding = hold_none line } in
        let wide : 1 ≤ length s = omega (arith, ap length e) in
        let same : next_number k ≡ suc k = next_number_lem k (omega (arith, few)) in
        ap (λ (u : List ℕ). closed (served u (next_number k) line 0)) e
        ∙ ap (λ (n : ℕ). closed (served s n line 0)) same
        ∙ rest [] (suc k) line 0 none (omega (arith, few))
        ∙ ap (λ (u : List ℕ). receipts_from (suc k) (lines_from [] u)) (sym e)

    go : Rest → Dec (x ≡ line_feed) → closed (served (x ∷ s) k line held) ≡ receipts_from k (lines_from l (x ∷ s))
    go rest (yes e) =
        ap closed (served_end x s k line held e)
        ∙ closed_then (receipt_of k (take held line)) (served s (next_number k) line 0)
        ∙ ap (λ (r : List ℕ). r ++ closed (served s (next_number k) line 0))
        (ap (receipt_of k) (line_held h) ∙ receipt_cut k l)
        ∙ ap (λ (r : List ℕ). receipt_of k l ++ r) (next rest s refl)
        ∙ ap (receipts_from k) (sym (lines_end l s x e))
    go rest (no other) =
        let more : Line (l ++ (x ∷ [])) (kept_line line held x) (kept_count line held) = record {
          size = keep_length line held x ∙ h.size;
          holding = hold_more x h.holding;
        } in
        ap closed (served_more x s k line held other)
        ∙ rest (l ++ (x ∷ [])) k (kept_line line held x) (kept_count line held) more (omega (arith, few))
        ∙ ap (receipts_from k) (sym (lines_more l s x other))

-- All bytes, from the first line on with no byte held: the receipts of the lines.
pub served_lines : (s : List ℕ) (k : ℕ) (line : List ℕ) → length line ≡ line_size → k + length s ≤ 2 ^ 64
    → closed (served s k line 0) ≡ receipts_from k (lines_from [] s)
served_lines s k line size few =
    served_from s [] k line 0 (record { size = size; holding = hold_none line }) few
