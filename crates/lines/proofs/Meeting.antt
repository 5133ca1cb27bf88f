-- The lines that are met in the parts of an input are those of the whole, each cut to the size of the buffer (01, 'The
-- receipt program'). Assumes nothing.
use mathlib.Core.Path.{◌≡◌, refl, sym, ap, ap₂, ◌∙◌}
use mathlib.Core.List.{List, [], ◌∷◌, ◌++◌}
use Prim.Native.Nat.{ℕ, zero, suc, ◌<◌}
use native.Mathlib.Decide.{ℕ_discrete}
use native.Mathlib.Omega.{arith}
use lib.ListN.{length, take}
use borrow.Author.Tests.{eq-eqb, ne_eqb}
use Rattle.lines.specs.Lines.{line_feed, last_line, lines_from, lines_of, cut_to, whole_of}
use Rattle.lines.specs.Feeding.{kept_line, kept_count, Met, line_then, meet_lines, met_in}
use Rattle.lines.proofs.Feeding.{keep_length}
use Rattle.lines.proofs.Lines.{lines_end, lines_more}
use Rattle.lines.proofs.Holding.{Holding, hold_none, hold_more}

module _ (s : List ℕ) (line : List ℕ) (held x : ℕ) where
  -- A line feed ends the line.
  pub met_end : x ≡ line_feed → meet_lines (x ∷ s) line held ≡ line_then (take held line) (meet_lines s line 0)
  unfolding meet_lines
  met_end e = simp (eq-eqb x line_feed e)

  -- Any other byte is kept.
  pub met_more : (x ≡ line_feed → ⊥)
      → meet_lines (x ∷ s) line held ≡ meet_lines s (kept_line line held x) (kept_count line held)
  unfolding meet_lines
  met_more other = simp (ne_eqb x line_feed other)

-- All lines, an unended last one with them.
abbrev closed : Met → List (List ℕ)
closed m = m.lines ++ last_line (take m.held m.line)

-- The lines of a part, and behind them those of the bytes t, taken from what the part left.
abbrev then_lines : List ℕ → Met → List (List ℕ)
then_lines t m = m.lines ++ closed (meet_lines t m.line m.held)

-- A part behind another is taken from what the first left.
met_append : (s t line : List ℕ) (held : ℕ)
    → closed (meet_lines (s ++ t) line held) ≡ then_lines t (meet_lines s line held)
unfolding meet_lines
met_append [] t line held = refl
met_append (x ∷ s) t line held = go (λ line' held'. met_append s t line' held') (ℕ_discrete x line_feed)
  where
    Rest : Type 0
    Rest =
        (line' : List ℕ) (held' : ℕ) → closed (meet_lines (s ++ t) line' held') ≡ then_lines t (meet_lines s line' held')

    go : Rest → Dec (x ≡ line_feed)
        → closed (meet_lines (x ∷ (s ++ t)) line held) ≡ then_lines t (meet_lines (x ∷ s) line held)
    go rest (yes e) =
        ap closed (met_end (s ++ t) line held x e)
        ∙ ap (λ (ls : List (List ℕ)). take held line ∷ ls) (rest line 0)
        ∙ sym (ap (then_lines t) (met_end s line held x e))
    go rest (no other) =
        ap closed (met_more (s ++ t) line held x other) ∙ rest (kept_line line held x) (kept_count line held)
        ∙ sym (ap (then_lines t) (met_more s line held x other))

-- The parts are met as the whole is.
met_parts : (parts : List (List ℕ)) (line : List ℕ) (held : ℕ)
    → met_in parts line held ≡ closed (meet_lines (whole_of parts) line held)
unfolding meet_lines
met_parts [] line held = refl
met_parts (part ∷ parts) line held =
    ap (λ (ls : List (List ℕ)). (meet_lines part line held).lines ++ ls)
    (met_parts parts (meet_lines part line held).line (meet_lines part line held).held)
    ∙ sym (met_append part (whole_of parts) line held)

-- The unended last line, cut.
last_cut : (m : ℕ) (l : List ℕ) → 0 < m → last_line (take m l) ≡ cut_to m (last_line l)
last_cut zero l some = absurd (omega arith)
last_cut (suc m) [] some = refl
last_cut (suc m) (x ∷ l) some = refl

-- The bytes s behind the begun line l.
met_from : (s l line : List ℕ) (held m : ℕ) → Holding l line held → length line ≡ m → 0 < m
    → closed (meet_lines s line held) ≡ cut_to m (lines_from l s)
unfolding meet_lines lines_from
met_from [] l line held m h size some =
    ap last_line (h.bytes ∙ ap (λ (n : ℕ). take n l) size) ∙ last_cut m l some
met_from (x ∷ s) l line held m h size some =
    go (λ l' line' held' h' size'. met_from s l' line' held' m h' size' some) (ℕ_discrete x line_feed)
  where
    Rest : Type 0
    Rest = (l' line' : List ℕ) (held' : ℕ) → Holding l' line' held' → length line' ≡ m
        → closed (meet_lines s line' held') ≡ cut_to m (lines_from l' s)

    go : Rest → Dec (x ≡ line_feed) → closed (meet_lines (x ∷ s) line held) ≡ cut_to m (lines_from l (x ∷ s))
    go rest (yes e) =
        ap closed (met_end s line held x e)
        ∙ ap₂ (λ (y : List ℕ) (ls : List (List ℕ)). y ∷ ls) (h.bytes ∙ ap (λ (n : ℕ). take n l) size)
        (rest [] line 0 (hold_none line) size)
        ∙ ap (cut_to m) (sym (lines_end l s x e))
    go rest (no other) =
        ap closed (met_more s line held x other)
        ∙ rest (l ++ (x ∷ [])) (kept_line line held x) (kept_count line held) (hold_more x h)
        (keep_length line held x ∙ size)
        ∙ ap (cut_to m) (sym (lines_more l s x other))

-- However an input is parted, the lines that are met are those of the whole, each cut to the size of the buffer.
pub meet_lines_lem : (parts : List (List ℕ)) (line : List ℕ) → 0 < length line
    → met_in parts line 0 ≡ cut_to (length line) (lines_of (whole_of parts))
meet_lines_lem parts line some =
    met_parts parts line 0 ∙ met_from (whole_of parts) [] line 0 (length line) (hold_none line) refl some
