-- Laws of the ends of lines (01, 'The receipt program'; 02, [4]): where a line ends, by the bytes that are passed; the
-- line that is begun at a place, and the lines behind it; and that there are no more lines, and no more bytes of lines,
-- than bytes.
--     line_end_over, line_end_clear     no byte, or k bytes without a line feed
--     line_end_from, line-end-within    the end is between the place and the end of the bytes
--     lines_cut, lines_none, lines-over   the lines from a place on
--     lines_few                         how many lines there are at most
-- Assumes nothing.
use mathlib.Core.Path.{◌≡◌, refl, sym, ap, ap₂, ◌∙◌}
use mathlib.Core.List.{List, [], ◌∷◌, ◌++◌, append_assoc, append-nil}
use Prim.Native.Nat.{ℕ, suc, ◌+◌, ◌-◌, ◌<◌, ◌≤◌}
use native.Mathlib.Decide.{ℕ_discrete}
use native.Mathlib.Omega.{arith}
use lib.ListN.{length, take, drop, length-append, length-drop, drop_of_length-le}
use lib.Seq.{drop-drop}
use Rattle.lines.specs.Lines.{line_feed, last_line, lines_from, lines_of}
use Rattle.lines.specs.LineEnds.{until_feed, line_end_value}
use Rattle.lines.proofs.Lines.{lines_end, lines_more}
use Rattle.lines.proofs.UntilFeed.{until_none, until_end, until_more, until_within, until_clear}

module _ (s : List ℕ) (i : ℕ) where
  -- Beyond the end: the place itself.
  pub line_end_over : length s ≤ i → i ≡ line_end_value s i
  line_end_over le = omega (arith, ap until_feed (drop_of_length-le s le) ∙ until_none)

  -- No line feed among k bytes: the line ends where the one that is begun behind them does.
  pub line_end_clear : (k : ℕ) → k ≤ until_feed (drop i s) → line_end_value s (i + k) ≡ line_end_value s i
  line_end_clear k h = omega (arith, until_clear k (drop i s) h, ap until_feed (drop-drop k i s))

  -- They are bytes.
  pub clear_within : (k : ℕ) → 0 < k → k ≤ until_feed (drop i s) → i + k ≤ length s
  clear_within k some h = omega (arith, until_within (drop i s), length-drop i s)

-- The end is not in front of the place.
pub line_end_from : (s : List ℕ) (from : ℕ) → from ≤ line_end_value s from
line_end_from s from = omega arith

-- It is not behind the last byte.
pub line_end_within : (s : List ℕ) (from : ℕ) → from ≤ length s → line_end_value s from ≤ length s
line_end_within s from h = omega (arith, until_within (drop from s), length-drop from s)

-- The line that has begun, with the bytes up to the first line feed, is the first.
cut_from : (l s : List ℕ) → 0 < length l + length s
    → lines_from l s ≡ (l ++ take (until_feed s) s) ∷ lines_from [] (drop (suc (until_feed s)) s)
unfolding lines_from until_feed
cut_from [] [] some = absurd (omega arith)
cut_from (y ∷ l) [] some = ap (λ (m : List ℕ). m ∷ []) (sym (append-nil (y ∷ l)))
cut_from l (x ∷ s) some = go (λ l' some'. cut_from l' s some') (ℕ_discrete x line_feed)
  where
    Cut : (l' s' : List ℕ) (n : ℕ) → Type 0
    Cut l' s' n = lines_from l' s' ≡ (l' ++ take n s') ∷ lines_from [] (drop (suc n) s')

    go : ((l' : List ℕ) → 0 < length l' + length s → Cut l' s (until_feed s)) → Dec (x ≡ line_feed)
        → Cut l (x ∷ s) (until_feed (x ∷ s))
    go rest (yes e) =
        rw (until_end x s e)
        (lines_end l s x e ∙ ap (λ (m : List ℕ). m ∷ lines_from [] s) (sym (append-nil l)))
    go rest (no other) =
        rw (until_more x s other)
        (lines_more l s x other ∙ rest (l ++ (x ∷ [])) (omega (arith, length-append l (x ∷ [])))
        ∙ ap (λ (m : List ℕ). m ∷ lines_from [] (drop (suc (until_feed s)) s))
        (append_assoc l (x ∷ []) (take (until_feed s) s)))

-- The lines from a place on: the bytes up to the end of the line, and the lines behind it.
pub lines_cut : (s : List ℕ) (at : ℕ) → at < length s
    → lines_of (drop at s) ≡ take (line_end_value s at - at) (drop at s) ∷ lines_of (drop (line_end_value s at + 1) s)
lines_cut s at lt =
    let n : ℕ = until_feed (drop at s) in
    let size : n ≡ line_end_value s at - at = omega arith in
    let place : at + suc n ≡ line_end_value s at + 1 = omega arith in
    cut_from [] (drop at s) (omega (arith, length-drop at s))
    ∙ ap₂ (λ (l : List ℕ) (ls : List (List ℕ)). l ∷ ls) (ap (λ (k : ℕ). take k (drop at s)) size)
    (ap lines_of (drop-drop (suc n) at s ∙ ap (λ (k : ℕ). drop k s) place))

-- No bytes are no lines.
pub lines_none : lines_of [] ≡ []
unfolding lines_from
lines_none = refl

-- Beyond the end there is no line.
pub lines_over : (s : List ℕ) (at : ℕ) → length s ≤ at → lines_of (drop at s) ≡ []
lines_over s at h = ap lines_of (drop_of_length-le s h) ∙ lines_none

-- The lines of the begun line and the bytes are no more than the bytes, and one where it has begun.
few_from : (s l : List ℕ) → length (lines_from l s) ≤ length (last_line l) + length s
unfolding lines_from
few_from [] l = omega arith
few_from (x ∷ s) l = go (few_from s) (ℕ_discrete x line_feed)
  where
    begun : (l' : List ℕ) → length (last_line (l' ++ (x ∷ []))) ≡ 1
    begun [] = refl
    begun (y ∷ l') = refl

    go : ((l' : List ℕ) → length (lines_from l' s) ≤ length (last_line l') + length s) → Dec (x ≡ line_feed)
        → length (lines_from l (x ∷ s)) ≤ length (last_line l) + suc (length s)
    go rest (yes e) = omega (arith, ap length (lines_end l s x e), rest [])
    go rest (no other) = omega (arith, ap length (lines_more l s x other), rest (l ++ (x ∷ [])), begun l)

-- There are no more lines than bytes.
pub lines_few : (s : List ℕ) → length (lines_of s) ≤ length s
lines_few s = omega (arith, few_from s [])
