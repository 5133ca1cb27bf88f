-- One call of `feed` and the bytes it takes: a line that ended has its receipt, and the rest is taken from the next
-- number with no byte held; else nothing is left. Assumes nothing.
use Rattle.std.proofs.Common.{◌≡◌, ℕ, suc, ◌+◌, ◌≤◌, Bool, true, false, List, [], ◌∷◌, length, take, drop, sym, refl}
use Rattle.std.proofs.Common.{◌∙◌, subst, ap₂, arith}
use native.Mathlib.Decide.{ℕ_discrete}
use Rattle.lines.specs.Lines.{line_feed}
use Rattle.lines.specs.Feeding.{kept_line, kept_count}
use Rattle.lines.specs.inside.Taking.{Took, take_line, TookLine}
use Rattle.lines.specs.declared.Fed.{Fed}
use Rattle.lines.proofs.Feeding.{keep_length, took_end, took_more}
use Rattle.lines.proofs.Holding.{keep_size}
use Rattle.rows.specs.Receipts.{receipt_of}
use Rattle.receipts.specs.Serving.{next_number, receipt_then, served}
use Rattle.receipts.proofs.Parts.{served_end, served_more}

-- The line ended: `count` bytes were taken, the line feed with them.
pub record Ends (s : List ℕ) (i k : ℕ) (line : List ℕ) (held : ℕ) (t : Took) : Type 0 where
  pub count : ℕ
  pub place : t.fed.next ≡ i + count
  pub some : 1 ≤ count
  pub most : count ≤ length s
  pub size : length t.line ≡ length line
  pub few : length (take t.fed.held t.line) + 1 ≤ length (take held line) + count
  pub gives : served s k line held
      ≡ receipt_then (receipt_of k (take t.fed.held t.line)) (served (drop count s) (next_number k) t.line 0)

-- The part ended.
pub record RunsOut (s : List ℕ) (i k : ℕ) (line : List ℕ) (held : ℕ) (t : Took) : Type 0 where
  pub place : t.fed.next ≡ i + length s
  pub size : length t.line ≡ length line
  pub few : length (take t.fed.held t.line) ≤ length (take held line) + length s
  pub gives : served s k line held ≡ record { receipts = []; number = k; line = t.line; held = t.fed.held }

-- Which of the two a call of `feed` answers.
abbrev Turn : Bool → (s : List ℕ) (i k : ℕ) (line : List ℕ) (held : ℕ) → Took → Type 0
Turn true s i k line held t = Ends s i k line held t
Turn false s i k line held t = RunsOut s i k line held t

module _ (x : ℕ) (s : List ℕ) (i k : ℕ) (line : List ℕ) (held : ℕ) where
  -- The first byte is a line feed.
  at_end : x ≡ line_feed
      → Ends (x ∷ s) i k line held (record { line = line; fed = record { next = i + 1; held = held; ended = true } })
  at_end e = record {
    count = 1;
    place = refl;
    some = omega arith;
    most = omega arith;
    size = refl;
    few = omega arith;
    gives = served_end x s k line held e;
  }

  -- It is another byte, and the rest is taken.
  behind : (x ≡ line_feed → ⊥) → (t : Took) (b : Bool)
      → Turn b s (i + 1) k (kept_line line held x) (kept_count line held) t → Turn b (x ∷ s) i k line held t
  behind other t true h = record {
    count = suc h.count;
    place = omega (arith, h.place);
    some = omega arith;
    most = omega (arith, h.most);
    size = h.size ∙ keep_length line held x;
    few = omega (arith, h.few, keep_size line held x);
    gives = served_more x s k line held other ∙ h.gives;
  }
  behind other t false h = record {
    place = omega (arith, h.place);
    size = h.size ∙ keep_length line held x;
    few = omega (arith, h.few, keep_size line held x);
    gives = served_more x s k line held other ∙ h.gives;
  }

-- By the bytes of the part.
turn : (s : List ℕ) (i k : ℕ) (line : List ℕ) (held : ℕ)
    → Turn (take_line s i line held).fed.ended s i k line held (take_line s i line held)
unfolding served take_line
turn [] i k line held = record { place = omega arith; size = refl; few = omega arith; gives = refl }
turn (x ∷ s) i k line held =
    go (λ i' line' held'. turn s i' k line' held') (ℕ_discrete x line_feed)
  where
    Rest : Type 0
    Rest = (i' : ℕ) (line' : List ℕ) (held' : ℕ)
        → Turn (take_line s i' line' held').fed.ended s i' k line' held' (take_line s i' line' held')

    Goal : Took → Type 0
    Goal t = Turn t.fed.ended (x ∷ s) i k line held t

    go : Rest → Dec (x ≡ line_feed) → Goal (take_line (x ∷ s) i line held)
    go rest (yes e) = subst Goal (sym (took_end x s i line held e)) (at_end x s i k line held e)
    go rest (no other) =
        let t : Took = take_line s (i + 1) (kept_line line held x) (kept_count line held) in
        subst Goal (sym (took_more x s i line held other))
        (behind x s i k line held other t t.fed.ended (rest (i + 1) (kept_line line held x) (kept_count line held)))

module _ {s : List ℕ} {i : ℕ} {line : List ℕ} {held : ℕ} {line' : List ℕ} {r : Fed} (k : ℕ)
    (w : TookLine s i line held line' r) where
  -- What the call leaves.
  left : take_line s i line held ≡ record { line = line'; fed = r }
  left = ap₂ (λ (l : List ℕ) (f : Fed). record { line = l; fed = f }) (sym w.leaves) (sym w.result)

  -- Which of the two it is.
  so : Turn r.ended s i k line held (record { line = line'; fed = r })
  so = subst (λ (t : Took). Turn t.fed.ended s i k line held t) left (turn s i k line held)

  -- The line ended.
  pub turn-ends : r.ended ≡ true → Ends s i k line held (record { line = line'; fed = r })
  turn-ends e = subst (λ (b : Bool). Turn b s i k line held (record { line = line'; fed = r })) e so

  -- The part ended.
  pub turn-runs_out : r.ended ≡ false → RunsOut s i k line held (record { line = line'; fed = r })
  turn-runs_out e = subst (λ (b : Bool). Turn b s i k line held (record { line = line'; fed = r })) e so
