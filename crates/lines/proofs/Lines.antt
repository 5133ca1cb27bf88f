-- Laws of the lines of bytes (01, 'The receipt program'): no line holds a line feed, and the lines, each ended by one,
-- are the bytes again, or the bytes and one more line feed. Assumes nothing.
use mathlib.Core.Path.{◌≡◌, refl, sym, ap, ◌∙◌, subst}
use mathlib.Core.List.{List, [], ◌∷◌, ◌++◌, append_assoc, append-nil}
use mathlib.Core.Logic.{◌⊎◌, inl, inr}
use Prim.Native.Nat.{ℕ, zero, suc, ◌+◌}
use native.Mathlib.Decide.{ℕ_discrete}
use native.Mathlib.Omega.{arith}
use lib.ListN.{length}
use borrow.Author.Tests.{eq-eqb, ne_eqb}
use Rattle.lists.specs.Entries.{At}
use Rattle.lists.proofs.Entries.{at_split}
use Rattle.lines.specs.Lines.{line_feed, lines_from, lines_of, join_lines}

module _ (l s : List ℕ) (x : ℕ) where
  -- A line feed ends the line.
  pub lines_end : x ≡ line_feed → lines_from l (x ∷ s) ≡ l ∷ lines_from [] s
  unfolding lines_from
  lines_end e = simp (eq-eqb x line_feed e)

  -- Any other byte belongs to it.
  pub lines_more : (x ≡ line_feed → ⊥) → lines_from l (x ∷ s) ≡ lines_from (l ++ (x ∷ [])) s
  unfolding lines_from
  lines_more other = simp (ne_eqb x line_feed other)

-- No entry is a line feed.
abbrev pub NoLineFeed : List ℕ → Type 0
NoLineFeed l = (i : ℕ) → At l i line_feed → ⊥

-- One byte more, which is none.
no_feed_more : (l : List ℕ) (x : ℕ) → NoLineFeed l → (x ≡ line_feed → ⊥) → NoLineFeed (l ++ (x ∷ []))
no_feed_more l x h other i p = go (at_split l (x ∷ []) i line_feed p)
  where
    last : (j : ℕ) → At (x ∷ []) j line_feed → ⊥
    last zero q = other q
    last (suc j) q = q

    go : At l i line_feed ⊎ ((j : ℕ) × (i ≡ length l + j) × At (x ∷ []) j line_feed) → ⊥
    go (inl q) = h i q
    go (inr q) = last q.0 q.2

-- Where what has begun holds no line feed, no line holds one.
pub lines_no_feed : (s l : List ℕ) → NoLineFeed l → (k : ℕ) (m : List ℕ) → At (lines_from l s) k m → NoLineFeed m
unfolding lines_from
lines_no_feed [] [] h k m p = absurd p
lines_no_feed [] (x ∷ l) h zero m p = subst NoLineFeed p h
lines_no_feed [] (x ∷ l) h (suc k) m p = absurd p
lines_no_feed (x ∷ s) l h k m p = go (λ l' h' k' m' p'. lines_no_feed s l' h' k' m' p') (ℕ_discrete x line_feed)
  where
    Rest : Type 0
    Rest = (l' : List ℕ) → NoLineFeed l' → (k' : ℕ) (m' : List ℕ) → At (lines_from l' s) k' m' → NoLineFeed m'

    first : Rest → (j : ℕ) → At (l ∷ lines_from [] s) j m → NoLineFeed m
    first rest zero q = subst NoLineFeed q h
    first rest (suc j) q = rest [] (λ i r. r) j m q

    go : Rest → Dec (x ≡ line_feed) → NoLineFeed m
    go rest (yes e) = first rest k (subst (λ (ls : List (List ℕ)). At ls k m) (lines_end l s x e) p)
    go rest (no other) =
        rest (l ++ (x ∷ [])) (no_feed_more l x h other) k m
        (subst (λ (ls : List (List ℕ)). At ls k m) (lines_more l s x other) p)

-- The last byte is no line feed.
pub record Unended (s : List ℕ) : Type 0 where
  pub last : ℕ
  pub front : List ℕ
  pub other : last ≡ line_feed → ⊥
  pub same : s ≡ front ++ (last ∷ [])

-- Bytes in front change nothing.
unended_behind : (l s : List ℕ) → Unended s → Unended (l ++ s)
unended_behind l s u = record {
  last = u.last;
  front = l ++ u.front;
  other = u.other;
  same = ap (λ (t : List ℕ). l ++ t) u.same ∙ sym (append_assoc l u.front (u.last ∷ []));
}

-- The lines joined are the bytes, or the bytes and one more line feed, where the last byte is none.
abbrev Joins : (joined s : List ℕ) → Type 0
Joins joined s = (joined ≡ s) ⊎ (Unended s × (joined ≡ s ++ (line_feed ∷ [])))

-- One line in front.
joins_behind : (l joined s : List ℕ) → Joins joined s → Joins (l ++ joined) (l ++ s)
joins_behind l joined s (inl e) = inl (ap (λ (t : List ℕ). l ++ t) e)
joins_behind l joined s (inr h) =
    inr (unended_behind l s h.0, ap (λ (t : List ℕ). l ++ t) h.1 ∙ sym (append_assoc l s (line_feed ∷ [])))

-- What has begun is empty or has no line feed at its end.
joins_from : (s l : List ℕ) → (l ≡ []) ⊎ Unended l → Joins (join_lines (lines_from l s)) (l ++ s)
unfolding lines_from
joins_from [] [] h = inl refl
joins_from [] (x ∷ l) (inl e) = absurd (nil_cons e)
  where
    nil_cons : x ∷ l ≡ [] → ⊥
    nil_cons e = let w : ◌≡◌ {A = ℕ} (length (x ∷ l)) 0 = ap length e in absurd (omega (arith, w))
joins_from [] (x ∷ l) (inr u) =
    let same : x ∷ l ≡ (x ∷ l) ++ [] = sym (append-nil (x ∷ l)) in
    inr (subst Unended same u, ap (λ (t : List ℕ). t ++ (line_feed ∷ [])) same)
joins_from (x ∷ s) l h = go (λ l' h'. joins_from s l' h') (ℕ_discrete x line_feed)
  where
    Rest : Type 0
    Rest = (l' : List ℕ) → (l' ≡ []) ⊎ Unended l' → Joins (join_lines (lines_from l' s)) (l' ++ s)

    go : Rest → Dec (x ≡ line_feed) → Joins (join_lines (lines_from l (x ∷ s))) (l ++ (x ∷ s))
    go rest (yes e) =
        let behind : Joins (line_feed ∷ join_lines (lines_from [] s)) (line_feed ∷ s) =
        joins_behind (line_feed ∷ []) (join_lines (lines_from [] s)) s (rest [] (inl refl)) in
        let line : Joins (l ++ (line_feed ∷ join_lines (lines_from [] s))) (l ++ (line_feed ∷ s)) =
        joins_behind l (line_feed ∷ join_lines (lines_from [] s)) (line_feed ∷ s) behind in
        rw (lines_end l s x e, e) line
    go rest (no other) =
        let last : Unended (l ++ (x ∷ [])) = record { last = x; front = l; other = other; same = refl } in
        let more : Joins (join_lines (lines_from (l ++ (x ∷ [])) s)) (l ++ (x ∷ s)) =
        subst (Joins (join_lines (lines_from (l ++ (x ∷ [])) s))) (append_assoc l (x ∷ []) s)
        (rest (l ++ (x ∷ [])) (inr last)) in
        rw (lines_more l s x other) more

-- The lines of bytes, joined.
pub lines_join : (s : List ℕ)
    → (join_lines (lines_of s) ≡ s) ⊎ (Unended s × (join_lines (lines_of s) ≡ s ++ (line_feed ∷ [])))
lines_join s = joins_from s [] (inl refl)
