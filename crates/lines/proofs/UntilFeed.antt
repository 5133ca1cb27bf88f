-- Laws of `until_feed` (01, 'The receipt program'; 02, [4]): how far the first line feed is, by the bytes that are
-- passed and by a byte that is read. Assumes nothing.
use mathlib.Core.Path.{◌≡◌, refl, sym, ap, ◌∙◌}
use mathlib.Core.List.{List, [], ◌∷◌}
use Prim.Native.Nat.{ℕ, zero, suc, ◌+◌, ◌<◌, ◌≤◌, min}
use native.Mathlib.Decide.{ℕ_discrete, dec_lt}
use native.Mathlib.Omega.{arith}
use borrow.Author.Tests.{eq-eqb, ne_eqb, lt-ltb, le-ltb}
use lib.Dec.{eqb, ltb}
use lib.ListN.{length, take, drop}
use Rattle.std.specs.Prelude.{Option, Some, None, cond}
use Rattle.std.specs.List.{position_or_len}
use Rattle.std.specs.Option.{unwrap_or}
use Rattle.lines.specs.Lines.{line_feed}
use Rattle.lines.specs.LineEnds.{until_feed}

module _ (x : ℕ) (s : List ℕ) where
  -- A line feed ends the line.
  pub until_end : x ≡ line_feed → until_feed (x ∷ s) ≡ 0
  unfolding until_feed
  until_end e = simp (eq-eqb x line_feed e)

  -- Any other byte belongs to it.
  pub until_more : (x ≡ line_feed → ⊥) → until_feed (x ∷ s) ≡ suc (until_feed s)
  unfolding until_feed
  until_more other = simp (ne_eqb x line_feed other)

-- No bytes.
pub until_none : until_feed [] ≡ 0
unfolding until_feed
until_none = refl

-- No more bytes than there are.
pub until_within : (s : List ℕ) → until_feed s ≤ length s
until_within [] = omega (arith, until_none)
until_within (x ∷ s) = go (until_within s) (ℕ_discrete x line_feed)
  where
    go : until_feed s ≤ length s → Dec (x ≡ line_feed) → until_feed (x ∷ s) ≤ suc (length s)
    go rest (yes e) = omega (arith, until_end x s e)
    go rest (no other) = omega (arith, until_more x s other)

-- The bytes in front of the first line feed, less k of them.
pub until_clear : (k : ℕ) (s : List ℕ) → k ≤ until_feed s → until_feed s ≡ k + until_feed (drop k s)
until_clear zero s h = omega arith
until_clear (suc k) [] h = absurd (omega (arith, until_none))
until_clear (suc k) (x ∷ s) h = go (until_clear k s) (ℕ_discrete x line_feed)
  where
    go : (k ≤ until_feed s → until_feed s ≡ k + until_feed (drop k s)) → Dec (x ≡ line_feed)
        → until_feed (x ∷ s) ≡ suc k + until_feed (drop k s)
    go rest (yes e) = absurd (omega (arith, until_end x s e))
    go rest (no other) = omega (arith, until_more x s other, rest (omega (arith, until_more x s other)))

-- It is the place of the first byte that is one.
pub until_position : (s : List ℕ) → until_feed s ≡ position_or_len (λ x. eqb x line_feed) s
unfolding until_feed
until_position [] = refl
until_position (x ∷ s) = go (until_position s) (ℕ_discrete x line_feed)
  where
    go : until_feed s ≡ position_or_len (λ y. eqb y line_feed) s → Dec (x ≡ line_feed)
        → until_feed (x ∷ s) ≡ position_or_len (λ y. eqb y line_feed) (x ∷ s)
    go rest (yes e) = until_end x s e ∙ simp (eq-eqb x line_feed e)
    go rest (no other) = until_more x s other ∙ simp (ne_eqb x line_feed other) (omega (arith, rest))

-- Or the length, where none is.
pub until_found : (s : List ℕ) (found : Option ℕ)
    → found
    ≡ cond (ltb (position_or_len (λ x. eqb x line_feed) s) (length s))
    (Some (position_or_len (λ x. eqb x line_feed) s)) None
    → unwrap_or found (length s) ≡ until_feed s
until_found s found e = ap (λ (r : Option ℕ). unwrap_or r (length s)) e ∙ go (dec_lt p (length s))
  where
    p : ℕ
    p = position_or_len (λ x. eqb x line_feed) s

    go : Dec (p < length s) → unwrap_or (cond (ltb p (length s)) (Some p) None) (length s) ≡ until_feed s
    go (yes lt) = simp (lt-ltb p (length s) lt) (sym (until_position s))
    go (no le) = simp (le-ltb p (length s) (omega arith)) (omega (arith, until_within s, until_position s))

-- Among the first n bytes.
pub until_take : (n : ℕ) (s : List ℕ) → until_feed (take n s) ≡ min n (until_feed s)
until_take zero s = omega (arith, until_none)
until_take (suc n) [] = omega (arith, until_none)
until_take (suc n) (x ∷ s) = go (until_take n s) (ℕ_discrete x line_feed)
  where
    go : until_feed (take n s) ≡ min n (until_feed s) → Dec (x ≡ line_feed)
        → until_feed (x ∷ take n s) ≡ min (suc n) (until_feed (x ∷ s))
    go rest (yes e) = omega (arith, until_end x s e, until_end x (take n s) e)
    go rest (no other) = omega (arith, until_more x s other, until_more x (take n s) other, rest)
