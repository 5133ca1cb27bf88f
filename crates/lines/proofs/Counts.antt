-- The lines of bytes by their line feeds (02, [4]): as many lines as line feeds, and one where the last line is
-- unended; the bytes of all lines and the line feeds are all bytes. Assumes nothing.
use mathlib.Core.Path.{◌≡◌, refl, sym, ap, ◌∙◌}
use mathlib.Core.List.{List, [], ◌∷◌, ◌++◌}
use Prim.Native.Nat.{ℕ, suc, ◌+◌, ◌-◌, ◌<◌, ◌≤◌}
use native.Mathlib.Decide.{ℕ_discrete}
use native.Mathlib.Numerals.{add-one}
use native.Mathlib.Omega.{arith}
use borrow.Author.Tests.{eq-eqb, ne_eqb}
use lib.ListN.{length, drop, get_or, length-append, drop_of_length-le}
use lib.Seq.{drop-cons}
use Rattle.std.proofs.lemmas.List.{get_or_read}
use Rattle.lines.specs.Lines.{line_feed, last_line, lines_from, lines_of, line_bytes}
use Rattle.lines.specs.inside.Counting.{count_feeds_value, last_of, unended_at, count_unended_value}
use Rattle.lines.proofs.Lines.{lines_end, lines_more}

module _ (x : ℕ) (s : List ℕ) where
  -- A line feed is counted.
  count_end : x ≡ line_feed → count_feeds_value (x ∷ s) ≡ suc (count_feeds_value s)
  unfolding count_feeds_value
  count_end e = simp (eq-eqb x line_feed e)

  -- Any other byte is not.
  count_more : (x ≡ line_feed → ⊥) → count_feeds_value (x ∷ s) ≡ count_feeds_value s
  unfolding count_feeds_value
  count_more other = simp (ne_eqb x line_feed other)

-- No bytes.
count_none : count_feeds_value [] ≡ 0
unfolding count_feeds_value
count_none = refl

module _ (s : List ℕ) (i : ℕ) where
  module _ (lt : i < length s) where
    -- The byte at the place, and those behind it.
    next : drop i s ≡ get_or s i 0 ∷ drop (i + 1) s
    next = rw add-one (drop-cons s i 0 lt)

    -- A line feed at a place, and those behind it.
    pub feeds_end : get_or s i 0 ≡ line_feed → count_feeds_value (drop i s) ≡ suc (count_feeds_value (drop (i + 1) s))
    feeds_end e = ap count_feeds_value next ∙ count_end (get_or s i 0) (drop (i + 1) s) e

    -- Another byte, and the line feeds behind it.
    pub feeds_more : (get_or s i 0 ≡ line_feed → ⊥) → count_feeds_value (drop i s) ≡ count_feeds_value (drop (i + 1) s)
    feeds_more other = ap count_feeds_value next ∙ count_more (get_or s i 0) (drop (i + 1) s) other

  -- None behind the last byte.
  pub feeds_none : length s ≤ i → count_feeds_value (drop i s) ≡ 0
  feeds_none le = ap count_feeds_value (drop_of_length-le s le) ∙ count_none

-- The last byte is read at the last place.
last_read : (x : ℕ) (s : List ℕ) → last_of x s ≡ get_or (x ∷ s) (length s) 0
last_read x [] = refl
last_read x (y ∷ s) = last_read y s

-- The last byte, where there is one.
pub last_byte : (s : List ℕ) → 0 < length s → unended_at (get_or s (length s - 1) 0) ≡ count_unended_value s
last_byte [] some = absurd (omega arith)
last_byte (x ∷ s) some =
    let place : length (x ∷ s) - 1 ≡ length s = omega arith in
    ap (λ (k : ℕ). unended_at (get_or (x ∷ s) k 0)) place ∙ ap unended_at (sym (last_read x s))

-- It is no line feed.
pub last_other : (s : List ℕ) (x : ℕ) → 0 < length s → x ≡ get_or s (length s - 1) x → (x ≡ line_feed → ⊥)
    → 1 ≡ count_unended_value s
last_other s x some e other =
    sym (simp (ne_eqb x line_feed other)) ∙ ap unended_at (get_or_read s (length s - 1) x (omega arith) e 0)
    ∙ last_byte s some

-- It is one.
pub last_feed : (s : List ℕ) (x : ℕ) → 0 < length s → x ≡ get_or s (length s - 1) x → x ≡ line_feed
    → 0 ≡ count_unended_value s
last_feed s x some e f =
    sym (simp (eq-eqb x line_feed f)) ∙ ap unended_at (get_or_read s (length s - 1) x (omega arith) e 0)
    ∙ last_byte s some

-- The line l has begun behind the byte d: it is empty where that is a line feed, and only there.
abbrev Begun : (d : ℕ) (l : List ℕ) → Type 0
Begun d l = length (last_line l) ≡ unended_at d

-- One byte more, which is no line feed.
begun_more : (l : List ℕ) (x : ℕ) → (x ≡ line_feed → ⊥) → Begun x (l ++ (x ∷ []))
begun_more [] x other = simp (ne_eqb x line_feed other)
begun_more (y ∷ l) x other = simp (ne_eqb x line_feed other)

-- How many lines the begun line and the bytes are.
count_from : (s l : List ℕ) (d : ℕ) → Begun d l → length (lines_from l s) ≡ count_feeds_value s + unended_at (last_of d s)
unfolding lines_from count_feeds_value
count_from [] l d h = omega (arith, h)
count_from (x ∷ s) l d h = go (λ l' h'. count_from s l' x h') (ℕ_discrete x line_feed)
  where
    go : ((l' : List ℕ) → Begun x l' → length (lines_from l' s) ≡ count_feeds_value s + unended_at (last_of x s))
        → Dec (x ≡ line_feed) → length (lines_from l (x ∷ s)) ≡ count_feeds_value (x ∷ s) + unended_at (last_of x s)
    go rest (yes e) =
        let none : Begun x [] = simp (eq-eqb x line_feed e) in
        omega (arith, ap length (lines_end l s x e), count_end x s e, rest [] none)
    go rest (no other) =
        omega (
          arith,
          ap length (lines_more l s x other),
          count_more x s other,
          rest (l ++ (x ∷ [])) (begun_more l x other),
        )

-- The bytes of the lines and the line feeds.
bytes_from : (s l : List ℕ) → line_bytes (lines_from l s) + count_feeds_value s ≡ length l + length s
unfolding lines_from count_feeds_value
bytes_from [] [] = refl
bytes_from [] (x ∷ l) = omega arith
bytes_from (x ∷ s) l = go (bytes_from s) (ℕ_discrete x line_feed)
  where
    go : ((l' : List ℕ) → line_bytes (lines_from l' s) + count_feeds_value s ≡ length l' + length s) → Dec (x ≡ line_feed)
        → line_bytes (lines_from l (x ∷ s)) + count_feeds_value (x ∷ s) ≡ length l + suc (length s)
    go rest (yes e) = omega (arith, ap line_bytes (lines_end l s x e), count_end x s e, rest [])
    go rest (no other) =
        omega (
          arith,
          ap line_bytes (lines_more l s x other),
          count_more x s other,
          rest (l ++ (x ∷ [])),
          length-append l (x ∷ []),
        )

-- How many lines there are.
pub lines_count : (s : List ℕ) → length (lines_of s) ≡ count_feeds_value s + count_unended_value s
lines_count s = count_from s [] line_feed refl

-- The bytes of all lines, and the line feeds.
pub bytes_count : (s : List ℕ) → line_bytes (lines_of s) + count_feeds_value s ≡ length s
bytes_count s = omega (arith, bytes_from s [])
