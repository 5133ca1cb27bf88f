-- The test of a block of 64 bytes for a line feed, one byte at a time; a clear block is whole and holds none (01, 'The
-- receipt program'; 02, [4]). Assumes nothing.
use mathlib.Core.Path.{◌≡◌, refl, sym, ap, ◌∙◌}
use mathlib.Core.Bool.{Bool, true, false, not, cond}
use mathlib.Core.List.{List, [], ◌∷◌}
use Prim.Native.Nat.{ℕ, suc, ◌+◌, ◌-◌, ◌<◌, ◌≤◌, min}
use native.Mathlib.Decide.{ℕ_discrete, dec_lt}
use native.Mathlib.Omega.{arith}
use borrow.Author.Tests.{lt-ltb, le-ltb, le-leb, lt-leb, leb-true, eq-eqb, ne_eqb}
use lib.Dec.{eqb, ltb, leb}
use lib.ListN.{length, take, drop, length-take, length-drop}
use Rattle.std.specs.Int.Bits.{bit_or}
use Rattle.std.specs.List.{fold}
use Rattle.lines.specs.Lines.{line_feed}
use Rattle.lines.specs.LineEnds.{until_feed, line_end_value}
use Rattle.lines.proofs.UntilFeed.{until_end, until_more, until_within, until_take}
use Rattle.lines.proofs.LineEnds.{line_end_clear, clear_within}

-- Whether a line feed was found, as a number.
abbrev found_as : Bool → ℕ
found_as found = cond found 1 0

-- One byte more is tested.
abbrev pub found_next : (n x : ℕ) → ℕ
found_next n x = bit_or n (found_as (eqb x line_feed))

-- As a truth value.
found_or : (found more : Bool) → bit_or (found_as found) (found_as more) ≡ found_as (cond found true more)
found_or true true = refl
found_or true false = refl
found_or false true = refl
found_or false false = refl

-- Whether a line feed was found before some bytes, or stands among them.
found_from : (s : List ℕ) (found : Bool)
    → fold found_next (found_as found) s ≡ found_as (cond found true (ltb (until_feed s) (length s)))
found_from [] true = refl
found_from [] false = ap found_as (sym (le-ltb (until_feed []) 0 (omega arith)))
found_from (x ∷ s) found =
    ap (λ (n : ℕ). fold found_next n s) (found_or found (eqb x line_feed))
    ∙ found_from s (cond found true (eqb x line_feed))
    ∙ ap found_as (go found (ℕ_discrete x line_feed))
  where
    go : (f : Bool) → Dec (x ≡ line_feed)
        → cond (cond f true (eqb x line_feed)) true (ltb (until_feed s) (length s))
        ≡ cond f true (ltb (until_feed (x ∷ s)) (suc (length s)))
    go true d = refl
    go false (yes e) =
        ap (λ (b : Bool). cond b true (ltb (until_feed s) (length s))) (eq-eqb x line_feed e)
        ∙ sym (lt-ltb (until_feed (x ∷ s)) (suc (length s)) (omega (arith, until_end x s e)))
    go false (no other) =
        ap (λ (b : Bool). cond b true (ltb (until_feed s) (length s))) (ne_eqb x line_feed other)
        ∙ further (dec_lt (until_feed s) (length s))
      where
        further : Dec (until_feed s < length s)
            → ltb (until_feed s) (length s) ≡ ltb (until_feed (x ∷ s)) (suc (length s))
        further (yes lt) =
            lt-ltb (until_feed s) (length s) lt
            ∙ sym (lt-ltb (until_feed (x ∷ s)) (suc (length s)) (omega (arith, until_more x s other)))
        further (no le) =
            le-ltb (until_feed s) (length s) (omega arith)
            ∙ sym (le-ltb (until_feed (x ∷ s)) (suc (length s)) (omega (arith, until_more x s other)))

-- Among all bytes.
pub found_in : (s : List ℕ) (n : ℕ) → n ≡ fold found_next 0 s → eqb n 1 ≡ ltb (until_feed s) (length s)
found_in s n e = ap (λ (k : ℕ). eqb k 1) (e ∙ found_from s false) ∙ go (ltb (until_feed s) (length s))
  where
    go : (b : Bool) → eqb (found_as b) 1 ≡ b
    go true = refl
    go false = refl

-- Where there are fewer bytes than a block has, none is clear.
pub short_block : (s : List ℕ) (from n : ℕ) → length s - from < n → false ≡ leb n (until_feed (drop from s))
short_block s from n short =
    sym (lt-leb n (until_feed (drop from s)) (omega (arith, until_within (drop from s), length-drop from s)))

-- A block is clear where no line feed was found in it.
pub tested_block : (s block : List ℕ) (from n : ℕ) (found : Bool) → n ≤ length s - from → block ≡ take n (drop from s)
    → found ≡ ltb (until_feed block) (length block) → not found ≡ leb n (until_feed (drop from s))
tested_block s block from n found whole e h = ap not h ∙ go (dec_lt u n)
  where
    u : ℕ
    u = until_feed (drop from s)

    first : until_feed block ≡ min n u
    first = ap until_feed e ∙ until_take n (drop from s)

    size : length block ≡ n
    size = ap length e ∙ omega (arith, length-take n (drop from s), length-drop from s)

    go : Dec (u < n) → not (ltb (until_feed block) (length block)) ≡ leb n u
    go (yes lt) =
        ap not (lt-ltb (until_feed block) (length block) (omega (arith, first, size))) ∙ sym (lt-leb n u lt)
    go (no le) =
        ap not (le-ltb (until_feed block) (length block) (omega (arith, first, size)))
        ∙ sym (le-leb n u (omega arith))

module _ (s : List ℕ) (i : ℕ) (clear : Bool) (h : clear ≡ leb 64 (until_feed (drop i s))) (e : clear ≡ true) where
  -- 64 bytes stand in front of the first line feed.
  none : 64 ≤ until_feed (drop i s)
  none = leb-true 64 (until_feed (drop i s)) (sym h ∙ e)

  -- A clear block is whole.
  pub block_within : i + 64 ≤ length s
  block_within = clear_within s i 64 (omega arith) none

  -- The line that is begun behind it ends where the one begun in front of it does.
  pub block_passed : line_end_value s (i + 64) ≡ line_end_value s i
  block_passed = line_end_clear s i 64 none
