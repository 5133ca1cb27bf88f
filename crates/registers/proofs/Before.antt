-- The table that the pass keeps of the entries before a place: the marks of their records' fingerprints, and how many
-- entries each holder has. A fingerprint that is not marked is that of no record before. Assumes nothing.
use mathlib.Core.Path.{◌≡◌, refl, sym, ap, ◌∙◌, subst}
use mathlib.Core.Bool.{Bool, true, false, cond}
use mathlib.Core.List.{List, [], ◌∷◌, ◌++◌}
use Prim.Native.Nat.{ℕ, ◌+◌, ◌<◌, ◌≤◌}
use native.Mathlib.Omega.{arith}
use lib.ListN.{length, get_or, set, length-set}
use lib.Seq.{get_or-set_same, get_or-set_other}
use lib.Dec.{eqb}
use borrow.Author.Tests.{eq-eqb, ne_eqb, eqb-true, eqb-false}
use Rattle.lists.proofs.SameBytes.{same_bytes_lem}
use Rattle.group.specs.Forms.{Form}
use Rattle.records.specs.Format.{encode}
use Rattle.registers.specs.Format.{Entry}
use Rattle.registers.specs.Reading.{holds_form, any_holds, live}
use Rattle.registers.specs.inside.Steps.{fingerprint, table_size, mark, low_place_value, high_place_value, count_at, marked_at}
use Rattle.registers.specs.inside.Steps.{marked}
use Rattle.registers.proofs.Counts.{owned_by, live-behind}

-- Both places of a fingerprint are marked.
pub record Marked (x : ℕ) (table : List ℕ) : Type 0 where
  pub low : mark ≤ get_or table (low_place_value x) 0
  pub high : mark ≤ get_or table (high_place_value x) 0

-- Those of the records of all entries are.
abbrev pub AllMarked : List Entry → List ℕ → Type 0
AllMarked [] table = Unit {0}
AllMarked (e ∷ es) table = Marked (fingerprint (encode e.form)) table × AllMarked es table

-- Each holder's entries are counted, and no entry of the table is above a mark and a count below it.
pub record Counted (es : List Entry) (table : List ℕ) : Type 0 where
  pub counts : (h : ℕ) → h < table_size → count_at table h ≡ live h es
  pub small : (i : ℕ) → get_or table i 0 < 16

-- An entry of a table after another was stored: the new one at its place, and elsewhere what it was.
data Stored (l : List ℕ) (i v j : ℕ) : Type 0 where
  here : j ≡ i → get_or (set l i v) j 0 ≡ v → Stored l i v j
  there : (j ≡ i → ⊥) → get_or (set l i v) j 0 ≡ get_or l j 0 → Stored l i v j

stored : (l : List ℕ) (i v j : ℕ) → i < length l → Stored l i v j
stored l i v j h = go (eqb j i) refl
  where
    go : (b : Bool) → eqb j i ≡ b → Stored l i v j
    go true e =
        let same = eqb-true j i e in
        here same (ap (λ (k : ℕ). get_or (set l i v) k 0) same ∙ get_or-set_same l i v 0 h)
    go false e = let other = eqb-false j i e in there other (get_or-set_other l i j v 0 other)

-- A mark at a place: it stands there, other marks stay, counts are as they were, and entries are small.
module _ (l : List ℕ) (i : ℕ) (h : i < length l) where
  mark_here : mark ≤ get_or (marked_at i l) i 0
  mark_here = go (stored l i (count_at l i + mark) i h)
    where
      go : Stored l i (count_at l i + mark) i → mark ≤ get_or (marked_at i l) i 0
      go (here e q) = omega (arith, q)
      go (there n q) = absurd (n refl)

  mark_there : (j : ℕ) → mark ≤ get_or l j 0 → mark ≤ get_or (marked_at i l) j 0
  mark_there j m = go (stored l i (count_at l i + mark) j h)
    where
      go : Stored l i (count_at l i + mark) j → mark ≤ get_or (marked_at i l) j 0
      go (here e q) = omega (arith, q)
      go (there n q) = omega (arith, q, m)

  mark_counted : (es : List Entry) → Counted es l → Counted es (marked_at i l)
  mark_counted es c = record { counts = λ g s. count g s (at g); small = λ j. low j (at j) }
    where
      at : (j : ℕ) → Stored l i (count_at l i + mark) j
      at j = stored l i (count_at l i + mark) j h

      count : (g : ℕ) → g < table_size → Stored l i (count_at l i + mark) g → count_at (marked_at i l) g ≡ live g es
      count g s (here e q) = omega (arith, q, c.counts g s, ap (λ (k : ℕ). get_or l k 0) e)
      count g s (there n q) = omega (arith, q, c.counts g s)

      low : (j : ℕ) → Stored l i (count_at l i + mark) j → get_or (marked_at i l) j 0 < 16
      low j (here e q) = omega (arith, q)
      low j (there n q) = omega (arith, q, c.small j)

module _ (x : ℕ) (table : List ℕ) (low-in : low_place_value x < length table) (high-in : high_place_value x < length table) where
  high_still : high_place_value x < length (marked_at (low_place_value x) table)
  high_still = omega (arith, length-set table (low_place_value x) (count_at table (low_place_value x) + mark), high-in)

  -- The marks of other fingerprints stay, and its own stand.
  marked_keeps : (y : ℕ) → Marked y table → Marked y (marked x table)
  marked_keeps y m = record {
    low =
        mark_there (marked_at (low_place_value x) table) (high_place_value x) high_still (low_place_value y)
        (mark_there table (low_place_value x) low-in (low_place_value y) m.low);
    high =
        mark_there (marked_at (low_place_value x) table) (high_place_value x) high_still (high_place_value y)
        (mark_there table (low_place_value x) low-in (high_place_value y) m.high);
  }

  marked_own : Marked x (marked x table)
  marked_own = record {
    low =
        mark_there (marked_at (low_place_value x) table) (high_place_value x) high_still (low_place_value x)
        (mark_here table (low_place_value x) low-in);
    high = mark_here (marked_at (low_place_value x) table) (high_place_value x) high_still;
  }

  -- One more entry is marked.
  marked-behind : (es : List Entry) (e : Entry) → fingerprint (encode e.form) ≡ x → AllMarked es table
      → AllMarked (es ++ (e ∷ [])) (marked x table)
  marked-behind [] e is m = (subst (λ (y : ℕ). Marked y (marked x table)) (sym is) marked_own, tt)
  marked-behind (d ∷ es) e is m = (marked_keeps _ m.0, marked-behind es e is m.1)

  marked_counted : (es : List Entry) → Counted es table → Counted es (marked x table)
  marked_counted es c =
      mark_counted (marked_at (low_place_value x) table) (high_place_value x) high_still es
      (mark_counted table (low_place_value x) low-in es c)

-- One more entry is counted for its holder, who has fewer than four; marks stay.
module _ (table : List ℕ) (i : ℕ) (h : i < length table) where
  counted_keeps : (es : List Entry) → AllMarked es table → AllMarked es (set table i (get_or table i 0 + 1))
  counted_keeps [] m = tt
  counted_keeps (e ∷ es) m =
      let x = fingerprint (encode e.form) in (
        record { low = keep (low_place_value x) m.0.low; high = keep (high_place_value x) m.0.high },
        counted_keeps es m.1,
      )
    where
      keep : (j : ℕ) → mark ≤ get_or table j 0 → mark ≤ get_or (set table i (get_or table i 0 + 1)) j 0
      keep j k = go (stored table i (get_or table i 0 + 1) j h)
        where
          go : Stored table i (get_or table i 0 + 1) j → mark ≤ get_or (set table i (get_or table i 0 + 1)) j 0
          go (here e q) = omega (arith, q, k, ap (λ (n : ℕ). get_or table n 0) e)
          go (there n q) = omega (arith, q, k)

  counted_behind : (es : List Entry) (e : Entry) → e.holder ≡ i → count_at table i < 4 → Counted es table
      → Counted (es ++ (e ∷ [])) (set table i (get_or table i 0 + 1))
  counted_behind es e own few c = record { counts = λ g s. count g s (at g); small = λ j. low j (at j) }
    where
      at : (j : ℕ) → Stored table i (get_or table i 0 + 1) j
      at j = stored table i (get_or table i 0 + 1) j h

      count : (g : ℕ) → g < table_size → Stored table i (get_or table i 0 + 1) g
          → count_at (set table i (get_or table i 0 + 1)) g ≡ live g (es ++ (e ∷ []))
      count g s (here q p) =
          let one : owned_by g e ≡ 1 = simp (eq-eqb e.holder g (own ∙ sym q)) in
          omega (arith, p, few, c.counts g s, ap (λ (n : ℕ). get_or table n 0) q, live-behind g es e, one)
      count g s (there n p) =
          let none : owned_by g e ≡ 0 = simp (ne_eqb e.holder g (λ q. n (sym q ∙ own))) in
          omega (arith, p, c.counts g s, live-behind g es e, none)

      low : (j : ℕ) → Stored table i (get_or table i 0 + 1) j → get_or (set table i (get_or table i 0 + 1)) j 0 < 16
      low j (here q p) = omega (arith, p, few, c.small i)
      low j (there n p) = omega (arith, p, c.small j)

-- What the table says of the entries, and of one more.
pub record Tabled (es : List Entry) (table : List ℕ) : Type 0 where
  pub all_marked : AllMarked es table
  pub counted : Counted es table
  pub long : length table ≡ table_size

pub marked_small : (es : List Entry) (table : List ℕ) (x i : ℕ) → Tabled es table → x < 4294967296
    → get_or (marked x table) i 0 < 16
marked_small es table x i t small =
    (marked_counted x table (omega (arith, t.long)) (omega (arith, small, t.long)) es t.counted).small i

pub tabled_behind : (es : List Entry) (e : Entry) (table : List ℕ) (x : ℕ) → Tabled es table
    → fingerprint (encode e.form) ≡ x → x < 4294967296 → e.holder < table_size → live e.holder es < 4
    → Tabled (es ++ (e ∷ [])) (set (marked x table) e.holder (get_or (marked x table) e.holder 0 + 1))
tabled_behind es e table x t is small two few =
    let low-in : low_place_value x < length table = omega (arith, t.long) in
    let high-in : high_place_value x < length table = omega (arith, small, t.long) in
    let first = length-set table (low_place_value x) (count_at table (low_place_value x) + mark) in
    let second =
    length-set (marked_at (low_place_value x) table) (high_place_value x)
    (count_at (marked_at (low_place_value x) table) (high_place_value x) + mark) in
    let long : length (marked x table) ≡ table_size = second ∙ first ∙ t.long in
    let inside : e.holder < length (marked x table) = omega (arith, long, two) in
    let marks = marked-behind x table low-in high-in es e is t.all_marked in
    let counts = marked_counted x table low-in high-in es t.counted in
    record {
      all_marked = counted_keeps (marked x table) e.holder inside (es ++ (e ∷ [])) marks;
      counted =
          counted_behind (marked x table) e.holder inside es e refl
          (omega (arith, counts.counts e.holder two, few)) counts;
      long =
          length-set (marked x table) e.holder (get_or (marked x table) e.holder 0 + 1) ∙ long;
    }

-- Where a fingerprint is not marked, no entry has the record.
pub unmarked_none : (f : Form) (es : List Entry) (table : List ℕ) → AllMarked es table
    → (Marked (fingerprint (encode f)) table → ⊥) → any_holds f es ≡ false
unmarked_none f [] table m n = refl
unmarked_none f (e ∷ es) table m n = go (holds_form f e) refl (unmarked_none f es table m.1 n)
  where
    go : (b : Bool) → holds_form f e ≡ b → any_holds f es ≡ false → cond b true (any_holds f es) ≡ false
    go true k more =
        absurd
        (n (subst (λ (y : ℕ). Marked y table) (ap fingerprint (same_bytes_lem (encode e.form) (encode f) k)) m.0))
    go false k more = more
