-- The steps of the scan, for the functions inside this crate.
--     next_side, passed_side   a tree at the next caret, or behind some with no exponent behind them
--     added t x y n          n columns x over y added to a tally
--     Amid m u v t w         m columns are to come, and the sum comes to w
--     Reached b a n i w s    the scan of two tables, with n carets, has reached leaf i
-- Inside: no claim reaches these definitions; a reader of the claims need not believe them. Assumes nothing.
use Rattle.std.specs.Prelude.{◌≡◌, Bool, true, false, ◌&&◌, List, ℕ, zero, suc, ◌+◌, ◌-◌, ◌*◌, ◌≤◌, ◌<◌, min, length}
use Rattle.std.specs.Prelude.{drop, get_or, slice_index_or, eqb}
use Rattle.trees.specs.Pairs.{max_carets, carets_of_sides}
use Rattle.lengths.specs.Kinds.{kind_of}
use Rattle.lengths.specs.Labels.{Label, label_of}
use Rattle.lengths.specs.declared.kinds.CaretLabel.{CaretLabel}
use Rattle.lengths.specs.inside.Steps.{class_of, label_named}
use Rattle.geodesics.specs.Rows.{Row, row, next_open, next_left}
use Rattle.geodesics.specs.inside.Costs.{label_by, cost, Closed}
use Rattle.scans.specs.declared.sides.Side.{Side}
use Rattle.scans.specs.declared.table.Tally.{Tally}
use Rattle.scans.specs.declared.columns.State.{State}
use Rattle.scans.specs.declared.scan.Place.{Place}
use Rattle.scans.specs.Table.{number_of, label_entry}

-- 1 where a test holds, else 0.
abbrev pub bit_of : Bool → ℕ
bit_of true = 1
bit_of false = 0

-- A tree at the next caret, by the exponent of the leaf behind this one.
abbrev pub next_side : Side → ℕ → Side
next_side s e = record { subtrees = next_open s.subtrees e; lefts = next_left s.subtrees s.lefts }

-- How many carets with no exponent behind them have one label, by the counters and at most so many.
abbrev pub run_by : (subtrees lefts most : ℕ) → ℕ
run_by zero zero most = most
run_by zero (suc l) most = min (suc l) most
run_by (suc s) l most = min (suc s) most

abbrev pub run_of : Side → ℕ → ℕ
run_of s most = run_by s.subtrees s.lefts most

-- So many have.
abbrev pub RunsBy : (count subtrees lefts : ℕ) → Type 0
RunsBy c zero zero = Unit {0}
RunsBy c zero (suc l) = c ≤ suc l
RunsBy c (suc s) l = c ≤ suc s

abbrev pub Runs : ℕ → Side → Type 0
Runs c s = RunsBy c s.subtrees s.lefts

-- The tree behind so many of them.
abbrev pub lefts_past : (subtrees lefts count : ℕ) → ℕ
lefts_past zero l c = l - c
lefts_past (suc s) l c = l

abbrev pub passed_side : Side → ℕ → Side
passed_side s c = record { subtrees = s.subtrees - c; lefts = lefts_past s.subtrees s.lefts c }

-- The labels of a class, where the next caret is not interior and where it is.
pub record LabelsOf (class : ℕ) (labels : List CaretLabel) : Type 0 where
  pub size : length labels ≡ 2
  pub at : (next : Bool) (d : CaretLabel)
      → label_named (slice_index_or labels (bit_of next) d) ≡ label_of (kind_of (class_of class) next next)

-- Those of all four classes.
pub record ClassLabels (labels : List (List CaretLabel)) : Type 0 where
  pub size : length labels ≡ 4
  pub at : (class : ℕ) (d : List CaretLabel) → class < 4 → LabelsOf class (slice_index_or labels class d)

-- A column is R over R.
abbrev pub both_right : (x y : ℕ) → Bool
both_right x y = eqb x 3 && eqb y 3

-- Columns of some weight wait, or count with what waits before them.
abbrev pub tallied : Tally → (weight : ℕ) (waits : Bool) → Tally
tallied t w true = record { sum = t.sum; pending = t.pending + w }
tallied t w false = record { sum = t.sum + (t.pending + w); pending = 0 }

-- 16 bits hold the sums.
pub record Room (t : Tally) (weight : ℕ) (waits : Bool) : Type 0 where
  pub few : t.pending + weight ≤ 65535
  pub small : waits ≡ false → t.sum + (t.pending + weight) ≤ 65535

-- So many columns x over y.
abbrev pub weighing : Label → Label → ℕ → ℕ
weighing x y n = label_entry (number_of x) (number_of y) * n

abbrev pub waiting : Label → Label → Bool
waiting x y = both_right (number_of x) (number_of y)

abbrev pub added : Tally → Label → Label → ℕ → Tally
added t x y n = tallied t (weighing x y n) (waiting x y)

-- The label of the caret of a tree, by the exponent of the leaf behind it.
abbrev pub label_at : Side → ℕ → Label
label_at s e = label_by s.subtrees s.lefts e

-- One column more, e and f the exponents of the leaf behind its caret.
abbrev pub column_of : State → (e f : ℕ) → State
column_of s e f = record {
  minus = next_side s.minus e;
  plus = next_side s.plus f;
  tally = added s.tally (label_at s.minus e) (label_at s.plus f) 1;
}

-- The counters and the sums have room for it.
pub record Ready (s : State) (e f : ℕ) : Type 0 where
  pub minus_small : s.minus.subtrees + e ≤ 4294967295
  pub plus_small : s.plus.subtrees + f ≤ 4294967295
  pub room :
      Room s.tally (weighing (label_at s.minus e) (label_at s.plus f) 1)
      (waiting (label_at s.minus e) (label_at s.plus f))

-- A run of columns with no exponent behind them.
abbrev pub stretched_by : State → ℕ → State
stretched_by s n = record {
  minus = passed_side s.minus n;
  plus = passed_side s.plus n;
  tally = added s.tally (label_at s.minus 0) (label_at s.plus 0) n;
}

-- Their labels stay, and the sums have room for them.
pub record Stretch (s : State) (n : ℕ) : Type 0 where
  pub minus_runs : Runs n s.minus
  pub plus_runs : Runs n s.plus
  pub few : n ≤ 65535
  pub room :
      Room s.tally (weighing (label_at s.minus 0) (label_at s.plus 0) n)
      (waiting (label_at s.minus 0) (label_at s.plus 0))

-- Columns that wait count where columns behind them weigh something.
abbrev pub held : (pending behind : ℕ) → ℕ
held p zero = zero
held p (suc c) = p + suc c

-- m columns of the rows u and v are to come, and close both; the tally with them comes to w.
pub record Amid (m : ℕ) (u v : Row) (t : Tally) (w : ℕ) : Type 0 where
  pub minus_closed : Closed m u
  pub plus_closed : Closed m v
  pub whole : t.sum + held t.pending (cost m u v) ≡ w
  pub few : t.pending + 2 * m ≤ 65535
  pub small : w ≤ 65535

-- The row of a tree in front of exponents.
abbrev pub row_at : Side → List ℕ → Row
row_at s es = row s.subtrees s.lefts es

abbrev pub AmidAt : (m : ℕ) (es fs : List ℕ) (s : State) (w : ℕ) → Type 0
AmidAt m es fs s w = Amid m (row_at s.minus es) (row_at s.plus fs) s.tally w

-- The first entries are 0.
abbrev pub Zeros : ℕ → List ℕ → Type 0
Zeros n es = (i : ℕ) → i < n → get_or es i 0 ≡ 0

-- Columns with no exponent behind them are to come, and were weighed.
pub record Passing (n : ℕ) (s : State) : Type 0 where
  pub minus_behind : List ℕ
  pub plus_behind : List ℕ
  pub more : ℕ
  pub total : ℕ
  pub minus_zeros : Zeros n minus_behind
  pub plus_zeros : Zeros n plus_behind
  pub amid : AmidAt (n + more) minus_behind plus_behind s total
  pub few : n ≤ suc max_carets

pub record Passed (n : ℕ) (s r : State) : Type 0 where
  pub amid : (es fs : List ℕ) (m w : ℕ) → Zeros n es → Zeros n fs → AmidAt (n + m) es fs s w
      → AmidAt m (drop n es) (drop n fs) r w

-- The scan of the tables b and a, whose trees have n carets, has reached leaf i, which is behind caret i − 1.
pub record Reached (b a : List ℕ) (n i w : ℕ) (s : State) : Type 0 where
  pub columns : ℕ
  pub to_come : columns + i ≡ suc n
  pub amid : AmidAt columns (drop i a) (drop i b) s w

-- The columns from one leaf on to another are to come, and were weighed.
pub record Scanning (b a : List ℕ) (from stop : ℕ) (s : State) : Type 0 where
  pub carets : ℕ
  pub total : ℕ
  pub reached : Reached b a carets from total s
  pub on : from ≤ stop
  pub within : stop ≤ suc carets
  pub small : carets ≤ max_carets

pub record Scanned (b a : List ℕ) (from stop : ℕ) (s r : State) : Type 0 where
  pub reached : (n w : ℕ) → Reached b a n from w s → stop ≤ suc n → Reached b a n stop w r

-- The end of a block.
pub record BlockEnd (leaf n r : ℕ) : Type 0 where
  pub on : leaf < r
  pub within : r ≤ suc n

-- A block is to come, and was weighed.
pub record BlockAhead (b a : List ℕ) (n : ℕ) (p : Place) : Type 0 where
  pub total : ℕ
  pub reached : Reached b a n p.leaf.0 total p.state
  pub more : p.leaf.0 ≤ n
  pub small : n ≤ max_carets

pub record BlockScanned (b a : List ℕ) (n : ℕ) (p r : Place) : Type 0 where
  pub on : p.leaf.0 < r.leaf.0
  pub reached : (w : ℕ) → Reached b a n p.leaf.0 w p.state → Reached b a n r.leaf.0 w r.state

-- A tree at caret 1.
abbrev pub start_side : List ℕ → Side
start_side e = record { subtrees = get_or e 1 0; lefts = get_or e 0 0 }

-- The trees of two tables have n carets.
pub record PairOfTables (b a : List ℕ) (n : ℕ) : Type 0 where
  pub counted : n ≡ carets_of_sides b a
  pub small : n ≤ max_carets
