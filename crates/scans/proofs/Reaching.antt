-- The scan of two tables: where it starts, one column more, columns with no exponent behind them, and where it ends.
-- Assumes nothing.
use mathlib.Core.Path.{◌≡◌, refl, sym, ◌∙◌, ap, ap₂, subst, subst₂}
use mathlib.Core.List.{List, [], ◌∷◌}
use Prim.Native.Nat.{ℕ, zero, suc, ◌+◌, ◌-◌, ◌≤◌, ◌<◌}
use native.Mathlib.Nat.{zero-add}
use native.Mathlib.Omega.{arith}
use lib.ListN.{drop, get_or}
use lib.Seq.{drop-drop, get_or-drop}
use Rattle.trees.specs.Building.{needed, tree_of}
use Rattle.trees.specs.Pairs.{max_carets}
use Rattle.lengths.specs.Weights.{pair_length}
use Rattle.geodesics.specs.Rows.{first, rest, Row, next_row, from_one}
use Rattle.geodesics.specs.inside.Costs.{row_label, cost, Closed}
use Rattle.geodesics.proofs.Enough.{first-total}
use Rattle.geodesics.proofs.SideLengths.{closed_total}
use Rattle.scans.specs.declared.sides.Side.{Side}
use Rattle.scans.specs.declared.table.Tally.{Tally}
use Rattle.scans.specs.declared.columns.State.{State}
use Rattle.scans.specs.inside.Steps.{
  next_side,
  Runs,
  Room,
  weighing,
  waiting,
  added,
  label_at,
  column_of,
  stretched_by,
  Ready,
  held,
  Amid,
  row_at,
  AmidAt,
  Zeros,
  Passed,
  Reached,
  start_side,
  PairOfTables,
}
use Rattle.scans.proofs.Tallies.{held_none}
use Rattle.scans.proofs.Stretches.{skip, first-drop, rest-drop, skip_run, run_label}
use Rattle.scans.proofs.Amids.{amid_room, amid_columns, amid_done}
use Rattle.scans.proofs.TableLengths.{table_closed, table-cost, table_narrow}

-- The label of a row by the exponent behind its caret, and the row at the next caret.
label_first : (s : Side) (es : List ℕ) (e : ℕ) → first es ≡ e → (i : ℕ) → i < 1
    → row_label (skip i (row_at s es)) ≡ label_at s e
label_first s es e h zero p = ap (label_at s) h
label_first s es e h (suc i) p = absurd (omega arith)

next_first : (s : Side) (es : List ℕ) (e : ℕ) → first es ≡ e → next_row (row_at s es) ≡ row_at (next_side s e) (rest es)
next_first s es e h = ap (λ (k : ℕ). row_at (next_side s k) (rest es)) h

-- What is open is not more than the columns to come.
subtrees_few : (m : ℕ) (s : Side) (es : List ℕ) (e : ℕ) → Closed m (row_at s es) → first es ≡ e
    → s.subtrees + e ≤ m
subtrees_few m s es e h first-is =
    omega (arith, closed_total m s.subtrees s.lefts es h, first-total es)

-- One column more.
module _ (m : ℕ) {es fs : List ℕ} {s : State} {w : ℕ} (h : AmidAt (1 + m) es fs s w) (e f : ℕ) (he : first es ≡ e)
    (hf : first fs ≡ f) where
  pub amid_ready : m ≤ max_carets → Ready s e f
  amid_ready few = record {
    minus_small = omega (arith, subtrees_few (1 + m) s.minus es e h.minus_closed he);
    plus_small = omega (arith, subtrees_few (1 + m) s.plus fs f h.plus_closed hf);
    room =
        amid_room 1 m h (label_at s.minus e) (label_at s.plus f) (label_first s.minus es e he)
        (label_first s.plus fs f hf) (omega arith);
  }

  pub amid_column : AmidAt m (rest es) (rest fs) (column_of s e f) w
  amid_column =
      let t : Tally = added s.tally (label_at s.minus e) (label_at s.plus f) 1 in
      subst₂ (λ (u v : Row). Amid m u v t w) (next_first s.minus es e he) (next_first s.plus fs f hf)
      (amid_columns 1 m h (label_at s.minus e) (label_at s.plus f) (label_first s.minus es e he)
      (label_first s.plus fs f hf) (omega arith))

-- A run of columns with no exponent behind them.
module _ (n m : ℕ) {es fs : List ℕ} {s : State} {w : ℕ} (h : AmidAt (n + m) es fs s w) (ze : Zeros n es)
    (zf : Zeros n fs) (re : Runs n s.minus) (rf : Runs n s.plus) (some : 1 ≤ n) where
  minus_labels : (i : ℕ) → i < n → row_label (skip i (row_at s.minus es)) ≡ label_at s.minus 0
  minus_labels = run_label n s.minus.subtrees s.minus.lefts es re ze

  plus_labels : (i : ℕ) → i < n → row_label (skip i (row_at s.plus fs)) ≡ label_at s.plus 0
  plus_labels = run_label n s.plus.subtrees s.plus.lefts fs rf zf

  pub run_room : Room s.tally (weighing (label_at s.minus 0) (label_at s.plus 0) n)
      (waiting (label_at s.minus 0) (label_at s.plus 0))
  run_room = amid_room n m h (label_at s.minus 0) (label_at s.plus 0) minus_labels plus_labels some

  pub amid_run : AmidAt m (drop n es) (drop n fs) (stretched_by s n) w
  amid_run =
      let t : Tally = added s.tally (label_at s.minus 0) (label_at s.plus 0) n in
      subst₂ (λ (u v : Row). Amid m u v t w)
      (skip_run n s.minus.subtrees s.minus.lefts es re ze)
      (skip_run n s.plus.subtrees s.plus.lefts fs rf zf)
      (amid_columns n m h (label_at s.minus 0) (label_at s.plus 0) minus_labels plus_labels some)

-- The scan of two tables: one column more.
module _ {b a : List ℕ} {n i w : ℕ} {s : State} (h : Reached b a n i w s) (more : i ≤ n) (e f : ℕ)
    (he : e ≡ get_or a i 0) (hf : f ≡ get_or b i 0) where
  abbrev left : ℕ
  left = h.columns - 1

  amid : AmidAt (1 + left) (drop i a) (drop i b) s w
  amid = subst (λ (k : ℕ). AmidAt k (drop i a) (drop i b) s w) (omega (arith, h.to_come)) h.amid

  pub column_ready : n ≤ max_carets → Ready s e f
  column_ready small =
      amid_ready left amid e f (first-drop i a ∙ sym he) (first-drop i b ∙ sym hf) (omega (arith, h.to_come))

  pub column_reached : Reached b a n (suc i) w (column_of s e f)
  column_reached = record {
    columns = left;
    to_come = omega (arith, h.to_come);
    amid =
        subst₂ (λ (es fs : List ℕ). AmidAt left es fs (column_of s e f) w) (rest-drop i a) (rest-drop i b)
        (amid_column left amid e f (first-drop i a ∙ sym he) (first-drop i b ∙ sym hf));
  }

-- Columns with no exponent behind them.
pub zeros_reached : {b a : List ℕ} {n i w : ℕ} {s : State} (r : State) (c : ℕ) → Reached b a n i w s → i + c ≤ suc n
    → ((j : ℕ) → i ≤ j → j < i + c → get_or b j 0 ≡ 0) → ((j : ℕ) → i ≤ j → j < i + c → get_or a j 0 ≡ 0)
    → Passed c s r → Reached b a n (i + c) w r
zeros_reached {b} {a} {n} {i} {w} {s} r c h within zb za p = record {
  columns = h.columns - c;
  to_come = omega (arith, h.to_come);
  amid =
      subst₂ (λ (es fs : List ℕ). AmidAt (h.columns - c) es fs r w) (drop-drop c i a) (drop-drop c i b)
      (p.amid (drop i a) (drop i b) (h.columns - c) w (behind a za) (behind b zb) ahead);
}
  where
    ahead : AmidAt (c + (h.columns - c)) (drop i a) (drop i b) s w
    ahead = subst (λ (k : ℕ). AmidAt k (drop i a) (drop i b) s w) (omega (arith, h.to_come)) h.amid

    behind : (t : List ℕ) → ((j : ℕ) → i ≤ j → j < i + c → get_or t j 0 ≡ 0) → Zeros c (drop i t)
    behind t z j q = get_or-drop i t j 0 ∙ z (i + j) (omega arith) (omega arith)

-- The row at caret 1 of a table.
start_row : (t : List ℕ) → row_at (start_side t) (drop 2 t) ≡ from_one t
start_row [] = refl
start_row (e ∷ []) = refl
start_row (e ∷ f ∷ t) = refl

-- At caret 1.
module _ (b a : List ℕ) (n : ℕ) (h : PairOfTables b a (suc n)) where
  abbrev start : State
  start = record { minus = start_side a; plus = start_side b; tally = record { sum = 0; pending = 0 } }

  minus_enough : needed 0 a ≤ suc n
  minus_enough = omega (arith, h.counted)

  plus_enough : needed 0 b ≤ suc n
  plus_enough = omega (arith, h.counted)

  scan_start : Reached b a (suc n) 2 (pair_length (tree_of (suc n) a) (tree_of (suc n) b)) start
  scan_start = record {
    columns = n;
    to_come = omega arith;
    amid = record {
      minus_closed = subst (Closed n) (sym (start_row a)) (table_closed n a minus_enough);
      plus_closed = subst (Closed n) (sym (start_row b)) (table_closed n b plus_enough);
      whole =
          zero-add (held 0 (cost n (row_at (start_side a) (drop 2 a)) (row_at (start_side b) (drop 2 b))))
          ∙ held_none (cost n (row_at (start_side a) (drop 2 a)) (row_at (start_side b) (drop 2 b)))
          ∙ ap₂ (cost n) (start_row a) (start_row b)
          ∙ table-cost b a n plus_enough minus_enough;
      few = omega (arith, h.small);
      small = table_narrow b a n plus_enough minus_enough h.small;
    };
  }

pub scan_started : (b a : List ℕ) (n : ℕ) (m p : Side) → 0 < n → PairOfTables b a n → m ≡ start_side a → p ≡ start_side b
    → Reached b a n 2 (pair_length (tree_of n a) (tree_of n b))
    (record { minus = m; plus = p; tally = record { sum = 0; pending = 0 } })
scan_started b a zero m p some h em ep = absurd (omega arith)
scan_started b a (suc n) m p some h em ep = rw (em, ep) (scan_start b a n h)

-- No column is left.
pub scan_done : {b a : List ℕ} {n i w : ℕ} {s : State} → Reached b a n i w s → n < i → s.tally.sum ≡ w
scan_done {b} {a} {n} {i} {w} {s} h more =
    amid_done (subst (λ (k : ℕ). AmidAt k (drop i a) (drop i b) s w) (omega (arith, h.to_come)) h.amid)
