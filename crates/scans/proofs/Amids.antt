-- Amid the scan: columns of one kind, or a single one, taken from those to come and added to the tally.
--     amid_columns   at least one column x over y
--     amid_room      16 bits hold the sums
-- Assumes nothing.
use mathlib.Core.Path.{◌≡◌, refl, sym, ◌∙◌, ap}
use mathlib.Core.Bool.{Bool, true, false, true≢false}
use Prim.Native.Nat.{ℕ, ◌+◌, ◌*◌, ◌≤◌, ◌<◌}
use native.Mathlib.Omega.{arith}
use Rattle.lengths.specs.Labels.{Label}
use Rattle.geodesics.specs.Rows.{Row}
use Rattle.geodesics.specs.inside.Costs.{row_label, cost}
use Rattle.scans.specs.declared.table.Tally.{Tally}
use Rattle.scans.specs.inside.Steps.{tallied, Room, weighing, waiting, added, held, Amid}
use Rattle.scans.proofs.Tallies.{stack, plain_held, right_held, added_whole}
use Rattle.scans.proofs.Stretches.{skip, skip_closed, skip_cost}

-- n columns of the labels x over y, and m behind them.
module _ (n m : ℕ) {u v : Row} {t : Tally} {w : ℕ} (h : Amid (n + m) u v t w) (x y : Label)
    (hu : (i : ℕ) → i < n → row_label (skip i u) ≡ x) (hv : (i : ℕ) → i < n → row_label (skip i v) ≡ y)
    (some : 1 ≤ n) where
  abbrev behind : ℕ
  behind = cost m (skip n u) (skip n v)

  whole : t.sum + held t.pending (stack n x y behind) ≡ w
  whole = ap (λ (k : ℕ). t.sum + held t.pending k) (sym (skip_cost n m u v x y hu hv)) ∙ h.whole

  -- 16 bits hold the sums.
  pub amid_room : Room t (weighing x y n) (waiting x y)
  amid_room = go (waiting x y) refl
    where
      go : (q : Bool) → waiting x y ≡ q → Room t (weighing x y n) q
      go true e = record {
        few = omega (arith, h.few, (right_held t.pending n x y behind e).0);
        small = λ f. absurd (true≢false f);
      }
      go false e =
          let sum = plain_held t.pending n x y behind e some in
          record { few = omega (arith, whole, h.small, sum); small = λ f. omega (arith, whole, h.small, sum) }

  pending_few : (added t x y n).pending + 2 * m ≤ 65535
  pending_few = go (waiting x y) refl
    where
      go : (q : Bool) → waiting x y ≡ q → (tallied t (weighing x y n) q).pending + 2 * m ≤ 65535
      go true e = omega (arith, h.few, (right_held t.pending n x y behind e).0)
      go false e = omega (arith, h.few)

  -- They are added to the tally.
  pub amid_columns : Amid m (skip n u) (skip n v) (added t x y n) w
  amid_columns = record {
    minus_closed = skip_closed n m u h.minus_closed;
    plus_closed = skip_closed n m v h.plus_closed;
    whole = added_whole t x y n some behind ∙ whole;
    few = pending_few;
    small = h.small;
  }

-- No column is to come.
pub amid_done : {u v : Row} {t : Tally} {w : ℕ} → Amid 0 u v t w → t.sum ≡ w
amid_done h = omega (arith, h.whole)
