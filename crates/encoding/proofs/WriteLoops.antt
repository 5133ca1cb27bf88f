-- The writer's loops over a table, turn by turn: the count of its powers, and its entries. Assumes nothing.
use mathlib.Core.Path.{◌≡◌, ap}
use mathlib.Core.List.{List, []}
use Prim.Native.Nat.{ℕ, ◌+◌, ◌<◌, ◌≤◌}
use native.Mathlib.Omega.{arith}
use lib.ListN.{length, get_or, length-append}
use Rattle.lists.specs.inside.Writes.{Wrote, Writing}
use Rattle.lists.proofs.Writes.{write_start, write_more, writing_same, write_done, writing_length}
use Rattle.records.specs.Format.{put_power, powers, entries}
use Rattle.records.proofs.Powers.{powers_from, powers_none, entries_next}

-- The powers of the indices below i are counted.
pub record Counting (t : List ℕ) (count i : ℕ) : Type 0 where
  pub inside : i ≤ length t
  pub few : count ≤ i
  pub left : count + length (powers_from i t) ≡ length (powers 0 t)

-- The entries of the indices below i are written.
pub record Putting (t now : List ℕ) (end i : ℕ) (entry : List ℕ) (at : ℕ) : Type 0 where
  pub inside : i ≤ length t
  pub left : Writing (entries (powers_from i t)) now end (entries (powers 0 t)) entry at

pub put_start : (t entry : List ℕ) (at : ℕ) → Putting t entry at 0 entry at
put_start t entry at = record { inside = omega arith; left = write_start _ _ _ }

pub put_more : {t now now' entry : List ℕ} {end end' i at : ℕ} → Putting t now end i entry at → i < length t
    → Wrote (entries (put_power i (get_or t i 0) [])) now end now' end' → Putting t now' end' (i + 1) entry at
put_more {t} {i = i} p h w = record {
  inside = omega arith;
  left = write_more w (writing_same (entries_next t i h) p.left);
}

-- There is room for the next entry where there is room for all.
pub put_room : {t now entry : List ℕ} {end i at : ℕ} → Putting t now end i entry at → i < length t
    → at + length (entries (powers 0 t)) ≤ length entry
    → end + length (entries (put_power i (get_or t i 0) [])) ≤ length now
put_room {t} {i = i} p h room =
    omega (arith, writing_length p.left, p.left.ends, simp length-append at (ap length (entries_next t i h)))

pub put_done : {t now entry : List ℕ} {end i at : ℕ} → Putting t now end i entry at → length t ≤ i
    → Wrote (entries (powers 0 t)) entry at now end
put_done {t} {i = i} p h = write_done (writing_same (ap entries (powers_none t i h)) p.left)
