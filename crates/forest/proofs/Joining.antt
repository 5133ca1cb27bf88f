-- Two stored bushes joined: a tip where the fork is taken away, else a new cell. Assumes nothing.
use mathlib.Core.Path.{◌≡◌, refl, sym, subst}
use mathlib.Core.List.{List}
use Prim.Native.Nat.{ℕ, zero, suc, ◌+◌, ◌≤◌, ◌<◌}
use native.Mathlib.Omega.{arith}
use lib.ListN.{get_or, set, length}
use lib.Seq.{get_or-set_same}
use borrow.Author.Rules.{read_below}
use Rattle.forest.specs.inside.Forest.{Bush, tip, fork, join_bushes}
use Rattle.forest.specs.inside.Cells.{Stands, Made}
use Rattle.forest.proofs.Stored.{stands_more}

-- A cell written at `used` keeps every bush stored below it.
grow : (last : ℕ) (lefts rights : List ℕ) (used left right low : ℕ) (t : Bush) (code : ℕ) → low ≤ used
    → Stands last lefts rights low t code → Stands last (set lefts used left) (set rights used right) low t code
grow last lefts rights used left right low (tip n) code p h = h
grow last lefts rights used left right low (fork x y) code p h =
    let below : code < used = omega (arith, h.1) in
    let at : Bush → ℕ → Type 0 = Stands last (set lefts used left) (set rights used right) code in (
      h.0,
      h.1,
      subst (at x) (sym (read_below ℕ lefts used code left 0 (get_or lefts code 0) below refl))
          (grow last lefts rights used left right code x (get_or lefts code 0) (omega arith) h.2),
      subst (at y) (sym (read_below ℕ rights used code right 0 (get_or rights code 0) below refl))
          (grow last lefts rights used left right code y (get_or rights code 0) (omega arith) h.3),
    )

-- The fork over the bushes of two codes is taken away.
abbrev pub Merges : (last left right : ℕ) → Type 0
Merges last left right = (right ≡ 0) × (0 < left) × (left ≤ last)

module _ (last : ℕ) (lefts rights : List ℕ) (used left right : ℕ) (p : used < length lefts)
    (q : used < length rights) where
  abbrev After : ℕ → Bush → ℕ → Type 0
  After = Stands last (set lefts used left) (set rights used right)

  new_cell : last < used → (x y : Bush) → Stands last lefts rights used x left → Stands last lefts rights used y right
      → After (used + 1) (fork x y) used
  new_cell b x y h k = (
    b,
    omega arith,
    subst (After used x) (sym (get_or-set_same lefts used left 0 p))
        (grow last lefts rights used left right used x left (omega arith) h),
    subst (After used y) (sym (get_or-set_same rights used right 0 q))
        (grow last lefts rights used left right used y right (omega arith) k),
  )

  pub join_added : last < used → (Merges last left right → ⊥)
      → Made last lefts rights used left right (set lefts used left) (set rights used right) (used + 1) used
  join_added b keep = record { low = omega arith; high = omega arith; keeps = keeps; makes = makes }
    where
      keeps : (x : Bush) (code : ℕ) → Stands last lefts rights used x code → After (used + 1) x code
      keeps x code h =
          stands_more last (set lefts used left) (set rights used right) used (used + 1) x code (omega arith)
          (grow last lefts rights used left right used x code (omega arith) h)

      makes : (x y : Bush) → Stands last lefts rights used x left → Stands last lefts rights used y right
          → After (used + 1) (join_bushes x y) used
      makes (tip zero) y h k = new_cell b (tip zero) y h k
      makes (tip (suc n)) (tip zero) h k =
          absurd (keep (omega (arith, k.0), omega (arith, h.0), omega (arith, h.0, h.1)))
      makes (tip (suc n)) (tip (suc l)) h k = new_cell b (tip (suc n)) (tip (suc l)) h k
      makes (tip (suc n)) (fork u v) h k = new_cell b (tip (suc n)) (fork u v) h k
      makes (fork u v) y h k = new_cell b (fork u v) y h k
