-- Stored bushes: what using more cells, taking from the stack, pushing and parting keep and make. Assumes nothing.
use mathlib.Core.Path.{◌≡◌, refl, sym, subst}
use mathlib.Core.List.{List, [], ◌∷◌}
use Prim.Native.Nat.{ℕ, zero, suc, ◌+◌, ◌-◌, ◌≤◌, ◌<◌}
use native.Mathlib.Omega.{arith}
use lib.ListN.{get_or, set, length}
use lib.Seq.{get_or-set_same}
use borrow.Author.Rules.{read_below}
use Rattle.forest.specs.inside.Forest.{Bush, tip, fork, put_bush, forest_tips}
use Rattle.forest.specs.inside.Cells.{Stands, StackStands, Popped, Pushed, Parted}
use Rattle.forest.proofs.Counting.{tips_some}

module _ (last : ℕ) (lefts rights : List ℕ) where
  -- The code of a stored bush is below the next cell, and it stays stored as cells are used.
  pub stands_below : (used : ℕ) (t : Bush) (code : ℕ) → last < used → Stands last lefts rights used t code → code < used
  stands_below used (tip n) code p h = omega arith
  stands_below used (fork x y) code p h = h.1

  pub stands_more : (used used' : ℕ) (t : Bush) (code : ℕ) → used ≤ used' → Stands last lefts rights used t code
      → Stands last lefts rights used' t code
  stands_more used used' (tip n) code p h = h
  stands_more used used' (fork x y) code p h = (h.0, omega arith, h.2, h.3)

  pub stack_more : (used used' : ℕ) (ts : List Bush) (stack : List ℕ) (height : ℕ) → used ≤ used'
      → StackStands last lefts rights used ts stack height → StackStands last lefts rights used' ts stack height
  stack_more used used' [] stack height p s = s
  stack_more used used' (t ∷ ts) stack height p (top, e, h, s) =
      (top, e, stands_more used used' t (get_or stack top 0) p h, stack_more used used' ts stack top p s)

  -- The height of the stack is at most the number of tips in it.
  pub stack_height : (used : ℕ) (ts : List Bush) (stack : List ℕ) (height : ℕ)
      → StackStands last lefts rights used ts stack height → height ≤ forest_tips ts
  stack_height used [] stack height s = omega arith
  stack_height used (t ∷ ts) stack height (top, e, h, s) =
      omega (arith, tips_some t, stack_height used ts stack top s)

  -- A store to the stack at or above the height changes nothing below it.
  stack_kept : (used : ℕ) (ts : List Bush) (stack : List ℕ) (at v height : ℕ) → height ≤ at
      → StackStands last lefts rights used ts stack height
      → StackStands last lefts rights used ts (set stack at v) height
  stack_kept used [] stack at v height p s = s
  stack_kept used (t ∷ ts) stack at v height p (top, e, h, s) = (
    top,
    e,
    subst (Stands last lefts rights used t)
        (sym (read_below ℕ stack at top v 0 (get_or stack top 0) (omega arith) refl))
        h,
    stack_kept used ts stack at v top (omega arith) s,
  )

  pub stack_push : (used : ℕ) (t : Bush) (ts : List Bush) (stack : List ℕ) (height code : ℕ) → height < length stack
      → Stands last lefts rights used t code → StackStands last lefts rights used ts stack height
      → StackStands last lefts rights used (t ∷ ts) (set stack height code) (height + 1)
  stack_push used t ts stack height code p h s = (
    height,
    refl,
    subst (Stands last lefts rights used t) (sym (get_or-set_same stack height code 0 p)) h,
    stack_kept used ts stack height code height (omega arith) s,
  )

  -- An empty stack stands for no bushes.
  pub stack_none : (used : ℕ) (ts : List Bush) (stack : List ℕ) (height : ℕ) → height ≡ 0
      → StackStands last lefts rights used ts stack height → ts ≡ []
  stack_none used [] stack height e s = refl
  stack_none used (t ∷ ts) stack height e s = absurd (omega (arith, s.1))

-- The first bush is taken from the stack, or a tip where the stack is empty.
pub pop_none : (stack : List ℕ) (height : ℕ) → height ≡ 0 → Popped stack height 0 0
pop_none stack height e last lefts rights used [] s = ((refl, omega arith), refl)
pop_none stack height e last lefts rights used (t ∷ ts) s = absurd (omega (arith, s.1))

pub pop_some : (stack : List ℕ) (height : ℕ) → (height ≡ 0 → ⊥)
    → Popped stack height (get_or stack (height - 1) 0) (height - 1)
pop_some stack height some last lefts rights used [] s = absurd (some s)
pop_some stack height some last lefts rights used (t ∷ ts) (top, e, h, s) =
    let c : top ≡ height - 1 = omega arith in (
      subst (λ (j : ℕ). Stands last lefts rights used t (get_or stack j 0)) c h,
      subst (λ (j : ℕ). StackStands last lefts rights used ts stack j) c s,
    )

-- A bush is put onto the stack, but a tip of exponent 0 at its bottom is not stored.
pub push_none : (stack : List ℕ) (height bush : ℕ) → height ≡ 0 → bush ≡ 0 → Pushed stack height bush stack 0
push_none stack height bush e z = record { high = omega arith; puts = puts }
  where
    puts : (last : ℕ) (lefts rights : List ℕ) (used : ℕ) (t : Bush) (ts : List Bush)
        → Stands last lefts rights used t bush
        → StackStands last lefts rights used ts stack height
        → StackStands last lefts rights used (put_bush t ts) stack 0
    puts last lefts rights used (tip zero) [] h s = refl
    puts last lefts rights used (tip zero) (t ∷ ts) h s = absurd (omega (arith, s.1))
    puts last lefts rights used (tip (suc n)) ts h s = absurd (omega (arith, h.0))
    puts last lefts rights used (fork x y) ts h s = absurd (omega (arith, h.0))

pub push_some : (stack : List ℕ) (height bush : ℕ) → height < length stack → ((height ≡ 0) × (bush ≡ 0) → ⊥)
    → Pushed stack height bush (set stack height bush) (height + 1)
push_some stack height bush p some = record { high = omega arith; puts = puts }
  where
    puts : (last : ℕ) (lefts rights : List ℕ) (used : ℕ) (t : Bush) (ts : List Bush)
        → Stands last lefts rights used t bush
        → StackStands last lefts rights used ts stack height
        → StackStands last lefts rights used (put_bush t ts) (set stack height bush) (height + 1)
    puts last lefts rights used (tip zero) [] h s = absurd (some (s, h.0))
    puts last lefts rights used (tip zero) (t ∷ ts) h s =
        stack_push last lefts rights used (tip zero) (t ∷ ts) stack height bush p h s
    puts last lefts rights used (tip (suc n)) ts h s =
        stack_push last lefts rights used (tip (suc n)) ts stack height bush p h s
    puts last lefts rights used (fork x y) ts h s =
        stack_push last lefts rights used (fork x y) ts stack height bush p h s

pub parted_fork : (last : ℕ) (lefts rights : List ℕ) (code k : ℕ) → last < code → k ≡ code
    → Parted last lefts rights code (get_or lefts k 0) (get_or rights k 0)
parted_fork last lefts rights code k p e used (tip n) l h = absurd (omega (arith, h.0, h.1))
parted_fork last lefts rights code k p e used (fork x y) l h = (
  stands_more last lefts rights code used x (get_or lefts k 0) (omega (arith, h.1))
      (subst (λ (j : ℕ). Stands last lefts rights code x (get_or lefts j 0)) (sym e) h.2),
  stands_more last lefts rights code used y (get_or rights k 0) (omega (arith, h.1))
      (subst (λ (j : ℕ). Stands last lefts rights code y (get_or rights j 0)) (sym e) h.3),
)
