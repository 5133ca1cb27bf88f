-- The four letters on the stored row. Assumes nothing.
use mathlib.Core.Path.{◌≡◌, subst}
use mathlib.Core.List.{List, [], ◌∷◌}
use Prim.Native.Nat.{ℕ}
use lib.ListN.{get_or}
use borrow.Author.Tests.{ne_eqb}
use Rattle.group.specs.Letters.{Letter, 'a, 'b}
use Rattle.forest.specs.declared.row.State.{State}
use Rattle.forest.specs.inside.Forest.{Bush, first_bush, later_bushes, Row, row, move_row}
use Rattle.forest.specs.inside.Cells.{Stands, StackStands, Popped, Made}
use Rattle.forest.specs.inside.Moves.{join_letter, Held, RaisableRow, Moved}

-- What keeps each bush keeps a stack of them.
pub stack_keeps : (last : ℕ) (lefts rights lefts' rights' : List ℕ) (used used' : ℕ)
    → ((x : Bush) (code : ℕ) → Stands last lefts rights used x code → Stands last lefts' rights' used' x code)
    → (ts : List Bush) (stack : List ℕ) (height : ℕ)
    → StackStands last lefts rights used ts stack height → StackStands last lefts' rights' used' ts stack height
stack_keeps last lefts rights lefts' rights' used used' g [] stack height s = s
stack_keeps last lefts rights lefts' rights' used used' g (t ∷ ts) stack height (top, e, h, s) =
    (top, e, g t (get_or stack top 0) h, stack_keeps last lefts rights lefts' rights' used used' g ts stack top s)

module _ (last : ℕ) (lefts rights stack lefts' rights' : List ℕ) (s : State) (used bush top height : ℕ) where
  -- The letter a: bushes were joined, then one was taken from the stack.
  pub joined_first : Popped stack s.height top height
      → Made last lefts rights s.used s.first s.second lefts' rights' used bush
      → Moved last 'a lefts rights stack s lefts' rights' stack
      (record { used = used; height = height; first = bush; second = top })
  joined_first p m = record { low = m.low; high = m.high; moves = moves }
    where
      moves : (r : Row) → RaisableRow last r → Held last lefts rights stack s r
          → Held last lefts' rights' stack (record { used = used; height = height; first = bush; second = top })
          (move_row 'a r)
      moves (row x y ts) l (h, k, t) =
          let q = p last lefts rights s.used ts t in (
            m.makes x y h k,
            m.keeps (first_bush ts) top q.0,
            stack_keeps last lefts rights lefts' rights' s.used used m.keeps (later_bushes ts) stack height q.1,
          )

  -- The letter b.
  pub joined_second : Popped stack s.height top height
      → Made last lefts rights s.used s.second top lefts' rights' used bush
      → Moved last 'b lefts rights stack s lefts' rights' stack
      (record { used = used; height = height; first = s.first; second = bush })
  joined_second p m = record { low = m.low; high = m.high; moves = moves }
    where
      moves : (r : Row) → RaisableRow last r → Held last lefts rights stack s r
          → Held last lefts' rights' stack (record { used = used; height = height; first = s.first; second = bush })
          (move_row 'b r)
      moves (row x y ts) l (h, k, t) =
          let q = p last lefts rights s.used ts t in (
            m.keeps x s.first h,
            m.makes y (first_bush ts) k q.0,
            stack_keeps last lefts rights lefts' rights' s.used used m.keeps (later_bushes ts) stack height q.1,
          )

-- The same letter by another name.
pub as_letter : {last : ℕ} {l m : Letter} {lefts rights stack lefts' rights' stack' : List ℕ} {s s' : State} → l ≡ m
    → Moved last l lefts rights stack s lefts' rights' stack' s'
    → Moved last m lefts rights stack s lefts' rights' stack' s'
as_letter {last} {l} {m} {lefts} {rights} {stack} {lefts'} {rights'} {stack'} {s} {s'} e h =
    subst (λ (k : Letter). Moved last k lefts rights stack s lefts' rights' stack' s') e h

pub letter_b : (c : ℕ) → (c ≡ 97 → ⊥) → 'b ≡ join_letter c
letter_b c p = simp (ne_eqb c 97 p)
