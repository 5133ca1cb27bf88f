-- What holds of the row of a word: no reducing step applies in it, no exponent is above the number of letters, and it
-- has at most two tips more than the word has letters. Assumes nothing.
use mathlib.Core.List.{List, [], ◌∷◌}
use Prim.Native.Nat.{ℕ, zero, suc, ◌+◌, ◌≤◌}
use native.Mathlib.Omega.{arith}
use lib.ListN.{length}
use Rattle.group.specs.Letters.{Letter, 'a, 'A, 'b, 'B, Word}
use Rattle.forest.specs.inside.Forest.{Bush, tip, fork, join_bushes, left_part, right_part, first_bush, later_bushes}
use Rattle.forest.specs.inside.Forest.{put_bush, Row, row, row_bushes, move_row, row_of_word, tips, forest_tips}

-- A fork over the two is not taken away.
abbrev pub Apart : Bush → Bush → Type 0
Apart (tip zero) t = Unit {0}
Apart (tip (suc n)) (tip zero) = ⊥
Apart (tip (suc n)) (tip (suc m)) = Unit {0}
Apart (tip (suc n)) (fork x y) = Unit {0}
Apart (fork x y) t = Unit {0}

-- No fork of the bush can be taken away, and no exponent is above n.
abbrev pub Irreducible : ℕ → Bush → Type 0
Irreducible n (tip m) = m ≤ n
Irreducible n (fork x y) = Apart x y × Irreducible n x × Irreducible n y

abbrev pub IrreducibleForest : ℕ → List Bush → Type 0
IrreducibleForest n [] = Unit {0}
IrreducibleForest n (t ∷ ts) = Irreducible n t × IrreducibleForest n ts

-- What holds of the row of n letters.
abbrev pub IrreducibleRow : ℕ → Row → Type 0
IrreducibleRow n (row x y ts) =
    Irreducible n x × Irreducible n y × IrreducibleForest n ts × (tips x + tips y + forest_tips ts ≤ n + 2)

bush_more : (n : ℕ) (t : Bush) → Irreducible n t → Irreducible (suc n) t
bush_more n (tip m) h = omega arith
bush_more n (fork x y) h = (h.0, bush_more n x h.1, bush_more n y h.2)

pub forest_more : (n : ℕ) (ts : List Bush) → IrreducibleForest n ts → IrreducibleForest (suc n) ts
forest_more n [] h = tt
forest_more n (t ∷ ts) h = (bush_more n t h.0, forest_more n ts h.1)

pub join_irreducible : (n : ℕ) (x y : Bush) → Irreducible n x → Irreducible n y → Irreducible (suc n) (join_bushes x y)
join_irreducible n (tip zero) y h k = (tt, omega arith, bush_more n y k)
join_irreducible n (tip (suc m)) (tip zero) h k = omega arith
join_irreducible n (tip (suc m)) (tip (suc l)) h k = (tt, omega arith, omega arith)
join_irreducible n (tip (suc m)) (fork u v) h k = (tt, omega arith, bush_more n (fork u v) k)
join_irreducible n (fork u v) y h k = (tt, bush_more n (fork u v) h, bush_more n y k)

pub left_irreducible : (n : ℕ) (t : Bush) → Irreducible n t → Irreducible (suc n) (left_part t)
left_irreducible n (tip m) h = omega arith
left_irreducible n (fork x y) h = bush_more n x h.1

pub right_irreducible : (n : ℕ) (t : Bush) → Irreducible n t → Irreducible (suc n) (right_part t)
right_irreducible n (tip m) h = omega arith
right_irreducible n (fork x y) h = bush_more n y h.2

pub first_irreducible : (n : ℕ) (ts : List Bush) → IrreducibleForest n ts → Irreducible n (first_bush ts)
first_irreducible n [] h = omega arith
first_irreducible n (t ∷ ts) h = h.0

pub later_irreducible : (n : ℕ) (ts : List Bush) → IrreducibleForest n ts → IrreducibleForest (suc n) (later_bushes ts)
later_irreducible n [] h = tt
later_irreducible n (t ∷ ts) h = forest_more n ts h.1

pub put_irreducible : (n : ℕ) (t : Bush) (ts : List Bush) → Irreducible n t → IrreducibleForest n ts
    → IrreducibleForest n (put_bush t ts)
put_irreducible n (tip zero) [] h k = tt
put_irreducible n (tip zero) (t ∷ ts) h k = (h, k)
put_irreducible n (tip (suc m)) ts h k = (h, k)
put_irreducible n (fork x y) ts h k = (h, k)

pub put_tips : (t : Bush) (ts : List Bush) → forest_tips (put_bush t ts) ≤ tips t + forest_tips ts
put_tips (tip zero) [] = omega arith
put_tips (tip zero) (t ∷ ts) = omega arith
put_tips (tip (suc m)) ts = omega arith
put_tips (fork x y) ts = omega arith

pub join_tips : (x y : Bush) → tips (join_bushes x y) ≤ tips x + tips y
join_tips (tip zero) y = omega arith
join_tips (tip (suc m)) (tip zero) = omega arith
join_tips (tip (suc m)) (tip (suc l)) = omega arith
join_tips (tip (suc m)) (fork u v) = omega arith
join_tips (fork u v) y = omega arith

pub part_tips : (t : Bush) → tips (left_part t) + tips (right_part t) ≤ tips t + 1
part_tips (tip m) = omega arith
part_tips (fork x y) = omega arith

pub opened_tips : (ts : List Bush) → tips (first_bush ts) + forest_tips (later_bushes ts) ≤ forest_tips ts + 1
opened_tips [] = omega arith
opened_tips (t ∷ ts) = omega arith

move_irreducible : (n : ℕ) (x : Letter) (r : Row) → IrreducibleRow n r → IrreducibleRow (suc n) (move_row x r)
move_irreducible n 'a (row x y ts) (h, k, l, m) = (
  join_irreducible n x y h k,
  bush_more n (first_bush ts) (first_irreducible n ts l),
  later_irreducible n ts l,
  omega (arith, join_tips x y, opened_tips ts),
)
move_irreducible n 'A (row x y ts) (h, k, l, m) = (
  left_irreducible n x h,
  right_irreducible n x h,
  forest_more n (put_bush y ts) (put_irreducible n y ts k l),
  omega (arith, part_tips x, put_tips y ts),
)
move_irreducible n 'b (row x y ts) (h, k, l, m) = (
  bush_more n x h,
  join_irreducible n y (first_bush ts) k (first_irreducible n ts l),
  later_irreducible n ts l,
  omega (arith, join_tips y (first_bush ts), opened_tips ts),
)
move_irreducible n 'B (row x y ts) (h, k, l, m) = (
  bush_more n x h,
  left_irreducible n y k,
  put_irreducible (suc n) (right_part y) ts (right_irreducible n y k) (forest_more n ts l),
  omega (arith, part_tips y, put_tips (right_part y) ts),
)

pub row_irreducible : (w : Word) → IrreducibleRow (length w) (row_of_word w)
row_irreducible [] = (omega arith, omega arith, tt, omega arith)
row_irreducible (x ∷ w) = move_irreducible (length w) x (row_of_word w) (row_irreducible w)

-- The same of the row's bushes as they are stored.
pub bushes_irreducible : (n : ℕ) (r : Row) → IrreducibleRow n r → IrreducibleForest n (row_bushes r)
bushes_irreducible n (row x y ts) (h, k, l, m) = put_irreducible n x (put_bush y ts) h (put_irreducible n y ts k l)

pub bushes_tips : (n : ℕ) (r : Row) → IrreducibleRow n r → forest_tips (row_bushes r) ≤ n + 2
bushes_tips n (row x y ts) (h, k, l, m) = omega (arith, put_tips x (put_bush y ts), put_tips y ts)
