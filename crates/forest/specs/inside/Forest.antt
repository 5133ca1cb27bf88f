-- The engine's model: a row of bushes that stands for a form, and what a letter does to it. A bush is a binary tree
-- whose tips carry numbers. It is not called a tree, since it is none of the paper's trees (crates/trees): there the
-- exponents are read off the edges, and a leaf carries nothing. Tip i of the row, from the left, stands for level i of
-- the form: a_i is its exponent, b_i the number of left edges above it.
--     join_bushes, left_part, right_part       two bushes under one fork; the two parts of a bush
--     first_bush, later_bushes                a list of bushes, with tips of exponent 0 behind it
--     put_bush                               a bush in front of such a list
--     move_row, row_of_word                    a letter on a row; the row of a word
--     tip_edges, tip_exponent, bushes_behind   the first tip of a bush, and the bushes behind it
--     bushes_from, tip_at                     the bushes behind the first i tips of several; what tip i stands for
--     tips, forest_tips                      how many tips there are
-- Assumes nothing.
use Rattle.std.specs.Prelude.{List, [], ◌∷◌, ℕ, zero, suc, ◌+◌}
use Rattle.group.specs.Letters.{Letter, 'a, 'A, 'b, 'B, Word}
use Rattle.group.specs.Forms.{Side, on_side}

-- A bush whose tips carry exponents of the a side.
pub data Bush : Type 0 where
  tip : ℕ → Bush
  fork : Bush → Bush → Bush

-- Two bushes under one fork. A fork of x_i that x_i⁻¹ undoes is taken away: that is a reducing step.
abbrev pub join_bushes : Bush → Bush → Bush
join_bushes (tip zero) t = fork (tip zero) t
join_bushes (tip (suc n)) (tip zero) = tip n
join_bushes (tip (suc n)) (tip (suc m)) = fork (tip (suc n)) (tip (suc m))
join_bushes (tip (suc n)) (fork x y) = fork (tip (suc n)) (fork x y)
join_bushes (fork x y) t = fork (fork x y) t

-- The left part of a bush; a tip parts as the fork that would be taken away.
abbrev pub left_part : Bush → Bush
left_part (tip n) = tip (suc n)
left_part (fork x y) = x

-- The right part of a bush.
abbrev pub right_part : Bush → Bush
right_part (tip n) = tip 0
right_part (fork x y) = y

-- The first of a list of bushes.
abbrev pub first_bush : List Bush → Bush
first_bush [] = tip 0
first_bush (t ∷ ts) = t

-- The others.
abbrev pub later_bushes : List Bush → List Bush
later_bushes [] = []
later_bushes (t ∷ ts) = ts

-- A bush in front of a list of bushes. A tip of exponent 0 with none behind it is not stored.
abbrev pub put_bush : Bush → List Bush → List Bush
put_bush (tip zero) [] = []
put_bush (tip zero) (t ∷ ts) = tip zero ∷ t ∷ ts
put_bush (tip (suc n)) ts = tip (suc n) ∷ ts
put_bush (fork x y) ts = fork x y ∷ ts

-- A row: its first two bushes, the others, and behind them tips of exponent 0 that are not stored.
pub data Row : Type 0 where
  row : Bush → Bush → List Bush → Row

-- The bushes of a row, from the left, as they are put onto the stack.
abbrev pub row_bushes : Row → List Bush
row_bushes (row x y ts) = put_bush x (put_bush y ts)

-- A letter on a row: a joins the first two bushes, b the second and the third; A parts the first bush, B the second.
abbrev pub move_row : Letter → Row → Row
move_row 'a (row x y ts) = row (join_bushes x y) (first_bush ts) (later_bushes ts)
move_row 'A (row x y ts) = row (left_part x) (right_part x) (put_bush y ts)
move_row 'b (row x y ts) = row x (join_bushes y (first_bush ts)) (later_bushes ts)
move_row 'B (row x y ts) = row x (left_part y) (put_bush (right_part y) ts)

-- The row of a word: the rightmost letter acts first.
abbrev pub row_of_word : Word → Row
row_of_word [] = row (tip 0) (tip 0) []
row_of_word (x ∷ w) = move_row x (row_of_word w)

-- The left edges above the first tip of a bush.
abbrev pub tip_edges : Bush → ℕ
tip_edges (tip n) = 0
tip_edges (fork x y) = suc (tip_edges x)

-- The exponent of the first tip.
abbrev pub tip_exponent : Bush → ℕ
tip_exponent (tip n) = n
tip_exponent (fork x y) = tip_exponent x

-- The bushes behind the first tip of a bush that stands in front of others.
abbrev pub bushes_behind : Bush → List Bush → List Bush
bushes_behind (tip n) ts = ts
bushes_behind (fork x y) ts = bushes_behind x (put_bush y ts)

-- The bushes behind the first tip of several.
abbrev pub forest_behind : List Bush → List Bush
forest_behind ts = bushes_behind (first_bush ts) (later_bushes ts)

-- The bushes behind the first i tips.
abbrev pub bushes_from : ℕ → List Bush → List Bush
bushes_from zero ts = ts
bushes_from (suc i) ts = forest_behind (bushes_from i ts)

-- The exponents that tip i of several bushes stands for.
abbrev pub tip_at : Side → List Bush → ℕ → ℕ
tip_at s ts i = on_side s (tip_edges (first_bush (bushes_from i ts))) (tip_exponent (first_bush (bushes_from i ts)))

-- The number of tips of a bush.
abbrev pub tips : Bush → ℕ
tips (tip n) = 1
tips (fork x y) = tips x + tips y

-- The number of tips of several bushes.
abbrev pub forest_tips : List Bush → ℕ
forest_tips [] = 0
forest_tips (t ∷ ts) = tips t + forest_tips ts
