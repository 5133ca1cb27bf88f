-- Rows are forms: a letter on a row is the letter times the row's form, so the levels of a word's row are the form of
-- the word. Levels are put by `reduce_level`, so none of this asks whether the bushes are irreducible.
--     bush_levels d t f   the levels of a bush put in front of a form; d left edges stand above the bush
--     forest_levels       the levels of several bushes            row_levels   the levels of a row
-- Assumes nothing.
use mathlib.Core.Path.{◌≡◌, refl, sym, ◌∙◌, ap}
use mathlib.Core.List.{List, [], ◌∷◌}
use Prim.Native.Nat.{ℕ, zero, suc, ◌+◌}
use native.Mathlib.Omega.{arith}
use Rattle.group.specs.Letters.{Letter, 'a, 'A, 'b, 'B, Word}
use Rattle.group.specs.Forms.{Side, b_side, a_side, Form, empty, Trimmed}
use Rattle.group.specs.Products.{reduce_level, times_x0, times_generator, times_letter, form_of}
use Rattle.group.proofs.Reduced.{reduce_level_trimmed}
use Rattle.group.proofs.LevelProducts.{reduce_level_step, x0_raises, x0_opens, x0_lowers, times_x0_lem, times_past}
use Rattle.forest.specs.inside.Forest.{Bush, tip, fork, join_bushes, left_part, right_part, first_bush, later_bushes}
use Rattle.forest.specs.inside.Forest.{put_bush, Row, row, row_bushes, move_row, row_of_word}

abbrev pub bush_levels : ℕ → Bush → Form → Form
bush_levels d (tip n) f = reduce_level d n f
bush_levels d (fork x y) f = bush_levels (suc d) x (bush_levels 0 y f)

abbrev pub forest_levels : List Bush → Form
forest_levels [] = empty
forest_levels (t ∷ ts) = bush_levels 0 t (forest_levels ts)

abbrev row_levels : Row → Form
row_levels (row x y ts) = bush_levels 0 x (bush_levels 0 y (forest_levels ts))

bush_trimmed : (d : ℕ) (t : Bush) (f : Form) → Trimmed f → Trimmed (bush_levels d t f)
bush_trimmed d (tip n) f h = reduce_level_trimmed d n f h
bush_trimmed d (fork x y) f h = bush_trimmed (suc d) x (bush_levels 0 y f) (bush_trimmed 0 y f h)

pub forest_trimmed : (ts : List Bush) → Trimmed (forest_levels ts)
forest_trimmed [] = tt
forest_trimmed (t ∷ ts) = bush_trimmed 0 t (forest_levels ts) (forest_trimmed ts)

-- x_0 puts a left edge above the bush, and x_0⁻¹ takes one away.
bush_raised : (d : ℕ) (t : Bush) (f : Form) → times_x0 b_side (bush_levels d t f) ≡ bush_levels (suc d) t f
bush_raised d (tip n) f = x0_raises d n f
bush_raised d (fork x y) f = bush_raised (suc d) x (bush_levels 0 y f)

bush_lowered : (d : ℕ) (t : Bush) (f : Form) → Trimmed f → times_x0 a_side (bush_levels (suc d) t f) ≡ bush_levels d t f
bush_lowered d (tip n) f h = x0_lowers d n f h
bush_lowered d (fork x y) f h = bush_lowered (suc d) x (bush_levels 0 y f) (bush_trimmed 0 y f h)

-- A later generator passes the bush.
pub bush_past : (s : Side) (k d j : ℕ) (t : Bush) (f : Form) → j ≡ k + d
    → times_generator s (suc k) (bush_levels d t f) ≡ bush_levels d t (times_generator s j f)
bush_past s k d j (tip n) f e = times_past s k d j n f e
bush_past s k d j (fork x y) f e =
    bush_past s k (suc d) (suc j) x (bush_levels 0 y f) (omega arith)
    ∙ ap (bush_levels (suc d) x) (bush_past s j 0 j y f (omega arith))

-- x_0 joins two bushes, and x_0⁻¹ parts one.
pub bush_join : (x y : Bush) (f : Form)
    → times_generator b_side 0 (bush_levels 0 x (bush_levels 0 y f)) ≡ bush_levels 0 (join_bushes x y) f
bush_join x y f =
    times_x0_lem b_side (bush_levels 0 x (bush_levels 0 y f)) ∙ bush_raised 0 x (bush_levels 0 y f) ∙ joined x y
  where
    joined : (u v : Bush) → bush_levels 1 u (bush_levels 0 v f) ≡ bush_levels 0 (join_bushes u v) f
    joined (tip zero) v = refl
    joined (tip (suc n)) (tip zero) = reduce_level_step 0 n f
    joined (tip (suc n)) (tip (suc m)) = refl
    joined (tip (suc n)) (fork p q) = refl
    joined (fork p q) v = refl

pub bush_part : (t : Bush) (f : Form) → Trimmed f
    → times_generator a_side 0 (bush_levels 0 t f) ≡ bush_levels 0 (left_part t) (bush_levels 0 (right_part t) f)
bush_part (tip n) f h = times_x0_lem a_side (reduce_level 0 n f) ∙ x0_opens n f
bush_part (fork x y) f h =
    times_x0_lem a_side (bush_levels 1 x (bush_levels 0 y f))
    ∙ bush_lowered 0 x (bush_levels 0 y f) (bush_trimmed 0 y f h)

-- Tips behind the row need not be stored.
pub forest_opened : (ts : List Bush)
    → forest_levels ts ≡ bush_levels 0 (first_bush ts) (forest_levels (later_bushes ts))
forest_opened [] = refl
forest_opened (t ∷ ts) = refl

pub put_levels : (t : Bush) (ts : List Bush) → forest_levels (put_bush t ts) ≡ bush_levels 0 t (forest_levels ts)
put_levels (tip zero) [] = refl
put_levels (tip zero) (t ∷ ts) = refl
put_levels (tip (suc n)) ts = refl
put_levels (fork x y) ts = refl

row_moved : (x : Letter) (r : Row) → row_levels (move_row x r) ≡ times_letter x (row_levels r)
row_moved 'a (row x y ts) =
    sym (bush_join x y (forest_levels ts) ∙ ap (bush_levels 0 (join_bushes x y)) (forest_opened ts))
row_moved 'A (row x y ts) =
    ap (λ (f : Form). bush_levels 0 (left_part x) (bush_levels 0 (right_part x) f)) (put_levels y ts)
    ∙ sym (bush_part x (forest_levels (y ∷ ts)) (forest_trimmed (y ∷ ts)))
row_moved 'b (row x y ts) =
    sym
    (bush_past b_side 0 0 0 x (forest_levels (y ∷ ts)) (omega arith)
    ∙ ap (λ (f : Form). bush_levels 0 x (times_generator b_side 0 (bush_levels 0 y f))) (forest_opened ts)
    ∙ ap (bush_levels 0 x) (bush_join y (first_bush ts) (forest_levels (later_bushes ts))))
row_moved 'B (row x y ts) =
    ap (λ (f : Form). bush_levels 0 x (bush_levels 0 (left_part y) f)) (put_levels (right_part y) ts)
    ∙ sym
    (bush_past a_side 0 0 0 x (forest_levels (y ∷ ts)) (omega arith)
    ∙ ap (bush_levels 0 x) (bush_part y (forest_levels ts) (forest_trimmed ts)))

word_levels : (w : Word) → row_levels (row_of_word w) ≡ form_of w
word_levels [] = refl
word_levels (x ∷ w) = row_moved x (row_of_word w) ∙ ap (times_letter x) (word_levels w)

bushes_levels : (r : Row) → forest_levels (row_bushes r) ≡ row_levels r
bushes_levels (row x y ts) = put_levels x (put_bush y ts) ∙ ap (bush_levels 0 x) (put_levels y ts)

-- The levels of a word's row are the form of the word.
pub row_form : (w : Word) → forest_levels (row_bushes (row_of_word w)) ≡ form_of w
row_form w = bushes_levels (row_of_word w) ∙ word_levels w
