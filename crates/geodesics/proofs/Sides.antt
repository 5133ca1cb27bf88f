-- A letter put behind a form, on its two lists of exponents, zeros standing behind the last of each (000, section
-- 2.4.2, rules 4; 01, 'The reduced form'). That this is a letter put behind the form is proved in Behind.
--     sides bs cs        the lists of the b side and of the a side
--     put_x0, put_inverse  x_0 or x_0⁻¹ put behind          at_tree r g     the rule g at the index r
--     put_letter f x      the letter x put behind          sides_length f  the sum of Table 1
-- Assumes nothing.
use mathlib.Core.Path.{◌≡◌, refl}
use mathlib.Core.List.{List, [], ◌∷◌}
use Prim.Native.Nat.{ℕ, zero, suc, ◌+◌}
use native.Mathlib.Nat.{add-zero}
use lib.ListN.{length}
use Rattle.lists.specs.Entries.{total}
use Rattle.group.specs.Letters.{Letter, 'a, 'A, 'b, 'B}
use Rattle.geodesics.specs.Rows.{first, rest, from_one}
use Rattle.geodesics.specs.inside.Costs.{cost}

-- The exponents of the b side and of the a side.
pub record Sides : Type 0 where
  pub b : List ℕ
  pub a : List ℕ

-- Two lists as sides.
abbrev pub sides : List ℕ → List ℕ → Sides
sides bs cs = record { b = bs; a = cs }

-- One level in front.
abbrev pub level_on : ℕ → ℕ → Sides → Sides
level_on x y f = sides (x ∷ f.b) (y ∷ f.a)

-- x_0⁻¹ put behind raises a_0 and opens at most one reducing step; a, b, e and f are a_0, b_0, b_1 and a_1.
abbrev pub put_inverse_by : (a b e f : ℕ) → List ℕ → List ℕ → Sides
put_inverse_by zero (suc b) zero zero bs cs = sides (b ∷ rest (rest bs)) (zero ∷ rest (rest cs))
put_inverse_by zero (suc b) zero (suc f) bs cs = sides bs (1 ∷ rest cs)
put_inverse_by zero (suc b) (suc e) f bs cs = sides bs (1 ∷ rest cs)
put_inverse_by zero zero e f bs cs = sides bs (1 ∷ rest cs)
put_inverse_by (suc a) b e f bs cs = sides bs (suc (suc a) ∷ rest cs)

-- The same, by the entries of the lists.
abbrev pub put_inverse : List ℕ → List ℕ → Sides
put_inverse bs cs = put_inverse_by (first cs) (first bs) (first (rest bs)) (first (rest cs)) bs cs

-- x_0 put behind lowers a_0; where that is 0, it passes to the b side and raises every index above 0.
abbrev pub put_x0_by : (a : ℕ) → List ℕ → List ℕ → Sides
put_x0_by (suc a) bs cs = sides bs (a ∷ rest cs)
put_x0_by zero bs cs = sides (suc (first bs) ∷ zero ∷ rest bs) (zero ∷ zero ∷ rest cs)

-- The same, by the entry of the list.
abbrev pub put_x0 : List ℕ → List ℕ → Sides
put_x0 bs cs = put_x0_by (first cs) bs cs

-- A rule for the lists from one level on.
abbrev pub Rule : Type 0
Rule = List ℕ → List ℕ → Sides

-- The rule at the index r, where a generator of index r stands behind the levels from here on: it passes x_0^−a_0 and
-- has the index r − 1 + a_0 for the levels above.
abbrev pub at_zeros : ℕ → Rule → List ℕ → Sides
at_zeros zero g bs = g bs []
at_zeros (suc r) g bs = level_on (first bs) zero (at_zeros r g (rest bs))

abbrev pub at_tree : ℕ → Rule → List ℕ → List ℕ → Sides
at_tree r g bs [] = at_zeros r g bs
at_tree zero g bs (c ∷ cs) = g bs (c ∷ cs)
at_tree (suc r) g bs (c ∷ cs) = level_on (first bs) c (at_tree (r + c) g (rest bs) cs)

-- At the index 0.
pub at_zero : (g : Rule) (bs cs : List ℕ) → at_tree 0 g bs cs ≡ g bs cs
at_zero g bs [] = refl
at_zero g bs (c ∷ cs) = refl

-- At an index above 0.
pub at_suc : (g : Rule) (r : ℕ) (bs cs : List ℕ)
    → at_tree (suc r) g bs cs ≡ level_on (first bs) (first cs) (at_tree (r + first cs) g (rest bs) (rest cs))
at_suc g r bs [] = rw (add-zero r)
at_suc g r bs (c ∷ cs) = refl

-- The same, the next index t given.
pub at_next : (g : Rule) (r t : ℕ) (bs cs : List ℕ) → t ≡ r + first cs
    → at_tree (suc r) g bs cs ≡ level_on (first bs) (first cs) (at_tree t g (rest bs) (rest cs))
at_next g r t bs cs e = rw e (at_suc g r bs cs)

-- The rule at the index 1 of two lists.
abbrev pub at_second : Rule → Sides → Sides
at_second g f = level_on (first f.b) (first f.a) (at_tree (first f.a) g (rest f.b) (rest f.a))

-- A letter put behind.
abbrev pub put_letter : Sides → Letter → Sides
put_letter f 'a = put_x0 f.b f.a
put_letter f 'A = put_inverse f.b f.a
put_letter f 'b = at_second put_x0 f
put_letter f 'B = at_second put_inverse f

-- The sum over n columns, from caret 1 on.
abbrev pub sum_to : ℕ → Sides → ℕ
sum_to n f = cost n (from_one f.b) (from_one f.a)

-- Columns that are enough for both rows.
abbrev pub enough : Sides → ℕ
enough f = suc (suc (total f.b + length f.b + (total f.a + length f.a)))

-- The sum over enough columns.
abbrev pub sides_length : Sides → ℕ
sides_length f = sum_to (enough f) f
