-- The tips of a row, read from the left, are the levels of its form: b_i is the number of left edges above tip i,
-- and a_i its exponent. Assumes nothing.
use mathlib.Core.Path.{◌≡◌, refl, sym, ◌∙◌, ap}
use mathlib.Core.List.{List, [], ◌∷◌}
use Prim.Native.Nat.{ℕ, zero, suc, ◌+◌, ◌<◌}
use native.Mathlib.Omega.{arith}
use lib.ListN.{length}
use Rattle.group.specs.Letters.{Word}
use Rattle.group.specs.Forms.{Side, b_side, a_side, Form, level, exponent, SameExponents}
use Rattle.group.specs.Products.{form_of}
use Rattle.group.proofs.LevelProducts.{reduce_level_same}
use Rattle.forest.specs.inside.Forest.{Bush, tip, fork, first_bush, put_bush, row_bushes, row_of_word}
use Rattle.forest.specs.inside.Forest.{tip_edges, tip_exponent, bushes_behind, forest_behind, bushes_from, tip_at}
use Rattle.forest.proofs.Levels.{bush_levels, forest_levels, put_levels, row_form}
use Rattle.forest.proofs.Irreducible.{Apart, Irreducible, IrreducibleForest, put_irreducible}
use Rattle.forest.proofs.Irreducible.{row_irreducible, bushes_irreducible}

-- No reducing step applies at the first tip of a bush under d left edges.
abbrev Stable : ℕ → Bush → List Bush → Type 0
Stable d (tip m) ts =
    0 < d → 0 < m → 0 < exponent b_side (forest_levels ts) 0 + exponent a_side (forest_levels ts) 0
Stable d (fork x y) ts = Unit {0}

stable_first : (t : Bush) (ts : List Bush) → Stable 0 t ts
stable_first (tip m) ts = λ h k. absurd (omega arith)
stable_first (fork x y) ts = tt

-- The first level of a bush is that of its first tip; the levels above it are those of the bushes behind.
abbrev FirstLevel : ℕ → Bush → List Bush → Type 0
FirstLevel d t ts =
    SameExponents (bush_levels d t (forest_levels ts))
    (level (tip_edges t + d) (tip_exponent t) (forest_levels (bushes_behind t ts)))

apart_occurs : (m : ℕ) (y : Bush) → Apart (tip (suc m)) y → 0 < tip_edges y + tip_exponent y
apart_occurs m (tip zero) h = absurd h
apart_occurs m (tip (suc n)) h = omega arith
apart_occurs m (fork u v) h = omega arith

stable_left : (d : ℕ) (x y : Bush) (ts : List Bush) → Apart x y → FirstLevel 0 y ts → Stable d x (put_bush y ts)
stable_left d (tip zero) y ts h f = λ p q. absurd (omega arith)
stable_left d (tip (suc m)) y ts h f = λ p q.
    rw put_levels (omega (arith, apart_occurs m y h, f b_side 0, f a_side 0))
stable_left d (fork u v) y ts h f = tt

first_level : (n d : ℕ) (t : Bush) (ts : List Bush) → Irreducible n t → Stable d t ts → FirstLevel d t ts
first_level n d (tip m) ts h k s i =
    let e : d ≡ 0 + d = omega arith in
    reduce_level_same d m (forest_levels ts) k s i
    ∙ ap (λ (j : ℕ). exponent s (level j m (forest_levels ts)) i) e
first_level n d (fork x y) ts h k s i =
    let e : tip_edges x + suc d ≡ suc (tip_edges x) + d = omega arith in
    ap (λ (f : Form). exponent s (bush_levels (suc d) x f) i) (sym (put_levels y ts))
    ∙ first_level n (suc d) x (put_bush y ts) h.1
    (stable_left (suc d) x y ts h.0 (first_level n 0 y ts h.2 (stable_first y ts)))
    s
    i
    ∙ ap (λ (j : ℕ). exponent s (level j (tip_exponent x) (forest_levels (bushes_behind x (put_bush y ts)))) i) e

-- The same of several bushes.
forest_level : (n : ℕ) (ts : List Bush) → IrreducibleForest n ts
    → SameExponents (forest_levels ts)
    (level (tip_edges (first_bush ts)) (tip_exponent (first_bush ts)) (forest_levels (forest_behind ts)))
forest_level n [] h b_side zero = refl
forest_level n [] h a_side zero = refl
forest_level n [] h s (suc i) = refl
forest_level n (t ∷ ts) h s i =
    let e : tip_edges t + 0 ≡ tip_edges t = omega arith in
    first_level n 0 t ts h.0 (stable_first t ts) s i
    ∙ ap (λ (j : ℕ). exponent s (level j (tip_exponent t) (forest_levels (bushes_behind t ts))) i) e

behind_irreducible : (n : ℕ) (t : Bush) (ts : List Bush) → Irreducible n t → IrreducibleForest n ts
    → IrreducibleForest n (bushes_behind t ts)
behind_irreducible n (tip m) ts h k = k
behind_irreducible n (fork x y) ts h k =
    behind_irreducible n x (put_bush y ts) h.1 (put_irreducible n y ts h.2 k)

forest_behind_irreducible : (n : ℕ) (ts : List Bush) → IrreducibleForest n ts → IrreducibleForest n (forest_behind ts)
forest_behind_irreducible n [] h = tt
forest_behind_irreducible n (t ∷ ts) h = behind_irreducible n t ts h.0 h.1

from_behind : (i : ℕ) (ts : List Bush) → bushes_from i (forest_behind ts) ≡ forest_behind (bushes_from i ts)
from_behind zero ts = refl
from_behind (suc i) ts = ap forest_behind (from_behind i ts)

-- Tip i of several bushes has the exponents of index i of their form.
pub forest_exponent : (n : ℕ) (s : Side) (i : ℕ) (ts : List Bush) → IrreducibleForest n ts
    → exponent s (forest_levels ts) i ≡ tip_at s ts i
forest_exponent n s zero ts h = forest_level n ts h s 0
forest_exponent n s (suc i) ts h =
    forest_level n ts h s (suc i)
    ∙ forest_exponent n s i (forest_behind ts) (forest_behind_irreducible n ts h)
    ∙ ap (λ (us : List Bush). tip_at s us 0) (from_behind i ts)

-- Tip i of a word's row has the exponents of index i of the word's form.
pub row_exponent : (w : Word) (s : Side) (i : ℕ)
    → exponent s (form_of w) i ≡ tip_at s (row_bushes (row_of_word w)) i
row_exponent w s i =
    ap (λ (f : Form). exponent s f i) (sym (row_form w))
    ∙ forest_exponent (length w) s i (row_bushes (row_of_word w))
    (bushes_irreducible (length w) (row_of_word w) (row_irreducible w))
