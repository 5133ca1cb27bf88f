-- The row of trees of a list of exponents, and the only tree with a number of carets and given exponents (01, 'The tree
-- pair and the length').
--     tree_at i ts   tree i of a row          hung t        the trees that hang on the right side of a tree
--     SameTrees     the same trees           right_carets   the carets of the right side
-- Assumes nothing.
use mathlib.Core.Path.{◌≡◌, refl, sym, ◌∙◌, ap, ap₂, ◌≡⟨◌⟩◌, ◌∎}
use mathlib.Core.List.{List, [], ◌∷◌, ◌++◌, append_assoc}
use Prim.Native.Nat.{ℕ, zero, suc, ◌+◌, ◌-◌}
use native.Mathlib.Omega.{arith}
use Rattle.lists.specs.Entries.{total}
use Rattle.lists.specs.inside.Entries.{SameEntries}
use Rattle.lists.proofs.Totals.{total-append, total_same}
use Rattle.trees.specs.Trees.{Tree, leaf, caret, carets}
use Rattle.trees.specs.Building.{first_tree, later_trees, grow, row_of, over_row, tree_of}
use Rattle.trees.specs.Readings.{left_edge, later, exponents_of}

-- Tree i of a row.
abbrev pub tree_at : ℕ → List Tree → Tree
tree_at zero ts = first_tree ts
tree_at (suc i) ts = tree_at i (later_trees ts)

-- The same tree at every place.
abbrev pub SameTrees : List Tree → List Tree → Type 0
SameTrees ts us = (i : ℕ) → tree_at i ts ≡ tree_at i us

-- A row of no trees has single leaves only.
pub tree_at_none : (i : ℕ) → tree_at i [] ≡ leaf
tree_at_none zero = refl
tree_at_none (suc i) = tree_at_none i

-- Rows of the same trees stay so when the first tree grows.
grow_same : (e : ℕ) (t : Tree) (ts us : List Tree) → SameTrees ts us → SameTrees (grow e t ts) (grow e t us)
grow_same zero t ts us h zero = refl
grow_same zero t ts us h (suc i) = h i
grow_same (suc e) t ts us h i =
    rw (h 0) (grow_same e (caret t (first_tree us)) (later_trees ts) (later_trees us) (λ j. h (suc j)) i)

-- The row of zeros has single leaves only.
pub row_zeros : (es : List ℕ) → SameEntries es [] → SameTrees (row_of es) []
row_zeros [] h i = refl
row_zeros (e ∷ es) h i = rw (h 0) (go (row_zeros es (λ j. h (suc j))) i)
  where
    go : SameTrees (row_of es) [] → SameTrees (leaf ∷ row_of es) []
    go k zero = refl
    go k (suc j) = k j

-- The row depends on the entries only.
pub row_same : (es fs : List ℕ) → SameEntries es fs → SameTrees (row_of es) (row_of fs)
row_same [] fs h i = sym (row_zeros fs (λ j. sym (h j)) i)
row_same (e ∷ es) [] h i = row_zeros (e ∷ es) h i
row_same (e ∷ es) (f ∷ fs) h i =
    rw (h 0) (grow_same f leaf (row_of es) (row_of fs) (row_same es fs (λ j. h (suc j))) i)

-- The right side over a row depends on its trees only.
pub over_same : (n : ℕ) (ts us : List Tree) → SameTrees ts us → over_row n ts ≡ over_row n us
over_same zero ts us h = refl
over_same (suc n) ts us h = ap₂ caret (h 0) (over_same n (later_trees ts) (later_trees us) (λ i. h (suc i)))

-- The tree depends on the number of carets and on the entries only.
pub tree_same : (n : ℕ) (es fs : List ℕ) → SameEntries es fs → tree_of n es ≡ tree_of n fs
tree_same n es fs h =
    over_same (n - total es) (row_of es) (row_of fs) (row_same es fs h)
    ∙ ap (λ (k : ℕ). over_row (n - k) (row_of fs)) (total_same es fs h)

-- The row of the exponents of an interior subtree, with d more carets over it.
row_subtree : (l : Tree) (d e : ℕ) (es : List ℕ) → e ≡ d + left_edge l
    → row_of (e ∷ (later l ++ es)) ≡ grow d l (row_of es)
row_subtree leaf d e es h =
    let q : e ≡ d = omega arith in
    ap (λ (k : ℕ). grow k leaf (row_of es)) q
row_subtree (caret l r) d e es h =
    row_of (e ∷ ((later l ++ (left_edge r ∷ later r)) ++ es))
    ≡⟨ ap (λ (s : List ℕ). row_of (e ∷ s)) (append_assoc (later l) (left_edge r ∷ later r) es) ⟩
    row_of (e ∷ (later l ++ (left_edge r ∷ (later r ++ es))))
    ≡⟨ row_subtree l (suc d) e (left_edge r ∷ (later r ++ es)) (omega arith) ⟩
    grow (suc d) l (row_of (left_edge r ∷ (later r ++ es)))
    ≡⟨ ap (grow (suc d) l) (row_subtree r 0 (left_edge r) es (omega arith)) ⟩
    grow d (caret l r) (row_of es) ∎

-- The trees that hang on the right side.
abbrev hung : Tree → List Tree
hung leaf = leaf ∷ []
hung (caret l r) = l ∷ hung r

row_hung : (t : Tree) → row_of (exponents_of t) ≡ hung t
row_hung leaf = refl
row_hung (caret l r) =
    row_subtree l 0 (left_edge l) (exponents_of r) (omega arith) ∙ ap (λ (ts : List Tree). l ∷ ts) (row_hung r)

-- The carets of the right side.
abbrev pub right_carets : Tree → ℕ
right_carets leaf = 0
right_carets (caret l r) = suc (right_carets r)

over_hung : (t : Tree) → over_row (right_carets t) (hung t) ≡ t
over_hung leaf = refl
over_hung (caret l r) = ap (caret l) (over_hung r)

-- Every caret off the right side is counted by one exponent.
pub total_subtree : (l : Tree) → left_edge l + total (later l) ≡ carets l
total_subtree leaf = refl
total_subtree (caret l r) =
    omega (arith, total-append (later l) (left_edge r ∷ later r), total_subtree l, total_subtree r)

pub total-exponents : (t : Tree) → right_carets t + total (exponents_of t) ≡ carets t
total-exponents leaf = refl
total-exponents (caret l r) =
    omega (arith, total-append (later l) (exponents_of r), total_subtree l, total-exponents r)

-- A tree is the tree of its number of carets and its exponents.
pub tree_unique : (t : Tree) (es : List ℕ) → SameEntries (exponents_of t) es → t ≡ tree_of (carets t) es
tree_unique t es h =
    let n : right_carets t ≡ carets t - total es = omega (arith, total-exponents t, total_same (exponents_of t) es h) in
    t
    ≡⟨ sym (over_hung t) ⟩
    over_row (right_carets t) (hung t)
    ≡⟨ ap (over_row (right_carets t)) (sym (row_hung t)) ⟩
    over_row (right_carets t) (row_of (exponents_of t))
    ≡⟨ over_same (right_carets t) (row_of (exponents_of t)) (row_of es) (row_same (exponents_of t) es h) ⟩
    over_row (right_carets t) (row_of es)
    ≡⟨ ap (λ (k : ℕ). over_row k (row_of es)) n ⟩
    tree_of (carets t) es ∎

-- Two trees with as many carets and the same exponents are equal.
pub tree_only : (t u : Tree) (es : List ℕ) → carets t ≡ carets u → SameEntries (exponents_of t) es
    → SameEntries (exponents_of u) es → t ≡ u
tree_only t u es c h k =
    t ≡⟨ tree_unique t es h ⟩
    tree_of (carets t) es ≡⟨ ap (λ (n : ℕ). tree_of n es) c ⟩
    tree_of (carets u) es ≡⟨ sym (tree_unique u es k) ⟩
    u ∎
