-- The shape of a tree in one pass over its exponents, with one counter: what `nodes_from` gives is the shape (01, 'The
-- tree pair and the length').
--     all_but_last t   the exponents of the leaves but the last
-- Assumes nothing.
use mathlib.Core.Path.{◌≡◌, refl, sym, ◌∙◌, ap, ap₂, ◌≡⟨◌⟩◌, ◌∎}
use mathlib.Core.List.{List, [], ◌∷◌, ◌++◌, append_assoc}
use Prim.Native.Nat.{ℕ, suc, ◌+◌, ◌≤◌}
use native.Mathlib.Omega.{arith}
use lib.ListN.{length, replicate, length-append}
use lib.Seq.{ext_get_or}
use Rattle.lists.specs.inside.Entries.{SameEntries}
use Rattle.lists.proofs.Copies.{replicate_past}
use Rattle.lists.proofs.Totals.{same_append, same_zero}
use Rattle.trees.specs.Trees.{Tree, leaf, caret, carets}
use Rattle.trees.specs.Building.{needed, tree_of}
use Rattle.trees.specs.Shapes.{shape}
use Rattle.trees.specs.inside.Writing.{nodes_from}
use Rattle.trees.specs.Readings.{left_edge, later, exponents_of}
use Rattle.trees.proofs.Exponents.{later-length}
use Rattle.trees.proofs.Built.{tree_carets, tree_exponents}

-- The exponents of the leaves but the last, whose exponent is 0.
abbrev pub all_but_last : Tree → List ℕ
all_but_last leaf = []
all_but_last (caret l r) = left_edge l ∷ (later l ++ all_but_last r)

-- They have the entries of all exponents, as zeros stand behind them.
pub all_but_last_same : (t : Tree) → SameEntries (all_but_last t) (exponents_of t)
all_but_last_same leaf = λ i. sym (same_zero i)
all_but_last_same (caret l r) =
    same_append (left_edge l ∷ later l) (all_but_last r) (exponents_of r) (all_but_last_same r)

-- There is one for each caret.
pub all_but_last_length : (t : Tree) → length (all_but_last t) ≡ carets t
all_but_last_length leaf = refl
all_but_last_length (caret l r) =
    omega (arith, length-append (later l) (all_but_last r), later-length l, all_but_last_length r)

-- The nodes of an interior subtree l, with d more carets before it, and then those behind it.
nodes_subtree : (l : Tree) (d e o p : ℕ) (es : List ℕ) → e ≡ d + left_edge l → p ≡ o + d
    → nodes_from (e ∷ (later l ++ es)) (suc o) ≡ replicate d 1 ++ (shape l ++ nodes_from es p)
unfolding nodes_from
nodes_subtree leaf d e o p es he hp =
    let q : e ≡ d = omega arith in
    let r : o + e ≡ p = omega arith in
    ap₂ (λ (x y : ℕ). replicate x 1 ++ (0 ∷ nodes_from es y)) q r
nodes_subtree (caret l r) d e o p es he hp =
    let fs : List ℕ = left_edge r ∷ (later r ++ es) in
    let of-r : nodes_from fs (suc p) ≡ shape r ++ nodes_from es p =
    nodes_subtree r 0 (left_edge r) p p es (omega arith) (omega arith) in
    nodes_from (e ∷ ((later l ++ (left_edge r ∷ later r)) ++ es)) (suc o)
    ≡⟨ ap (λ (x : List ℕ). nodes_from (e ∷ x) (suc o)) (append_assoc (later l) (left_edge r ∷ later r) es) ⟩
    nodes_from (e ∷ (later l ++ fs)) (suc o)
    ≡⟨ nodes_subtree l (suc d) e o (suc p) fs (omega arith) (omega arith) ⟩
    replicate (suc d) 1 ++ (shape l ++ nodes_from fs (suc p))
    ≡⟨ ap (λ (x : List ℕ). replicate (suc d) 1 ++ (shape l ++ x)) of-r ⟩
    replicate (suc d) 1 ++ (shape l ++ (shape r ++ nodes_from es p))
    ≡⟨ sym (replicate_past d 1 (shape l ++ (shape r ++ nodes_from es p))) ⟩
    replicate d 1 ++ (1 ∷ (shape l ++ (shape r ++ nodes_from es p)))
    ≡⟨ ap (λ (x : List ℕ). replicate d 1 ++ (1 ∷ x)) (sym (append_assoc (shape l) (shape r) (nodes_from es p))) ⟩
    replicate d 1 ++ (shape (caret l r) ++ nodes_from es p) ∎

-- A caret of the right side stands in front of the subtree that hangs on it.
nodes_side : (e : ℕ) (es : List ℕ) → nodes_from (e ∷ es) 0 ≡ 1 ∷ nodes_from (e ∷ es) 1
unfolding nodes_from
nodes_side e es =
    let q : e ≡ 0 + e = omega arith in
    ap (λ (k : ℕ). 1 ∷ (replicate e 1 ++ (0 ∷ nodes_from es k))) q

-- The nodes from the first leaf on are the shape.
pub nodes_tree : (t : Tree) → nodes_from (all_but_last t) 0 ≡ shape t
unfolding nodes_from
nodes_tree leaf = refl
nodes_tree (caret l r) =
    let es : List ℕ = all_but_last r in
    nodes_from (left_edge l ∷ (later l ++ es)) 0
    ≡⟨ nodes_side (left_edge l) (later l ++ es) ⟩
    1 ∷ nodes_from (left_edge l ∷ (later l ++ es)) 1
    ≡⟨ ap (λ (s : List ℕ). 1 ∷ s) (nodes_subtree l 0 (left_edge l) 0 0 es (omega arith) (omega arith)) ⟩
    1 ∷ (shape l ++ nodes_from es 0)
    ≡⟨ ap (λ (s : List ℕ). 1 ∷ (shape l ++ s)) (nodes_tree r) ⟩
    1 ∷ (shape l ++ shape r) ∎

-- The shape of the tree with n carets, from the exponents of its first n leaves.
pub nodes-shape : (n : ℕ) (es : List ℕ) → length es ≡ n → needed 0 es ≤ n → nodes_from es 0 ≡ shape (tree_of n es)
nodes-shape n es e h = ap (λ (x : List ℕ). nodes_from x 0) same ∙ nodes_tree t
  where
    t : Tree
    t = tree_of n es

    same : es ≡ all_but_last t
    same =
        ext_get_or 0 es (all_but_last t) (omega (arith, all_but_last_length t, tree_carets n es h)) (λ i p.
        sym (all_but_last_same t i ∙ tree_exponents n es h i))
