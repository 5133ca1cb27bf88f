-- Which bytes are the shape of a tree within the bound (02, [6]).
--     IsTree s        the bytes s are the shape of a tree with at most max_carets carets
--     tree_shape_lem  such bytes are accepted as they are            tree_large      a larger tree is refused with 15
--     shape_tree      what is accepted is the shape of such a tree   tree_refused    what is refused is of no such tree
-- Assumes nothing.
use mathlib.Core.Path.{◌≡◌, refl, sym, ap, ◌∙◌}
use mathlib.Core.Bool.{Bool, true, false, cond, false≢true}
use mathlib.Core.List.{List, [], ◌∷◌, ◌++◌}
use Prim.Native.Nat.{ℕ, zero, suc, ◌≤◌, ◌<◌}
use native.Mathlib.Omega.{arith}
use borrow.Author.Tests.{ltb-false, lt-ltb, le-ltb}
use lib.ListN.{length}
use lib.Dec.{lit<, ltb}
use Rattle.lists.specs.Entries.{total}
use Rattle.lists.proofs.Totals.{total-append}
use Rattle.refusals.specs.Outcomes.{Outcome, accepted, refused}
use Rattle.refusals.proofs.Outcomes.{accepted_same, accepted_refused, refused_number, refused_place}
use Rattle.trees.specs.Trees.{Tree, leaf, caret, carets}
use Rattle.trees.specs.Shapes.{shape, shape_size, span}
use Rattle.trees.specs.Pairs.{max_carets}
use Rattle.trees.specs.inside.ShapeReading.{Exact, read_shape}
use Rattle.trees.proofs.Shapes.{shape-length, shape_exact, exact_shape}
use Rattle.trees.proofs.SubtreeEnds.{span_none, span-shape}
use Rattle.bitrows.specs.Closing.{closes}
use Rattle.bitrows.specs.inside.Nodes.{Nodes}
use Rattle.bitrows.proofs.NodeLists.{nodes-append}
use Rattle.packed.specs.Packing.{tree_shape}

-- The test is passed just by the shapes of so many trees.
pub closes_exact : (s : List ℕ) (n : ℕ) → Exact s n → closes s n ≡ true
closes_exact [] zero h = refl
closes_exact [] (suc n) h = absurd h
closes_exact (zero ∷ s) zero h = absurd h
closes_exact (zero ∷ s) (suc n) h = closes_exact s n h
closes_exact (suc zero ∷ s) zero h = absurd h
closes_exact (suc zero ∷ s) (suc n) h = closes_exact s (suc (suc n)) h
closes_exact (suc (suc b) ∷ s) n h = absurd h

pub exact_closes : (s : List ℕ) (n : ℕ) → closes s n ≡ true → Exact s n
exact_closes [] zero h = tt
exact_closes [] (suc n) h = absurd (false≢true h)
exact_closes (zero ∷ s) zero h = absurd (false≢true h)
exact_closes (zero ∷ s) (suc n) h = exact_closes s n h
exact_closes (suc zero ∷ s) zero h = absurd (false≢true h)
exact_closes (suc zero ∷ s) (suc n) h = exact_closes s (suc (suc n)) h
exact_closes (suc (suc b) ∷ s) n h = absurd (false≢true h)

-- The bytes of a tree are nodes, and their sum is its carets.
pub shape-nodes : (t : Tree) → Nodes (shape t)
shape-nodes leaf = (lit< tt, tt)
shape-nodes (caret l r) = (lit< tt, nodes-append (shape l) (shape r) (shape-nodes l) (shape-nodes r))

pub shape-total : (t : Tree) → total (shape t) ≡ carets t
shape-total leaf = refl
shape-total (caret l r) = omega (arith, total-append (shape l) (shape r), shape-total l, shape-total r)

-- The bytes of the first of several subtrees.
pub span-shape_all : (t : Tree) (rest : List ℕ) → span (shape t ++ rest) 1 ≡ length (shape t)
span-shape_all t rest = omega (arith, span-shape t 0 rest, span_none rest)

-- The bytes are the shape of a tree within the bound.
abbrev pub IsTree : List ℕ → Type 0
IsTree s = (t : Tree) × (carets t ≤ max_carets) × (shape t ≡ s)

-- How bytes are judged, by the two tests.
abbrev judged : List ℕ → Bool → Bool → Outcome (List ℕ)
judged s whole large = cond whole (cond large (refused 15 0) (accepted s)) (refused 15 0)

-- The shape of a tree, judged by its length.
closed_shape : (t : Tree)
    → tree_shape (shape t) ≡ judged (shape t) true (ltb (shape_size max_carets) (length (shape t)))
closed_shape t =
    ap (λ (whole : Bool). judged (shape t) whole (ltb (shape_size max_carets) (length (shape t))))
    (closes_exact (shape t) 1 (shape_exact t))

-- A tree within the bound, and one beyond it.
pub tree_shape_lem : (t : Tree) → carets t ≤ max_carets → tree_shape (shape t) ≡ accepted (shape t)
tree_shape_lem t few =
    closed_shape t
    ∙ ap (judged (shape t) true) (le-ltb (shape_size max_carets) (length (shape t)) (omega (arith, shape-length t)))

pub tree_large : (t : Tree) → max_carets < carets t → tree_shape (shape t) ≡ refused 15 0
tree_large t many =
    closed_shape t
    ∙ ap (judged (shape t) true) (lt-ltb (shape_size max_carets) (length (shape t)) (omega (arith, shape-length t)))

-- What is accepted is the bytes, and they are the shape of a tree within the bound.
pub shape_tree : (s u : List ℕ) → tree_shape s ≡ accepted u → (u ≡ s) × IsTree s
shape_tree s u e = go (closes s 1) (ltb (shape_size max_carets) (length s)) refl refl e
  where
    go : (whole large : Bool) → closes s 1 ≡ whole → ltb (shape_size max_carets) (length s) ≡ large
        → judged s whole large ≡ accepted u → (u ≡ s) × IsTree s
    go true true c l e = absurd (accepted_refused (sym e))
    go true false c l e =
        let q : shape (read_shape s) ≡ s = (exact_shape s).0 (exact_closes s 1 c) in
        let few : carets (read_shape s) ≤ max_carets =
        omega (arith, shape-length (read_shape s), ap length q, ltb-false (shape_size max_carets) (length s) l) in
        (sym (accepted_same e), (read_shape s, few, q))
    go false large c l e = absurd (accepted_refused (sym e))

-- What is refused is refused with 15, and is the shape of no such tree.
pub tree_refused : (s : List ℕ) (number place : ℕ) → tree_shape s ≡ refused number place
    → (number ≡ 15) × (place ≡ 0) × ((t : Tree) → carets t ≤ max_carets → shape t ≡ s → ⊥)
tree_refused s number place e =
    let r = go (closes s 1) (ltb (shape_size max_carets) (length s)) e in
    (r.0, r.1, λ t few q. accepted_refused (sym (tree_shape_lem t few) ∙ ap tree_shape q ∙ e))
  where
    go : (whole large : Bool) → judged s whole large ≡ refused number place → (number ≡ 15) × (place ≡ 0)
    go true true e = (sym (refused_number e), sym (refused_place e))
    go true false e = absurd (accepted_refused e)
    go false large e = (sym (refused_number e), sym (refused_place e))
