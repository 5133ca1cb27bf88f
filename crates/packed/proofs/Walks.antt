-- A walk over the numbers from a node on ends where the subtree of that node closes, and only there.
--     walk_closes     where a tree's shape stands at the node, the walk closes behind it
--     walk_tree, walk_large, walk_open     what the walk from node 0 says of the shape in the numbers
-- Assumes nothing.
use mathlib.Core.Path.{◌≡◌, refl, sym, ap, ap₂, subst, ◌∙◌}
use mathlib.Core.Bool.{Bool, true, false, cond}
use mathlib.Core.Logic.{◌⊎◌, inl, inr}
use mathlib.Core.List.{List, [], ◌∷◌, ◌++◌, append-nil}
use Prim.Native.Nat.{ℕ, zero, suc, ◌+◌, ◌-◌, ◌<◌, ◌≤◌}
use native.Mathlib.Omega.{arith}
use borrow.Author.Tests.{lt-ltb, le-ltb}
use lib.Dec.{ltb}
use lib.ListN.{length, take, drop, take-append-drop, length-append, length-drop, length-take}
use lib.Seq.{length-take-le, take-append_seam}
use Rattle.refusals.specs.Outcomes.{Outcome, accepted, refused, valued, then}
use Rattle.refusals.proofs.Outcomes.{valued_accepted, valued_refused}
use Rattle.trees.specs.Trees.{Tree, carets}
use Rattle.trees.specs.Pairs.{max_carets}
use Rattle.trees.specs.Shapes.{shape, shape_size, span}
use Rattle.trees.proofs.Shapes.{shape-length, shape_exact}
use Rattle.trees.proofs.SubtreeEnds.{span_none}
use Rattle.bitrows.specs.Numbers.{nodes_in}
use Rattle.bitrows.specs.Closing.{closes}
use Rattle.bitrows.specs.declared.walk.Walk.{Walk}
use Rattle.bitrows.specs.inside.Walking.{Leaves, walk_end_value, Walked}
use Rattle.bitrows.proofs.NodeLists.{nodes-length}
use Rattle.packed.specs.Packing.{packs, tree_shape, shape_in, packed_shape}
use Rattle.packed.specs.inside.Steps.{shape_of, Within}
use Rattle.packed.proofs.Trees.{IsTree, closes_exact, span-shape_all, shape_tree, tree_refused}

-- Nothing is to come behind the nodes of a tree.
leaves-shape : (t : Tree) (q : ℕ) → Leaves (shape t) 1 q → q ≡ 0
leaves-shape t zero h = refl
leaves-shape t (suc q) h =
    let e : ◌≡◌ {A = Bool} true false =
    sym (closes_exact (shape t) 1 (shape_exact t)) ∙ ap (λ (s : List ℕ). closes s 1) (sym (append-nil (shape t)))
    ∙ h.closes_on [] in
    let z : ◌≡◌ {A = ℕ} 0 1 = cc in absurd (omega arith)

-- Where the shape of a tree stands at the node, the walk closes behind it.
pub walk_closes : (t : Tree) (numbers rest : List ℕ) (from : ℕ) (w : Walk) → Walked numbers from w
    → drop from (nodes_in numbers) ≡ shape t ++ rest → from + length (shape t) ≤ walk_end_value numbers
    → (w.pending ≡ 0) × (w.at ≡ from + length (shape t))
walk_closes t numbers rest from w h e l = go w.pending refl h.ended
  where
    s : List ℕ
    s = drop from (nodes_in numbers)

    n : ℕ
    n = w.at - from

    passed : length (take n s) ≡ n
    passed =
        length-take-le n s
        (omega (arith, h.within (omega arith), h.on, length-drop from (nodes_in numbers), nodes-length numbers))

    spanned : length (shape t) ≡ n + span (drop n s) w.pending
    spanned =
        sym (ap (λ (u : List ℕ). span u 1) e ∙ span-shape_all t rest)
        ∙ ap (λ (u : List ℕ). span u 1) (sym (take-append-drop n s))
        ∙ h.leaves.spans_on (drop n s)
        ∙ ap (λ (k : ℕ). k + span (drop n s) w.pending) passed

    go : (q : ℕ) → w.pending ≡ q → (w.pending ≡ 0) ⊎ (walk_end_value numbers ≤ w.at)
        → (w.pending ≡ 0) × (w.at ≡ from + length (shape t))
    go zero d k = (
      d,
      omega (arith, h.on, spanned, ap (λ (p : ℕ). span (drop n s) p) d, span_none (drop n s)),
    )
    go (suc q) d (inl z) = absurd (omega arith)
    go (suc q) d (inr k) =
        let m : n ≡ length (shape t) = omega (arith, spanned, h.on) in
        let u : take n s ≡ shape t = ap₂ take m e ∙ take-append_seam (shape t) rest in
        let z : w.pending ≡ 0 =
        leaves-shape t w.pending (subst (λ (x : List ℕ). Leaves x 1 w.pending) u h.leaves) in
        absurd (omega arith)

-- A walk from node 0 that closes: the nodes passed are the shape in the numbers, and they close.
record Closed (numbers : List ℕ) (n : ℕ) : Type 0 where
  pub is_shape : shape_in numbers ≡ take n (nodes_in numbers)
  pub has_nodes : length (take n (nodes_in numbers)) ≡ n
  pub closing : closes (take n (nodes_in numbers)) 1 ≡ true

walk_closed : (numbers : List ℕ) (w : Walk) → Walked numbers 0 w → w.pending ≡ 0 → Closed numbers w.at
walk_closed numbers w h z = record {
  is_shape = ap (λ (n : ℕ). take n nodes) spanned;
  has_nodes = few;
  closing =
      ap (λ (s : List ℕ). closes s 1) (sym (append-nil (take at nodes)))
      ∙ leaves.closes_on [] ∙ ap (closes []) z;
}
  where
    nodes : List ℕ
    nodes = nodes_in numbers

    at : ℕ
    at = w.at

    leaves : Leaves (take at nodes) 1 w.pending
    leaves =
        let z : at - 0 ≡ at = omega arith in
        subst (λ (n : ℕ). Leaves (take n nodes) 1 w.pending) z h.leaves

    few : length (take at nodes) ≡ at
    few = length-take-le at nodes (omega (arith, h.within (omega arith), nodes-length numbers))

    spanned : span nodes 1 ≡ at
    spanned =
        ap (λ (s : List ℕ). span s 1) (sym (take-append-drop at nodes))
        ∙ leaves.spans_on (drop at nodes)
        ∙ omega (arith, few, ap (span (drop at nodes)) z, span_none (drop at nodes))

-- What the tests of a shape come to.
judged : (s : List ℕ) (b : Bool) → closes s 1 ≡ true → ltb (shape_size max_carets) (length s) ≡ b
    → tree_shape s ≡ cond b (refused 15 0) (accepted s)
judged s b c l =
    ap₂ (λ (p q : Bool). cond p (cond q (refused 15 0) (accepted s)) (refused 15 0)) c l

-- It closes, within the bound.
pub walk_tree : (numbers : List ℕ) (w : Walk) → Walked numbers 0 w → w.pending ≡ 0 → w.at ≤ shape_size max_carets
    → tree_shape (shape_in numbers) ≡ accepted (take w.at (nodes_in numbers))
walk_tree numbers w h z l =
    let c = walk_closed numbers w h z in
    let s = take w.at (nodes_in numbers) in
    ap tree_shape c.is_shape
    ∙ judged s false c.closing (le-ltb (shape_size max_carets) (length s) (omega (arith, c.has_nodes)))

-- Its nodes are counted.
pub walk_counted : (numbers : List ℕ) (w : Walk) → Walked numbers 0 w → w.pending ≡ 0 → w.at ≤ shape_size max_carets
    → accepted w.at ≡ valued length (tree_shape (shape_in numbers))
walk_counted numbers w h z l =
    ap accepted (sym (walk_closed numbers w h z).has_nodes) ∙ ap (valued length) (sym (walk_tree numbers w h z l))

-- It closes behind the bound.
pub walk_large : (numbers : List ℕ) (w : Walk) → Walked numbers 0 w → w.pending ≡ 0 → shape_size max_carets < w.at
    → tree_shape (shape_in numbers) ≡ refused 15 0
walk_large numbers w h z l =
    let c = walk_closed numbers w h z in
    let s = take w.at (nodes_in numbers) in
    ap tree_shape c.is_shape
    ∙ judged s true c.closing (lt-ltb (shape_size max_carets) (length s) (omega (arith, c.has_nodes)))

-- It does not close.
pub walk_open : (numbers : List ℕ) (w : Walk) → Walked numbers 0 w → 0 < w.pending
    → tree_shape (shape_in numbers) ≡ refused 15 0
walk_open numbers w h p = go (tree_shape (shape_in numbers)) refl
  where
    nodes : List ℕ
    nodes = nodes_in numbers

    tree : (t : Tree) → carets t ≤ max_carets → shape t ≡ shape_in numbers → ⊥
    tree t l e =
        let n = span nodes 1 in
        let d : nodes ≡ shape t ++ drop n nodes =
        sym (take-append-drop n nodes) ∙ ap (λ (s : List ℕ). s ++ drop n nodes) (sym e) in
        let k = walk_closes t numbers (drop n nodes) 0 w h d
        (omega (arith, shape-length t, ap length d, length-append (shape t) (drop n nodes), nodes-length numbers)) in
        let z : w.pending ≡ 0 = k.0 in
        absurd (omega arith)

    go : (o : Outcome (List ℕ)) → tree_shape (shape_in numbers) ≡ o → tree_shape (shape_in numbers) ≡ refused 15 0
    go (accepted u) e =
        let x = shape_tree (shape_in numbers) u e in
        let t = x.1 in
        absurd (tree t.0 t.1 t.2)
    go (refused number place) e =
        let x = tree_refused (shape_in numbers) number place e in
        e ∙ ap₂ (λ (i j : ℕ). refused i j) x.0 x.1

-- A front of a list is as long a front of it as it has entries.
front_own : (k : ℕ) (s : List ℕ) → take (length (take k s)) s ≡ take k s
front_own zero s = refl
front_own (suc k) [] = refl
front_own (suc k) (b ∷ s) = ap (λ (u : List ℕ). b ∷ u) (front_own k s)

-- n nodes of the numbers are the tree's shape that they begin with.
pub record Begins (numbers : List ℕ) (n : ℕ) : Type 0 where
  pub is_tree : tree_shape (shape_in numbers) ≡ accepted (shape_of numbers n)
  pub size : length (shape_of numbers n) ≡ n
  pub within : Within numbers n

pub begins_with : (numbers : List ℕ) (n : ℕ) → accepted n ≡ valued length (tree_shape (shape_in numbers))
    → Begins numbers n
begins_with numbers n e =
    let a = valued_accepted length (tree_shape (shape_in numbers)) n (sym e) in
    go a.0 a.1 a.2 (shape_tree (shape_in numbers) a.0 a.1)
  where
    go : (s : List ℕ) → tree_shape (shape_in numbers) ≡ accepted s → length s ≡ n → (s ≡ shape_in numbers)
        × IsTree (shape_in numbers) → Begins numbers n
    go s f l (d, t) =
        let k = span (nodes_in numbers) 1 in
        let same : shape_of numbers n ≡ s =
        ap (shape_of numbers) (sym l ∙ ap length d) ∙ front_own k (nodes_in numbers) ∙ sym d in
        let count : n ≡ shape_size (carets t.0) =
        sym l ∙ ap length (d ∙ sym t.2) ∙ shape-length t.0 in
        record {
          is_tree = f ∙ ap accepted (sym same);
          size = ap length same ∙ l;
          within = record {
            some = omega (arith, count);
            there = omega (arith, sym l ∙ ap length d, length-take k (nodes_in numbers), nodes-length numbers);
            small = omega (arith, count, t.1);
          };
        }

-- What the test of unused bits and summary makes of it.
begun : (s numbers summary : List ℕ) (b : Bool) → tree_shape (shape_in numbers) ≡ accepted s
    → b ≡ packs s numbers summary → packed_shape numbers summary ≡ cond b (accepted s) (refused 15 0)
begun s numbers summary b e d =
    ap (λ (o : Outcome (List ℕ)). then o (λ u. cond (packs u numbers summary) (accepted u) (refused 15 0))) e
    ∙ ap (λ (p : Bool). cond p (accepted s) (refused 15 0)) (sym d)

pub begins_packed : {numbers : List ℕ} {n : ℕ} (summary : List ℕ) (b : Bool) → Begins numbers n
    → b ≡ packs (shape_of numbers n) numbers summary → b ≡ true
    → accepted n ≡ valued length (packed_shape numbers summary)
begins_packed {numbers} {n} summary b h d e =
    ap accepted (sym h.size)
    ∙ ap (valued length) (sym (begun (shape_of numbers n) numbers summary true h.is_tree (sym e ∙ d)))

pub begins_unpacked : {numbers : List ℕ} {n : ℕ} (summary : List ℕ) (b : Bool) → Begins numbers n
    → b ≡ packs (shape_of numbers n) numbers summary → b ≡ false
    → refused 15 0 ≡ valued length (packed_shape numbers summary)
begins_unpacked {numbers} {n} summary b h d e =
    ap (valued length) (sym (begun (shape_of numbers n) numbers summary false h.is_tree (sym e ∙ d)))

-- A refusal stands.
pub begins_not : (numbers summary : List ℕ) (number place : ℕ)
    → refused number place ≡ valued length (tree_shape (shape_in numbers))
    → refused number place ≡ valued length (packed_shape numbers summary)
begins_not numbers summary number place e =
    ap (λ (o : Outcome (List ℕ)).
    valued length (then o (λ u. cond (packs u numbers summary) (accepted u) (refused 15 0))))
    (sym (valued_refused length (tree_shape (shape_in numbers)) number place (sym e)))
