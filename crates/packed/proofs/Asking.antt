-- The two questions about a node of a packed shape.
--     answers_refused, answers_beyond, answers_value   the answers
--     carets_counted    the masked count and the summary give the carets before the node
--     end_reached       the walk from the node ends where its subtree does
-- Assumes nothing.
use mathlib.Core.Path.{◌≡◌, refl, sym, ap, ap₂, ◌∙◌}
use mathlib.Core.Bool.{Bool, true, false, cond}
use mathlib.Core.List.{List, [], ◌∷◌, ◌++◌, append_assoc}
use Prim.Native.Nat.{ℕ, ◌+◌, ◌*◌, ◌/◌, ◌%◌, ◌^◌, ◌<◌, ◌≤◌}
use native.Mathlib.Omega.{arith}
use borrow.Author.Tests.{lt-ltb, le-ltb}
use lib.Count.{ones}
use lib.Dec.{ltb}
use lib.ListN.{length, take, drop, get_or, take-append-drop}
use lib.Seq.{drop_at}
use Rattle.lists.specs.Entries.{total}
use Rattle.refusals.specs.Outcomes.{Outcome, accepted, refused, valued, then}
use Rattle.refusals.proofs.Outcomes.{valued_refused}
use Rattle.group.specs.Points.{𝟎, 𝟏}
use Rattle.trees.specs.Trees.{Tree, leaf, caret, Address, Subtree}
use Rattle.trees.specs.Shapes.{shape, Node, subtree_end_value}
use Rattle.trees.proofs.Shapes.{shape-length}
use Rattle.trees.proofs.Subtrees.{NodeAt, node_of, of_node}
use Rattle.trees.proofs.SubtreeEnds.{node_bytes, subtree_end_lem}
use Rattle.bitrows.specs.Numbers.{numbers_of_value, nodes_in}
use Rattle.bitrows.specs.declared.walk.Walk.{Walk}
use Rattle.bitrows.specs.inside.Walking.{Walked}
use Rattle.bitrows.proofs.Numbers.{ones_number, total-add}
use Rattle.packed.specs.Packing.{carets_before_value, summary_at, packed_shape}
use Rattle.packed.specs.Promises.{asked, AnswersNode}
use Rattle.packed.specs.inside.Steps.{shape_of}
use Rattle.packed.proofs.Checks.{values_there}
use Rattle.packed.proofs.Walks.{walk_closes}
use Rattle.packed.proofs.Holding.{held-length, held-nodes, held_number, held_summary}
use Rattle.packed.proofs.Checked.{Checked}

-- A refusal of the shape stands.
pub answers_refused : (value : List ℕ → ℕ) (numbers summary : List ℕ) (node : ℕ) {o : Outcome ℕ} (number place : ℕ)
    → o ≡ refused number place → refused number place ≡ valued length (packed_shape numbers summary)
    → AnswersNode value numbers summary node o
answers_refused value numbers summary node number place d e = record {
  result =
      d
      ∙ ap (λ (u : Outcome (List ℕ)).
      valued value (then u (λ s. cond (ltb node (length s)) (accepted s) (refused 15 0))))
      (sym (valued_refused length (packed_shape numbers summary) number place (sym e)));
}

-- What the test of the node makes of the shape.
asked_by : {numbers summary : List ℕ} {n : ℕ} (node : ℕ) (b : Bool) → Checked numbers summary n → ltb node n ≡ b
    → asked numbers summary node ≡ cond b (accepted (shape_of numbers n)) (refused 15 0)
asked_by {numbers} {summary} {n} node b h e =
    ap (λ (o : Outcome (List ℕ)). then o (λ s. cond (ltb node (length s)) (accepted s) (refused 15 0))) h.read
    ∙ ap (λ (p : Bool). cond p (accepted (shape_of numbers n)) (refused 15 0))
    (ap (ltb node) (held-length h.held) ∙ e)

-- There is no such node.
pub answers_beyond : (value : List ℕ → ℕ) {numbers summary : List ℕ} {n : ℕ} (node : ℕ) → Checked numbers summary n
    → n ≤ node → AnswersNode value numbers summary node (refused 15 0)
answers_beyond value {numbers} {summary} {n} node h l =
    record { result = ap (valued value) (sym (asked_by node false h (le-ltb node n l))) }

-- There is.
pub answers_value : (value : List ℕ → ℕ) {numbers summary : List ℕ} {n : ℕ} (node x : ℕ) → Checked numbers summary n
    → node < n → x ≡ value (shape_of numbers n) → AnswersNode value numbers summary node (accepted x)
answers_value value {numbers} {summary} {n} node x h l e =
    record { result = ap accepted e ∙ ap (valued value) (sym (asked_by node true h (lt-ltb node n l))) }

-- The node's number and its entry are there.
pub read_room : {numbers summary : List ℕ} {n : ℕ} (k : ℕ) → Checked numbers summary n → k < n
    → (k / 64 < length numbers) × (k / 64 < length summary)
read_room {numbers} {summary} {n} k h l =
    let s = shape_of numbers n in
    let p = h.held.packs in (
      omega (arith, h.held.within.there),
      omega (
        arith,
        held-length h.held,
        values_there (numbers_of_value (length s)) (summary_at s) summary p.holds_summary,
      ),
    )

-- The count and the summary.
pub carets_counted : {numbers summary : List ℕ} {n : ℕ} (k : ℕ) → Checked numbers summary n → k < n
    → get_or summary (k / 64) 0 + ones (get_or numbers (k / 64) 0 % 2 ^ (k % 64))
    ≡ carets_before_value (shape_of numbers n) k
carets_counted {numbers} {summary} {n} k h l =
    let s = shape_of numbers n in
    let j = k / 64 in
    let at : 64 * j + k % 64 ≡ k = omega arith in
    ap₂ (λ (u v : ℕ). u + ones (v % 2 ^ (k % 64)))
    (held_summary h.held j (omega arith)) (held_number h.held j (omega arith))
    ∙ ap (λ (v : ℕ). summary_at s j + v) (ones_number s j (k % 64) (held-nodes h.held) (omega arith))
    ∙ sym (total-add (64 * j) (k % 64) s)
    ∙ ap (λ (i : ℕ). total (take i s)) at

-- Every node has a subtree.
node_subtree : (t : Tree) (k : ℕ) (u : Address) → NodeAt t k u → (x : Tree) × Subtree t u x
node_subtree leaf k [] h = (leaf, refl)
node_subtree (caret l r) k [] h = (caret l r, refl)
node_subtree leaf k (d ∷ u) h = absurd h
node_subtree (caret l r) k (𝟎 ∷ u) h = node_subtree l h.0 u h.2
node_subtree (caret l r) k (𝟏 ∷ u) h = node_subtree r h.0 u h.2

-- The walk.
pub end_reached : {numbers summary : List ℕ} {n : ℕ} (k : ℕ) (w : Walk) → Checked numbers summary n → k < n
    → Walked numbers k w → w.at ≡ subtree_end_value (shape_of numbers n) k
end_reached {numbers} {summary} {n} k w h l a = go (node_of tree k (omega (arith, shape-length tree, size)))
  where
    tree : Tree
    tree = h.tree

    size : length (shape tree) ≡ n
    size = ap length h.is_shape ∙ held-length h.held

    nodes : List ℕ
    nodes = nodes_in numbers

    rest : List ℕ
    rest = drop n nodes

    whole : nodes ≡ shape tree ++ rest
    whole = sym (take-append-drop n nodes) ∙ ap (λ (s : List ℕ). s ++ rest) (sym h.is_shape)

    closed : (u : Address) (x : Tree) → Node tree k u → Subtree tree u x
        → w.at ≡ subtree_end_value (shape_of numbers n) k
    closed u x node at =
        let b = node_bytes tree k u x node at in
        let e = subtree_end_lem tree k u x node at in
        let within = h.held.within in
        let from : drop k nodes ≡ shape x ++ (b.back ++ rest) =
        ap (drop k)
        (whole ∙ ap (λ (s : List ℕ). s ++ rest) b.whole
        ∙ append_assoc b.front (shape x ++ b.back) rest
        ∙ ap (λ (s : List ℕ). b.front ++ s) (append_assoc (shape x) b.back rest))
        ∙ drop_at b.front (shape x ++ (b.back ++ rest)) k b.number in
        let c = walk_closes x numbers (b.back ++ rest) k w a from
        (omega (arith, e.1, shape-length x, shape-length tree, size, within.there, within.small)) in
        omega (
          arith,
          c.1,
          e.0,
          shape-length x,
          ap (λ (s : List ℕ). subtree_end_value s k) h.is_shape,
        )

    go : (u : Address) × NodeAt tree k u → w.at ≡ subtree_end_value (shape_of numbers n) k
    go (u, node) =
        let x = node_subtree tree k u node in
        closed u x.0 (of_node tree k u node) x.1
