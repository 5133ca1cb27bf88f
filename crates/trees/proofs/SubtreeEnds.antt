-- Where the subtree of a node ends in the shape (01, 'The tree pair and the length').
--     node_bytes    the bytes from node k on are those of its subtree x and others
--     subtree_end_lem   the subtree ends at k + 2M + 1, M the carets of x, and subtree_end_value finds this place
-- Assumes nothing.
use mathlib.Core.Path.{◌≡◌, refl, sym, ◌∙◌, ap, ◌≡⟨◌⟩◌, ◌∎}
use mathlib.Core.List.{List, [], ◌∷◌, ◌++◌, append_assoc, append-nil}
use Prim.Native.Nat.{ℕ, suc, ◌+◌, ◌≤◌}
use native.Mathlib.Omega.{arith}
use lib.ListN.{length, drop, length-append}
use lib.Seq.{drop_at}
use Rattle.group.specs.Points.{𝟎, 𝟏}
use Rattle.trees.specs.Trees.{Tree, leaf, caret, carets, Address, Subtree}
use Rattle.trees.specs.Shapes.{shape, shape_size, Node, span, subtree_end_value}
use Rattle.trees.proofs.Shapes.{shape-length}
use Rattle.trees.proofs.Subtrees.{NodeAt, to_node}

-- The bytes from a node on are those of its subtree and others.
pub record NodeBytes (t : Tree) (k : ℕ) (x : Tree) : Type 0 where
  pub front : List ℕ
  pub back : List ℕ
  pub number : length front ≡ k
  pub whole : shape t ≡ front ++ (shape x ++ back)

all_bytes : (t : Tree) (k : ℕ) (x : Tree) → k ≡ 0 → t ≡ x → NodeBytes t k x
all_bytes t k x h g = record {
  front = [];
  back = [];
  number = sym h;
  whole = ap shape g ∙ sym (append-nil (shape x));
}

bytes_at : (t : Tree) (k : ℕ) (u : Address) (x : Tree) → NodeAt t k u → Subtree t u x → NodeBytes t k x
bytes_at leaf k [] x h g = all_bytes leaf k x h g
bytes_at (caret l r) k [] x h g = all_bytes (caret l r) k x h g
bytes_at leaf k (d ∷ u) x h g = absurd h
bytes_at (caret l r) k (𝟎 ∷ u) x h g =
    let b = bytes_at l h.0 u x h.2 g in
    record {
      front = 1 ∷ b.front;
      back = b.back ++ shape r;
      number = omega (arith, b.number, h.1);
      whole =
          ap (λ (s : List ℕ). 1 ∷ s)
          (shape l ++ shape r
          ≡⟨ ap (λ (s : List ℕ). s ++ shape r) b.whole ⟩
          (b.front ++ (shape x ++ b.back)) ++ shape r
          ≡⟨ append_assoc b.front (shape x ++ b.back) (shape r) ⟩
          b.front ++ ((shape x ++ b.back) ++ shape r)
          ≡⟨ ap (λ (s : List ℕ). b.front ++ s) (append_assoc (shape x) b.back (shape r)) ⟩
          b.front ++ (shape x ++ (b.back ++ shape r)) ∎);
    }
bytes_at (caret l r) k (𝟏 ∷ u) x h g =
    let b = bytes_at r h.0 u x h.2 g in
    record {
      front = 1 ∷ (shape l ++ b.front);
      back = b.back;
      number = omega (arith, length-append (shape l) b.front, b.number, shape-length l, h.1);
      whole =
          ap (λ (s : List ℕ). 1 ∷ s)
          (ap (λ (s : List ℕ). shape l ++ s) b.whole ∙ sym (append_assoc (shape l) b.front (shape x ++ b.back)));
    }

-- Node k and its subtree in the shape.
pub node_bytes : (t : Tree) (k : ℕ) (u : Address) (x : Tree) → Node t k u → Subtree t u x → NodeBytes t k x
node_bytes t k u x h g = bytes_at t k u x (to_node t k u h) g

-- The next 0 subtrees have no bytes.
pub span_none : (s : List ℕ) → span s 0 ≡ 0
span_none [] = refl
span_none (b ∷ s) = refl

-- The next n + 1 subtrees, a tree and n behind it.
pub span-shape : (t : Tree) (n : ℕ) (s : List ℕ) → span (shape t ++ s) (suc n) ≡ length (shape t) + span s n
span-shape leaf n s = omega arith
span-shape (caret l r) n s =
    omega (
      arith,
      ap (λ (x : List ℕ). span x (suc (suc n))) (append_assoc (shape l) (shape r) s),
      span-shape l (suc n) (shape r ++ s),
      span-shape r n s,
      length-append (shape l) (shape r),
    )

-- The subtree of node k ends where subtree_end_value says, inside the shape.
pub subtree_end_lem : (t : Tree) (k : ℕ) (u : Address) (x : Tree) → Node t k u → Subtree t u x
    → (subtree_end_value (shape t) k ≡ k + shape_size (carets x)) × (k + shape_size (carets x) ≤ shape_size (carets t))
subtree_end_lem t k u x h g =
    let b = node_bytes t k u x h g in (
      omega (
        arith,
        ap (λ (s : List ℕ). span (drop k s) 1) b.whole,
        ap (λ (s : List ℕ). span s 1) (drop_at b.front (shape x ++ b.back) k b.number),
        span-shape x 0 b.back,
        span_none b.back,
        shape-length x,
      ),
      omega (
        arith,
        ap length b.whole,
        length-append b.front (shape x ++ b.back),
        length-append (shape x) b.back,
        shape-length x,
        shape-length t,
        b.number,
      ),
    )
