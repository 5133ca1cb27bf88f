-- Lists of nodes, and the nodes that numbers hold.
--     nodes-append    nodes behind nodes              nodes-total    nodes have at most one caret each
--     nodes-nodes     bits are nodes                  nodes-length   64 to a number
--     number_nodes    the bits of a packed number are its nodes
--     values-nodes    the bits of a shape's numbers begin with the shape
-- Assumes nothing.
use mathlib.Core.Path.{◌≡◌, refl, sym, ap, ap₂, ◌∙◌}
use mathlib.Core.List.{List, [], ◌∷◌, ◌++◌, append_assoc}
use Prim.Native.Nat.{ℕ, zero, suc, ◌+◌, ◌*◌, ◌/◌, ◌%◌, ◌<◌, ◌≤◌}
use native.Mathlib.Omega.{arith}
use lib.ListN.{length, take, drop, length-append, length-drop, take-append-drop}
use lib.Seq.{drop-drop}
use Rattle.lists.specs.Entries.{total}
use Rattle.lists.specs.Tables.{values}
use Rattle.lists.proofs.Tables.{values_same}
use Rattle.bitrows.specs.Numbers.{pack_number_value, number_at, bits_of, nodes_in}
use Rattle.bitrows.specs.inside.Nodes.{Nodes}
use Rattle.bitrows.proofs.Numbers.{drop-nodes}
use Rattle.bitrows.proofs.Bits.{bits_length, bits_nodes}

pub nodes-append : (s t : List ℕ) → Nodes s → Nodes t → Nodes (s ++ t)
nodes-append [] t h g = g
nodes-append (b ∷ s) t h g = (h.0, nodes-append s t h.1 g)

-- No more carets than nodes.
pub nodes-total : (s : List ℕ) → Nodes s → total s ≤ length s
nodes-total [] h = omega arith
nodes-total (b ∷ s) h = omega (arith, h.0, nodes-total s h.1)

-- The bits of one list of numbers behind those of another.
pub nodes_in_append : (xs ys : List ℕ) → nodes_in (xs ++ ys) ≡ nodes_in xs ++ nodes_in ys
nodes_in_append [] ys = refl
nodes_in_append (x ∷ xs) ys =
    ap (λ (s : List ℕ). bits_of 64 x ++ s) (nodes_in_append xs ys)
    ∙ sym (append_assoc (bits_of 64 x) (nodes_in xs) (nodes_in ys))

pub nodes-length : (xs : List ℕ) → length (nodes_in xs) ≡ 64 * length xs
nodes-length [] = refl
nodes-length (x ∷ xs) =
    omega (arith, length-append (bits_of 64 x) (nodes_in xs), bits_length 64 x, nodes-length xs)

pub nodes-nodes : (xs : List ℕ) → Nodes (nodes_in xs)
nodes-nodes [] = tt
nodes-nodes (x ∷ xs) = nodes-append (bits_of 64 x) (nodes_in xs) (bits_nodes 64 x) (nodes-nodes xs)

-- The bits of the first k nodes packed are these nodes; where there are more than k, others follow.
pub number_nodes : (k : ℕ) (s rest : List ℕ) → Nodes s
    → take (length s) (bits_of k (pack_number_value (take k s)) ++ rest) ≡ take k s ++ take (length (drop k s)) rest
number_nodes zero s rest h = refl
number_nodes (suc k) [] rest h = refl
number_nodes (suc k) (b ∷ s) rest h =
    let p : ℕ = pack_number_value (take k s) in
    let l : b < 2 = h.0 in
    let m : (b + 2 * p) % 2 ≡ b = omega arith in
    let d : (b + 2 * p) / 2 ≡ p = omega arith in
    ap₂ (λ (x y : ℕ). x ∷ take (length s) (bits_of k y ++ rest)) m d
    ∙ ap (λ (t : List ℕ). b ∷ t) (number_nodes k s rest h.1)

-- The later numbers of a shape are those of its nodes from 64 on.
numbers_later : (m : ℕ) (s : List ℕ) → values m (λ j. number_at s (suc j)) ≡ values m (number_at (drop 64 s))
numbers_later m s =
    values_same m (λ j. number_at s (suc j)) (number_at (drop 64 s)) (λ j h.
    let e : 64 * suc j ≡ 64 + 64 * j = omega arith in
    ap (λ (k : ℕ). pack_number_value (take 64 (drop k s))) e
    ∙ ap (λ (t : List ℕ). pack_number_value (take 64 t)) (sym (drop-drop (64 * j) 64 s)))

-- The bits of m numbers of a shape begin with the shape, where they have room for it.
pub values-nodes : (m : ℕ) (s : List ℕ) → Nodes s → length s ≤ 64 * m
    → take (length s) (nodes_in (values m (number_at s))) ≡ s
unfolding values
values-nodes zero [] h l = refl
values-nodes zero (b ∷ s) h l = absurd (omega arith)
values-nodes (suc m) s h l =
    ap (λ (xs : List ℕ). take (length s) (bits_of 64 (pack_number_value (take 64 s)) ++ nodes_in xs))
    (numbers_later m s)
    ∙ number_nodes 64 s (nodes_in (values m (number_at (drop 64 s)))) h
    ∙ ap (λ (t : List ℕ). take 64 s ++ t)
    (values-nodes m (drop 64 s) (drop-nodes 64 s h) (omega (arith, length-drop 64 s)))
    ∙ take-append-drop 64 s
