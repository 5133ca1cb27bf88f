-- The numbers of a shape, one after another: how large they are, the carets up to each, and the leaves inside one.
--     number_small, number_behind   a number has 64 bits, and behind the shape it is 0
--     total_next, total_few         the carets up to the next number; at most one to a node
--     found_leaf, bits_leaf         a leaf of a number's nodes, or of its bits, is a leaf of the shape
-- Assumes nothing.
use mathlib.Core.Path.{◌≡◌, sym, ap, subst, ◌∙◌}
use mathlib.Core.List.{List, ◌++◌}
use Prim.Native.Nat.{ℕ, ◌+◌, ◌-◌, ◌*◌, ◌^◌, ◌<◌, ◌≤◌}
use native.Mathlib.Omega.{arith}
use lib.Count.{ones}
use lib.ListN.{length, take, drop, replicate, length-take, length-drop, drop_of_length-le, get_or-append}
use lib.Seq.{take-take, take-append-le, get_or-take, get_or-drop}
use Rattle.lists.specs.Entries.{total}
use Rattle.bitrows.specs.Numbers.{pack_number_value, number_at, numbers_of_value, bits_of}
use Rattle.bitrows.specs.inside.Nodes.{Nodes}
use Rattle.bitrows.specs.inside.Growth.{LeafAt}
use Rattle.bitrows.proofs.Bits.{bits_length, bits_pack}
use Rattle.bitrows.proofs.NodeLists.{nodes-total}
use Rattle.bitrows.proofs.Numbers.{ones_pack, take-nodes, drop-nodes, total-add}
use Rattle.bitrows.proofs.Inserting.{pack_fits}

pub number_small : (s : List ℕ) (i : ℕ) → Nodes s → number_at s i < 2 ^ 64
number_small s i h = pack_fits (drop (64 * i) s) (drop-nodes (64 * i) s h)

pub number_behind : (s : List ℕ) (i : ℕ) → numbers_of_value (length s) ≤ i → number_at s i ≡ 0
number_behind s i h =
    ap (λ (t : List ℕ). pack_number_value (take 64 t)) (drop_of_length-le s {i = 64 * i} (omega arith))

-- The nodes of a number are nodes.
number_nodes : (s : List ℕ) (i : ℕ) → Nodes s → Nodes (take 64 (drop (64 * i) s))
number_nodes s i h = take-nodes 64 (drop (64 * i) s) (drop-nodes (64 * i) s h)

-- The carets up to the next number.
pub total_next : (s : List ℕ) (i : ℕ) → Nodes s
    → total (take (64 * (i + 1)) s) ≡ total (take (64 * i) s) + ones (number_at s i)
total_next s i h =
    let e : 64 * (i + 1) ≡ 64 * i + 64 = omega arith in
    ap (λ (n : ℕ). total (take n s)) e
    ∙ total-add (64 * i) 64 s
    ∙ ap (λ (n : ℕ). total (take (64 * i) s) + n)
    (sym (ones_pack (take 64 (drop (64 * i) s)) (number_nodes s i h)))

-- At most one caret to a node.
pub total_few : (n : ℕ) (s : List ℕ) → Nodes s → total (take n s) ≤ n
total_few n s h = omega (arith, nodes-total (take n s) (take-nodes n s h), length-take n s)

-- A leaf of a number's nodes.
pub found_leaf : (s : List ℕ) (k l i v : ℕ) → LeafAt (take 64 (drop (64 * i) s)) l v
    → k + total (take (64 * i) s) ≡ l + 64 * i → LeafAt s k (64 * i + v)
found_leaf s k l i v a e = record {
  inside = omega (arith, a.inside, length-take 64 u, length-drop (64 * i) s);
  is_leaf = sym (get_or-drop (64 * i) s v 0) ∙ sym (get_or-take 64 u v 0 near) ∙ a.is_leaf;
  before = omega (arith, e, a.before, total-add (64 * i) v s, ap total (take-take v 64 u (omega (arith, near))));
}
  where
    u : List ℕ
    u = drop (64 * i) s

    near : v < 64
    near = omega (arith, a.inside, length-take 64 u)

-- A leaf among the first nodes.
leaf_front : (xs ys : List ℕ) (l v : ℕ) → v < length xs → LeafAt (xs ++ ys) l v → LeafAt xs l v
leaf_front xs ys l v h a = record {
  inside = h;
  is_leaf = sym (get_or-append xs ys 0 v h) ∙ a.is_leaf;
  before = ap (λ (t : List ℕ). l + total t) (sym (take-append-le v xs ys (omega arith))) ∙ a.before;
}

-- The bits of packed nodes, filled up with zeros.
bits_filled : (k : ℕ) (u : List ℕ) → Nodes u → length u ≤ k
    → bits_of k (pack_number_value u) ≡ u ++ replicate (k - length u) 0
bits_filled k u h l =
    let e : k ≡ length u + (k - length u) = omega arith in
    ap (λ (n : ℕ). bits_of n (pack_number_value u)) e ∙ bits_pack u (k - length u) h

-- A leaf among the bits of packed nodes, where there is a node.
leaf_bits : (k l v : ℕ) (u : List ℕ) → Nodes u → length u ≤ k → v < length u
    → LeafAt (bits_of k (pack_number_value u)) l v → LeafAt u l v
leaf_bits k l v u h m n a =
    leaf_front u (replicate (k - length u) 0) l v n (subst (λ (t : List ℕ). LeafAt t l v) (bits_filled k u h m) a)

-- A leaf of k bits stands below k.
leaf_near : (k x l v : ℕ) → LeafAt (bits_of k x) l v → v < k
leaf_near k x l v a = omega (arith, a.inside, bits_length k x)

-- A leaf of a number's bits, inside the shape.
pub bits_leaf : (s : List ℕ) (k l i v x : ℕ) → Nodes s → x ≡ number_at s i → LeafAt (bits_of 64 x) l v
    → k + total (take (64 * i) s) ≡ l + 64 * i → 64 * i + v < length s → LeafAt s k (64 * i + v)
bits_leaf s k l i v x h e a f n =
    found_leaf s k l i v
    (leaf_bits 64 l v (take 64 u) (number_nodes s i h) (few 64 u) (within (leaf_near 64 x l v a))
    (subst (λ (y : ℕ). LeafAt (bits_of 64 y) l v) e a)) f
  where
    u : List ℕ
    u = drop (64 * i) s

    few : (n : ℕ) (t : List ℕ) → length (take n t) ≤ n
    few n t = omega (arith, length-take n t)

    within : v < 64 → v < length (take 64 u)
    within m = omega (arith, m, n, length-take 64 u, length-drop (64 * i) s)
