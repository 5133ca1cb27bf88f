-- The claims of specs/Packed.antt, proved; PackedGiven.antt has the first, `ShapesGiven`. Assumes nothing.
use mathlib.Core.Path.{◌≡◌, refl, sym, ap, subst, ◌∙◌}
use mathlib.Core.List.{List}
use Prim.Native.Nat.{ℕ, ◌<◌, ◌≤◌}
use native.Mathlib.Omega.{arith}
use lib.ListN.{length, take}
use Rattle.std.specs.Prelude.{Result}
use Rattle.refusals.specs.declared.Refusal.{Refusal}
use Rattle.lists.proofs.Writes.{sets_front}
use Rattle.refusals.specs.Outcomes.{Outcome, accepted, reply_of}
use Rattle.refusals.specs.Placing.{Placed}
use Rattle.refusals.proofs.Outcomes.{accepted_same, accepted_refused}
use Rattle.refusals.proofs.Placing.{fit_long}
use Rattle.trees.specs.Trees.{Tree, Address, IsLeaf}
use Rattle.trees.specs.Shapes.{shape, Node}
use Rattle.trees.proofs.Shapes.{shape-length}
use Rattle.trees.proofs.Subtrees.{to_node, node_lt}
use Rattle.bitrows.specs.Numbers.{numbers_of_value}
use Rattle.packed.specs.Packing.{packed_shape}
use Rattle.packed.specs.Growing.{grown, grown_shape}
use Rattle.packed.specs.Promises.{packing, unpacking, growing, Repacked}
use Rattle.packed.proofs.Trees.{tree_shape_lem}
use Rattle.packed.proofs.Reading.{packed_one, room_fits}
use Rattle.packed.proofs.Grown.{grow-shape, grown-carets, grown_leaf}
use Rattle.claims.specs.Packed.{IsPacked, PackUnpack, PackedIsTree, GrownIsPacked, BothByShape}
use Rattle.claims.proofs.PackedRefusals.{PackedRead, reads, reads_none, packed_read, read_packed, of_tree, roomed}
use Rattle.claims.proofs.PackedGiven.{
  repacked_fits,
  pack_given,
  fitted,
  placed_fits,
  unpack_given,
  answers_shape,
  nodes_before,
}

-- What was packed is unpacked as it was.
unpacks_packed : {s xs ys xs' ys' out out' : List ℕ} {r q : Result ℕ Refusal} {n : ℕ}
    → Repacked (packing s xs ys) xs ys xs' ys' r → reply_of r ≡ accepted n
    → Placed (unpacking xs' ys' out) out out' q → length s ≤ length out
    → (reply_of q ≡ accepted (length s)) × (take (length s) out' ≡ s)
unpacks_packed {s} {xs} {ys} {xs'} {ys'} {out} {out'} h a g room =
    let x = pack_given {s = s} h a in
    let left = placed_fits g
    (of_tree xs' ys' (fitted out) x.2.packed
    ∙ ap (fitted out) x.1.written
    ∙ fit_long (length s) s out room) in
    (left.0, ap (take (length s)) left.1 ∙ sets_front s out (length s) refl room)

-- What was unpacked is packed into what it came from.
packs_unpacked : (xs ys : List ℕ) {out out' zs ws zs' ws' : List ℕ} {q r : Result ℕ Refusal} {m : ℕ}
    → Placed (unpacking xs ys out) out out' q → reply_of q ≡ accepted m
    → Repacked (packing (take m out') zs ws) zs ws zs' ws' r
    → numbers_of_value m ≤ length zs → numbers_of_value m ≤ length ws
    → (reply_of r ≡ accepted (numbers_of_value m))
    × (take (numbers_of_value m) zs' ≡ take (numbers_of_value m) xs)
    × (take (numbers_of_value m) ws' ≡ take (numbers_of_value m) ys)
packs_unpacked xs ys {out} {out'} {zs} {ws} {zs'} {ws'} {q} {r} {m} g a h long-z long-w =
    let x = unpack_given g a in
    let t = x.0 in
    let s : List ℕ = shape t in
    let p : IsPacked t xs ys = x.1 in
    let count : length s ≡ m = shape-length t ∙ sym x.2.count in
    let fits : packing (take m out') zs ws ≡ accepted s =
    ap (λ (v : List ℕ). packing v zs ws) x.2.bytes
    ∙ ap (roomed zs ws) (tree_shape_lem t p.small)
    ∙ room_fits s zs ws
    (subst (λ (k : ℕ). numbers_of_value k ≤ length zs) (sym count) long-z)
    (subst (λ (k : ℕ). numbers_of_value k ≤ length ws) (sym count) long-w) in
    let y = repacked_fits h fits in (
      y.0 ∙ ap (λ (k : ℕ). accepted (numbers_of_value k)) count,
      subst (λ (k : ℕ). take (numbers_of_value k) zs' ≡ take (numbers_of_value k) xs) count
          (y.1.holds_numbers ∙ sym p.packs.holds_numbers),
      subst (λ (k : ℕ). take (numbers_of_value k) ws' ≡ take (numbers_of_value k) ys) count
          (y.1.holds_summary ∙ sym p.packs.holds_summary),
    )

pub pack_unpack : PackUnpack
pack_unpack = record {
  unpack_packed = λ s xs ys xs' ys' out out' r q n. unpacks_packed;
  pack_unpacked = λ xs ys out out' zs ws zs' ws' q r m. packs_unpacked xs ys;
}

-- What is read as a packed shape, and the tree that it is of.
read_tree : (xs ys s : List ℕ) → packed_shape xs ys ≡ accepted s → (t : Tree) × IsPacked t xs ys
read_tree xs ys s k = go (read_packed xs ys)
  where
    go : PackedRead xs ys → (t : Tree) × IsPacked t xs ys
    go (reads t h e) = (t, h)
    go (reads_none none e) = absurd (accepted_refused (sym k ∙ e))

pub packed_is_tree : PackedIsTree
packed_is_tree = record {
  accepts = λ xs ys. ((λ x. read_tree xs ys x.0 x.1), λ x. (shape x.0, packed_read x.1));
  one = λ t u xs ys h g. packed_one t u xs ys h.small g.small h.packs g.packs;
  is_shape = λ t s xs ys e h. accepted_same (sym e ∙ packed_read h);
}

-- Growing comes to what packing the grown tree's shape comes to.
grows_as_packed : (t : Tree) (k : ℕ) (u : Address) (xs ys : List ℕ) → IsPacked t xs ys → IsLeaf t k u
    → growing xs ys k ≡ packing (shape (grown t u)) xs ys
grows_as_packed t k u xs ys p h =
    of_tree xs ys (λ s. roomed xs ys (grown_shape s k)) p ∙ ap (roomed xs ys) (grown_leaf t k u h)

-- One outcome leaves and answers one thing.
repacked_same : {o : Outcome (List ℕ)} {xs ys xs' ys' zs ws : List ℕ} {r q : Result ℕ Refusal}
    → Repacked o xs ys xs' ys' r
    → Repacked o xs ys zs ws q → (xs' ≡ zs) × (ys' ≡ ws) × (reply_of r ≡ reply_of q)
repacked_same h g = (
  h.numbers_left ∙ sym g.numbers_left,
  h.summary_left ∙ sym g.summary_left,
  h.result ∙ sym g.result,
)

pub grown_is_packed : GrownIsPacked
grown_is_packed = record {
  shape_grown = grow-shape;
  one_caret_more = grown-carets;
  as_packed = λ t k u xs ys xs' ys' zs ws r q p h c d.
      repacked_same
      (subst (λ (o : Outcome (List ℕ)). Repacked o xs ys xs' ys' r) (grows_as_packed t k u xs ys p h) c)
      d;
}

-- A node has a number below the bytes of the shape.
node_below : (t : Tree) (k : ℕ) (u : Address) → Node t k u → k < length (shape t)
node_below t k u h = omega (arith, node_lt t k u (to_node t k u h), shape-length t)

pub both_by_shape : BothByShape
both_by_shape = record {
  carets_before_lem = λ t k xs ys r p h c. answers_shape t p h c;
  ends = λ t k u x xs ys e r p n s c a.
      nodes_before t k u n (accepted_same (sym a ∙ answers_shape t p (node_below t k u n) c));
}
