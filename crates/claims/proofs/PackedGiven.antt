-- What the calls on packed shapes give where they are not refused: `ShapesGiven` of specs/Packed.antt, proved.
--     repacked_fits, placed_fits   what a call that packs a shape, that places its bytes, leaves and answers
--     packed_over                  what one that packs the shape of a tree leaves and answers
--     pack_given, unpack_given, end_given, grow_given   what each call gives
--     answers_shape, nodes_before  what is answered for a node, and which nodes its subtree has
-- Assumes nothing.
use mathlib.Core.Path.{◌≡◌, refl, sym, ap, subst, ◌∙◌}
use mathlib.Core.List.{List, [], ◌∷◌, ◌++◌}
use mathlib.Core.Logic.{◌↔◌}
use Prim.Native.Nat.{ℕ, ◌<◌, ◌≤◌}
use native.Mathlib.Decide.{dec_lt}
use native.Mathlib.Omega.{arith}
use lib.ListN.{length, take, drop}
use lib.Seq.{sets, drop_at}
use Rattle.std.specs.Prelude.{Result}
use Rattle.refusals.specs.declared.Refusal.{Refusal}
use Rattle.lists.specs.Tables.{values, filled}
use Rattle.lists.proofs.Tables.{values_length}
use Rattle.lists.proofs.Writes.{sets_front, sets-beyond}
use Rattle.refusals.specs.Outcomes.{Outcome, accepted, refused, after, valued, then, reply_of}
use Rattle.refusals.specs.Placing.{fitting, Placed}
use Rattle.refusals.proofs.Outcomes.{accepted_same, accepted_refused, valued_accepted}
use Rattle.refusals.proofs.Placing.{fit_short, fit_long}
use Rattle.group.specs.Points.{𝟎, 𝟏}
use Rattle.trees.specs.Trees.{Tree, leaf, caret, carets, Address, Subtree}
use Rattle.trees.specs.Shapes.{shape, Node, subtree_end_value}
use Rattle.trees.specs.Pairs.{max_carets}
use Rattle.trees.proofs.Shapes.{shape-length}
use Rattle.trees.proofs.Subtrees.{NodeAt, to_node, of_node, node_of}
use Rattle.bitrows.specs.Numbers.{number_at, numbers_of_value}
use Rattle.packed.specs.Packing.{summary_at, Packs}
use Rattle.packed.specs.Growing.{grown, grown_shape}
use Rattle.packed.specs.Promises.{packing, unpacking, growing, asked, Repacked, AnswersNode}
use Rattle.packed.proofs.Reading.{filled-packs, room_given}
use Rattle.packed.proofs.Grown.{grown-carets, grown-beyond, grown-shape, grown_full}
use Rattle.claims.specs.Packed.{IsPacked, PackedOver, PackGiven, UnpackGiven, EndGiven, GrowGiven, ShapesGiven}
use Rattle.claims.proofs.Trees.{shapes_of_trees}
use Rattle.claims.proofs.PackedRefusals.{
  ShapeRead,
  of_tree_is,
  of_none_is,
  read_shape,
  PackedRead,
  reads,
  reads_none,
  read_packed,
  of_tree,
  roomed,
  row_after,
  having,
  node_there,
  node_behind,
}

-- A filled table is unchanged behind what it was filled with.
filled-behind : (m : ℕ) (f : ℕ → ℕ) (t : List ℕ) → drop m (filled m f t) ≡ drop m t
filled-behind m f t = drop_at (values m f) (drop m t) m (values_length m f)

-- The numbers and the summary that a call leaves that packs the shape s.
repacked_rows : {o : Outcome (List ℕ)} {s xs ys xs' ys' : List ℕ} {r : Result ℕ Refusal} → Repacked o xs ys xs' ys' r
    → o ≡ accepted s
    → (xs' ≡ filled (numbers_of_value (length s)) (number_at s) xs)
    × (ys' ≡ filled (numbers_of_value (length s)) (summary_at s) ys)
repacked_rows {o} {s} {xs} {ys} h e =
    (h.numbers_left ∙ ap (row_after xs number_at) e, h.summary_left ∙ ap (row_after ys summary_at) e)

-- What it leaves and answers.
pub repacked_fits : {o : Outcome (List ℕ)} {s xs ys xs' ys' : List ℕ} {r : Result ℕ Refusal}
    → Repacked o xs ys xs' ys' r
    → o ≡ accepted s → (reply_of r ≡ accepted (numbers_of_value (length s))) × Packs s xs' ys'
repacked_fits {o} {s} {xs} {ys} h e =
    let rows = repacked_rows h e in
    let packed = filled-packs s xs ys in (
      h.result ∙ ap (valued (λ u. numbers_of_value (length u))) e,
      record {
        holds_numbers = ap (take (numbers_of_value (length s))) rows.0 ∙ packed.holds_numbers;
        holds_summary = ap (take (numbers_of_value (length s))) rows.1 ∙ packed.holds_summary;
      },
    )

-- The same of the shape of a tree within the bound.
packed_over : {o : Outcome (List ℕ)} {xs ys xs' ys' : List ℕ} {r : Result ℕ Refusal} {n : ℕ} (t : Tree)
    → carets t ≤ max_carets
    → Repacked o xs ys xs' ys' r → o ≡ accepted (shape t) → reply_of r ≡ accepted n → PackedOver t xs ys xs' ys' n
packed_over {o} {xs} {ys} {xs'} {ys'} {r} {n} t few h e a =
    let m : ℕ = numbers_of_value (length (shape t)) in
    let rows = repacked_rows h e in
    let fits = repacked_fits h e in
    let count : m ≡ n = accepted_same (sym fits.0 ∙ a) in
    record {
      packed = record { small = few; packs = fits.1 };
      count = sym count ∙ ap numbers_of_value (shape-length t);
      numbers_behind = subst (λ (k : ℕ). drop k xs' ≡ drop k xs) count
          (ap (drop m) rows.0 ∙ filled-behind m (number_at (shape t)) xs);
      summary_behind = subst (λ (k : ℕ). drop k ys' ≡ drop k ys) count
          (ap (drop m) rows.1 ∙ filled-behind m (summary_at (shape t)) ys);
    }

-- The shape that an accepted call packs.
repacked_shape : {o : Outcome (List ℕ)} {xs ys xs' ys' : List ℕ} {r : Result ℕ Refusal} {n : ℕ}
    → Repacked o xs ys xs' ys' r
    → reply_of r ≡ accepted n → (s : List ℕ) × (o ≡ accepted s)
repacked_shape {o} {xs} {ys} {xs'} {ys'} {r} {n} h a =
    let x = valued_accepted (λ u. numbers_of_value (length u)) o n (sym h.result ∙ a) in
    (x.0, x.1)

-- What is packed.
pub pack_given : {s xs ys xs' ys' : List ℕ} {r : Result ℕ Refusal} {n : ℕ} → Repacked (packing s xs ys) xs ys xs' ys' r
    → reply_of r ≡ accepted n → PackGiven s xs ys xs' ys' n
pack_given {s} {xs} {ys} {xs'} {ys'} {r} {n} h a = go (repacked_shape h a) (read_shape s)
  where
    go : (u : List ℕ) × (packing s xs ys ≡ accepted u) → ShapeRead s → PackGiven s xs ys xs' ys' n
    go (u, o) (of_tree_is t w e) =
        let kept : u ≡ s = (room_given s xs ys u (sym (ap (roomed xs ys) e) ∙ o)).0 in
        (t, w, packed_over t w.small h (o ∙ ap accepted (kept ∙ sym w.written)) a)
    go (u, o) (of_none_is none e) = absurd (accepted_refused (sym o ∙ ap (roomed xs ys) e))

-- A shape that fits a buffer, or a refusal.
abbrev pub fitted : List ℕ → List ℕ → Outcome (List ℕ)
fitted out s = fitting (length s) s out

-- What a call that places the bytes s leaves and answers.
pub placed_fits : {o : Outcome (List ℕ)} {s out out' : List ℕ} {r : Result ℕ Refusal} → Placed o out out' r
    → o ≡ accepted s
    → (reply_of r ≡ accepted (length s)) × (out' ≡ sets out 0 s)
placed_fits {o} {s} {out} h e = (
  h.result ∙ ap (valued length) e,
  h.bytes ∙ ap (λ (y : Outcome (List ℕ)). after y out (λ bytes. sets out 0 bytes)) e,
)

-- The buffer is long enough for bytes that were placed.
fitted_long : (s out : List ℕ) (m : ℕ) → valued length (fitted out s) ≡ accepted m → length s ≤ length out
fitted_long s out m e = go (dec_lt (length out) (length s))
  where
    go : Dec (length out < length s) → length s ≤ length out
    go (yes h) = absurd (accepted_refused (sym e ∙ ap (valued length) (fit_short (length s) s out h)))
    go (no h) = omega (arith, h)

-- What is unpacked.
pub unpack_given : {xs ys out out' : List ℕ} {r : Result ℕ Refusal} {n : ℕ} → Placed (unpacking xs ys out) out out' r
    → reply_of r ≡ accepted n → UnpackGiven xs ys out out' n
unpack_given {xs} {ys} {out} {out'} {r} {n} h a = go (read_packed xs ys)
  where
    go : PackedRead xs ys → UnpackGiven xs ys out out' n
    go (reads t p e) =
        let s : List ℕ = shape t in
        let judged : unpacking xs ys out ≡ fitted out s = of_tree xs ys (fitted out) p in
        let long : length s ≤ length out =
        fitted_long s out n (sym (ap (valued length) judged) ∙ sym h.result ∙ a) in
        let left = placed_fits h (judged ∙ fit_long (length s) s out long) in
        let size : length s ≡ n = accepted_same (sym left.0 ∙ a) in
        let room : n ≤ length out = subst (λ (k : ℕ). k ≤ length out) size long in (
          t,
          p,
          record {
            count = sym size ∙ shape-length t;
            bytes = ap (take n) left.1 ∙ sets_front s out n size room;
            behind = ap (drop n) left.1 ∙ sets-beyond s out n size room;
          },
        )
    go (reads_none none e) =
        let lost = ap (λ (o : Outcome (List ℕ)). valued length (then o (fitted out))) e in
        absurd (accepted_refused (sym a ∙ h.result ∙ lost))

-- A node of the tree is answered for, from its shape.
pub answers_shape : {value : List ℕ → ℕ} {xs ys : List ℕ} {k : ℕ} {o : Outcome ℕ} (t : Tree) → IsPacked t xs ys
    → k < length (shape t) → AnswersNode value xs ys k o → o ≡ accepted (value (shape t))
answers_shape {value} {xs} {ys} {k} t p h c =
    c.result ∙ ap (valued value) (of_tree xs ys (having k) p ∙ node_there k (shape t) h)

-- What is answered for a node: it is one of a tree, and the answer is from its shape.
abbrev NodeGiven : (value : List ℕ → ℕ) (xs ys : List ℕ) (k n : ℕ) → Type 0
NodeGiven value xs ys k n = (t : Tree) × IsPacked t xs ys × (k < length (shape t)) × (n ≡ value (shape t))

node_given : {value : List ℕ → ℕ} {xs ys : List ℕ} {k : ℕ} {o : Outcome ℕ} {n : ℕ} → AnswersNode value xs ys k o
    → o ≡ accepted n → NodeGiven value xs ys k n
node_given {value} {xs} {ys} {k} {o} {n} c a = go (read_packed xs ys)
  where
    lost : {number place : ℕ} → asked xs ys k ≡ refused number place → ⊥
    lost e = accepted_refused (sym a ∙ c.result ∙ ap (valued value) e)

    go : PackedRead xs ys → NodeGiven value xs ys k n
    go (reads t p e) = within (dec_lt k (length (shape t)))
      where
        within : Dec (k < length (shape t)) → NodeGiven value xs ys k n
        within (yes h) = (t, p, h, accepted_same (sym a ∙ answers_shape t p h c))
        within (no h) = absurd (lost (of_tree xs ys (having k) p ∙ node_behind k (shape t) (omega (arith, h))))
    go (reads_none none e) = absurd (lost (ap (λ (y : Outcome (List ℕ)). then y (having k)) e))

-- A node has a subtree.
subtree_at : (t : Tree) (k : ℕ) (u : Address) → NodeAt t k u → (x : Tree) × Subtree t u x
subtree_at leaf k [] h = (leaf, refl)
subtree_at (caret l r) k [] h = (caret l r, refl)
subtree_at leaf k (d ∷ u) h = absurd h
subtree_at (caret l r) k (𝟎 ∷ u) h = subtree_at l h.0 u h.2
subtree_at (caret l r) k (𝟏 ∷ u) h = subtree_at r h.0 u h.2

-- Its nodes are those before its end.
pub nodes_before : (t : Tree) (k : ℕ) (u : Address) {n : ℕ} → Node t k u → n ≡ subtree_end_value (shape t) k
    → (j : ℕ) → ((v : Address) × Node t j (u ++ v)) ↔ ((k ≤ j) × (j < n))
nodes_before t k u h e j =
    let x = subtree_at t k u (to_node t k u h) in
    subst (λ (i : ℕ). ((v : Address) × Node t j (u ++ v)) ↔ ((k ≤ j) × (j < i))) (sym e)
    (shapes_of_trees.ends t k u x.0 h x.1 j)

-- What is answered for where a subtree ends.
end_given : {xs ys : List ℕ} {k : ℕ} {o : Outcome ℕ} {n : ℕ} → AnswersNode (λ s. subtree_end_value s k) xs ys k o
    → o ≡ accepted n → EndGiven xs ys k n
end_given {xs} {ys} {k} c a =
    let x = node_given c a in
    let t = x.0 in
    let u = node_of t k (omega (arith, x.2, shape-length t)) in
    let h : Node t k u.0 = of_node t k u.0 u.1 in
    (t, u.0, x.1, h, nodes_before t k u.0 h x.3)

-- What is grown.
grow_given : {xs ys xs' ys' : List ℕ} {k : ℕ} {r : Result ℕ Refusal} {n : ℕ}
    → Repacked (growing xs ys k) xs ys xs' ys' r
    → reply_of r ≡ accepted n → GrowGiven xs ys xs' ys' k n
grow_given {xs} {ys} {xs'} {ys'} {k} {r} {n} h a = go (repacked_shape h a) (read_packed xs ys)
  where
    next : List ℕ → Outcome (List ℕ)
    next s = roomed xs ys (grown_shape s k)

    go : (g : List ℕ) × (growing xs ys k ≡ accepted g) → PackedRead xs ys → GrowGiven xs ys xs' ys' k n
    go (g, o) (reads t p e) = by (dec_lt (carets t) k) (dec_lt (carets t) max_carets)
      where
        judged : {y : Outcome (List ℕ)} → grown_shape (shape t) k ≡ y → growing xs ys k ≡ roomed xs ys y
        judged f = of_tree xs ys next p ∙ ap (roomed xs ys) f

        by : Dec (carets t < k) → Dec (carets t < max_carets) → GrowGiven xs ys xs' ys' k n
        by (yes beyond) d = absurd (accepted_refused (sym o ∙ judged (grown-beyond t k beyond)))
        by (no within) (yes few) =
            let x = grown-shape t k (omega (arith, within)) few in
            let u = x.0 in
            let kept = (room_given (shape (grown t u)) xs ys g (sym (judged x.2) ∙ o)).0 in
            let small : carets (grown t u) ≤ max_carets = omega (arith, grown-carets t k u x.1, few) in
            (t, u, p, x.1, packed_over (grown t u) small h (o ∙ ap accepted kept) a)
        by (no within) (no many) =
            absurd (accepted_refused (sym o ∙ judged (grown_full t k (omega (arith, many)))))
    go (g, o) (reads_none none e) =
        absurd (accepted_refused (sym o ∙ ap (λ (y : Outcome (List ℕ)). then y next) e))

pub shapes_given : ShapesGiven
shapes_given = record {
  pack_shape_lem = λ s xs ys xs' ys' r n. pack_given;
  unpack_shape_lem = λ xs ys out out' r n. unpack_given;
  carets_before_lem = λ xs ys k r n c a. let x = node_given c a in (x.0, x.1, x.3);
  subtree_end_lem = λ xs ys k r n. end_given;
  grow_caret_lem = λ xs ys xs' ys' k r n. grow_given;
}
