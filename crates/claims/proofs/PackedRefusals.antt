-- The judgement of shapes, packed and not, and of what is lent with them, by the literal conditions of
-- specs/Packed.antt.
--     ShapeRead s, PackedRead xs ys   what is judged of bytes, of numbers and a summary, in each of its cases
--     of_tree         a judgement of a packed shape is one of its tree's shape
--     pack_refused, unpack_refused, node_refused, grow_refused   the calls refuse just under these conditions
-- Assumes nothing.
use mathlib.Core.Path.{◌≡◌, refl, sym, ap, ap₂, subst, ◌∙◌}
use mathlib.Core.Bool.{Bool, true, false, cond}
use mathlib.Core.List.{List}
use mathlib.Core.Logic.{◌⊎◌, inl, inr, ◌↔◌}
use Prim.Native.Nat.{ℕ, suc, ◌+◌, ◌*◌, ◌<◌, ◌≤◌}
use native.Mathlib.Decide.{dec_lt}
use native.Mathlib.Omega.{arith}
use lib.ListN.{length}
use lib.Dec.{ltb}
use lib.Seq.{sets}
use borrow.Author.Tests.{lt-ltb, le-ltb}
use Rattle.std.specs.Prelude.{Result}
use Rattle.refusals.specs.declared.Refusal.{Refusal}
use Rattle.lists.specs.Tables.{filled}
use Rattle.refusals.specs.Outcomes.{Outcome, accepted, refused, after, then, reply_of}
use Rattle.refusals.specs.Placing.{fitting, Placed}
use Rattle.refusals.proofs.Outcomes.{accepted_refused, refused_number, refused_place}
use Rattle.refusals.proofs.Placing.{fit_short, fit_long}
use Rattle.trees.specs.Trees.{Tree, carets, Address, IsLeaf}
use Rattle.trees.specs.Shapes.{shape}
use Rattle.trees.specs.Pairs.{max_carets}
use Rattle.trees.proofs.Shapes.{shape-length}
use Rattle.bitrows.specs.Numbers.{number_at, numbers_of_value}
use Rattle.packed.specs.Packing.{summary_at, tree_shape, packed_shape}
use Rattle.packed.specs.Growing.{grown, grown_shape}
use Rattle.packed.specs.Promises.{room_for, packing, unpacking, growing, asked, Repacked, AnswersNode}
use Rattle.packed.proofs.Trees.{shape_tree, tree_refused}
use Rattle.packed.proofs.Reading.{packed_shape_lem, packed_tree, packed_refused, room_fits, room_short}
use Rattle.packed.proofs.Grown.{grown-carets, grown-beyond, grown-shape, grown_full}
use Rattle.claims.specs.Answers.{IsRefused, Refuses}
use Rattle.claims.specs.Packed.{IsShape, IsPacked, NoShape, NoPacked, ShortRow}
use Rattle.claims.specs.Packed.{PackRefusal, UnpackRefusal, NodeRefusal, GrowRefusal}
use Rattle.claims.specs.Packed.{no_shape, short_row, no_tree, short_shape, no_node, no_leaf, full}
use Rattle.claims.proofs.Answers.{is_refused_lem, refuses_when}

-- What is judged of bytes as a shape, in each of its cases.
pub data ShapeRead (s : List ℕ) : Type 0 where
  of_tree_is : (t : Tree) → IsShape t s → tree_shape s ≡ accepted s → ShapeRead s
  of_none_is : NoShape s → tree_shape s ≡ refused 15 0 → ShapeRead s

-- One of them holds.
pub read_shape : (s : List ℕ) → ShapeRead s
read_shape s = go (tree_shape s) refl
  where
    go : (o : Outcome (List ℕ)) → tree_shape s ≡ o → ShapeRead s
    go (accepted u) e =
        let x = shape_tree s u e in
        let t = x.1 in
        of_tree_is t.0 (record { small = t.1; written = t.2 }) (e ∙ ap accepted x.0)
    go (refused number place) e =
        let x = tree_refused s number place e in
        of_none_is (λ t h. x.2 t h.small h.written) (e ∙ ap₂ refused x.0 x.1)

-- The same of a packed shape.
pub data PackedRead (xs ys : List ℕ) : Type 0 where
  reads : (t : Tree) → IsPacked t xs ys → packed_shape xs ys ≡ accepted (shape t) → PackedRead xs ys
  reads_none : NoPacked xs ys → packed_shape xs ys ≡ refused 15 0 → PackedRead xs ys

-- What a tree is packed as reads as its shape.
pub packed_read : {t : Tree} {xs ys : List ℕ} → IsPacked t xs ys → packed_shape xs ys ≡ accepted (shape t)
packed_read {t} {xs} {ys} h = packed_shape_lem t xs ys h.small h.packs

-- One of the cases holds.
pub read_packed : (xs ys : List ℕ) → PackedRead xs ys
read_packed xs ys = go (packed_shape xs ys) refl
  where
    go : (o : Outcome (List ℕ)) → packed_shape xs ys ≡ o → PackedRead xs ys
    go (accepted s) e =
        let x = packed_tree xs ys s e in
        reads x.0 (record { small = x.1; packs = rw x.2 x.3 }) (e ∙ ap accepted (sym x.2))
    go (refused number place) e =
        let x = packed_refused xs ys number place e in
        reads_none (λ t h. x.2 t h.small h.packs) (e ∙ ap₂ refused x.0 x.1)

-- The room for the numbers and the summary of a tree with n carets.
module _ (n : ℕ) (s xs ys : List ℕ) (size : length s ≡ 2 * n + 1) where
  short_room : ShortRow n (length xs) (length ys) → room_for s xs ys ≡ refused 7 0
  short_room h =
      room_short s xs ys
      (subst (λ (m : ℕ). (length xs < numbers_of_value m) ⊎ (length ys < numbers_of_value m)) (sym size) h)

  room_refused : (number place : ℕ) → room_for s xs ys ≡ refused number place
      → (number ≡ 7) × (place ≡ 0) × ShortRow n (length xs) (length ys)
  room_refused number place e =
      go (dec_lt (length xs) (numbers_of_value (2 * n + 1))) (dec_lt (length ys) (numbers_of_value (2 * n + 1)))
    where
      lacks : ShortRow n (length xs) (length ys) → (number ≡ 7) × (place ≡ 0) × ShortRow n (length xs) (length ys)
      lacks h =
          let f = sym (short_room h) ∙ e in
          (sym (refused_number f), sym (refused_place f), h)

      go : Dec (length xs < numbers_of_value (2 * n + 1)) → Dec (length ys < numbers_of_value (2 * n + 1))
          → (number ≡ 7) × (place ≡ 0) × ShortRow n (length xs) (length ys)
      go (yes h) d = lacks (inl h)
      go (no h) (yes g) = lacks (inr g)
      go (no h) (no g) =
          absurd (accepted_refused (sym (room_fits s xs ys (omega (arith, size, h)) (omega (arith, size, g))) ∙ e))

-- Room for what was judged good.
abbrev pub roomed : (xs ys : List ℕ) → Outcome (List ℕ) → Outcome (List ℕ)
roomed xs ys o = then o (λ s. room_for s xs ys)

-- The bytes of a tree's shape.
shape_size : {t : Tree} {s : List ℕ} → IsShape t s → length s ≡ 2 * carets t + 1
shape_size {t} h = sym (ap length h.written) ∙ shape-length t

-- Packing, by the conditions.
pack↔refusal : (s xs ys : List ℕ) (number place : ℕ)
    → (packing s xs ys ≡ refused number place) ↔ PackRefusal s (length xs) (length ys) number place
pack↔refusal s xs ys number place = (from (read_shape s), to (read_shape s))
  where
    from : ShapeRead s → packing s xs ys ≡ refused number place → PackRefusal s (length xs) (length ys) number place
    from (of_tree_is t h e) k =
        let x = room_refused (carets t) s xs ys (shape_size h) number place (sym (ap (roomed xs ys) e) ∙ k) in
        short_row x.0 x.1 t h x.2
    from (of_none_is none e) k =
        let f = sym (ap (roomed xs ys) e) ∙ k in
        no_shape (sym (refused_number f)) (sym (refused_place f)) none

    to : ShapeRead s → PackRefusal s (length xs) (length ys) number place → packing s xs ys ≡ refused number place
    to (of_tree_is t h e) (no_shape en ep none) = absurd (none t h)
    to (of_tree_is t h e) (short_row en ep u g lacks) =
        ap (roomed xs ys) e ∙ short_room (carets u) s xs ys (shape_size g) lacks ∙ sym (ap₂ refused en ep)
    to (of_none_is none e) (no_shape en ep h) = ap (roomed xs ys) e ∙ sym (ap₂ refused en ep)
    to (of_none_is none e) (short_row en ep u g lacks) = absurd (none u g)

-- A judgement of a packed shape, by what is judged of the shape of its tree.
module _ (xs ys : List ℕ) (next : List ℕ → Outcome (List ℕ)) where
  -- Of the tree t.
  pub of_tree : {t : Tree} → IsPacked t xs ys → then (packed_shape xs ys) next ≡ next (shape t)
  of_tree h = ap (λ (o : Outcome (List ℕ)). then o next) (packed_read h)

  -- Of no tree.
  of_none : {number place : ℕ} → NoPacked xs ys → number ≡ 15 → place ≡ 0
      → then (packed_shape xs ys) next ≡ refused number place
  of_none {number} {place} none en ep = go (read_packed xs ys)
    where
      go : PackedRead xs ys → then (packed_shape xs ys) next ≡ refused number place
      go (reads t h e) = absurd (none t h)
      go (reads_none h e) = ap (λ (o : Outcome (List ℕ)). then o next) e ∙ sym (ap₂ refused en ep)

  -- A refusal is one or the other.
  either : (R : ℕ → ℕ → Type 0)
      → ((number place : ℕ) → number ≡ 15 → place ≡ 0 → NoPacked xs ys → R number place)
      → ((number place : ℕ) (t : Tree) → IsPacked t xs ys → next (shape t) ≡ refused number place → R number place)
      → (number place : ℕ) → then (packed_shape xs ys) next ≡ refused number place → R number place
  either R lost so number place k = go (read_packed xs ys)
    where
      go : PackedRead xs ys → R number place
      go (reads t h e) = so number place t h (sym (of_tree h) ∙ k)
      go (reads_none none e) =
          let f = sym (ap (λ (o : Outcome (List ℕ)). then o next) e) ∙ k in
          lost number place (sym (refused_number f)) (sym (refused_place f)) none

-- Unpacking, by the conditions.
unpack↔refusal : (xs ys s : List ℕ) (number place : ℕ)
    → (unpacking xs ys s ≡ refused number place) ↔ UnpackRefusal xs ys (length s) number place
unpack↔refusal xs ys s number place =
    (either xs ys next (UnpackRefusal xs ys (length s)) (λ n p. no_tree) from number place, to)
  where
    next : List ℕ → Outcome (List ℕ)
    next u = fitting (length u) u s

    from : (number place : ℕ) (t : Tree) → IsPacked t xs ys → next (shape t) ≡ refused number place
        → UnpackRefusal xs ys (length s) number place
    from number place t h e = go (dec_lt (length s) (length (shape t)))
      where
        go : Dec (length s < length (shape t)) → UnpackRefusal xs ys (length s) number place
        go (yes g) =
            let f = sym (fit_short (length (shape t)) (shape t) s g) ∙ e in
            short_shape (sym (refused_number f)) (sym (refused_place f)) t h (omega (arith, g, shape-length t))
        go (no g) = absurd (accepted_refused (sym (fit_long (length (shape t)) (shape t) s (omega (arith, g))) ∙ e))

    to : UnpackRefusal xs ys (length s) number place → unpacking xs ys s ≡ refused number place
    to (no_tree en ep none) = of_none xs ys next none en ep
    to (short_shape en ep t h lacks) =
        of_tree xs ys next h
        ∙ fit_short (length (shape t)) (shape t) s (omega (arith, lacks, shape-length t))
        ∙ sym (ap₂ refused en ep)

-- A shape that has node k, or a refusal.
abbrev pub having : ℕ → List ℕ → Outcome (List ℕ)
having k s = cond (ltb k (length s)) (accepted s) (refused 15 0)

module _ (k : ℕ) (s : List ℕ) where
  -- By whether it has it.
  judged : (there : Bool) → ltb k (length s) ≡ there → having k s ≡ cond there (accepted s) (refused 15 0)
  judged there e = ap (λ (b : Bool). cond b (accepted s) (refused 15 0)) e

  -- It has the node, or ends before it.
  pub node_there : k < length s → having k s ≡ accepted s
  node_there h = judged true (lt-ltb k (length s) h)

  pub node_behind : length s ≤ k → having k s ≡ refused 15 0
  node_behind h = judged false (le-ltb k (length s) h)

-- A question about a node, by the conditions.
node↔refusal : (xs ys : List ℕ) (k number place : ℕ)
    → (asked xs ys k ≡ refused number place) ↔ NodeRefusal xs ys k number place
node↔refusal xs ys k number place =
    (either xs ys (having k) (NodeRefusal xs ys k) (λ n p. no_tree) from number place, to)
  where
    from : (number place : ℕ) (t : Tree) → IsPacked t xs ys → having k (shape t) ≡ refused number place
        → NodeRefusal xs ys k number place
    from number place t h e = go (dec_lt k (length (shape t)))
      where
        go : Dec (k < length (shape t)) → NodeRefusal xs ys k number place
        go (yes g) = absurd (accepted_refused (sym (node_there k (shape t) g) ∙ e))
        go (no g) =
            let f = sym (node_behind k (shape t) (omega (arith, g))) ∙ e in
            no_node (sym (refused_number f)) (sym (refused_place f)) t h (omega (arith, g, shape-length t))

    to : NodeRefusal xs ys k number place → asked xs ys k ≡ refused number place
    to (no_tree en ep none) = of_none xs ys (having k) none en ep
    to (no_node en ep t h lacks) =
        of_tree xs ys (having k) h
        ∙ node_behind k (shape t) (omega (arith, lacks, shape-length t))
        ∙ sym (ap₂ refused en ep)

-- The bytes of the shape with a caret grown.
grown_size : (t : Tree) (k : ℕ) (u : Address) → IsLeaf t k u → length (shape (grown t u)) ≡ 2 * suc (carets t) + 1
grown_size t k u h = omega (arith, shape-length (grown t u), grown-carets t k u h)

-- Growing, by the conditions.
grow↔refusal : (xs ys : List ℕ) (k number place : ℕ)
    → (growing xs ys k ≡ refused number place) ↔ GrowRefusal xs ys k number place
grow↔refusal xs ys k number place =
    (either xs ys next (GrowRefusal xs ys k) (λ n p. no_tree) from number place, to)
  where
    next : List ℕ → Outcome (List ℕ)
    next s = roomed xs ys (grown_shape s k)

    from : (number place : ℕ) (t : Tree) → IsPacked t xs ys → next (shape t) ≡ refused number place
        → GrowRefusal xs ys k number place
    from number place t h e = go (dec_lt (carets t) k) (dec_lt (carets t) max_carets)
      where
        refused_so : grown_shape (shape t) k ≡ refused 15 0 → (number ≡ 15) × (place ≡ 0)
        refused_so o =
            let f = sym (ap (roomed xs ys) o) ∙ e in
            (sym (refused_number f), sym (refused_place f))

        go : Dec (carets t < k) → Dec (carets t < max_carets) → GrowRefusal xs ys k number place
        go (yes g) d =
            let x = refused_so (grown-beyond t k g) in
            no_leaf x.0 x.1 t h g
        go (no g) (yes few) =
            let within : k ≤ carets t = omega (arith, g) in
            let x = grown-shape t k within few in
            let y = room_refused (suc (carets t)) (shape (grown t x.0)) xs ys (grown_size t k x.0 x.1)
            number place (sym (ap (roomed xs ys) x.2) ∙ e) in
            short_row y.0 y.1 t h within few y.2
        go (no g) (no many) =
            let x = refused_so (grown_full t k (omega (arith, many))) in
            full x.0 x.1 t h (omega (arith, many, h.small))

    to : GrowRefusal xs ys k number place → growing xs ys k ≡ refused number place
    to (no_tree en ep none) = of_none xs ys next none en ep
    to (no_leaf en ep t h g) =
        of_tree xs ys next h ∙ ap (roomed xs ys) (grown-beyond t k g) ∙ sym (ap₂ refused en ep)
    to (full en ep t h g) =
        of_tree xs ys next h ∙ ap (roomed xs ys) (grown_full t k (omega (arith, g))) ∙ sym (ap₂ refused en ep)
    to (short_row en ep t h within few lacks) =
        let x = grown-shape t k within few in
        of_tree xs ys next h
        ∙ ap (roomed xs ys) x.2
        ∙ short_room (suc (carets t)) (shape (grown t x.0)) xs ys (grown_size t k x.0 x.1) lacks
        ∙ sym (ap₂ refused en ep)

-- What is lent for the numbers or for the summary, at exit.
abbrev pub row_after : List ℕ → (List ℕ → ℕ → ℕ) → Outcome (List ℕ) → List ℕ
row_after old entry o = after o old (λ s. filled (numbers_of_value (length s)) (entry s) old)

-- Numbers and a summary that were lent for packing: what is refused, and that a refusal leaves both.
repacked_refused : {o : Outcome (List ℕ)} {xs ys xs' ys' : List ℕ} {r : Result ℕ Refusal} (R : ℕ → ℕ → Type 0)
    → ((number place : ℕ) → (o ≡ refused number place) ↔ R number place) → Repacked o xs ys xs' ys' r
    → Refuses (reply_of r) R × (IsRefused (reply_of r) → (xs' ≡ xs) × (ys' ≡ ys))
repacked_refused {o} {xs} {ys} R c h = (
  refuses_when (λ s. numbers_of_value (length s)) o h.result R c,
  (λ x.
      let e = (is_refused_lem (λ s. numbers_of_value (length s)) o h.result x).2 in (
        h.numbers_left ∙ ap (row_after xs number_at) e,
        h.summary_left ∙ ap (row_after ys summary_at) e,
      )),
)

-- What packing refuses, and what growing refuses.
pub pack_refused : {s xs ys xs' ys' : List ℕ} {r : Result ℕ Refusal} → Repacked (packing s xs ys) xs ys xs' ys' r
    → Refuses (reply_of r) (PackRefusal s (length xs) (length ys))
    × (IsRefused (reply_of r) → (xs' ≡ xs) × (ys' ≡ ys))
pack_refused {s} {xs} {ys} h = repacked_refused (PackRefusal s (length xs) (length ys)) (pack↔refusal s xs ys) h

pub grow_refused : {xs ys xs' ys' : List ℕ} {k : ℕ} {r : Result ℕ Refusal} → Repacked (growing xs ys k) xs ys xs' ys' r
    → Refuses (reply_of r) (GrowRefusal xs ys k) × (IsRefused (reply_of r) → (xs' ≡ xs) × (ys' ≡ ys))
grow_refused {xs} {ys} {xs'} {ys'} {k} h = repacked_refused (GrowRefusal xs ys k) (grow↔refusal xs ys k) h

-- What unpacking refuses, and that a refusal leaves the bytes.
pub unpack_refused : {xs ys s s' : List ℕ} {r : Result ℕ Refusal} → Placed (unpacking xs ys s) s s' r
    → Refuses (reply_of r) (UnpackRefusal xs ys (length s)) × (IsRefused (reply_of r) → s' ≡ s)
unpack_refused {xs} {ys} {s} h = (
  refuses_when length (unpacking xs ys s) h.result (UnpackRefusal xs ys (length s)) (unpack↔refusal xs ys s),
  (λ x.
      h.bytes
      ∙ ap (λ (o : Outcome (List ℕ)). after o s (λ bytes. sets s 0 bytes))
      (is_refused_lem length (unpacking xs ys s) h.result x).2),
)

-- What a question about a node refuses.
pub node_refused : {value : List ℕ → ℕ} {xs ys : List ℕ} {k : ℕ} {o : Outcome ℕ} → AnswersNode value xs ys k o
    → Refuses o (NodeRefusal xs ys k)
node_refused {value} {xs} {ys} {k} h =
    refuses_when value (asked xs ys k) h.result (NodeRefusal xs ys k) (node↔refusal xs ys k)
