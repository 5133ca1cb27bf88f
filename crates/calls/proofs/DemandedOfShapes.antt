-- The demands on the calls on packed shapes: the relations of the calls, and the claims on them; an export's numbers
-- say what an answer of its call says. Assumes nothing.
use mathlib.Core.Path.{sym, subst}
use mathlib.Core.List.{List}
use Prim.Native.Nat.{ℕ}
use Rattle.std.specs.Prelude.{Result}
use Rattle.refusals.specs.declared.Refusal.{Refusal}
use Rattle.refusals.specs.declared.NodeNumber.{NodeNumber}
use Rattle.refusals.specs.Outcomes.{Outcome, reply_of}
use Rattle.refusals.specs.Placing.{Placed}
use Rattle.trees.specs.Shapes.{subtree_end_value}
use Rattle.packed.specs.Packing.{carets_before_value}
use Rattle.packed.specs.Answers.{node_end_of}
use Rattle.packed.specs.Promises.{packing, unpacking, growing, Repacked, AnswersNode}
use Rattle.claims.proofs.Demands.{demand1}
use Rattle.claims.proofs.Exports.{exports_answer_as_calls}
use Rattle.claims.proofs.PackedGiven.{shapes_given}
use Rattle.calls.specs.Functions.{Library}
use Rattle.calls.specs.Calls.{Exports}
use Rattle.calls.specs.DemandedOfShapes.{
  PackShape,
  UnpackShape,
  CaretsBefore,
  SubtreeEnd,
  GrowCaret,
  DemandedOfShapes,
}
use Rattle.calls.proofs.Always.{always_below}
use Rattle.calls.proofs.Calls.{calls}

-- The demands on a call that ends with its contract.
pack_shape_lem : {s x y x' y' : List ℕ} {r : Result ℕ Refusal} → Repacked (packing s x y) x y x' y' r
    → PackShape s x y x' y' (reply_of r)
pack_shape_lem {s} {x} {y} {x'} {y'} {r} h =
    let first = demand1.pack_shape_lem s x y x' y' r h in
    record {
      refuses = first.0;
      unaltered = first.1;
      gives = λ n. shapes_given.pack_shape_lem s x y x' y' r n h;
    }

unpack_shape_lem : {x y s s' : List ℕ} {r : Result ℕ Refusal} → Placed (unpacking x y s) s s' r
    → UnpackShape x y s s' (reply_of r)
unpack_shape_lem {x} {y} {s} {s'} {r} h =
    let first = demand1.unpack_shape_lem x y s s' r h in
    record {
      refuses = first.0;
      unaltered = first.1;
      gives = λ n. shapes_given.unpack_shape_lem x y s s' r n h;
    }

carets_before_lem : {x y : List ℕ} {k : ℕ} (r : Result ℕ Refusal)
    → AnswersNode (λ s. carets_before_value s k) x y k (reply_of r)
    → CaretsBefore x y k (reply_of r)
carets_before_lem {x} {y} {k} r h = record {
  refuses = demand1.carets_before_lem x y k r h;
  gives = λ n. shapes_given.carets_before_lem x y k r n h;
}

subtree_end_lem : {x y : List ℕ} {k : ℕ} (r : Result NodeNumber Refusal)
    → AnswersNode (λ s. subtree_end_value s k) x y k (node_end_of r)
    → SubtreeEnd x y k (node_end_of r)
subtree_end_lem {x} {y} {k} r h = record {
  refuses = demand1.subtree_end_lem x y k r h;
  gives = λ n. shapes_given.subtree_end_lem x y k r n h;
}

grow_caret_lem : {x y x' y' : List ℕ} {k : ℕ} {r : Result ℕ Refusal} → Repacked (growing x y k) x y x' y' r
    → GrowCaret x y x' y' k (reply_of r)
grow_caret_lem {x} {y} {x'} {y'} {k} {r} h =
    let first = demand1.grow_caret_lem x y x' y' k r h in
    record {
      refuses = first.0;
      unaltered = first.1;
      gives = λ n. shapes_given.grow_caret_lem x y x' y' k r n h;
    }

pub demanded_of_shapes : {L : Library} → Exports L → DemandedOfShapes L
demanded_of_shapes exports = record {
  pack_shape_lem = always_below calls.pack_shape_lem (λ κs s s' x x' y y' r. pack_shape_lem);
  unpack_shape_lem = always_below calls.unpack_shape_lem (λ κs x x' y y' s s' r. unpack_shape_lem);
  carets_before_lem = always_below calls.carets_before_lem (λ κs x x' y y' k k'. carets_before_lem);
  subtree_end_lem = always_below calls.subtree_end_lem (λ κs x x' y y' k k'. subtree_end_lem);
  grow_caret_lem = always_below calls.grow_caret_lem (λ κs x x' y y' k k' r. grow_caret_lem);
  exported_pack_shape = always_below exports.pack_shape_lem (λ κs s s' x x' y y' r h.
      let z = exports_answer_as_calls.pack_shape_lem s.now x.now y.now x'.now y'.now r h in
      subst (λ (o : Outcome ℕ). PackShape s.now x.now y.now x'.now y'.now o) (sym z.2)
      (pack_shape_lem z.1));
  exported_unpack_shape = always_below exports.unpack_shape_lem (λ κs x x' y y' s s' r h.
      let z = exports_answer_as_calls.unpack_shape_lem x.now y.now s.now s'.now r h in
      subst (λ (o : Outcome ℕ). UnpackShape x.now y.now s.now s'.now o) (sym z.2) (unpack_shape_lem z.1));
  exported_carets_before = always_below exports.carets_before_lem (λ κs x x' y y' k k' r h.
      let z = exports_answer_as_calls.carets_before_lem x.now y.now k r h in
      subst (λ (o : Outcome ℕ). CaretsBefore x.now y.now k o) (sym z.2) (carets_before_lem z.0 z.1));
  exported_subtree_end = always_below exports.subtree_end_lem (λ κs x x' y y' k k' r h.
      let z = exports_answer_as_calls.subtree_end_lem x.now y.now k r h in
      subst (λ (o : Outcome ℕ). SubtreeEnd x.now y.now k o) (sym z.2) (subtree_end_lem z.0 z.1));
  exported_grow_caret = always_below exports.grow_caret_lem (λ κs x x' y y' k k' r h.
      let z = exports_answer_as_calls.grow_caret_lem x.now y.now x'.now y'.now k r h in
      subst (λ (o : Outcome ℕ). GrowCaret x.now y.now x'.now y'.now k o) (sym z.2) (grow_caret_lem z.1));
}
