-- What 02, [6], demands of the five calls on packed shapes, said of the functions themselves and of the exports for C
-- and Rust, as Demanded.antt says it of the others. No contract stands in it. proofs/DemandedOfShapes.antt has the
-- proofs.
-- Letters: s bytes lent as a shape, or a buffer for one; x, y numbers and summary; k a node or a leaf; r an answer, o
-- an outcome; a ' marks the same at exit.
-- The names used, what each is, and the crate and file of its specs that define it:
--     reply_of                the outcome of an answer                                             refusals, Outcomes
--     node_end_of             the same of an answer that is a node                                 packed, Answers
--     outcome_of              what a caller reads in the numbers of an export                      thompson, Codes
--     PackRefusal, UnpackRefusal, NodeRefusal, GrowRefusal    the conditions of 15 and 7           claims, Packed
--     PackGiven, UnpackGiven, CaretsGiven, EndGiven, GrowGiven    what is given                    claims, Packed
-- Assumes nothing.
use Rattle.std.specs.Prelude.{◌≡◌, List, ℕ, length}
use Rattle.refusals.specs.Outcomes.{Outcome, accepted, reply_of}
use Rattle.packed.specs.Answers.{node_end_of}
use Rattle.thompson.specs.Codes.{outcome_of}
use Rattle.claims.specs.Answers.{Refuses, IsRefused}
use Rattle.claims.specs.Packed.{PackRefusal, UnpackRefusal, NodeRefusal, GrowRefusal}
use Rattle.claims.specs.Packed.{PackGiven, UnpackGiven, CaretsGiven, EndGiven, GrowGiven}
use Rattle.calls.specs.Always.{Always}
use Rattle.calls.specs.Functions.{pack_shape, unpack_shape, carets_before, subtree_end, grow_caret, Library, export}

-- A shape packed.
pub record PackShape (s x y x' y' : List ℕ) (o : Outcome ℕ) : Type 0 where
  pub refuses : Refuses o (PackRefusal s (length x) (length y))
  pub unaltered : IsRefused o → (x' ≡ x) × (y' ≡ y)
  pub gives : (n : ℕ) → o ≡ accepted n → PackGiven s x y x' y' n

-- A packed shape unpacked.
pub record UnpackShape (x y s s' : List ℕ) (o : Outcome ℕ) : Type 0 where
  pub refuses : Refuses o (UnpackRefusal x y (length s))
  pub unaltered : IsRefused o → s' ≡ s
  pub gives : (n : ℕ) → o ≡ accepted n → UnpackGiven x y s s' n

-- The carets before a node; nothing is lent to write to.
pub record CaretsBefore (x y : List ℕ) (k : ℕ) (o : Outcome ℕ) : Type 0 where
  pub refuses : Refuses o (NodeRefusal x y k)
  pub gives : (n : ℕ) → o ≡ accepted n → CaretsGiven x y k n

-- Where the subtree of a node ends; nothing is lent to write to.
pub record SubtreeEnd (x y : List ℕ) (k : ℕ) (o : Outcome ℕ) : Type 0 where
  pub refuses : Refuses o (NodeRefusal x y k)
  pub gives : (n : ℕ) → o ≡ accepted n → EndGiven x y k n

-- A caret grown at a leaf.
pub record GrowCaret (x y x' y' : List ℕ) (k : ℕ) (o : Outcome ℕ) : Type 0 where
  pub refuses : Refuses o (GrowRefusal x y k)
  pub unaltered : IsRefused o → (x' ≡ x) × (y' ≡ y)
  pub gives : (n : ℕ) → o ≡ accepted n → GrowGiven x y x' y' k n

-- The functions, then the exports of L.
pub record DemandedOfShapes (L : Library) : Type 2 where
  pub pack_shape_lem : Always pack_shape
      (λ κs s s' x x' y y' r. PackShape s.now x.now y.now x'.now y'.now (reply_of r))
  pub unpack_shape_lem : Always unpack_shape
      (λ κs x x' y y' s s' r. UnpackShape x.now y.now s.now s'.now (reply_of r))
  pub carets_before_lem : Always carets_before
      (λ κs x x' y y' k k' r. CaretsBefore x.now y.now k.0 (reply_of r))
  pub subtree_end_lem : Always subtree_end
      (λ κs x x' y y' k k' r. SubtreeEnd x.now y.now k.0 (node_end_of r))
  pub grow_caret_lem : Always grow_caret
      (λ κs x x' y y' k k' r. GrowCaret x.now y.now x'.now y'.now k.0 (reply_of r))
  pub exported_pack_shape : Always (export L.pack_shape)
      (λ κs s s' x x' y y' r. PackShape s.now x.now y.now x'.now y'.now (outcome_of r))
  pub exported_unpack_shape : Always (export L.unpack_shape)
      (λ κs x x' y y' s s' r. UnpackShape x.now y.now s.now s'.now (outcome_of r))
  pub exported_carets_before : Always (export L.carets_before)
      (λ κs x x' y y' k k' r. CaretsBefore x.now y.now k (outcome_of r))
  pub exported_subtree_end : Always (export L.subtree_end)
      (λ κs x x' y y' k k' r. SubtreeEnd x.now y.now k (outcome_of r))
  pub exported_grow_caret : Always (export L.grow_caret)
      (λ κs x x' y y' k k' r. GrowCaret x.now y.now x'.now y'.now k (outcome_of r))
