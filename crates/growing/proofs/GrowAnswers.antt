-- What `grow_caret` answers, case by case.
--     answer_refused       the check refuses                     answer-beyond, answer_full    no leaf k, no caret more
--     answer_short         no room                               answer-grown                  the caret is grown
--     answer_none          a leaf that no tree within the bound has
-- Assumes nothing.
use mathlib.Core.Path.{◌≡◌, refl, sym, ap, ap₂, subst, ◌∙◌}
use mathlib.Core.List.{List}
use mathlib.Core.Logic.{◌⊎◌}
use Prim.Native.Nat.{ℕ, ◌+◌, ◌*◌, ◌<◌, ◌≤◌}
use native.Mathlib.Omega.{arith}
use lib.ListN.{length}
use Rattle.std.specs.Prelude.{Result}
use Rattle.refusals.specs.declared.Refusal.{Refusal}
use Rattle.lists.specs.Entries.{total}
use Rattle.lists.specs.Tables.{filled}
use Rattle.refusals.specs.Outcomes.{Outcome, accepted, refused, valued, then, reply_of}
use Rattle.refusals.proofs.Outcomes.{valued_refused}
use Rattle.trees.specs.Pairs.{max_carets}
use Rattle.trees.specs.Shapes.{shape}
use Rattle.trees.proofs.Shapes.{shape-length}
use Rattle.bitrows.specs.Numbers.{number_at, numbers_of_value}
use Rattle.bitrows.specs.inside.Growth.{inserted, LeafAt}
use Rattle.bitrows.proofs.Inserting.{inserted-length}
use Rattle.packed.specs.Packing.{summary_at, packed_shape}
use Rattle.packed.specs.Growing.{grown, grow_at, grown_shape}
use Rattle.packed.specs.Promises.{room_for, growing, Repacked}
use Rattle.packed.specs.inside.Steps.{shape_of, Room, Held}
use Rattle.growing.specs.inside.Steps.{HeldLeaf, Growable, GrewAt}
use Rattle.packed.proofs.Trees.{shape-total}
use Rattle.packed.proofs.Reading.{packed_tree, packed_refused, room_fits, room_short}
use Rattle.packed.proofs.Grown.{grown-carets, grow-shape, grown-beyond, grown_full, grown-shape}
use Rattle.packed.proofs.Checked.{Checked, repacked_refused, repacked_filled}
use Rattle.packed.proofs.Holding.{held-length, held-nodes}
use Rattle.growing.proofs.GrowSteps.{grow-inserted}

-- The outcome, by what is read.
abbrev from_read : (numbers summary : List ℕ) (k : ℕ) → Outcome (List ℕ) → Outcome (List ℕ)
from_read numbers summary k o = then o (λ s. then (grown_shape s k) (λ g. room_for g numbers summary))

-- The outcome, by what is grown.
abbrev from_grown : (numbers summary : List ℕ) → Outcome (List ℕ) → Outcome (List ℕ)
from_grown numbers summary o = then o (λ g. room_for g numbers summary)

-- The check refuses.
pub answer_refused : {numbers summary : List ℕ} {n p : ℕ} (k : ℕ) (r : Result ℕ Refusal)
    → reply_of r ≡ valued length (packed_shape numbers summary) → reply_of r ≡ refused n p
    → Repacked (growing numbers summary k) numbers summary numbers summary r
answer_refused {numbers} {summary} {n} {p} k r h e =
    repacked_refused r
    (ap (from_read numbers summary k) (valued_refused length (packed_shape numbers summary) n p (sym h ∙ e))) e

module _ {numbers summary : List ℕ} {n : ℕ} (c : Checked numbers summary n) (k : ℕ) where
  -- The outcome, where the tree is read.
  read_tree : growing numbers summary k ≡ from_grown numbers summary (grown_shape (shape c.tree) k)
  read_tree = ap (from_read numbers summary k) (c.read ∙ ap accepted (sym c.is_shape))

  -- There is no leaf k.
  pub answer-beyond : (r : Result ℕ Refusal) → n ≤ 2 * k → reply_of r ≡ refused 15 0
      → Repacked (growing numbers summary k) numbers summary numbers summary r
  answer-beyond r h e =
      repacked_refused r
      (read_tree ∙ ap (from_grown numbers summary) (grown-beyond c.tree k (omega (arith, c.nodes)))) e

  -- There is no caret more.
  pub answer_full : (r : Result ℕ Refusal) → 2 * max_carets < n → reply_of r ≡ refused 15 0
      → Repacked (growing numbers summary k) numbers summary numbers summary r
  answer_full r h e =
      repacked_refused r
      (read_tree ∙ ap (from_grown numbers summary) (grown_full c.tree k (omega (arith, c.nodes)))) e

  module _ (h : 2 * k < n) where
    -- There is a leaf k.
    pub checked_leaf : HeldLeaf numbers summary n k
    checked_leaf = record {
      held = c.held;
      has_leaf = omega (arith, h, c.nodes, ap total (sym c.is_shape), shape-total c.tree);
    }

    module _ (few : n ≤ 2 * max_carets) where
      -- What is grown, where there is room.
      grown_room : growing numbers summary k ≡ room_for (grow_at (shape_of numbers n) k) numbers summary
      grown_room =
          let x = grown-shape c.tree k (omega (arith, h, c.nodes)) (omega (arith, few, c.nodes)) in
          read_tree
          ∙ ap (from_grown numbers summary) x.2
          ∙ ap (λ (s : List ℕ). room_for s numbers summary)
          (sym (grow-shape c.tree k x.0 x.1) ∙ ap (λ (s : List ℕ). grow_at s k) c.is_shape)

      -- It has two nodes more.
      grown_long : length (grow_at (shape_of numbers n) k) ≡ n + 2
      grown_long =
          let x = grown-shape c.tree k (omega (arith, h, c.nodes)) (omega (arith, few, c.nodes)) in
          ap (λ (s : List ℕ). length (grow_at s k)) (sym c.is_shape)
          ∙ ap length (grow-shape c.tree k x.0 x.1)
          ∙ omega (
            arith,
            shape-length (grown c.tree x.0),
            grown-carets c.tree k x.0 x.1,
            c.nodes,
          )

      -- There is no room.
      pub answer_short : (r : Result ℕ Refusal)
          → (length numbers < numbers_of_value (n + 2)) ⊎ (length summary < numbers_of_value (n + 2))
          → reply_of r ≡ refused 7 0
          → Repacked (growing numbers summary k) numbers summary numbers summary r
      answer_short r l e =
          let s : List ℕ = grow_at (shape_of numbers n) k in
          let m : n + 2 ≡ length s = sym grown_long in
          repacked_refused r
          (grown_room
          ∙ room_short s numbers summary
          (subst (λ (i : ℕ). (length numbers < numbers_of_value i) ⊎ (length summary < numbers_of_value i)) m l)) e

      -- The caret is grown.
      pub answer-grown : {v : ℕ} {numbers' summary' : List ℕ} (r : Result ℕ Refusal) → LeafAt (shape_of numbers n) k v
          → Room (numbers_of_value (n + 2)) numbers summary → GrewAt numbers summary n v numbers' summary'
          → reply_of r ≡ accepted (numbers_of_value (n + 2))
          → Repacked (growing numbers summary k) numbers summary numbers' summary' r
      answer-grown {v} {numbers'} {summary'} r a room g e =
          let s : List ℕ = shape_of numbers n in
          let near : v ≤ length s = omega (arith, a.inside) in
          let long : n + 2 ≡ length (inserted s v) =
          omega (arith, inserted-length s v near, held-length c.held) in
          let done : growing numbers summary k ≡ accepted (inserted s v) =
          grown_room
          ∙ ap (λ (u : List ℕ). room_for u numbers summary) (grow-inserted s k v (held-nodes c.held) a)
          ∙ room_fits (inserted s v) numbers summary (omega (arith, room.in_numbers, long))
          (omega (arith, room.in_summary, long)) in
          repacked_filled r done (e ∙ ap (λ (i : ℕ). accepted (numbers_of_value i)) long)
          (g.numbers_left ∙ ap (λ (i : ℕ). filled (numbers_of_value i) (number_at (inserted s v)) numbers) long)
          (g.summary_left ∙ ap (λ (i : ℕ). filled (numbers_of_value i) (summary_at (inserted s v)) summary) long)

-- No tree within the bound has a leaf above it, so that it is 15 whatever is lent.
pub answer_none : (numbers summary : List ℕ) (k : ℕ) (r : Result ℕ Refusal) → max_carets < k → reply_of r ≡ refused 15 0
    → Repacked (growing numbers summary k) numbers summary numbers summary r
answer_none numbers summary k r h e = repacked_refused r (go (packed_shape numbers summary) refl) e
  where
    go : (o : Outcome (List ℕ)) → packed_shape numbers summary ≡ o → growing numbers summary k ≡ refused 15 0
    go (accepted s) d =
        let x = packed_tree numbers summary s d in
        let t = x.0 in
        ap (from_read numbers summary k) (d ∙ ap accepted (sym x.2))
        ∙ ap (from_grown numbers summary) (grown-beyond t k (omega (arith, x.1)))
    go (refused number place) d =
        let x = packed_refused numbers summary number place d in
        ap (from_read numbers summary k) (d ∙ ap₂ (λ (i j : ℕ). refused i j) x.0 x.1)

-- What growing asks.
pub checked_growable : {numbers summary : List ℕ} {n k v : ℕ} → Held numbers summary n
    → LeafAt (shape_of numbers n) k v → Room (numbers_of_value (n + 2)) numbers summary → Growable numbers summary n v
checked_growable h a room = record {
  held = h;
  inside = omega (arith, a.inside, held-length h);
  is_leaf = a.is_leaf;
  room = room;
}
