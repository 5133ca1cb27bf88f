-- A packed shape is that of one tree (02, [6]): how it is read, how it is written, and the room that it takes.
--     packed_shape_lem  the packed shape of a tree reads as its shape   packed_tree     what reads is that of a tree
--     packed_one      it is that of no other                            packed_refused  what is refused is of no tree
--     filled-packs    filled tables pack a shape
--     room_fits, room_short, room_given   where there is room, and where there is not
-- Assumes nothing.
use mathlib.Core.Path.{◌≡◌, refl, sym, ap, ap₂, subst, ◌∙◌, ◌≡⟨◌⟩◌, ◌∎}
use mathlib.Core.Bool.{Bool, true, false, cond, false≢true}
use mathlib.Core.List.{List, ◌++◌}
use mathlib.Core.Logic.{◌⊎◌, inl, inr}
use Prim.Native.Nat.{ℕ, ◌≤◌, ◌<◌}
use native.Mathlib.Nat.{le_refl}
use native.Mathlib.Decide.{dec_lt}
use native.Mathlib.Omega.{arith}
use lib.ListN.{length, take, drop, take-append-drop}
use lib.Seq.{take-append-le}
use Rattle.lists.specs.Tables.{filled}
use Rattle.lists.specs.SameBytes.{same_bytes}
use Rattle.lists.proofs.Tables.{values_length, filled_front}
use Rattle.lists.proofs.SameBytes.{same_bytes_lem, bytes_same}
use Rattle.refusals.specs.Outcomes.{Outcome, accepted, refused, then}
use Rattle.refusals.specs.Placing.{fitting}
use Rattle.refusals.proofs.Outcomes.{accepted_same, accepted_refused, refused_number, refused_place}
use Rattle.refusals.proofs.Placing.{fit_short, fit_long}
use Rattle.trees.specs.Trees.{Tree, carets}
use Rattle.trees.specs.Shapes.{shape, span}
use Rattle.trees.specs.Pairs.{max_carets}
use Rattle.trees.proofs.Shapes.{shape_injective}
use Rattle.bitrows.specs.Numbers.{number_at, numbers_of_value, nodes_in}
use Rattle.bitrows.specs.inside.Nodes.{Nodes}
use Rattle.bitrows.proofs.NodeLists.{nodes_in_append, nodes-length, values-nodes}
use Rattle.packed.specs.Packing.{summary_at, numbers_for, summary_for, Packs, packs, tree_shape, shape_in, packed_shape}
use Rattle.packed.specs.Promises.{room_for}
use Rattle.packed.proofs.Trees.{shape-nodes, span-shape_all, tree_shape_lem, shape_tree, tree_refused}

-- The test is passed just by what packs the shape.
pub packs_true : {s numbers summary : List ℕ} → Packs s numbers summary → packs s numbers summary ≡ true
packs_true {s} {numbers} {summary} h =
    ap₂ (λ (xs ys : List ℕ). cond (same_bytes xs (numbers_for s)) (same_bytes ys (summary_for s)) false) h.holds_numbers
    h.holds_summary
    ∙ ap₂ (λ (p q : Bool). cond p q false) (bytes_same (numbers_for s)) (bytes_same (summary_for s))

pub true_packs : {s numbers summary : List ℕ} → packs s numbers summary ≡ true → Packs s numbers summary
true_packs {s} {numbers} {summary} h =
    go (same_bytes (take (numbers_of_value (length s)) numbers) (numbers_for s)) refl h
  where
    go : (p : Bool) → same_bytes (take (numbers_of_value (length s)) numbers) (numbers_for s) ≡ p
        → cond p (same_bytes (take (numbers_of_value (length s)) summary) (summary_for s)) false ≡ true
        → Packs s numbers summary
    go true e k = record { holds_numbers = same_bytes_lem _ _ e; holds_summary = same_bytes_lem _ _ k }
    go false e k = absurd (false≢true k)

-- Numbers that begin with those of a shape have bits that begin with the shape.
pub nodes_numbers : (s numbers : List ℕ) → Nodes s → take (numbers_of_value (length s)) numbers ≡ numbers_for s
    → take (length s) (nodes_in numbers) ≡ s
nodes_numbers s numbers h e =
    let m : ℕ = numbers_of_value (length s) in
    let rest : List ℕ = nodes_in (drop m numbers) in
    let room : length s ≤ length (nodes_in (numbers_for s)) =
    omega (arith, nodes-length (numbers_for s), values_length m (number_at s)) in
    take (length s) (nodes_in numbers)
    ≡⟨ ap (λ (xs : List ℕ). take (length s) (nodes_in xs)) (sym (take-append-drop m numbers)) ⟩
    take (length s) (nodes_in (take m numbers ++ drop m numbers))
    ≡⟨ ap (take (length s)) (nodes_in_append (take m numbers) (drop m numbers)) ⟩
    take (length s) (nodes_in (take m numbers) ++ rest)
    ≡⟨ ap (λ (xs : List ℕ). take (length s) (nodes_in xs ++ rest)) e ⟩
    take (length s) (nodes_in (numbers_for s) ++ rest)
    ≡⟨ take-append-le (length s) (nodes_in (numbers_for s)) rest room ⟩
    take (length s) (nodes_in (numbers_for s))
    ≡⟨ values-nodes m s h (omega arith) ⟩
    s ∎

-- The bits of a tree's numbers close where the tree does.
pub shape_in_lem : (t : Tree) (numbers summary : List ℕ) → Packs (shape t) numbers summary → shape_in numbers ≡ shape t
shape_in_lem t numbers summary p =
    let s : List ℕ = shape t in
    let front : take (length s) (nodes_in numbers) ≡ s = nodes_numbers s numbers (shape-nodes t) p.holds_numbers in
    let rest : List ℕ = drop (length s) (nodes_in numbers) in
    let whole : nodes_in numbers ≡ s ++ rest =
    sym (take-append-drop (length s) (nodes_in numbers)) ∙ ap (λ (xs : List ℕ). xs ++ rest) front in
    let end : span (nodes_in numbers) 1 ≡ length s = ap (λ (xs : List ℕ). span xs 1) whole ∙ span-shape_all t rest in
    ap (λ (n : ℕ). take n (nodes_in numbers)) end ∙ front

-- What is read is judged by whether it is packed.
abbrev kept : Bool → List ℕ → Outcome (List ℕ)
kept right s = cond right (accepted s) (refused 15 0)

abbrev reading : (numbers summary : List ℕ) → Outcome (List ℕ) → Outcome (List ℕ)
reading numbers summary o = then o (λ s. kept (packs s numbers summary) s)

-- The packed shape of a tree within the bound reads as its shape.
pub packed_shape_lem : (t : Tree) (numbers summary : List ℕ) → carets t ≤ max_carets → Packs (shape t) numbers summary
    → packed_shape numbers summary ≡ accepted (shape t)
packed_shape_lem t numbers summary few p =
    ap (λ (s : List ℕ). reading numbers summary (tree_shape s)) (shape_in_lem t numbers summary p)
    ∙ ap (reading numbers summary) (tree_shape_lem t few)
    ∙ ap (λ (right : Bool). kept right (shape t)) (packs_true p)

-- What reads is the packed shape of a tree within the bound.
pub packed_tree : (numbers summary s : List ℕ) → packed_shape numbers summary ≡ accepted s
    → (t : Tree) × (carets t ≤ max_carets) × (shape t ≡ s) × Packs s numbers summary
packed_tree numbers summary s e = go (tree_shape (shape_in numbers)) refl e
  where
    goal : Type 0
    goal = (t : Tree) × (carets t ≤ max_carets) × (shape t ≡ s) × Packs s numbers summary

    right : (u : List ℕ) → tree_shape (shape_in numbers) ≡ accepted u → (p : Bool) → packs u numbers summary ≡ p
        → kept p u ≡ accepted s → goal
    right u f true q k =
        let x = shape_tree (shape_in numbers) u f in
        let same : u ≡ s = accepted_same k in
        let t = x.1 in
        (t.0, t.1, t.2 ∙ sym x.0 ∙ same, subst (λ (v : List ℕ). Packs v numbers summary) same (true_packs q))
    right u f false q k = absurd (accepted_refused (sym k))

    go : (o : Outcome (List ℕ)) → tree_shape (shape_in numbers) ≡ o → reading numbers summary o ≡ accepted s → goal
    go (accepted u) f k = right u f (packs u numbers summary) refl k
    go (refused number place) f k = absurd (accepted_refused (sym k))

-- The numbers and the summary are those of one tree.
pub packed_one : (t u : Tree) (numbers summary : List ℕ) → carets t ≤ max_carets → carets u ≤ max_carets
    → Packs (shape t) numbers summary → Packs (shape u) numbers summary → t ≡ u
packed_one t u numbers summary few less p q =
    shape_injective t u (accepted_same
    (sym (packed_shape_lem t numbers summary few p) ∙ packed_shape_lem u numbers summary less q))

-- What is refused is refused with 15, and is the packed shape of no such tree.
pub packed_refused : (numbers summary : List ℕ) (number place : ℕ)
    → packed_shape numbers summary ≡ refused number place
    → (number ≡ 15) × (place ≡ 0) × ((t : Tree) → carets t ≤ max_carets → Packs (shape t) numbers summary → ⊥)
packed_refused numbers summary number place e =
    let r = go (tree_shape (shape_in numbers)) refl e in
    (r.0, r.1, λ t few p. accepted_refused (sym (packed_shape_lem t numbers summary few p) ∙ e))
  where
    right : (p : Bool) (u : List ℕ) → kept p u ≡ refused number place → (number ≡ 15) × (place ≡ 0)
    right true u k = absurd (accepted_refused k)
    right false u k = (sym (refused_number k), sym (refused_place k))

    go : (o : Outcome (List ℕ)) → tree_shape (shape_in numbers) ≡ o
        → reading numbers summary o ≡ refused number place → (number ≡ 15) × (place ≡ 0)
    go (accepted u) f k = right (packs u numbers summary) u k
    go (refused n p) f k =
        let x = tree_refused (shape_in numbers) n p f in
        (sym (refused_number k) ∙ x.0, sym (refused_place k) ∙ x.1)

-- Tables that were filled with the numbers and the summary of a shape pack it.
pub filled-packs : (s numbers summary : List ℕ)
    → Packs s (filled (numbers_of_value (length s)) (number_at s) numbers)
    (filled (numbers_of_value (length s)) (summary_at s) summary)
filled-packs s numbers summary =
    let m : ℕ = numbers_of_value (length s) in
    record {
      holds_numbers = filled_front m m (number_at s) numbers (le_refl m);
      holds_summary = filled_front m m (summary_at s) summary (le_refl m);
    }

module _ (s numbers summary : List ℕ) where
  -- The room for the summary, by the judgement of the room for the numbers.
  abbrev room_next : Outcome (List ℕ) → Outcome (List ℕ)
  room_next o = then o (λ u. fitting (numbers_of_value (length u)) u summary)

  -- The numbers have no room, or have it.
  numbers_short : length numbers < numbers_of_value (length s) → room_for s numbers summary ≡ refused 7 0
  numbers_short h = ap room_next (fit_short (numbers_of_value (length s)) s numbers h)

  numbers_long : numbers_of_value (length s) ≤ length numbers
      → room_for s numbers summary ≡ fitting (numbers_of_value (length s)) s summary
  numbers_long h = ap room_next (fit_long (numbers_of_value (length s)) s numbers h)

  -- Both tables are long enough.
  pub room_fits : numbers_of_value (length s) ≤ length numbers → numbers_of_value (length s) ≤ length summary
      → room_for s numbers summary ≡ accepted s
  room_fits h g = numbers_long h ∙ fit_long (numbers_of_value (length s)) s summary g

  -- One of them is too short.
  pub room_short : (length numbers < numbers_of_value (length s)) ⊎ (length summary < numbers_of_value (length s))
      → room_for s numbers summary ≡ refused 7 0
  room_short (inl h) = numbers_short h
  room_short (inr h) = go (dec_lt (length numbers) (numbers_of_value (length s)))
    where
      go : Dec (length numbers < numbers_of_value (length s)) → room_for s numbers summary ≡ refused 7 0
      go (yes g) = numbers_short g
      go (no g) = numbers_long (omega arith) ∙ fit_short (numbers_of_value (length s)) s summary h

  -- Where there is room, both are long enough, and the shape is as it was.
  pub room_given : (u : List ℕ) → room_for s numbers summary ≡ accepted u
      → (u ≡ s) × (numbers_of_value (length s) ≤ length numbers) × (numbers_of_value (length s) ≤ length summary)
  room_given u e = go (dec_lt (length numbers) n) (dec_lt (length summary) n)
    where
      n : ℕ
      n = numbers_of_value (length s)

      go : Dec (length numbers < n) → Dec (length summary < n) → (u ≡ s) × (n ≤ length numbers) × (n ≤ length summary)
      go (yes h) d = absurd (accepted_refused (sym e ∙ room_short (inl h)))
      go (no h) (yes g) = absurd (accepted_refused (sym e ∙ room_short (inr g)))
      go (no h) (no g) =
          (accepted_same (sym e ∙ room_fits (omega arith) (omega arith)), omega arith, omega arith)
