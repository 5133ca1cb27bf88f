-- What is said of the tree pair of a record: the call's number and the fronts of the two buffers. Assumes nothing.
use mathlib.Core.Path.{◌≡◌, refl, sym, ap, ap₂, ◌∙◌}
use mathlib.Core.Bool.{cond}
use mathlib.Core.List.{List, [], ◌∷◌, ◌++◌, append_assoc}
use Prim.Native.Nat.{ℕ, ◌+◌, ◌*◌, ◌≤◌}
use native.Mathlib.Omega.{arith}
use borrow.Author.Tests.{ltb-false}
use lib.Dec.{ltb}
use lib.ListN.{length, take}
use Rattle.std.specs.Prelude.{Result, Ok, Err}
use Rattle.lines.specs.Lines.{line_feed}
use Rattle.numerals.specs.Decimals.{decimal}
use Rattle.lists.proofs.Writes.{sets_front}
use Rattle.group.specs.Forms.{Form}
use Rattle.refusals.specs.Refusals.{number_of, place_of}
use Rattle.refusals.specs.Outcomes.{Outcome, accepted, refused, then, reply_of}
use Rattle.refusals.specs.declared.Refusal.{Refusal}
use Rattle.refusals.proofs.Outcomes.{accepted_same, accepted_refused, passed, valued_refused, valued_accepted}
use Rattle.records.specs.Reading.{decode}
use Rattle.trees.specs.Trees.{Tree, carets}
use Rattle.trees.specs.Pairs.{carets_of, minus_tree, plus_tree}
use Rattle.trees.specs.Shapes.{shape, shape_size}
use Rattle.trees.proofs.Shapes.{shape-length}
use Rattle.trees.proofs.Pairs.{pair_carets}
use Rattle.pairs.specs.Promises.{paired_in, tree_after, Paired}
use Rattle.commands.specs.Answers.{saying, denying, line_of, said, room_size}
use Rattle.commands.specs.Records.{digits_of, pair_line, pair_text}
use Rattle.commands.specs.inside.Steps.{refusal_of}

-- The pieces of the line, one behind another.
pub pair_pieces : (n : ℕ) (s t : List ℕ)
    → decimal n ++ (32 ∷ (digits_of s ++ (32 ∷ (digits_of t ++ (line_feed ∷ []))))) ≡ line_of (pair_line n s t)
pair_pieces n s t =
    ap (λ (l : List ℕ). decimal n ++ (32 ∷ l)) (sym (append_assoc (digits_of s) (32 ∷ digits_of t) (line_feed ∷ [])))
    ∙ sym (append_assoc (decimal n) (32 ∷ (digits_of s ++ (32 ∷ digits_of t))) (line_feed ∷ []))

-- Where a pair is accepted beside two buffers, its shapes fit them.
pair_fits : (s : List ℕ) (m p : ℕ) (f : Form) → paired_in s m p ≡ accepted f
    → (shape_size (carets_of f) ≤ m) × (shape_size (carets_of f) ≤ p)
pair_fits s m p f e = go (decode s) refl
  where
    later : Form → Outcome Form
    later g = cond (ltb p (shape_size (carets_of g))) (refused 7 0) (accepted g)

    both : Form → Outcome Form
    both g = cond (ltb m (shape_size (carets_of g))) (refused 7 0) (later g)

    go : (o : Outcome Form) → decode s ≡ o → (shape_size (carets_of f) ≤ m) × (shape_size (carets_of f) ≤ p)
    go (accepted g) d =
        let size = shape_size (carets_of g) in
        let first = passed (ltb m size) 7 0 (later g) f (sym (ap (λ (x : Outcome Form). then x both) d) ∙ e) in
        let second = passed (ltb p size) 7 0 (accepted g) f first.1 in
        let same : g ≡ f = accepted_same second.1 in
        let one : size ≡ shape_size (carets_of f) = ap (λ (x : Form). shape_size (carets_of x)) same in
        (omega (arith, one, ltb-false m size first.0), omega (arith, one, ltb-false p size second.0))
    go (refused k q) d = absurd (accepted_refused (sym e ∙ ap (λ (x : Outcome Form). then x both) d))

-- A pair of n carets that was written: its form, and the shapes at the front of the two buffers.
pub record PairShapes (s m p m' p' : List ℕ) (n : ℕ) : Type 0 where
  pub form : Form
  pub outcome : paired_in s (length m) (length p) ≡ accepted form
  pub number : carets_of form ≡ n
  pub minus : take (2 * n + 1) m' ≡ shape (minus_tree form)
  pub plus : take (2 * n + 1) p' ≡ shape (plus_tree form)

-- The record of such a form is read as it.
pub pair_decoded : (s : List ℕ) (m p : ℕ) (f : Form) → paired_in s m p ≡ accepted f → decode s ≡ accepted f
pair_decoded s m p f e = go (decode s) refl
  where
    later : Form → Outcome Form
    later g = cond (ltb p (shape_size (carets_of g))) (refused 7 0) (accepted g)

    both : Form → Outcome Form
    both g = cond (ltb m (shape_size (carets_of g))) (refused 7 0) (later g)

    go : (o : Outcome Form) → decode s ≡ o → decode s ≡ accepted f
    go (accepted g) d =
        let size = shape_size (carets_of g) in
        let first = passed (ltb m size) 7 0 (later g) f (sym (ap (λ (x : Outcome Form). then x both) d) ∙ e) in
        d ∙ (passed (ltb p size) 7 0 (accepted g) f first.1).1
    go (refused k q) d = absurd (accepted_refused (sym e ∙ ap (λ (x : Outcome Form). then x both) d))

module _ {s m p m' p' : List ℕ} {r : Result ℕ Refusal} (h : Paired s m p m' p' r) where
  -- The outcome of the call.
  abbrev outcome : Outcome Form
  outcome = paired_in s (length m) (length p)

  -- The form of a pair that was written, and its shapes.
  module _ (n : ℕ) (e : r ≡ Ok n) where
    found : (f : Form) × (outcome ≡ accepted f) × (carets_of f ≡ n)
    found = valued_accepted carets_of outcome n (sym h.result ∙ ap reply_of e)

    -- They fit the buffers.
    pub shapes_fit : (2 * n + 1 ≤ length m) × (2 * n + 1 ≤ length p)
    shapes_fit =
        let fits = pair_fits s (length m) (length p) found.0 found.1 in
        (omega (arith, found.2, fits.0), omega (arith, found.2, fits.1))

    -- The front of a buffer is the shape of a tree.
    shape_front : (tree : Form → Tree) (buffer buffer' : List ℕ) → buffer' ≡ tree_after tree outcome buffer
        → carets (tree found.0) ≡ carets_of found.0 → 2 * n + 1 ≤ length buffer
        → take (2 * n + 1) buffer' ≡ shape (tree found.0)
    shape_front tree buffer buffer' x k room =
        ap (take (2 * n + 1)) (x ∙ ap (λ (o : Outcome Form). tree_after tree o buffer) found.1)
        ∙ sets_front (shape (tree found.0)) buffer (2 * n + 1)
        (omega (arith, shape-length (tree found.0), k, found.2)) room

    pub pair_said : length m ≡ room_size → length p ≡ room_size
        → saying (line_of (pair_line n (take (2 * n + 1) m') (take (2 * n + 1) p')))
        ≡ said pair_text (paired_in s room_size room_size)
    pair_said hm hp =
        let f = found.0 in
        ap₂ (λ (x y : List ℕ). saying (line_of (pair_line n x y)))
        (shape_front minus_tree m m' h.t_minus (pair_carets f).0 shapes_fit.0)
        (shape_front plus_tree p p' h.t_plus (pair_carets f).1 shapes_fit.1)
        ∙ ap (λ (k : ℕ). saying (line_of (pair_line k (shape (minus_tree f)) (shape (plus_tree f))))) (sym found.2)
        ∙ ap (said pair_text) (sym found.1)
        ∙ ap₂ (λ (x y : ℕ). said pair_text (paired_in s x y)) hm hp

    -- The form of the pair, and its shapes.
    pub pair_shapes : PairShapes s m p m' p' n
    pair_shapes = record {
      form = found.0;
      outcome = found.1;
      number = found.2;
      minus = shape_front minus_tree m m' h.t_minus (pair_carets found.0).0 shapes_fit.0;
      plus = shape_front plus_tree p p' h.t_plus (pair_carets found.0).1 shapes_fit.1;
    }

  -- A refusal.
  pub pair_denied : {q : Refusal} → r ≡ Err q → length m ≡ room_size → length p ≡ room_size
      → denying (refusal_of q) ≡ said pair_text (paired_in s room_size room_size)
  pair_denied {q} e hm hp =
      let o : outcome ≡ refused (number_of q) (place_of q) =
      valued_refused carets_of outcome (number_of q) (place_of q) (sym h.result ∙ ap reply_of e) in
      ap (said pair_text) (sym o) ∙ ap₂ (λ (x y : ℕ). said pair_text (paired_in s x y)) hm hp
