-- The pair that was written into buffers of some size, and its length. Assumes nothing.
use mathlib.Core.Path.{◌≡◌, refl, sym, ap, ap₂, ◌∙◌, subst}
use mathlib.Core.List.{List}
use Prim.Native.Nat.{ℕ, ◌<◌, ◌≤◌}
use native.Mathlib.Decide.{dec_le}
use native.Mathlib.Omega.{arith}
use borrow.Author.Tests.{lt-ltb, le-ltb}
use lib.ListN.{length, take}
use lib.Seq.{sets, length-sets}
use Rattle.std.specs.Prelude.{Some, Result, Ok, Err}
use Rattle.std.specs.Result.{result_ok}
use Rattle.refusals.specs.declared.Failure.{Failure}
use Rattle.lists.proofs.Writes.{sets_front}
use Rattle.refusals.specs.Outcomes.{accepted, refused}
use Rattle.refusals.proofs.Outcomes.{accepted_refused}
use Rattle.trees.specs.Building.{needed, tree_of}
use Rattle.trees.specs.Pairs.{carets_of_sides}
use Rattle.trees.specs.Shapes.{shape, shape_size}
use Rattle.trees.specs.inside.ShapeReading.{Exact}
use Rattle.trees.specs.inside.Writing.{pairing_of, table_carets, pair_carets, WrotePair}
use Rattle.trees.proofs.PairAnswers.{Counts, Judged, unfit, fit, tables_judged, counted}
use Rattle.trees.proofs.Built.{tree_carets}
use Rattle.trees.proofs.Shapes.{shape-length, shape_exact}
use Rattle.lengths.specs.Classes.{Class}
use Rattle.lengths.specs.Kinds.{kinds_of}
use Rattle.lengths.specs.Weights.{weights}
use Rattle.lengths.specs.inside.Reading.{shape_classes}
use Rattle.lengths.specs.inside.Steps.{length_within, PairShaped}
use Rattle.lengths.proofs.ShapeClasses.{shape-classes}

-- Beside buffers of m bytes: no pair is written, or the pair of the tables.
data Within (b a : List ℕ) (m : ℕ) : Type 0 where
  none : (number place : ℕ) → pair_carets b a m m ≡ refused number place → length_within m b a ≡ refused 0 0
      → Within b a m
  some : Counts b a (carets_of_sides b a) → shape_size (carets_of_sides b a) ≤ m → pair_carets b a m m ≡ table_carets b a
      → Within b a m

pair_within : (b a : List ℕ) (m : ℕ) → Within b a m
pair_within b a m = go (tables_judged b a)
  where
    sized : Counts b a (carets_of_sides b a) → Dec (shape_size (carets_of_sides b a) ≤ m) → Within b a m
    sized c (yes le) = some c le (rw c.accepts (simp (le-ltb _ _ le)))
    sized c (no more) =
        let short : m < shape_size (carets_of_sides b a) = omega arith in
        none 7 0 (rw c.accepts (simp (lt-ltb _ _ short))) (rw c.accepts (simp (lt-ltb _ _ short)))

    go : Judged b a → Within b a m
    go (unfit e) = none 0 0 (rw e refl) (rw e refl)
    go (fit c) = sized c (dec_le (shape_size (carets_of_sides b a)) m)

-- An answer that is a number.
pub ok_is : (r : Result ℕ Failure) {n : ℕ} → result_ok r ≡ Some n → r ≡ Ok n
ok_is (Ok k) e = cc
ok_is (Err f) e = cc

-- The pair was written into two buffers of one size.
module _ {b a t_minus t_plus minus plus : List ℕ} {r : Result ℕ Failure} (same : length t_plus ≡ length t_minus)
    (w : WrotePair b a t_minus t_plus minus plus r) where
  abbrev m : ℕ
  m = length t_minus

  answers : pairing_of r ≡ pair_carets b a m m
  answers = w.result ∙ ap (pair_carets b a m) same

  -- A number of carets: the shapes stand at the front.
  module _ {n : ℕ} (is : r ≡ Ok n) where
    found : Counts b a n × (shape_size n ≤ m)
    found = go (pair_within b a m)
      where
        go : Within b a m → Counts b a n × (shape_size n ≤ m)
        go (none number place e l) = absurd (accepted_refused (sym (ap pairing_of is) ∙ answers ∙ e))
        go (some c le e) =
            let c' : Counts b a n = counted (answers ∙ e) is in
            (c', omega (arith, c'.carets, le))

    counts : Counts b a n
    counts = found.0

    -- Its shapes have room in the buffers.
    within : shape_size n ≤ length t_minus
    within = found.1

    written : pair_carets b a (length t_minus) (length t_plus) ≡ accepted n
    written = sym w.result ∙ ap pairing_of is

    front : (es entry exit : List ℕ) → length entry ≡ m → needed 0 es ≤ n
        → exit ≡ sets entry 0 (shape (tree_of n es)) → take (shape_size n) exit ≡ shape (tree_of n es)
    front es entry exit room h e =
        let size : length (shape (tree_of n es)) ≡ shape_size n =
        shape-length (tree_of n es) ∙ ap shape_size (tree_carets n es h) in
        ap (take (shape_size n)) e
        ∙ sets_front (shape (tree_of n es)) entry (shape_size n) size (omega (arith, within, room))

    minus_holds : minus ≡ sets t_minus 0 (shape (tree_of n a))
    minus_holds = w.t_minus ∙ rw written refl

    plus_holds : plus ≡ sets t_plus 0 (shape (tree_of n b))
    plus_holds = w.t_plus ∙ rw written refl

    front_minus : take (shape_size n) minus ≡ shape (tree_of n a)
    front_minus = front a t_minus minus refl (omega (arith, counts.carets)) minus_holds

    front_plus : take (shape_size n) plus ≡ shape (tree_of n b)
    front_plus = front b t_plus plus same (omega (arith, counts.carets)) plus_holds

    pub pair_shaped : PairShaped minus plus n
    pair_shaped = record {
      few = counts.few;
      minus_room =
          omega (arith, within, ap length minus_holds, length-sets t_minus 0 (shape (tree_of n a)));
      plus_room =
          omega (
            arith,
            within,
            same,
            ap length plus_holds,
            length-sets t_plus 0 (shape (tree_of n b)),
          );
      minus_exact = subst (λ (s : List ℕ). Exact s 1) (sym front_minus) (shape_exact (tree_of n a));
      plus_exact = subst (λ (s : List ℕ). Exact s 1) (sym front_plus) (shape_exact (tree_of n b));
    }

    -- The sum over the shapes is the length of the pair.
    pub pair_summed : {k : ℕ}
        → k ≡ weights (kinds_of (shape_classes (take (shape_size n) minus)))
        (kinds_of (shape_classes (take (shape_size n) plus)))
        → accepted k ≡ length_within (length t_minus) b a
    pair_summed {k} e =
        ap accepted
        (e
        ∙ ap₂ (λ (s t : List ℕ). weights (kinds_of (shape_classes s)) (kinds_of (shape_classes t))) front_minus front_plus
        ∙ ap₂ (λ (x y : List Class). weights (kinds_of x) (kinds_of y)) (shape-classes (tree_of n a))
        (shape-classes (tree_of n b)))
        ∙ rw counts.accepts (simp (le-ltb _ _ within))
