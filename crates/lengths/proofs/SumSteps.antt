-- The sum of the weights, counted from the last caret down: the laws of that loop.
--     rest n k bytes   the classes of the carets k to n − 1         Summed   their weights are summed
--     sum-most         how large the sum is                         sum_fits   16 bits hold it
-- Assumes nothing.
use mathlib.Core.Path.{◌≡◌, refl, sym, ap, ap₂, ◌∙◌}
use mathlib.Core.Bool as Tests
use mathlib.Core.Bool.{Bool, true, false}
use mathlib.Core.List.{List, [], ◌∷◌}
use Prim.Native.Nat.{ℕ, zero, suc, ◌+◌, ◌-◌, ◌*◌, ◌<◌, ◌≤◌}
use native.Mathlib.Omega.{arith}
use native.Mathlib.Decide.{dec_lt}
use lib.Dec.{leb}
use lib.ListN.{length, take, drop, get_or, length-drop}
use lib.Seq.{length-take-le, drop-cons, drop-length, get_or-take}
use Rattle.group.proofs.Limits.{limit_weighs}
use Rattle.lengths.specs.declared.kinds.CaretKind.{CaretKind}
use Rattle.lengths.specs.Classes.{Class}
use Rattle.lengths.specs.Kinds.{
  Kind,
  either,
  next_inside,
  some_inside_value,
  kind_of,
  later_kinds,
  kinds_of,
}
use Rattle.lengths.specs.Weights.{weight, weights}
use Rattle.lengths.specs.inside.Steps.{class_of, classes_of, kind_named, EndsOutside, PairClassed}
use Rattle.lengths.proofs.PairBounds.{weights_of, later-most}
use Rattle.lengths.proofs.ClassBytes.{inside_test, classes_count}

-- The classes of the carets k to n − 1, from a table of classes.
abbrev rest : (n k : ℕ) → List ℕ → List Class
rest n k bytes = classes_of (drop k (take n bytes))

-- The weights of the carets k to n − 1 are summed; caret 0 is left out. Of both trees it is known whether caret k is
-- interior, and whether it or some later one is.
pub record Summed (minus plus : List ℕ) (n k sum : ℕ) (m-next m-later p-next p-later : Bool) : Type 0 where
  pub classed : PairClassed minus plus n
  pub within : k ≤ n
  pub some : 0 < n → 0 < k
  pub sums : sum ≡ weights_of (rest n k minus) (rest n k plus)
  pub minus_next : m-next ≡ next_inside (rest n k minus)
  pub minus_later : m-later ≡ some_inside_value (rest n k minus)
  pub plus_next : p-next ≡ next_inside (rest n k plus)
  pub plus_later : p-later ≡ some_inside_value (rest n k plus)

rest_none : (n : ℕ) (bytes : List ℕ) → n ≤ length bytes → rest n n bytes ≡ []
rest_none n bytes h =
    ap (λ (k : ℕ). classes_of (drop k (take n bytes))) (sym (length-take-le n bytes h))
    ∙ ap classes_of (drop-length (take n bytes))

pub sum_start : {minus plus : List ℕ} {n : ℕ} → PairClassed minus plus n
    → Summed minus plus n n 0 false false false false
sum_start {minus} {plus} {n} pair =
    let no_minus = rest_none n minus pair.minus_room in
    let no_plus = rest_none n plus pair.plus_room in
    record {
      classed = pair;
      within = omega arith;
      some = λ h. h;
      sums = sym (ap₂ weights_of no_minus no_plus);
      minus_next = sym (ap next_inside no_minus);
      minus_later = sym (ap some_inside_value no_minus);
      plus_next = sym (ap next_inside no_plus);
      plus_later = sym (ap some_inside_value no_plus);
    }

-- One class more.
rest_more : {n i j : ℕ} (bytes : List ℕ) → n ≤ length bytes → j ≤ n → j ≡ suc i
    → rest n i bytes ≡ class_of (get_or bytes i 0) ∷ rest n j bytes
rest_more {n} {i} {j} bytes room h at =
    rw (at, sym (get_or-take n bytes i 0 (omega arith)))
    (ap classes_of (drop-cons (take n bytes) i 0 (omega (arith, length-take-le n bytes room))))

-- The tests of the code, by the class that is cut off.
or-either : (p q : Bool) → Tests.◌||◌ p q ≡ either p q
or-either true q = refl
or-either false q = refl

next_more : {cs ds : List Class} (x : ℕ) → ds ≡ class_of x ∷ cs → leb 2 x ≡ next_inside ds
next_more x cut = inside_test x ∙ sym (ap next_inside cut)

later_more : {cs ds : List Class} {later : Bool} (x : ℕ) → later ≡ some_inside_value cs → ds ≡ class_of x ∷ cs
    → Tests.◌||◌ (leb 2 x) later ≡ some_inside_value ds
later_more {cs} {ds} {later} x e cut =
    or-either (leb 2 x) later ∙ ap₂ either (inside_test x) e ∙ sym (ap some_inside_value cut)

-- One caret more.
module _ {minus plus : List ℕ} {n j sum : ℕ} {m-next m-later p-next p-later : Bool}
    (h : Summed minus plus n j sum m-next m-later p-next p-later) {i w : ℕ} (a b : CaretKind) (at : j ≡ suc i)
    (left : 0 < i) (is-a : kind_named a ≡ kind_of (class_of (get_or minus i 0)) m-next m-later)
    (is_b : kind_named b ≡ kind_of (class_of (get_or plus i 0)) p-next p-later)
    (weighs : w ≡ weight (kind_named a) (kind_named b)) where
  abbrev x : ℕ
  x = get_or minus i 0

  abbrev y : ℕ
  y = get_or plus i 0

  minus_cut : rest n i minus ≡ class_of x ∷ rest n j minus
  minus_cut = rest_more minus h.classed.minus_room h.within at

  plus_cut : rest n i plus ≡ class_of y ∷ rest n j plus
  plus_cut = rest_more plus h.classed.plus_room h.within at

  minus_kind : kind_named a ≡ kind_of (class_of x) (next_inside (rest n j minus)) (some_inside_value (rest n j minus))
  minus_kind = is-a ∙ ap₂ (kind_of (class_of x)) h.minus_next h.minus_later

  plus_kind : kind_named b ≡ kind_of (class_of y) (next_inside (rest n j plus)) (some_inside_value (rest n j plus))
  plus_kind = is_b ∙ ap₂ (kind_of (class_of y)) h.plus_next h.plus_later

  pub sum_more : Summed minus plus n i (sum + w) (leb 2 x) (Tests.◌||◌ (leb 2 x) m-later) (leb 2 y)
      (Tests.◌||◌ (leb 2 y) p-later)
  sum_more =
      let total : sum + w ≡ weights_of (class_of x ∷ rest n j minus) (class_of y ∷ rest n j plus) =
      omega (arith, h.sums, weighs, ap₂ weight minus_kind plus_kind) in
      record {
        classed = h.classed;
        within = omega (arith, h.within);
        some = λ _. left;
        sums = total ∙ sym (ap₂ weights_of minus_cut plus_cut);
        minus_next = next_more x minus_cut;
        minus_later = later_more x h.minus_later minus_cut;
        plus_next = next_more y plus_cut;
        plus_later = later_more y h.plus_later plus_cut;
      }

  -- The tests by their values.
  pub sum_next : {m-next' m-later' p-next' p-later' : Bool} → m-next' ≡ leb 2 x
      → m-later' ≡ Tests.◌||◌ (leb 2 x) m-later
      → p-next' ≡ leb 2 y → p-later' ≡ Tests.◌||◌ (leb 2 y) p-later
      → Summed minus plus n i (sum + w) m-next' m-later' p-next' p-later'
  sum_next e1 e2 e3 e4 = rw (e1, e2, e3, e4) sum_more

-- From any place on, the classes end as they all do, and there is one for each caret.
ends-rest : (k : ℕ) (bytes : List ℕ) → EndsOutside (classes_of bytes) → EndsOutside (classes_of (drop k bytes))
ends-rest zero bytes h = h
ends-rest (suc k) [] h = tt
ends-rest (suc zero) (b ∷ []) h = tt
ends-rest (suc (suc k)) (b ∷ []) h = tt
ends-rest (suc k) (b ∷ c ∷ bytes) h = ends-rest k (c ∷ bytes) h

rest-length : (n k : ℕ) (bytes : List ℕ) → n ≤ length bytes → length (rest n k bytes) ≡ n - k
rest-length n k bytes h =
    classes_count (drop k (take n bytes))
    ∙ length-drop k (take n bytes)
    ∙ ap (λ (m : ℕ). m - k) (length-take-le n bytes h)

-- The sum so far: at most 2 for the last caret and 4 for each other.
pub sum-most : {minus plus : List ℕ} {n k sum : ℕ} {m-next m-later p-next p-later : Bool}
    → Summed minus plus n k sum m-next m-later p-next p-later → k < n → sum + 4 * k + 2 ≤ 4 * n
sum-most {minus} {plus} {n} {k} {sum} h lt =
    let pair = h.classed in
    go (rest n k minus) (rest n k plus) h.sums (rest-length n k minus pair.minus_room)
    (rest-length n k plus pair.plus_room) (ends-rest k (take n minus) pair.minus_ends)
    (ends-rest k (take n plus) pair.plus_ends)
  where
    go : (cs ds : List Class) → sum ≡ weights_of cs ds → length cs ≡ n - k → length ds ≡ n - k → EndsOutside cs
        → EndsOutside ds → sum + 4 * k + 2 ≤ 4 * n
    go (c ∷ cs) (d ∷ ds) e hc hd ec ed = omega (arith, e, later-most c d cs ds (omega arith) ec ed)
    go (c ∷ cs) [] e hc hd ec ed = absurd (omega arith)
    go [] ds e hc hd ec ed = absurd (omega arith)

-- 16 bits hold it at every caret: caret 0 is left out, and before the last caret the sum is 0.
pub sum_fits : {minus plus : List ℕ} {n k sum : ℕ} {m-next m-later p-next p-later : Bool}
    → Summed minus plus n k sum m-next m-later p-next p-later → sum < 65536
sum_fits {minus} {plus} {n} {k} {sum} h = go (dec_lt k n)
  where
    none : (cs ds : List Class) → length cs ≡ 0 → weights_of cs ds ≡ 0
    none [] ds e = refl
    none (c ∷ cs) ds e = absurd (omega arith)

    go : Dec (k < n) → sum < 65536
    go (yes lt) = omega (arith, sum-most h lt, h.some (omega arith), h.classed.few, limit_weighs)
    go (no all) =
        let count = rest-length n k minus h.classed.minus_room in
        omega (arith, h.sums, none (rest n k minus) (rest n k plus) (omega (arith, count)))

-- Caret 0 weighs nothing.
weights_none : (xs : List Kind) → weights xs [] ≡ 0
weights_none [] = refl
weights_none (x ∷ xs) = refl

weights-behind : (xs ys : List ℕ)
    → weights_of (classes_of (drop 1 xs)) (classes_of (drop 1 ys))
    ≡ weights (kinds_of (classes_of xs)) (kinds_of (classes_of ys))
weights-behind [] ys = refl
weights-behind (x ∷ xs) [] = weights_none (later_kinds (classes_of xs))
weights-behind (x ∷ xs) (y ∷ ys) = omega arith

-- All are summed.
pub sum_done : {minus plus : List ℕ} {n k sum : ℕ} {m-next m-later p-next p-later : Bool}
    → Summed minus plus n k sum m-next m-later p-next p-later → k ≤ 1
    → sum ≡ weights (kinds_of (classes_of (take n minus))) (kinds_of (classes_of (take n plus)))
sum_done {minus} {plus} {n} {k} {sum} h last = go n k h.sums h.some last
  where
    go : (n k : ℕ) → sum ≡ weights_of (rest n k minus) (rest n k plus) → (0 < n → 0 < k) → k ≤ 1
        → sum ≡ weights (kinds_of (classes_of (take n minus))) (kinds_of (classes_of (take n plus)))
    go zero zero s some e = s
    go (suc n) zero s some e = absurd (omega (arith, some (omega arith)))
    go n (suc zero) s some e = s ∙ weights-behind (take n minus) (take n plus)
    go n (suc (suc k)) s some e = absurd (omega arith)
