-- Fordham's sum over the kinds of two lists of classes is the sum of Table 1 over their labels (000, section 3.1; 001,
-- Table 1). The tables agree but at R0 over R0, which is a dropped column.
--     LeftFirst cs   no caret of the left side stands behind one of the right side
-- Assumes nothing.
use mathlib.Core.Path.{◌≡◌, refl, sym, ap, ◌≡⟨◌⟩◌, ◌∎}
use mathlib.Core.Bool.{Bool, true, false, true≢false}
use mathlib.Core.List.{List, [], ◌∷◌}
use Prim.Native.Nat.{ℕ, zero, suc, ◌+◌, ◌≤◌}
use native.Mathlib.Omega.{arith}
use lib.ListN.{length}
use Rattle.lengths.specs.Classes.{Class, on_left, on_right, inside_leaf, inside_caret}
use Rattle.lengths.specs.Kinds.{Kind, LL, I0, IR, next_inside, some_inside_value, right_kind, kind_of, later_kinds}
use Rattle.lengths.specs.Weights.{weight, weights}
use Rattle.lengths.proofs.Weights.{weight_symmetric}
use Rattle.lengths.specs.Labels.{Label, 'I, 'N, 'L, 'R, label_of, labels_of}
use Rattle.geodesics.specs.inside.Costs.{column}
use Rattle.geodesics.proofs.Columns.{columns}
use Rattle.geodesics.proofs.ColumnSums.{column_grows, column_some, column_symmetric, columns_symmetric}

-- No class is that of the left side.
abbrev pub NoLeft : List Class → Type 0
NoLeft [] = Unit {0}
NoLeft (on_left ∷ cs) = ⊥
NoLeft (on_right ∷ cs) = NoLeft cs
NoLeft (inside_leaf ∷ cs) = NoLeft cs
NoLeft (inside_caret ∷ cs) = NoLeft cs

-- No class of the left side is behind one of the right side.
abbrev pub LeftFirst : List Class → Type 0
LeftFirst [] = Unit {0}
LeftFirst (on_left ∷ cs) = LeftFirst cs
LeftFirst (on_right ∷ cs) = NoLeft cs
LeftFirst (inside_leaf ∷ cs) = LeftFirst cs
LeftFirst (inside_caret ∷ cs) = LeftFirst cs

no_left_first : (cs : List Class) → NoLeft cs → LeftFirst cs
no_left_first [] h = tt
no_left_first (on_left ∷ cs) h = absurd h
no_left_first (on_right ∷ cs) h = h
no_left_first (inside_leaf ∷ cs) h = no_left_first cs h
no_left_first (inside_caret ∷ cs) h = no_left_first cs h

left_first-behind : (c : Class) (cs : List Class) → LeftFirst (c ∷ cs) → LeftFirst cs
left_first-behind on_left cs h = h
left_first-behind on_right cs h = no_left_first cs h
left_first-behind inside_leaf cs h = h
left_first-behind inside_caret cs h = h

-- The labels of carets behind caret 0, and the sum of two such lists.
abbrev pub later_labels : List Class → List Label
later_labels cs = labels_of (later_kinds cs)

abbrev pub later_sum : List Class → List Class → ℕ
later_sum cs ds = columns (later_labels cs) (later_labels ds)

-- Where some caret of the first list is interior, the sum is above 0.
some_inside_weighs : (cs ds : List Class) → length cs ≡ length ds → some_inside_value cs ≡ true → 1 ≤ later_sum cs ds
some_inside_weighs [] ds e h = absurd (true≢false (sym h))
some_inside_weighs (c ∷ cs) [] e h = absurd (omega arith)
some_inside_weighs (on_left ∷ cs) (d ∷ ds) e h =
    column_some 'L (label_of (kind_of d (next_inside ds) (some_inside_value ds))) (later_sum cs ds) refl
some_inside_weighs (inside_leaf ∷ cs) (d ∷ ds) e h =
    column_some 'I (label_of (kind_of d (next_inside ds) (some_inside_value ds))) (later_sum cs ds) refl
some_inside_weighs (inside_caret ∷ cs) (d ∷ ds) e h =
    column_some 'N (label_of (kind_of d (next_inside ds) (some_inside_value ds))) (later_sum cs ds) refl
some_inside_weighs (on_right ∷ cs) (d ∷ ds) e h =
    omega (
      arith,
      column_grows (label_of (right_kind (next_inside cs) (some_inside_value cs)))
          (label_of (kind_of d (next_inside ds) (some_inside_value ds))) (later_sum cs ds),
      some_inside_weighs cs ds (omega arith) h,
    )

-- Or some of the second list.
some_inside-below : (cs ds : List Class) → length cs ≡ length ds → some_inside_value ds ≡ true → 1 ≤ later_sum cs ds
some_inside-below cs ds e h =
    rw (columns_symmetric (later_labels cs) (later_labels ds)) (some_inside_weighs ds cs (sym e) h)

none_next : (cs : List Class) → some_inside_value cs ≡ false → next_inside cs ≡ false
none_next [] h = refl
none_next (on_left ∷ cs) h = refl
none_next (on_right ∷ cs) h = refl
none_next (inside_leaf ∷ cs) h = h
none_next (inside_caret ∷ cs) h = h

-- Carets of the right side only weigh nothing.
all_right : (cs ds : List Class) → NoLeft cs → NoLeft ds → some_inside_value cs ≡ false → some_inside_value ds ≡ false
    → later_sum cs ds ≡ 0
all_right [] ds nc nd hc hd = refl
all_right (on_left ∷ cs) ds nc nd hc hd = absurd nc
all_right (inside_leaf ∷ cs) ds nc nd hc hd = absurd (true≢false hc)
all_right (inside_caret ∷ cs) ds nc nd hc hd = absurd (true≢false hc)
all_right (on_right ∷ cs) [] nc nd hc hd = refl
all_right (on_right ∷ cs) (on_left ∷ ds) nc nd hc hd = absurd nd
all_right (on_right ∷ cs) (inside_leaf ∷ ds) nc nd hc hd = absurd (true≢false hd)
all_right (on_right ∷ cs) (inside_caret ∷ ds) nc nd hc hd = absurd (true≢false hd)
all_right (on_right ∷ cs) (on_right ∷ ds) nc nd hc hd =
    rw (none_next cs hc, none_next ds hd, hc, hd, all_right cs ds nc nd hc hd)

-- The two tables agree at kinds in front of columns that weigh s.
abbrev Agree : Kind → Kind → ℕ → Type 0
Agree k j s = weight k j + s ≡ column (label_of k) (label_of j) s

agree_turned : (k j : Kind) (s : ℕ) → Agree k j s → Agree j k s
agree_turned k j s h =
    weight j k + s ≡⟨ ap (λ (n : ℕ). n + s) (weight_symmetric j k) ⟩
    weight k j + s ≡⟨ h ⟩
    column (label_of k) (label_of j) s ≡⟨ column_symmetric (label_of k) (label_of j) s ⟩
    column (label_of j) (label_of k) s ∎

right_left : (p q : Bool) (s : ℕ) → Agree (right_kind p q) LL s
right_left true q s = refl
right_left false true s = refl
right_left false false s = refl

right_leaf : (p q : Bool) (s : ℕ) → Agree (right_kind p q) I0 s
right_leaf true q s = refl
right_leaf false true s = refl
right_leaf false false s = refl

right_caret : (p q : Bool) (s : ℕ) → Agree (right_kind p q) IR s
right_caret true q s = refl
right_caret false true s = refl
right_caret false false s = refl

some_behind : (s : ℕ) → 1 ≤ s → 2 + s ≡ column 'R 'R s
some_behind zero h = absurd (omega arith)
some_behind (suc s) h = refl

right_right : (p q u v : Bool) (s : ℕ) → (q ≡ true → 1 ≤ s) → (v ≡ true → 1 ≤ s)
    → (q ≡ false → v ≡ false → s ≡ 0) → Agree (right_kind p q) (right_kind u v) s
right_right true q true v s f g h = refl
right_right true q false true s f g h = refl
right_right true q false false s f g h = refl
right_right false true true v s f g h = refl
right_right false true false true s f g h = some_behind s (f refl)
right_right false true false false s f g h = some_behind s (f refl)
right_right false false true v s f g h = refl
right_right false false false true s f g h = some_behind s (g refl)
right_right false false false false s f g h = rw (h refl refl) refl

agree : (c d : Class) (cs ds : List Class) → length cs ≡ length ds → LeftFirst (c ∷ cs) → LeftFirst (d ∷ ds)
    → Agree (kind_of c (next_inside cs) (some_inside_value cs)) (kind_of d (next_inside ds) (some_inside_value ds)) (later_sum cs ds)
agree on_left on_left cs ds e oc od = refl
agree on_left inside_leaf cs ds e oc od = refl
agree on_left inside_caret cs ds e oc od = refl
agree inside_leaf on_left cs ds e oc od = refl
agree inside_leaf inside_leaf cs ds e oc od = refl
agree inside_leaf inside_caret cs ds e oc od = refl
agree inside_caret on_left cs ds e oc od = refl
agree inside_caret inside_leaf cs ds e oc od = refl
agree inside_caret inside_caret cs ds e oc od = refl
agree on_right on_left cs ds e oc od = right_left (next_inside cs) (some_inside_value cs) (later_sum cs ds)
agree on_right inside_leaf cs ds e oc od = right_leaf (next_inside cs) (some_inside_value cs) (later_sum cs ds)
agree on_right inside_caret cs ds e oc od = right_caret (next_inside cs) (some_inside_value cs) (later_sum cs ds)
agree on_left on_right cs ds e oc od =
    agree_turned (right_kind (next_inside ds) (some_inside_value ds)) LL (later_sum cs ds)
    (right_left (next_inside ds) (some_inside_value ds) (later_sum cs ds))
agree inside_leaf on_right cs ds e oc od =
    agree_turned (right_kind (next_inside ds) (some_inside_value ds)) I0 (later_sum cs ds)
    (right_leaf (next_inside ds) (some_inside_value ds) (later_sum cs ds))
agree inside_caret on_right cs ds e oc od =
    agree_turned (right_kind (next_inside ds) (some_inside_value ds)) IR (later_sum cs ds)
    (right_caret (next_inside ds) (some_inside_value ds) (later_sum cs ds))
agree on_right on_right cs ds e oc od =
    right_right (next_inside cs) (some_inside_value cs) (next_inside ds) (some_inside_value ds) (later_sum cs ds)
    (some_inside_weighs cs ds e) (some_inside-below cs ds e) (all_right cs ds oc od)

-- Fordham's sum is that of Table 1.
pub two_tables : (cs ds : List Class) → length cs ≡ length ds → LeftFirst cs → LeftFirst ds
    → weights (later_kinds cs) (later_kinds ds) ≡ later_sum cs ds
two_tables [] ds e oc od = refl
two_tables (c ∷ cs) [] e oc od = refl
two_tables (c ∷ cs) (d ∷ ds) e oc od =
    rw (two_tables cs ds (omega arith) (left_first-behind c cs oc) (left_first-behind d ds od))
    (agree c d cs ds (omega arith) oc od)
