-- The map of a form sends leaf k of the one tree to leaf k of the other, for every pair of trees with the form's
-- exponents, and every point below 1 lies in a leaf (000, sections 2.5 and 2.5.1). Assumes nothing.
use mathlib.Core.Path.{◌≡◌, refl, sym, ap, subst, ◌≡⟨◌⟩◌, ◌∎}
use mathlib.Core.List.{List, [], ◌∷◌, ◌++◌}
use Prim.Native.Nat.{ℕ, zero, suc, ◌+◌}
use Rattle.group.specs.Points.{Digit, 𝟎, 𝟏, Point, below1, first_digit, later_digits, digit_at, SamePoint}
use Rattle.group.specs.Forms.{b_side, a_side, Form, exponents, letters}
use Rattle.group.proofs.Inner.{Inner, act}
use Rattle.group.proofs.Actions.{levels_map, act_letters}
use Rattle.group.proofs.Values.{Low, with_digit, value, on_inner, on_inner_twice, on_inner_cong}
use Rattle.group.proofs.Digits.{move_all, map_below1, move_all_value, value→same}
use Rattle.trees.specs.Trees.{Tree, leaf, caret, carets, Address}
use Rattle.trees.specs.Pairs.{Pair, SendsLeaves, InLeaf}
use Rattle.trees.specs.Readings.{exponents_of}
use Rattle.trees.proofs.Leaves.{LeafAt, to_leaf, of_leaf}
use Rattle.trees.proofs.Exponents.{side_entries}
use Rattle.trees.proofs.Slots.{powers_map, form_sides, powers_same, with_digits, slot, slot_to_leaf}

-- What the levels of a form do to a point with the digits of an address in front.
levels_send : (f : Form) (t s : Tree) → Pair f t s → (k : ℕ) (u v : Address) (c : Low) → LeafAt t k u → LeafAt s k v
    → on_inner (levels_map f) (with_digits u c) ≡ with_digits v c
levels_send f t s pair k u v c lt ls =
    let d : Low = slot (carets t) k c in
    let minus : List ℕ = exponents a_side f in
    let plus : List ℕ = exponents b_side f in
    let of-t : (p : Inner) → powers_map (exponents_of t) p ≡ powers_map minus p =
    powers_same (exponents_of t) minus (side_entries a_side f t pair.a_exponents) in
    let of-s : (p : Inner) → powers_map plus p ≡ powers_map (exponents_of s) p =
    powers_same plus (exponents_of s) (λ j. sym (side_entries b_side f s pair.b_exponents j)) in
    on_inner (levels_map f) (with_digits u c)
    ≡⟨ ap (on_inner (levels_map f)) (sym (slot_to_leaf t k u c lt)) ⟩
    on_inner (levels_map f) (on_inner (powers_map (exponents_of t)) d)
    ≡⟨ ap (on_inner (levels_map f)) (on_inner_cong (powers_map (exponents_of t)) (powers_map minus) of-t d) ⟩
    on_inner (levels_map f) (on_inner (powers_map minus) d)
    ≡⟨ on_inner_twice (levels_map f) (powers_map minus) d ⟩
    on_inner (λ p. levels_map f (powers_map minus p)) d
    ≡⟨ on_inner_cong (λ p. levels_map f (powers_map minus p)) (powers_map plus) (form_sides f) d ⟩
    on_inner (powers_map plus) d
    ≡⟨ on_inner_cong (powers_map plus) (powers_map (exponents_of s)) of-s d ⟩
    on_inner (powers_map (exponents_of s)) d
    ≡⟨ ap (λ (m : ℕ). on_inner (powers_map (exponents_of s)) (slot m k c)) pair.same_size ⟩
    on_inner (powers_map (exponents_of s)) (slot (carets s) k c)
    ≡⟨ slot_to_leaf s k v c ls ⟩
    with_digits v c ∎

-- The value of digits with an address in front.
value_append : (u r : List Digit) → value (u ++ r) ≡ with_digits u (value r)
value_append [] r = refl
value_append (d ∷ u) r = ap (with_digit d) (value_append u r)

-- The form's map sends leaf k to leaf k.
pub pair_sends : (f : Form) (t s : Tree) → Pair f t s → SendsLeaves f t s
pair_sends f t s pair k u v lt ls r =
    subst (λ (x : Point). SamePoint x (below1 (v ++ r))) (sym (map_below1 (letters f) (u ++ r)))
    (value→same (move_all (letters f) (u ++ r)) (v ++ r)
    (value (move_all (letters f) (u ++ r))
    ≡⟨ move_all_value (letters f) (u ++ r) ⟩
    on_inner (act (letters f)) (value (u ++ r))
    ≡⟨ on_inner_cong (act (letters f)) (levels_map f) (act_letters f) (value (u ++ r)) ⟩
    on_inner (levels_map f) (value (u ++ r))
    ≡⟨ ap (on_inner (levels_map f)) (value_append u r) ⟩
    on_inner (levels_map f) (with_digits u (value r))
    ≡⟨ levels_send f t s pair k u v (value r) (to_leaf t k u lt) (to_leaf s k v ls) ⟩
    with_digits v (value r)
    ≡⟨ sym (value_append v r) ⟩
    value (v ++ r) ∎))

-- Every point below 1 lies in a leaf.
pub in_leaf : (t : Tree) (p : List Digit) → InLeaf t p
in_leaf leaf p = record { number = 0; address = []; rest = p; is_leaf = refl; same = λ n. refl }
in_leaf (caret l r) p = go (first_digit p) refl (in_leaf l (later_digits p)) (in_leaf r (later_digits p))
  where
    same_with : (d : Digit) (u s : List Digit) → first_digit p ≡ d
        → ((n : ℕ) → digit_at (later_digits p) n ≡ digit_at (u ++ s) n) → (n : ℕ) → digit_at p n ≡ digit_at ((d ∷ u) ++ s) n
    same_with d u s e h zero = e
    same_with d u s e h (suc n) = h n

    go : (d : Digit) → first_digit p ≡ d → InLeaf l (later_digits p) → InLeaf r (later_digits p) → InLeaf (caret l r) p
    go 𝟎 e x y = record {
      number = x.number;
      address = 𝟎 ∷ x.address;
      rest = x.rest;
      is_leaf =
          of_leaf (caret l r) x.number (𝟎 ∷ x.address) (to_leaf l x.number x.address x.is_leaf);
      same = same_with 𝟎 x.address x.rest e x.same;
    }
    go 𝟏 e x y = record {
      number = suc (carets l + y.number);
      address = 𝟏 ∷ y.address;
      rest = y.rest;
      is_leaf =
          of_leaf (caret l r) (suc (carets l + y.number)) (𝟏 ∷ y.address)
          (y.number, refl, to_leaf r y.number y.address y.is_leaf);
      same = same_with 𝟏 y.address y.rest e y.same;
    }
