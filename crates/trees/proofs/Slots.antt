-- A form with exponents on its b side only sends slot k, which is leaf k of the tree with every caret on the right
-- side, to leaf k of the tree with its exponents (000, section 2.5). Points are 0 and the inner points.
--     powers_map es    the map of x0^e0 x1^e1 …          with_digits u c   the digits u in front of a point
--     slot n k c      a point in slot k of n carets     slot-to-leaf     where the map sends it
-- Assumes nothing.
use mathlib.Core.Path.{◌≡◌, refl, sym, ◌∙◌, ap, ap₂, ◌≡⟨◌⟩◌, ◌∎}
use mathlib.Core.List.{List, [], ◌∷◌, ◌++◌, append_assoc}
use Prim.Native.Nat.{ℕ, zero, suc, ◌+◌, ◌<◌}
use native.Mathlib.Omega.{arith}
use Rattle.lists.specs.inside.Entries.{SameEntries}
use Rattle.group.specs.Points.{Digit, 𝟎, 𝟏}
use Rattle.group.specs.Forms.{b_side, a_side, Form, empty, level, exponents}
use Rattle.group.proofs.Inner.{Inner, map_a, map_A, lift, lift_id, lift_lift, lift_cong}
use Rattle.group.proofs.Actions.{iter, levels_map}
use Rattle.group.proofs.Slope.{iter_undo}
use Rattle.group.proofs.Values.{Low, nought, inside, with_digit, on_inner}
use Rattle.group.proofs.Values.{a_on_0, a_on_10, a_on_11, lift_behind_0, lift_behind_1}
use Rattle.trees.specs.Trees.{Tree, leaf, caret, carets, Address}
use Rattle.trees.specs.Readings.{left_edge, later, exponents_of}
use Rattle.trees.proofs.Leaves.{LeafAt, leaf_le}

-- The map of x0^e0 x1^e1 …, level by level.
abbrev pub powers_map : List ℕ → Inner → Inner
powers_map [] p = p
powers_map (e ∷ es) p = iter map_a e (lift (powers_map es) p)

-- The map of a form takes what its a side makes of a point to what its b side makes of it.
pub form_sides : (f : Form) (p : Inner)
    → levels_map f (powers_map (exponents a_side f) p) ≡ powers_map (exponents b_side f) p
form_sides empty p = refl
form_sides (level b a f) p =
    let es : List ℕ = exponents a_side f in
    iter map_a b (lift (levels_map f) (iter map_A a (iter map_a a (lift (powers_map es) p))))
    ≡⟨ ap (λ q. iter map_a b (lift (levels_map f) q)) (iter_undo a (lift (powers_map es) p)) ⟩
    iter map_a b (lift (levels_map f) (lift (powers_map es) p))
    ≡⟨ ap (iter map_a b) (lift_lift (levels_map f) (powers_map es) p) ⟩
    iter map_a b (lift (λ q. levels_map f (powers_map es q)) p)
    ≡⟨ ap (iter map_a b) (lift_cong (form_sides f) p) ⟩
    iter map_a b (lift (powers_map (exponents b_side f)) p) ∎

-- Zeros move no point.
powers_none : (es : List ℕ) → SameEntries es [] → (p : Inner) → powers_map es p ≡ p
powers_none [] h p = refl
powers_none (e ∷ es) h p =
    iter map_a e (lift (powers_map es) p) ≡⟨ ap (λ (k : ℕ). iter map_a k (lift (powers_map es) p)) (h 0) ⟩
    lift (powers_map es) p ≡⟨ lift_cong (powers_none es (λ i. h (suc i))) p ⟩
    lift (λ q. q) p ≡⟨ lift_id p ⟩
    p ∎

-- Lists with the same entries have the same map.
pub powers_same : (es fs : List ℕ) → SameEntries es fs → (p : Inner) → powers_map es p ≡ powers_map fs p
powers_same [] fs h p = sym (powers_none fs (λ i. sym (h i)) p)
powers_same (e ∷ es) [] h p = powers_none (e ∷ es) h p
powers_same (e ∷ es) (f ∷ fs) h p =
    ap (λ (k : ℕ). iter map_a k (lift (powers_map es) p)) (h 0)
    ∙ ap (iter map_a f) (lift_cong (powers_same es fs (λ i. h (suc i))) p)

-- The same with 0.
abbrev low_powers : List ℕ → Low → Low
low_powers es c = on_inner (powers_map es) c

-- Digits in front of a point.
abbrev pub with_digits : List Digit → Low → Low
with_digits [] c = c
with_digits (d ∷ u) c = with_digit d (with_digits u c)

-- One more in the first exponent is one more a.
powers_suc : (e : ℕ) (es : List ℕ) (c : Low) → low_powers (suc e ∷ es) c ≡ on_inner map_a (low_powers (e ∷ es) c)
powers_suc e es nought = refl
powers_suc e es (inside p) = refl

-- k digits 1 in front of a point.
abbrev with_ones : ℕ → Low → Low
with_ones zero c = c
with_ones (suc k) c = with_digit 𝟏 (with_ones k c)

with_ones_add : (n k j : ℕ) (c : Low) → k ≡ n + j → with_ones k c ≡ with_ones n (with_ones j c)
with_ones_add zero k j c e =
    let d : k ≡ j = omega arith in
    ap (λ (m : ℕ). with_ones m c) d
with_ones_add (suc n) zero j c e = absurd (omega arith)
with_ones_add (suc n) (suc k) j c e = ap (with_digit 𝟏) (with_ones_add n k j c (omega arith))

-- A point in slot k of n carets: k digits 1 and a 0 in front of it, or n digits 1 in the last slot.
abbrev pub slot : ℕ → ℕ → Low → Low
slot zero k c = c
slot (suc n) zero c = with_digit 𝟎 c
slot (suc n) (suc k) c = with_digit 𝟏 (slot n k c)

slot_ones : (m n k j s : ℕ) (c : Low) → k ≡ m + j → n ≡ m + s → slot n k c ≡ with_ones m (slot s j c)
slot_ones zero n k j s c e d =
    let x : k ≡ j = omega arith in
    let y : n ≡ s = omega arith in
    ap₂ (λ (v w : ℕ). slot v w c) y x
slot_ones (suc m) zero k j s c e d = absurd (omega arith)
slot_ones (suc m) (suc n) zero j s c e d = absurd (omega arith)
slot_ones (suc m) (suc n) (suc k) j s c e d =
    ap (with_digit 𝟏) (slot_ones m n k j s c (omega arith) (omega arith))

-- Where it is not the last, the carets behind it do not matter.
slot_low : (k n m : ℕ) (c : Low) → k < n → k < m → slot n k c ≡ slot m k c
slot_low k zero m c h g = absurd (omega arith)
slot_low k (suc n) zero c h g = absurd (omega arith)
slot_low zero (suc n) (suc m) c h g = refl
slot_low (suc k) (suc n) (suc m) c h g = ap (with_digit 𝟏) (slot_low k n m c (omega arith) (omega arith))

-- A caret over l and r, and es behind it: the powers with the exponents of l, of r and es, and then a once more.
more_carets : (l r : Tree) (es : List ℕ) (c : Low)
    → low_powers (left_edge (caret l r) ∷ (later (caret l r) ++ es)) c
    ≡ on_inner map_a (low_powers (left_edge l ∷ (later l ++ (left_edge r ∷ (later r ++ es)))) c)
more_carets l r es c =
    ap (λ (xs : List ℕ). low_powers (suc (left_edge l) ∷ xs) c) (append_assoc (later l) (left_edge r ∷ later r) es)
    ∙ powers_suc (left_edge l) (later l ++ (left_edge r ∷ (later r ++ es))) c

-- A tree that hangs on the right side: what lies behind it, and its leaves.
subtree_behind : (l : Tree) (es : List ℕ) (c : Low)
    → low_powers (left_edge l ∷ (later l ++ es)) (with_ones (suc (carets l)) c) ≡ with_digit 𝟏 (low_powers es c)
subtree_behind leaf es c = sym (lift_behind_1 (powers_map es) c)
subtree_behind (caret l r) es c =
    let n : ℕ = suc (carets l) in
    let d : Low = with_ones (suc (carets r)) c in
    let fs : List ℕ = left_edge r ∷ (later r ++ es) in
    let all : List ℕ = left_edge (caret l r) ∷ (later (caret l r) ++ es) in
    low_powers all (with_ones (suc (carets (caret l r))) c)
    ≡⟨ ap (low_powers all) (with_ones_add n (suc (carets l + suc (carets r))) (suc (carets r)) c (omega arith)) ⟩
    low_powers all (with_ones n d)
    ≡⟨ more_carets l r es (with_ones n d) ⟩
    on_inner map_a (low_powers (left_edge l ∷ (later l ++ fs)) (with_ones n d))
    ≡⟨ ap (on_inner map_a) (subtree_behind l fs d) ⟩
    on_inner map_a (with_digit 𝟏 (low_powers fs d))
    ≡⟨ ap (λ (x : Low). on_inner map_a (with_digit 𝟏 x)) (subtree_behind r es c) ⟩
    on_inner map_a (with_digit 𝟏 (with_digit 𝟏 (low_powers es c)))
    ≡⟨ sym (a_on_11 (low_powers es c)) ⟩
    with_digit 𝟏 (low_powers es c) ∎

subtree_in : (l : Tree) (k : ℕ) (u : Address) (es : List ℕ) (c : Low) → LeafAt l k u
    → low_powers (left_edge l ∷ (later l ++ es)) (slot (suc k) k c) ≡ with_digit 𝟎 (with_digits u c)
subtree_in leaf k [] es c h = rw h (sym (lift_behind_0 (powers_map es) c))
subtree_in leaf k (d ∷ u) es c h = absurd h
subtree_in (caret l r) k [] es c h = absurd h
subtree_in (caret l r) k (𝟎 ∷ u) es c h =
    let fs : List ℕ = left_edge r ∷ (later r ++ es) in
    low_powers (left_edge (caret l r) ∷ (later (caret l r) ++ es)) (slot (suc k) k c)
    ≡⟨ more_carets l r es (slot (suc k) k c) ⟩
    on_inner map_a (low_powers (left_edge l ∷ (later l ++ fs)) (slot (suc k) k c))
    ≡⟨ ap (on_inner map_a) (subtree_in l k u fs c h) ⟩
    on_inner map_a (with_digit 𝟎 (with_digits u c))
    ≡⟨ sym (a_on_0 (with_digits u c)) ⟩
    with_digit 𝟎 (with_digit 𝟎 (with_digits u c)) ∎
subtree_in (caret l r) k (𝟏 ∷ u) es c h =
    let n : ℕ = suc (carets l) in
    let j : ℕ = h.0 in
    let d : Low = slot (suc j) j c in
    let fs : List ℕ = left_edge r ∷ (later r ++ es) in
    let ones : slot (suc k) k c ≡ with_ones n d =
    slot_ones n (suc k) k j (suc j) c (omega (arith, h.1)) (omega (arith, h.1)) in
    low_powers (left_edge (caret l r) ∷ (later (caret l r) ++ es)) (slot (suc k) k c)
    ≡⟨ more_carets l r es (slot (suc k) k c) ⟩
    on_inner map_a (low_powers (left_edge l ∷ (later l ++ fs)) (slot (suc k) k c))
    ≡⟨ ap (λ (x : Low). on_inner map_a (low_powers (left_edge l ∷ (later l ++ fs)) x)) ones ⟩
    on_inner map_a (low_powers (left_edge l ∷ (later l ++ fs)) (with_ones n d))
    ≡⟨ ap (on_inner map_a) (subtree_behind l fs d) ⟩
    on_inner map_a (with_digit 𝟏 (low_powers fs d))
    ≡⟨ ap (λ (x : Low). on_inner map_a (with_digit 𝟏 x)) (subtree_in r j u es c h.2) ⟩
    on_inner map_a (with_digit 𝟏 (with_digit 𝟎 (with_digits u c)))
    ≡⟨ sym (a_on_10 (with_digits u c)) ⟩
    with_digit 𝟎 (with_digit 𝟏 (with_digits u c)) ∎

-- The powers with the exponents of a tree send slot k to leaf k.
pub slot_to_leaf : (t : Tree) (k : ℕ) (u : Address) (c : Low) → LeafAt t k u
    → on_inner (powers_map (exponents_of t)) (slot (carets t) k c) ≡ with_digits u c
slot_to_leaf leaf k [] nought h = refl
slot_to_leaf leaf k [] (inside p) h = ap inside (lift_id p)
slot_to_leaf leaf k (d ∷ u) c h = absurd h
slot_to_leaf (caret l r) k [] c h = absurd h
slot_to_leaf (caret l r) k (𝟎 ∷ u) c h =
    ap (low_powers (left_edge l ∷ (later l ++ exponents_of r)))
    (slot_low k (carets l + suc (carets r)) (suc k) c (omega (arith, leaf_le l k u h)) (omega arith))
    ∙ subtree_in l k u (exponents_of r) c h
slot_to_leaf (caret l r) k (𝟏 ∷ u) c h =
    let n : ℕ = suc (carets l) in
    let j : ℕ = h.0 in
    let d : Low = slot (carets r) j c in
    let ones : slot (carets (caret l r)) k c ≡ with_ones n d =
    slot_ones n (carets l + suc (carets r)) k j (carets r) c (omega (arith, h.1)) (omega arith) in
    low_powers (exponents_of (caret l r)) (slot (carets (caret l r)) k c)
    ≡⟨ ap (low_powers (left_edge l ∷ (later l ++ exponents_of r))) ones ⟩
    low_powers (left_edge l ∷ (later l ++ exponents_of r)) (with_ones n d)
    ≡⟨ subtree_behind l (exponents_of r) d ⟩
    with_digit 𝟏 (low_powers (exponents_of r) d)
    ≡⟨ ap (with_digit 𝟏) (slot_to_leaf r j u c h.2) ⟩
    with_digit 𝟏 (with_digits u c) ∎
