-- Two words have the same map at every dyadic point from 0 to 1 just when they move every inner point alike; the ends
-- are fixed, and the zeros behind a point's last digit make no difference. Assumes nothing.
use mathlib.Core.Path.{◌≡◌, refl, sym, ◌∙◌, ap, subst, subst₂, ◌≡⟨◌⟩◌, ◌∎}
use mathlib.Core.List.{List, [], ◌∷◌}
use Prim.Native.Nat.{ℕ, zero, suc}
use native.Mathlib.Omega.{arith}
use Rattle.group.specs.Letters.{Word}
use Rattle.group.specs.Points.{Digit, 𝟎, 𝟏, Point, below1, end1, first_digit, later_digits, digit_at, SamePoint}
use Rattle.group.specs.Maps.{move_digits, move_letter, map_of, SameMap}
use Rattle.group.proofs.Inner.{Inner, half, lower, upper, letter_map, act}
use Rattle.group.proofs.Values.{Low, nought, inside, with_digit, value, value_1, move_digits_value, on_inner}
use Rattle.group.proofs.Values.{on_inner_id, on_inner_twice, on_inner_cong}

-- The digits that a word makes of digits.
abbrev pub move_all : Word → List Digit → List Digit
move_all [] p = p
move_all (x ∷ w) p = move_digits x (move_all w p)

-- A word's map takes a point below 1 to the point of the digits that the word makes.
pub map_below1 : (w : Word) (p : List Digit) → map_of w (below1 p) ≡ below1 (move_all w p)
map_below1 [] p = refl
map_below1 (x ∷ w) p = ap (move_letter x) (map_below1 w p)

-- The point 1 is fixed.
map_end1 : (w : Word) → map_of w end1 ≡ end1
map_end1 [] = refl
map_end1 (x ∷ w) = ap (move_letter x) (map_end1 w)

-- The value of what a word makes of digits.
pub move_all_value : (w : Word) (p : List Digit) → value (move_all w p) ≡ on_inner (act w) (value p)
move_all_value [] p = sym (on_inner_id (value p))
move_all_value (x ∷ w) p =
    value (move_digits x (move_all w p)) ≡⟨ move_digits_value x (move_all w p) ⟩
    on_inner (letter_map x) (value (move_all w p)) ≡⟨ ap (on_inner (letter_map x)) (move_all_value w p) ⟩
    on_inner (letter_map x) (on_inner (act w) (value p)) ≡⟨ on_inner_twice (letter_map x) (act w) (value p) ⟩
    on_inner (act (x ∷ w)) (value p) ∎

-- The digits of a value, at every place.
abbrev inner_digit : Inner → ℕ → Digit
inner_digit half zero = 𝟏
inner_digit half (suc n) = 𝟎
inner_digit (lower p) zero = 𝟎
inner_digit (lower p) (suc n) = inner_digit p n
inner_digit (upper p) zero = 𝟏
inner_digit (upper p) (suc n) = inner_digit p n

abbrev low_digit : Low → ℕ → Digit
low_digit nought n = 𝟎
low_digit (inside p) n = inner_digit p n

with_digit_first : (d : Digit) (c : Low) → low_digit (with_digit d c) 0 ≡ d
with_digit_first 𝟎 nought = refl
with_digit_first 𝟎 (inside p) = refl
with_digit_first 𝟏 nought = refl
with_digit_first 𝟏 (inside p) = refl

with_digit_later : (d : Digit) (c : Low) (n : ℕ) → low_digit (with_digit d c) (suc n) ≡ low_digit c n
with_digit_later 𝟎 nought n = refl
with_digit_later 𝟎 (inside p) n = refl
with_digit_later 𝟏 nought n = refl
with_digit_later 𝟏 (inside p) n = refl

digit_value : (p : List Digit) (n : ℕ) → digit_at p n ≡ low_digit (value p) n
digit_value p zero =
    sym (ap (λ c. low_digit c 0) (sym (value_1 p)) ∙ with_digit_first (first_digit p) (value (later_digits p)))
digit_value p (suc n) =
    digit_at (later_digits p) n ≡⟨ digit_value (later_digits p) n ⟩
    low_digit (value (later_digits p)) n ≡⟨ sym (with_digit_later (first_digit p) (value (later_digits p)) n) ⟩
    low_digit (value (first_digit p ∷ later_digits p)) (suc n) ≡⟨ ap (λ c. low_digit c (suc n)) (value_1 p) ⟩
    low_digit (value p) (suc n) ∎

-- Values with the same digits are the same.
digits_differ : 𝟎 ≡ 𝟏 → ⊥
digits_differ e =
    let w : ◌≡◌ {A = ℕ} 0 1 = cc in
    omega arith

not_nought : (p : Inner) → ((n : ℕ) → 𝟎 ≡ inner_digit p n) → ⊥
not_nought half h = digits_differ (h 0)
not_nought (lower p) h = not_nought p (λ n. h (suc n))
not_nought (upper p) h = digits_differ (h 0)

inner_equal : (p q : Inner) → ((n : ℕ) → inner_digit p n ≡ inner_digit q n) → p ≡ q
inner_equal half half h = refl
inner_equal half (lower q) h = absurd (digits_differ (sym (h 0)))
inner_equal half (upper q) h = absurd (not_nought q (λ n. h (suc n)))
inner_equal (lower p) half h = absurd (digits_differ (h 0))
inner_equal (lower p) (lower q) h = ap lower (inner_equal p q (λ n. h (suc n)))
inner_equal (lower p) (upper q) h = absurd (digits_differ (h 0))
inner_equal (upper p) half h = absurd (not_nought p (λ n. sym (h (suc n))))
inner_equal (upper p) (lower q) h = absurd (digits_differ (sym (h 0)))
inner_equal (upper p) (upper q) h = ap upper (inner_equal p q (λ n. h (suc n)))

-- Every inner point has digits.
abbrev digits : Inner → List Digit
digits half = 𝟏 ∷ []
digits (lower p) = 𝟎 ∷ digits p
digits (upper p) = 𝟏 ∷ digits p

value_digits : (p : Inner) → value (digits p) ≡ inside p
value_digits half = refl
value_digits (lower p) = ap (with_digit 𝟎) (value_digits p)
value_digits (upper p) = ap (with_digit 𝟏) (value_digits p)

low_equal : (c d : Low) → ((n : ℕ) → low_digit c n ≡ low_digit d n) → c ≡ d
low_equal nought nought h = refl
low_equal nought (inside q) h = absurd (not_nought q h)
low_equal (inside p) nought h = absurd (not_nought p (λ n. sym (h n)))
low_equal (inside p) (inside q) h = ap inside (inner_equal p q h)

-- Digits of one point have one value.
same→value : (p q : List Digit) → SamePoint (below1 p) (below1 q) → value p ≡ value q
same→value p q h =
    low_equal (value p) (value q)
    (λ n.
    low_digit (value p) n ≡⟨ sym (digit_value p n) ⟩
    digit_at p n ≡⟨ h n ⟩
    digit_at q n ≡⟨ digit_value q n ⟩
    low_digit (value q) n ∎)

-- Digits of one value are one point.
pub value→same : (p q : List Digit) → value p ≡ value q → SamePoint (below1 p) (below1 q)
value→same p q e n =
    digit_at p n ≡⟨ digit_value p n ⟩
    low_digit (value p) n ≡⟨ ap (λ c. low_digit c n) e ⟩
    low_digit (value q) n ≡⟨ sym (digit_value q n) ⟩
    digit_at q n ∎

-- The ends are fixed, and the zeros behind the last digit make no difference.
pub map_1 : (w : Word) → SamePoint (map_of w end1) end1
map_1 w = subst (λ (x : Point). SamePoint x end1) (sym (map_end1 w)) tt

pub map_0 : (w : Word) → SamePoint (map_of w (below1 [])) (below1 [])
map_0 w =
    subst (λ (x : Point). SamePoint x (below1 [])) (sym (map_below1 w []))
    (value→same (move_all w []) [] (move_all_value w []))

pub map_respects : (w : Word) (x y : Point) → SamePoint x y → SamePoint (map_of w x) (map_of w y)
map_respects w end1 end1 h = subst₂ SamePoint (sym (map_end1 w)) (sym (map_end1 w)) tt
map_respects w end1 (below1 q) h = absurd h
map_respects w (below1 p) end1 h = absurd h
map_respects w (below1 p) (below1 q) h =
    subst₂ SamePoint (sym (map_below1 w p)) (sym (map_below1 w q))
    (value→same (move_all w p) (move_all w q)
    (value (move_all w p) ≡⟨ move_all_value w p ⟩
    on_inner (act w) (value p) ≡⟨ ap (on_inner (act w)) (same→value p q h) ⟩
    on_inner (act w) (value q) ≡⟨ sym (move_all_value w q) ⟩
    value (move_all w q) ∎))

pub act→map : (u v : Word) → ((p : Inner) → act u p ≡ act v p) → SameMap u v
act→map u v h end1 = subst₂ SamePoint (sym (map_end1 u)) (sym (map_end1 v)) tt
act→map u v h (below1 p) =
    subst₂ SamePoint (sym (map_below1 u p)) (sym (map_below1 v p))
    (value→same (move_all u p) (move_all v p)
    (value (move_all u p) ≡⟨ move_all_value u p ⟩
    on_inner (act u) (value p) ≡⟨ on_inner_cong (act u) (act v) h (value p) ⟩
    on_inner (act v) (value p) ≡⟨ sym (move_all_value v p) ⟩
    value (move_all v p) ∎))

inside_injective : (p q : Inner) → inside p ≡ inside q → p ≡ q
inside_injective p q e = cc

-- What a word makes of an inner point, by its digits.
act_value : (w : Word) (p : Inner) → value (move_all w (digits p)) ≡ inside (act w p)
act_value w p = move_all_value w (digits p) ∙ ap (on_inner (act w)) (value_digits p)

pub map→act : (u v : Word) → SameMap u v → (p : Inner) → act u p ≡ act v p
map→act u v h p =
    inside_injective (act u p) (act v p)
    (inside (act u p) ≡⟨ sym (act_value u p) ⟩
    value (move_all u (digits p)) ≡⟨ same→value (move_all u (digits p)) (move_all v (digits p)) same ⟩
    value (move_all v (digits p)) ≡⟨ act_value v p ⟩
    inside (act v p) ∎)
  where
    same : SamePoint (below1 (move_all u (digits p))) (below1 (move_all v (digits p)))
    same = subst₂ SamePoint (map_below1 u (digits p)) (map_below1 v (digits p)) (h (below1 (digits p)))
