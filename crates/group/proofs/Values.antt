-- Digits of a point below 1, and the point that they name: 0, or an inner point. The digit rules of specs/Maps.antt are
-- the maps of the letters on inner points.
--     Low        0, or an inner point             value p       the point below 1 that digits name
--     on_inner g  g, with 0 fixed                  with_digit d   a digit put in front
-- Assumes nothing.
use mathlib.Core.Path.{◌≡◌, refl, sym, ◌∙◌, ap, ◌≡⟨◌⟩◌, ◌∎}
use mathlib.Core.List.{List, [], ◌∷◌}
use Rattle.group.specs.Letters.{Letter, 'a, 'A, 'b, 'B}
use Rattle.group.specs.Points.{Digit, 𝟎, 𝟏, first_digit, later_digits}
use Rattle.group.specs.Maps.{rule_a, rule_A, rule_b, rule_B, move_digits}
use Rattle.group.proofs.Inner.{Inner, half, lower, upper, map_a, map_A, lift, letter_map, A-undoes-a}

pub data Low : Type 0 where
  nought : Low
  inside : Inner → Low

abbrev pub with_digit : Digit → Low → Low
with_digit 𝟎 nought = nought
with_digit 𝟎 (inside p) = inside (lower p)
with_digit 𝟏 nought = inside half
with_digit 𝟏 (inside p) = inside (upper p)

abbrev pub value : List Digit → Low
value [] = nought
value (d ∷ p) = with_digit d (value p)

abbrev pub on_inner : (Inner → Inner) → Low → Low
on_inner g nought = nought
on_inner g (inside p) = inside (g p)

pub on_inner_id : (c : Low) → on_inner (λ p. p) c ≡ c
on_inner_id nought = refl
on_inner_id (inside p) = refl

pub on_inner_twice : (f g : Inner → Inner) (c : Low) → on_inner f (on_inner g c) ≡ on_inner (λ p. f (g p)) c
on_inner_twice f g nought = refl
on_inner_twice f g (inside p) = refl

pub on_inner_cong : (f g : Inner → Inner) → ((p : Inner) → f p ≡ g p) → (c : Low) → on_inner f c ≡ on_inner g c
on_inner_cong f g h nought = refl
on_inner_cong f g h (inside p) = ap inside (h p)

-- The three rules of a: 0 by 00, 10 by 01, 11 by 1.
pub a_on_0 : (c : Low) → with_digit 𝟎 (with_digit 𝟎 c) ≡ on_inner map_a (with_digit 𝟎 c)
a_on_0 nought = refl
a_on_0 (inside p) = refl

pub a_on_10 : (c : Low) → with_digit 𝟎 (with_digit 𝟏 c) ≡ on_inner map_a (with_digit 𝟏 (with_digit 𝟎 c))
a_on_10 nought = refl
a_on_10 (inside p) = refl

pub a_on_11 : (c : Low) → with_digit 𝟏 c ≡ on_inner map_a (with_digit 𝟏 (with_digit 𝟏 c))
a_on_11 nought = refl
a_on_11 (inside p) = refl

-- Those of A are the same, read the other way.
undone : (c d : Low) → d ≡ on_inner map_a c → c ≡ on_inner map_A d
undone c d e =
    sym
    (on_inner map_A d ≡⟨ ap (on_inner map_A) e ⟩
    on_inner map_A (on_inner map_a c) ≡⟨ on_inner_twice map_A map_a c ⟩
    on_inner (λ p. map_A (map_a p)) c ≡⟨ on_inner_cong (λ p. map_A (map_a p)) (λ p. p) A-undoes-a c ⟩
    on_inner (λ p. p) c ≡⟨ on_inner_id c ⟩
    c ∎)

rule_a_value : (d e : Digit) (r : List Digit) → value (rule_a d e r) ≡ on_inner map_a (value (d ∷ e ∷ r))
rule_a_value 𝟎 e r = a_on_0 (with_digit e (value r))
rule_a_value 𝟏 𝟎 r = a_on_10 (value r)
rule_a_value 𝟏 𝟏 r = a_on_11 (value r)

rule_A_value : (d e : Digit) (r : List Digit) → value (rule_A d e r) ≡ on_inner map_A (value (d ∷ e ∷ r))
rule_A_value 𝟎 𝟎 r = undone (value (𝟎 ∷ r)) (value (𝟎 ∷ 𝟎 ∷ r)) (a_on_0 (value r))
rule_A_value 𝟎 𝟏 r = undone (value (𝟏 ∷ 𝟎 ∷ r)) (value (𝟎 ∷ 𝟏 ∷ r)) (a_on_10 (value r))
rule_A_value 𝟏 e r = undone (value (𝟏 ∷ 𝟏 ∷ e ∷ r)) (value (𝟏 ∷ e ∷ r)) (a_on_11 (with_digit e (value r)))

-- b and B are a and A behind a leading digit 1, and change nothing behind a leading 0.
rule_b_behind_1 : (e f : Digit) (r : List Digit) → rule_b 𝟏 e f r ≡ 𝟏 ∷ rule_a e f r
rule_b_behind_1 𝟎 f r = refl
rule_b_behind_1 𝟏 𝟎 r = refl
rule_b_behind_1 𝟏 𝟏 r = refl

rule_B_behind_1 : (e f : Digit) (r : List Digit) → rule_B 𝟏 e f r ≡ 𝟏 ∷ rule_A e f r
rule_B_behind_1 𝟎 𝟎 r = refl
rule_B_behind_1 𝟎 𝟏 r = refl
rule_B_behind_1 𝟏 f r = refl

-- A lifted map behind a leading digit: nothing behind 0, the map itself behind 1.
pub lift_behind_0 : (g : Inner → Inner) (c : Low) → with_digit 𝟎 c ≡ on_inner (lift g) (with_digit 𝟎 c)
lift_behind_0 g nought = refl
lift_behind_0 g (inside p) = refl

pub lift_behind_1 : (g : Inner → Inner) (c : Low) → with_digit 𝟏 (on_inner g c) ≡ on_inner (lift g) (with_digit 𝟏 c)
lift_behind_1 g nought = refl
lift_behind_1 g (inside p) = refl

rule_b_value : (d e f : Digit) (r : List Digit) → value (rule_b d e f r) ≡ on_inner (lift map_a) (value (d ∷ e ∷ f ∷ r))
rule_b_value 𝟎 e f r = lift_behind_0 map_a (value (e ∷ f ∷ r))
rule_b_value 𝟏 e f r =
    value (rule_b 𝟏 e f r) ≡⟨ ap value (rule_b_behind_1 e f r) ⟩
    with_digit 𝟏 (value (rule_a e f r)) ≡⟨ ap (with_digit 𝟏) (rule_a_value e f r) ⟩
    with_digit 𝟏 (on_inner map_a (value (e ∷ f ∷ r))) ≡⟨ lift_behind_1 map_a (value (e ∷ f ∷ r)) ⟩
    on_inner (lift map_a) (value (𝟏 ∷ e ∷ f ∷ r)) ∎

rule_B_value : (d e f : Digit) (r : List Digit) → value (rule_B d e f r) ≡ on_inner (lift map_A) (value (d ∷ e ∷ f ∷ r))
rule_B_value 𝟎 e f r = lift_behind_0 map_A (value (e ∷ f ∷ r))
rule_B_value 𝟏 e f r =
    value (rule_B 𝟏 e f r) ≡⟨ ap value (rule_B_behind_1 e f r) ⟩
    with_digit 𝟏 (value (rule_A e f r)) ≡⟨ ap (with_digit 𝟏) (rule_A_value e f r) ⟩
    with_digit 𝟏 (on_inner map_A (value (e ∷ f ∷ r))) ≡⟨ lift_behind_1 map_A (value (e ∷ f ∷ r)) ⟩
    on_inner (lift map_A) (value (𝟏 ∷ e ∷ f ∷ r)) ∎

-- Reading a digit past the end, as 0, changes no value.
pub value_1 : (p : List Digit) → value (first_digit p ∷ later_digits p) ≡ value p
value_1 [] = refl
value_1 (d ∷ p) = refl

value_2 : (p : List Digit) → value (first_digit p ∷ first_digit (later_digits p) ∷ later_digits (later_digits p)) ≡ value p
value_2 p = ap (with_digit (first_digit p)) (value_1 (later_digits p)) ∙ value_1 p

value_3 : (p q : List Digit) → q ≡ later_digits p
    → value (first_digit p ∷ first_digit q ∷ first_digit (later_digits q) ∷ later_digits (later_digits q)) ≡ value p
value_3 p q e =
    with_digit (first_digit p) (value (first_digit q ∷ first_digit (later_digits q) ∷ later_digits (later_digits q)))
    ≡⟨ ap (with_digit (first_digit p)) (value_2 q) ⟩
    with_digit (first_digit p) (value q)
    ≡⟨ ap (λ (r : List Digit). value (first_digit p ∷ r)) e ⟩
    value (first_digit p ∷ later_digits p)
    ≡⟨ value_1 p ⟩
    value p ∎

pub move_digits_value : (x : Letter) (p : List Digit) → value (move_digits x p) ≡ on_inner (letter_map x) (value p)
move_digits_value 'a p =
    rule_a_value (first_digit p) (first_digit (later_digits p)) (later_digits (later_digits p))
    ∙ ap (on_inner map_a) (value_2 p)
move_digits_value 'A p =
    rule_A_value (first_digit p) (first_digit (later_digits p)) (later_digits (later_digits p))
    ∙ ap (on_inner map_A) (value_2 p)
move_digits_value 'b p =
    let q : List Digit = later_digits p in
    rule_b_value (first_digit p) (first_digit q) (first_digit (later_digits q)) (later_digits (later_digits q))
    ∙ ap (on_inner (lift map_a)) (value_3 p q refl)
move_digits_value 'B p =
    let q : List Digit = later_digits p in
    rule_B_value (first_digit p) (first_digit q) (first_digit (later_digits q)) (later_digits (later_digits q))
    ∙ ap (on_inner (lift map_A)) (value_3 p q refl)
