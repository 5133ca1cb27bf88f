-- The map of a word on the dyadic points from 0 to 1 (01, 'Letters and maps'). The maps of a and b are the functions
-- that 000, section 2.2, calls A(x) and B(x); here A and B are the inverses of a and b.
--     rule_a …      the rules of a letter, on the two or three digits they read and the rest, which they leave
--     map_of w       the map of a word: the RIGHTMOST letter acts first, as in the papers (most systems: the leftmost)
--     SameMap u v   u and v move every dyadic point from 0 to 1 alike
-- Assumes nothing.
use Rattle.std.specs.Prelude.{List, [], ◌∷◌}
use Rattle.group.specs.Letters.{Letter, 'a, 'A, 'b, 'B, Word}
use Rattle.group.specs.Points.{Digit, 𝟎, 𝟏, Point, below1, end1, first_digit, later_digits, SamePoint}

-- a: 0 by 00, 10 by 01, 11 by 1.
abbrev pub rule_a : Digit → Digit → List Digit → List Digit
rule_a 𝟎 e r = 𝟎 ∷ 𝟎 ∷ e ∷ r
rule_a 𝟏 𝟎 r = 𝟎 ∷ 𝟏 ∷ r
rule_a 𝟏 𝟏 r = 𝟏 ∷ r

-- A undoes a: 00 by 0, 01 by 10, 1 by 11.
abbrev pub rule_A : Digit → Digit → List Digit → List Digit
rule_A 𝟎 𝟎 r = 𝟎 ∷ r
rule_A 𝟎 𝟏 r = 𝟏 ∷ 𝟎 ∷ r
rule_A 𝟏 e r = 𝟏 ∷ 𝟏 ∷ e ∷ r

-- b: 0 by 0, 10 by 100, 110 by 101, 111 by 11.
abbrev pub rule_b : Digit → Digit → Digit → List Digit → List Digit
rule_b 𝟎 e f r = 𝟎 ∷ e ∷ f ∷ r
rule_b 𝟏 𝟎 f r = 𝟏 ∷ 𝟎 ∷ 𝟎 ∷ f ∷ r
rule_b 𝟏 𝟏 𝟎 r = 𝟏 ∷ 𝟎 ∷ 𝟏 ∷ r
rule_b 𝟏 𝟏 𝟏 r = 𝟏 ∷ 𝟏 ∷ r

-- B undoes b: 0 by 0, 100 by 10, 101 by 110, 11 by 111.
abbrev pub rule_B : Digit → Digit → Digit → List Digit → List Digit
rule_B 𝟎 e f r = 𝟎 ∷ e ∷ f ∷ r
rule_B 𝟏 𝟎 𝟎 r = 𝟏 ∷ 𝟎 ∷ r
rule_B 𝟏 𝟎 𝟏 r = 𝟏 ∷ 𝟏 ∷ 𝟎 ∷ r
rule_B 𝟏 𝟏 f r = 𝟏 ∷ 𝟏 ∷ 𝟏 ∷ f ∷ r

-- What a letter makes of the digits of a point below 1.
abbrev pub move_digits : Letter → List Digit → List Digit
move_digits 'a p = rule_a (first_digit p) (first_digit (later_digits p)) (later_digits (later_digits p))
move_digits 'A p = rule_A (first_digit p) (first_digit (later_digits p)) (later_digits (later_digits p))
move_digits 'b p =
    let q : List Digit = later_digits p in
    rule_b (first_digit p) (first_digit q) (first_digit (later_digits q)) (later_digits (later_digits q))
move_digits 'B p =
    let q : List Digit = later_digits p in
    rule_B (first_digit p) (first_digit q) (first_digit (later_digits q)) (later_digits (later_digits q))

-- The map of a letter. The end 1 is fixed by this definition, the end 0 by the rules.
abbrev pub move_letter : Letter → Point → Point
move_letter x (below1 p) = below1 (move_digits x p)
move_letter x end1 = end1

-- The map of a word: its letters' maps composed, the rightmost letter first.
abbrev pub map_of : Word → Point → Point
map_of [] p = p
map_of (x ∷ w) p = move_letter x (map_of w p)

-- Two words have the same map: they move every dyadic point from 0 to 1 alike.
abbrev pub SameMap : Word → Word → Type 0
SameMap u v = (p : Point) → SamePoint (map_of u p) (map_of v p)
