-- What the papers say of letters, maps, generators and reducing beside the demands, and what later calls use of forms,
-- a claim each; proofs/Sentences.antt has the proofs, under the same names in snake case. Names beside
-- those that Forms.antt explains, with the file of group/specs that defines them:
--     inverse_letter, inverse    the inverse of a letter, of a word                               Letters
--     JoinedBy S u v             a chain whose steps use the strings of S joins u to v            Chains
--     below1 p, end1             the point below 1 with the digits p; the end 1                   Points
--     SamePoint, map_of w        one point, by its digits; the map of a word                      Points, Maps
--     generator k                x_k by letters                                                   Forms
--     Infinite                   the relators of the infinite presentation                        Presentations
--     Applies i f                a reducing step applies at i                                     Reducing
--     ReducingStep i f g         the step at i leads from f to g                                  Reducing
--     Steps n f g                n steps, in any order, lead from f to g                          Reducing
--     times_letter, behind_letter  a letter put in front of a form, behind it                     Products
--     exchange f                 f with its sides exchanged                                       Products
-- Assumes nothing.
use Rattle.std.specs.Prelude.{◌≡◌, [], ◌∷◌, ◌++◌, ◌↔◌, ℕ, suc, ◌+◌, ◌<◌, ◌≤◌}
use Rattle.group.specs.Letters.{Letter, Word, inverse_letter, inverse}
use Rattle.group.specs.Chains.{JoinedBy, Joined}
use Rattle.group.specs.Points.{Point, below1, end1, SamePoint}
use Rattle.group.specs.Maps.{map_of, SameMap}
use Rattle.group.specs.Forms.{Form, generator, SameExponents, exponent_sum, letters}
use Rattle.group.specs.Presentations.{Infinite}
use Rattle.group.specs.Reducing.{Reduced, Applies, ReducingStep, Steps}
use Rattle.group.specs.Products.{times_letter, form_of, exchange, behind_letter}

-- 01, 'Letters and maps': A and B undo a and b; and a and b undo A and B.
abbrev pub InverseUndoes : Type 0
InverseUndoes = (x : Letter) → SameMap (inverse_letter x ∷ x ∷ []) []

-- Ends 0 and 1 are fixed.
pub record EndsFixed : Type 0 where
  pub at_0 : (w : Word) → SamePoint (map_of w (below1 [])) (below1 [])
  pub at_1 : (w : Word) → SamePoint (map_of w end1) end1

-- The zeros behind the last digit of a point make no difference to where it is moved.
abbrev pub ZerosIgnored : Type 0
ZerosIgnored = (w : Word) (p q : Point) → SamePoint p q → SamePoint (map_of w p) (map_of w q)

-- x_i⁻¹ x_j x_i = x_(j+1) for i below j.
abbrev pub GeneratorsConjugate : Type 0
GeneratorsConjugate =
    (i j : ℕ) → i < j → Joined (inverse (generator i) ++ (generator j ++ generator i)) (generator (suc j))

-- 000, section 2.1: the finite and the infinite presentation give the same group.
abbrev pub PresentationsAgree : Type 0
PresentationsAgree = (u v : Word) → JoinedBy Infinite u v ↔ Joined u v

-- 000, section 2.4: the group of the presentation and the group of the maps are the same.
abbrev pub JoinedIsOneMap : Type 0
JoinedIsOneMap = (u v : Word) → Joined u v ↔ SameMap u v

-- 01, 'The reduced form': a reducing step changes neither the element nor its map.
abbrev pub StepKeepsElement : Type 0
StepKeepsElement =
    (i : ℕ) (f g : Form) → ReducingStep i f g → Joined (letters f) (letters g) × SameMap (letters f) (letters g)

-- Where a step applies it can be taken.
abbrev pub StepCanBeTaken : Type 0
StepCanBeTaken = (i : ℕ) (f : Form) → Applies i f → (g : Form) × ReducingStep i f g

-- A form is reduced just when no step applies.
abbrev pub ReducedIsNoStep : Type 0
ReducedIsNoStep = (f : Form) → Reduced f ↔ ((i : ℕ) → Applies i f → ⊥)

-- Steps go on until none applies: in any order they end, and in the one reduced form.
pub record StepsEnd : Type 0 where
  pub bounded : (n : ℕ) (f g : Form) → Steps n f g → n + n ≤ exponent_sum f
  pub reaches : (f : Form) → (n : ℕ) × (g : Form) × Steps n f g × Reduced g
  pub same_end : (n : ℕ) (f g : Form) → Steps n f g → Reduced g → SameExponents g (form_of (letters f))

-- Of any form, reduced or not: a letter put in front, or behind, stands in front of the form's letters, or behind them.
pub record LettersAtEnds : Type 0 where
  pub in_front : (x : Letter) (f : Form) → Joined (letters (times_letter x f)) (x ∷ letters f)
  pub behind : (f : Form) (x : Letter) → Joined (letters (behind_letter f x)) (letters f ++ (x ∷ []))

-- The form of a word with a letter behind it: the inverse letter put in front, between two exchanges of the sides.
abbrev pub BehindIsInFront : Type 0
BehindIsInFront =
    (w : Word) (x : Letter)
    → form_of (w ++ (x ∷ [])) ≡ exchange (times_letter (inverse_letter x) (exchange (form_of w)))

-- The form of the inverse has its sides exchanged.
abbrev pub InverseExchanges : Type 0
InverseExchanges = (w : Word) → form_of (inverse w) ≡ exchange (form_of w)

-- 02, [7]: same and inverse hold together only of the identity: a word that a chain joins to its inverse is joined to
-- the empty word.
abbrev pub OnlyIdentityIsItsInverse : Type 0
OnlyIdentityIsItsInverse = (w : Word) → Joined w (inverse w) → Joined w []
