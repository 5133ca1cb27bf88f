-- What the demands come to for words and their forms. Each claim is a type; proofs/Forms.antt has its proof, under
-- the same name in snake case. What the claims speak of, with the file of group/specs that defines it:
--     Word              a string of the letters a, A, b, B, of any length                         Letters
--     Joined u v        a chain of steps, each with one of eight strings, leads from u to v       Chains
--     SameMap u v       u and v move every dyadic point from 0 to 1 alike, rightmost letter first Maps
--     Form              x0^b0 … xn^bn xn^−an … x0^−a0, by its levels (b_i, a_i)                   Forms
--     exponent s f i    b_i (the Side s is b_side) or a_i (s is a_side)                           Forms
--     SameExponents f g the same b_i and a_i at every i                                           Forms
--     exponent_sum f    the number of letters x_k and x_k⁻¹ of f                                  Forms
--     letters f         f written out: each power of an x_k, in order, by the letters of x_k      Forms
--     Trimmed f         the last level is not (0, 0), so that equal exponents are equal forms     Forms
--     Reduced f         where a_i and b_i are above 0, so is a_(i+1) or b_(i+1)                   Reducing
--     form_of w         the form worked out for the word w, letter by letter                      Products
-- The demands on the calls are in Demands.antt. Assumes nothing.
use Rattle.std.specs.Prelude.{◌≡◌, ◌↔◌, ℕ, ◌<◌, ◌≤◌, length}
use Rattle.group.specs.Letters.{Word}
use Rattle.group.specs.Chains.{Joined}
use Rattle.group.specs.Maps.{SameMap}
use Rattle.group.specs.Forms.{Side, Form, exponent, SameExponents, Trimmed, exponent_sum, letters}
use Rattle.group.specs.Reducing.{Reduced}
use Rattle.group.specs.Products.{form_of}

-- Demand 2: the form of a word is reduced, and moves every dyadic point from 0 to 1, both ends too, as the word does.
-- It is also trimmed, and its letters are joined to the word.
pub record FormKeepsMap : Type 0 where
  pub reduced : (w : Word) → Reduced (form_of w)
  pub same_map : (w : Word) → SameMap (letters (form_of w)) w
  pub trimmed : (w : Word) → Trimmed (form_of w)
  pub joined : (w : Word) → Joined (letters (form_of w)) w

-- Demand 3: two words have equal forms just when a chain joins them.
abbrev pub EqualFormsAreJoined : Type 0
EqualFormsAreJoined = (u v : Word) → (form_of u ≡ form_of v) ↔ Joined u v

-- Two words have equal forms just when they have the same map.
abbrev pub EqualFormsAreOneMap : Type 0
EqualFormsAreOneMap = (u v : Word) → (form_of u ≡ form_of v) ↔ SameMap u v

-- Uniqueness: reduced forms with the same map have the same exponents.
abbrev pub ReducedFormIsUnique : Type 0
ReducedFormIsUnique = (f g : Form) → Reduced f → Reduced g → SameMap (letters f) (letters g) → SameExponents f g

-- A trimmed reduced form that has the map of w, or letters joined to w, is the form of w, however it was found.
pub record TheFormOfWord : Type 0 where
  pub by_map : (w : Word) (f : Form) → Reduced f → Trimmed f → SameMap (letters f) w → f ≡ form_of w
  pub by_chain : (w : Word) (f : Form) → Reduced f → Trimmed f → Joined (letters f) w → f ≡ form_of w

-- A word of n letters has a form with at most n letters x_k and x_k⁻¹, and no index above n.
pub record FormIsSmall : Type 0 where
  pub at_most_n : (w : Word) → exponent_sum (form_of w) ≤ length w
  pub no_index_above : (w : Word) (s : Side) (i : ℕ) → length w < i → exponent s (form_of w) i ≡ 0
