-- A letter put behind a reduced form, and put behind its two lists of exponents, give one sum of Table 1. Assumes
-- nothing.
use mathlib.Core.Path.{◌≡◌, refl, ◌∙◌, ap, ap₂, subst, ◌≡⟨◌⟩◌, ◌∎}
use mathlib.Core.List.{List, ◌∷◌}
use Prim.Native.Nat.{ℕ}
use native.Mathlib.Omega.{arith}
use Rattle.group.specs.Letters.{Letter, 'a, 'A, 'b, 'B, inverse_letter}
use Rattle.group.specs.Forms.{b_side, a_side, Form, empty, level, exponents}
use Rattle.group.specs.Reducing.{Reduced}
use Rattle.group.specs.Products.{times_generator, times_letter, exchange, behind_letter}
use Rattle.group.proofs.Exponents.{exponents_at}
use Rattle.group.proofs.Reduced.{Canonical}
use Rattle.group.proofs.Exchange.{exchange_canonical}
use Rattle.geodesics.specs.Rows.{first}
use Rattle.geodesics.proofs.Sides.{
  Sides,
  sides,
  put_inverse,
  put_x0,
  Rule,
  at_tree,
  at_zero,
  at_next,
  at_second,
  put_letter,
  sides_length,
}
use Rattle.geodesics.proofs.SameRows.{length_same}
use Rattle.geodesics.proofs.Fordham.{sides_of}
use Rattle.geodesics.proofs.ListProducts.{Reads, turned, times_reads}

-- At index 1.
second_is : (g : Rule) (f : Sides) → at_tree 1 g f.b f.a ≡ at_second g f
second_is g f = at_next g 0 (first f.a) f.b f.a (omega arith)

-- The inverse letter in front of the form with its sides exchanged.
letter_reads : (g : Form) (x : Letter) → Reduced g → Reads (times_letter (inverse_letter x) g) (put_letter (turned g) x)
letter_reads g 'a r =
    subst (Reads (times_generator a_side 0 g)) (at_zero put_x0 (exponents a_side g) (exponents b_side g))
    (times_reads a_side 0 g r)
letter_reads g 'A r =
    subst (Reads (times_generator b_side 0 g)) (at_zero put_inverse (exponents a_side g) (exponents b_side g))
    (times_reads b_side 0 g r)
letter_reads g 'b r =
    subst (Reads (times_generator a_side 1 g)) (second_is put_x0 (turned g)) (times_reads a_side 1 g r)
letter_reads g 'B r =
    subst (Reads (times_generator b_side 1 g)) (second_is put_inverse (turned g)) (times_reads b_side 1 g r)

-- The lists of a form with its sides exchanged are those of the form, exchanged.
exchange_b : (f : Form) → exponents b_side (exchange f) ≡ exponents a_side f
exchange_b empty = refl
exchange_b (level b a f) = ap (λ (es : List ℕ). a ∷ es) (exchange_b f)

exchange_a : (f : Form) → exponents a_side (exchange f) ≡ exponents b_side f
exchange_a empty = refl
exchange_a (level b a f) = ap (λ (es : List ℕ). b ∷ es) (exchange_a f)

turned_exchange : (f : Form) → turned (exchange f) ≡ sides_of f
turned_exchange f = ap₂ sides (exchange_a f) (exchange_b f)

exchange-sides : (f : Form) → sides_of (exchange f) ≡ turned f
exchange-sides f = ap₂ sides (exchange_b f) (exchange_a f)

reads_length : (h : Form) (f : Sides) → Reads h f → sides_length (turned h) ≡ sides_length f
reads_length h f r =
    length_same (turned h) f (λ i. exponents_at a_side h i ∙ r.on_a i) (λ i. exponents_at b_side h i ∙ r.on_b i)

-- A letter put behind a form, and behind its lists.
pub behind-length : (f : Form) (x : Letter) → Canonical f
    → sides_length (sides_of (behind_letter f x)) ≡ sides_length (put_letter (sides_of f) x)
behind-length f x c =
    let g : Form = exchange f in
    let h : Form = times_letter (inverse_letter x) g in
    let reads : Reads h (put_letter (turned g) x) = letter_reads g x (exchange_canonical f c).reduced in
    sides_length (sides_of (exchange h)) ≡⟨ ap sides_length (exchange-sides h) ⟩
    sides_length (turned h) ≡⟨ reads_length h (put_letter (turned g) x) reads ⟩
    sides_length (put_letter (turned g) x) ≡⟨ ap (λ (s : Sides). sides_length (put_letter s x)) (turned_exchange f) ⟩
    sides_length (put_letter (sides_of f) x) ∎
