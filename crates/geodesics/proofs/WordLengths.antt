-- Of a word: a letter put behind it changes the length of its form by one, some letter lowers it, and only the identity
-- has length 0 (000, lemma 3.1, properties 1 to 4). Assumes nothing.
use mathlib.Core.Path.{◌≡◌, refl, sym, ◌∙◌, ap, ◌≡⟨◌⟩◌, ◌∎}
use mathlib.Core.List.{[], ◌∷◌, ◌++◌}
use mathlib.Core.Logic.{◌⊎◌, inl, inr, ◌↔◌}
use Prim.Native.Nat.{ℕ, zero, suc}
use native.Mathlib.Omega.{arith}
use Rattle.lists.specs.Entries.{total}
use Rattle.group.specs.Letters.{Letter, Word}
use Rattle.group.specs.Chains.{Joined}
use Rattle.group.specs.Forms.{Side, b_side, a_side, Form, empty, level, exponent, exponents, SameExponents, Trimmed}
use Rattle.group.specs.Products.{form_of, behind_letter}
use Rattle.group.proofs.Exponents.{trimmed_equal}
use Rattle.group.proofs.Reduced.{form_canonical, form_trimmed}
use Rattle.group.proofs.Exchange.{form_behind}
use Rattle.group.proofs.Theorems.{forms↔joined}
use Rattle.lengths.specs.Weights.{form_length}
use Rattle.geodesics.proofs.Columns.{ByOne, up, down}
use Rattle.geodesics.proofs.Sides.{put_letter, sides_length}
use Rattle.geodesics.proofs.SideLengths.{put_changes, put_lowers, length_closed, from_total}
use Rattle.geodesics.proofs.Fordham.{sides_of, form_length_lem}
use Rattle.geodesics.proofs.Behind.{behind-length}

-- The length of a word's form, and of the word with a letter behind it, on lists.
word_length : (w : Word) → sides_length (sides_of (form_of w)) ≡ form_length (form_of w)
word_length w = sym (form_length_lem (form_of w))

letter_length : (w : Word) (x : Letter)
    → sides_length (put_letter (sides_of (form_of w)) x) ≡ form_length (form_of (w ++ (x ∷ [])))
letter_length w x =
    sides_length (put_letter (sides_of (form_of w)) x)
    ≡⟨ sym (behind-length (form_of w) x (form_canonical w)) ⟩
    sides_length (sides_of (behind_letter (form_of w) x))
    ≡⟨ ap (λ (f : Form). sides_length (sides_of f)) (sym (form_behind w x)) ⟩
    sides_length (sides_of (form_of (w ++ (x ∷ []))))
    ≡⟨ word_length (w ++ (x ∷ [])) ⟩
    form_length (form_of (w ++ (x ∷ []))) ∎

-- A letter behind.
pub behind_by_one : (w : Word) (x : Letter)
    → (form_length (form_of (w ++ (x ∷ []))) ≡ suc (form_length (form_of w)))
    ⊎ (form_length (form_of w) ≡ suc (form_length (form_of (w ++ (x ∷ [])))))
behind_by_one w x = go (put_changes (sides_of (form_of w)) x)
  where
    go : ByOne (sides_length (put_letter (sides_of (form_of w)) x)) (sides_length (sides_of (form_of w)))
        → (form_length (form_of (w ++ (x ∷ []))) ≡ suc (form_length (form_of w)))
        ⊎ (form_length (form_of w) ≡ suc (form_length (form_of (w ++ (x ∷ [])))))
    go (up h) =
        inl
        (form_length (form_of (w ++ (x ∷ []))) ≡⟨ sym (letter_length w x) ⟩
        sides_length (put_letter (sides_of (form_of w)) x) ≡⟨ h ⟩
        suc (sides_length (sides_of (form_of w))) ≡⟨ ap suc (word_length w) ⟩
        suc (form_length (form_of w)) ∎)
    go (down h) =
        inr
        (form_length (form_of w) ≡⟨ sym (word_length w) ⟩
        sides_length (sides_of (form_of w)) ≡⟨ h ⟩
        suc (sides_length (put_letter (sides_of (form_of w)) x)) ≡⟨ ap suc (letter_length w x) ⟩
        suc (form_length (form_of (w ++ (x ∷ [])))) ∎)

-- A letter that lowers the length.
pub behind_lowers : (w : Word)
    → (form_length (form_of w) ≡ 0)
    ⊎ ((x : Letter) × (form_length (form_of w) ≡ suc (form_length (form_of (w ++ (x ∷ []))))))
behind_lowers w = go (put_lowers (sides_of (form_of w)))
  where
    go : (sides_length (sides_of (form_of w)) ≡ 0)
        ⊎ ((x : Letter)
        × (sides_length (sides_of (form_of w)) ≡ suc (sides_length (put_letter (sides_of (form_of w)) x))))
        → (form_length (form_of w) ≡ 0)
        ⊎ ((x : Letter) × (form_length (form_of w) ≡ suc (form_length (form_of (w ++ (x ∷ []))))))
    go (inl h) = inl (sym (word_length w) ∙ h)
    go (inr h) =
        let x : Letter = h.0 in
        let lowered : form_length (form_of w) ≡ suc (form_length (form_of (w ++ (x ∷ [])))) =
        form_length (form_of w) ≡⟨ sym (word_length w) ⟩
        sides_length (sides_of (form_of w)) ≡⟨ h.1 ⟩
        suc (sides_length (put_letter (sides_of (form_of w)) x)) ≡⟨ ap suc (letter_length w x) ⟩
        suc (form_length (form_of (w ++ (x ∷ [])))) ∎ in
        inr (x, lowered)

-- A form whose exponents sum to 0 has those of the empty form.
no_exponents : (s : Side) (f : Form) → total (exponents s f) ≡ 0 → (i : ℕ) → exponent s f i ≡ exponent s empty i
no_exponents s empty h i = refl
no_exponents s (level b a f) h zero = omega arith
no_exponents s (level b a f) h (suc i) = no_exponents s f (omega arith) i

-- A form of length 0 is empty.
zero_empty : (f : Form) → Trimmed f → form_length f ≡ 0 → f ≡ empty
zero_empty f t h = trimmed_equal f empty t tt same
  where
    size : ℕ
    size = sides_length (sides_of f)

    none : size ≡ 0
    none = sym (form_length_lem f) ∙ h

    same : SameExponents f empty
    same b_side =
        no_exponents b_side f
        (omega (arith, none, from_total size (exponents b_side f) (length_closed (sides_of f)).b_row))
    same a_side =
        no_exponents a_side f
        (omega (arith, none, from_total size (exponents a_side f) (length_closed (sides_of f)).a_row))

-- Length 0.
pub zero_length : (w : Word) → (form_length (form_of w) ≡ 0) ↔ Joined w []
zero_length w = (
  (λ h. (forms↔joined w []).0 (zero_empty (form_of w) (form_trimmed w) h)),
  λ j. ap form_length ((forms↔joined w []).1 j),
)
