-- The theorems on forms and words: uniqueness; equal forms just when a chain joins the words, and just when their maps
-- agree; and that any reduced form which keeps the word's map, however it was found, is the form of the word.
-- Assumes nothing.
use mathlib.Core.Path.{◌≡◌, sym, ◌∙◌, ap, ◌≡⟨◌⟩◌, ◌∎}
use mathlib.Core.List.{[], ◌∷◌}
use mathlib.Core.Logic.{◌↔◌}
use Rattle.group.specs.Letters.{Letter, Word, inverse_letter}
use Rattle.group.specs.Chains.{Joined}
use Rattle.group.specs.Maps.{SameMap}
use Rattle.group.specs.Forms.{Form, SameExponents, Trimmed, letters}
use Rattle.group.specs.Reducing.{Reduced}
use Rattle.group.specs.Products.{form_of}
use Rattle.group.proofs.Congruence.{◌≈◌, ≈_sym, ◌⟫◌, ≈_path, ≈→joined, joined→≈}
use Rattle.group.proofs.Inverses.{eight_pairs, cancel_letter}
use Rattle.group.proofs.Exponents.{trimmed_equal}
use Rattle.group.proofs.Products.{form_sound}
use Rattle.group.proofs.Digits.{act→map, map→act}
use Rattle.group.proofs.Inner.{act}
use Rattle.group.proofs.Actions.{levels_map, act_cong, act_letters}
use Rattle.group.proofs.Reduced.{form_reduced, form_trimmed}
use Rattle.group.proofs.Unique.{unique_levels}

-- Joined words have the same map.
pub joined_map : (u v : Word) → Joined u v → SameMap u v
joined_map u v j = act→map u v (act_cong (joined→≈ j))

-- A letter undoes its inverse, at every point.
pub letter_undone : (x : Letter) → SameMap (inverse_letter x ∷ x ∷ []) []
letter_undone x = act→map (inverse_letter x ∷ x ∷ []) [] (act_cong (cancel_letter eight_pairs x []))

-- The letters of a word's form have the word's map, at every dyadic point from 0 to 1.
pub form_map : (w : Word) → SameMap (letters (form_of w)) w
form_map w = act→map (letters (form_of w)) w (act_cong (form_sound w))

-- Uniqueness: reduced forms with one map have the same b_i and a_i at every i.
pub unique_exponents : (f g : Form) → Reduced f → Reduced g → SameMap (letters f) (letters g) → SameExponents f g
unique_exponents f g r q h =
    unique_levels f g r q
    (λ p.
    levels_map f p ≡⟨ sym (act_letters f p) ⟩
    act (letters f) p ≡⟨ map→act (letters f) (letters g) h p ⟩
    act (letters g) p ≡⟨ act_letters g p ⟩
    levels_map g p ∎)

-- The form of w is any reduced form whose letters are joined to w, or whose map is that of w.
pub the_exponents : (w : Word) (f : Form) → Reduced f → SameMap (letters f) w → SameExponents f (form_of w)
the_exponents w f r h =
    unique_levels f (form_of w) r (form_reduced w)
    (λ p.
    levels_map f p ≡⟨ sym (act_letters f p) ⟩
    act (letters f) p ≡⟨ map→act (letters f) w h p ⟩
    act w p ≡⟨ sym (act_cong (form_sound w) p) ⟩
    act (letters (form_of w)) p ≡⟨ act_letters (form_of w) p ⟩
    levels_map (form_of w) p ∎)

pub the_form : (w : Word) (f : Form) → Reduced f → Trimmed f → SameMap (letters f) w → f ≡ form_of w
the_form w f r t h = trimmed_equal f (form_of w) t (form_trimmed w) (the_exponents w f r h)

pub the_form_joined : (w : Word) (f : Form) → Reduced f → Trimmed f → Joined (letters f) w → f ≡ form_of w
the_form_joined w f r t j = the_form w f r t (joined_map (letters f) w j)

forms→≈ : (u v : Word) → form_of u ≡ form_of v → u ≈ v
forms→≈ u v e = ≈_sym (form_sound u) ⟫ ≈_path (ap letters e) ⟫ form_sound v

maps→forms : (u v : Word) → SameMap u v → form_of u ≡ form_of v
maps→forms u v h =
    the_form v (form_of u) (form_reduced u) (form_trimmed u)
    (act→map (letters (form_of u)) v (λ p. act_cong (form_sound u) p ∙ map→act u v h p))

-- Two words have equal forms just when a chain joins them.
pub forms↔joined : (u v : Word) → (form_of u ≡ form_of v) ↔ Joined u v
forms↔joined u v = ((λ e. ≈→joined (forms→≈ u v e)), (λ j. maps→forms u v (joined_map u v j)))

-- And just when they have the same map.
pub forms↔maps : (u v : Word) → (form_of u ≡ form_of v) ↔ SameMap u v
forms↔maps u v = ((λ e. act→map u v (act_cong (forms→≈ u v e))), maps→forms u v)

-- So a chain joins two words just when they have the same map.
pub joined↔maps : (u v : Word) → Joined u v ↔ SameMap u v
joined↔maps u v = (joined_map u v, (λ h. (forms↔joined u v).0 (maps→forms u v h)))
