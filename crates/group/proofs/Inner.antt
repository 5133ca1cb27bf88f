-- Dyadic points strictly between 0 and 1, with nothing behind the last digit 1, and the letters' maps on them. A point
-- has one such name, while it has many as digits with zeros behind them.
--     half, lower p, upper p   1/2, p behind a digit 0, p behind a digit 1      lift g   g behind a digit 1
-- b is a behind a digit 1, so that x_(k+1) is x_k behind a digit 1. Assumes nothing.
use mathlib.Core.Path.{◌≡◌, refl, ap, ◌≡⟨◌⟩◌, ◌∎}
use mathlib.Core.List.{[], ◌∷◌, ◌++◌}
use Rattle.group.specs.Letters.{Letter, 'a, 'A, 'b, 'B, Word, inverse_letter, inverse}

pub data Inner : Type 0 where
  half : Inner
  lower : Inner → Inner
  upper : Inner → Inner

abbrev pub map_a : Inner → Inner
map_a half = lower half
map_a (lower p) = lower (lower p)
map_a (upper half) = half
map_a (upper (lower p)) = lower (upper p)
map_a (upper (upper p)) = upper p

abbrev pub map_A : Inner → Inner
map_A half = upper half
map_A (upper p) = upper (upper p)
map_A (lower half) = half
map_A (lower (lower p)) = lower p
map_A (lower (upper p)) = upper (lower p)

-- The map that fixes points up to 1/2 and does as g behind a leading digit 1.
abbrev pub lift : (Inner → Inner) → Inner → Inner
lift g half = half
lift g (lower p) = lower p
lift g (upper p) = upper (g p)

abbrev pub letter_map : Letter → Inner → Inner
letter_map 'a p = map_a p
letter_map 'A p = map_A p
letter_map 'b p = lift map_a p
letter_map 'B p = lift map_A p

-- The map of a word; the rightmost letter acts first.
abbrev pub act : Word → Inner → Inner
act [] p = p
act (x ∷ w) p = letter_map x (act w p)

pub A-undoes-a : (p : Inner) → map_A (map_a p) ≡ p
A-undoes-a half = refl
A-undoes-a (lower p) = refl
A-undoes-a (upper half) = refl
A-undoes-a (upper (lower p)) = refl
A-undoes-a (upper (upper p)) = refl

pub a_undoes_A : (p : Inner) → map_a (map_A p) ≡ p
a_undoes_A half = refl
a_undoes_A (upper p) = refl
a_undoes_A (lower half) = refl
a_undoes_A (lower (lower p)) = refl
a_undoes_A (lower (upper p)) = refl

pub lift_id : (p : Inner) → lift (λ q. q) p ≡ p
lift_id half = refl
lift_id (lower p) = refl
lift_id (upper p) = refl

pub lift_lift : (f g : Inner → Inner) (p : Inner) → lift f (lift g p) ≡ lift (λ q. f (g q)) p
lift_lift f g half = refl
lift_lift f g (lower p) = refl
lift_lift f g (upper p) = refl

pub lift_cong : {f g : Inner → Inner} → ((p : Inner) → f p ≡ g p) → (p : Inner) → lift f p ≡ lift g p
lift_cong h half = refl
lift_cong h (lower p) = refl
lift_cong h (upper p) = ap upper (h p)

-- A lift(g) a is lift(lift g).
pub lift_conjugate : (g : Inner → Inner) (p : Inner) → map_A (lift g (map_a p)) ≡ lift (lift g) p
lift_conjugate g half = refl
lift_conjugate g (lower p) = refl
lift_conjugate g (upper half) = refl
lift_conjugate g (upper (lower p)) = refl
lift_conjugate g (upper (upper p)) = refl

lift_undo : (f g : Inner → Inner) → ((p : Inner) → f (g p) ≡ p) → (p : Inner) → lift f (lift g p) ≡ p
lift_undo f g h p =
    lift f (lift g p) ≡⟨ lift_lift f g p ⟩
    lift (λ q. f (g q)) p ≡⟨ lift_cong h p ⟩
    lift (λ q. q) p ≡⟨ lift_id p ⟩
    p ∎

-- A letter undoes its inverse.
pub letter_undo : (x : Letter) (p : Inner) → letter_map x (letter_map (inverse_letter x) p) ≡ p
letter_undo 'a p = a_undoes_A p
letter_undo 'A p = A-undoes-a p
letter_undo 'b p = lift_undo map_a map_A a_undoes_A p
letter_undo 'B p = lift_undo map_A map_a A-undoes-a p

pub act_append : (u v : Word) (p : Inner) → act (u ++ v) p ≡ act u (act v p)
act_append [] v p = refl
act_append (x ∷ u) v p = ap (letter_map x) (act_append u v p)

pub act_undo : (w : Word) (p : Inner) → act w (act (inverse w) p) ≡ p
act_undo [] p = refl
act_undo (x ∷ w) p =
    letter_map x (act w (act (inverse w ++ (inverse_letter x ∷ [])) p))
    ≡⟨ ap (λ q. letter_map x (act w q)) (act_append (inverse w) (inverse_letter x ∷ []) p) ⟩
    letter_map x (act w (act (inverse w) (letter_map (inverse_letter x) p)))
    ≡⟨ ap (letter_map x) (act_undo w (letter_map (inverse_letter x) p)) ⟩
    letter_map x (letter_map (inverse_letter x) p)
    ≡⟨ letter_undo x p ⟩
    p ∎
