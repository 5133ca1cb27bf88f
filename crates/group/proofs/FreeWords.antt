-- Words without neighbouring inverse letters, and free reduction as a congruence (01, 'What the desk can be asked',
-- record to word): a freely reduced word has no such neighbours, and putting in and taking out pairs x x⁻¹ keeps the
-- freely reduced word.
--     Apart x w   w does not begin with the inverse of x      NoPairs w   no two neighbours of w are inverse
--     Pair        the four strings x x⁻¹, for `Congruent`
-- Assumes nothing.
use mathlib.Core.Path.{◌≡◌, refl, sym, ◌∙◌, ap, ◌≡⟨◌⟩◌, ◌∎}
use mathlib.Core.List.{[], ◌∷◌}
use Rattle.group.specs.Letters.{Letter, 'a, 'A, 'b, 'B, same_letter, Word, inverse_letter}
use Rattle.group.specs.FreeReduction.{push_on, push, freely}
use Rattle.group.specs.Chains.{Joined}
use Rattle.group.proofs.Congruence.{Congruent, ≈_refl, ≈_sym, ≈_trans, ≈_cons, ≈_drop, ≈→joined}
use Rattle.group.proofs.Inverses.{inverse_letter_twice, eight_pairs}
use Rattle.group.proofs.FreeReduction.{freely-sound}

-- w does not begin with the inverse of x.
abbrev pub Apart : Letter → Word → Type 0
Apart x [] = Unit {0}
Apart x (y ∷ w) = y ≡ inverse_letter x → ⊥

-- No two neighbours are inverse.
abbrev pub NoPairs : Word → Type 0
NoPairs [] = Unit {0}
NoPairs (x ∷ w) = Apart x w × NoPairs w

-- A letter in front of its inverse, and in front of any other letter.
push_pair : (x : Letter) (w : Word) → push x (inverse_letter x ∷ w) ≡ w
push_pair 'a w = refl
push_pair 'A w = refl
push_pair 'b w = refl
push_pair 'B w = refl

push_apart : (x : Letter) (w : Word) → Apart x w → push x w ≡ x ∷ w
push_apart x [] h = refl
push_apart x (y ∷ w) h = go (same_letter y (inverse_letter x))
  where
    go : (d : Dec (y ≡ inverse_letter x)) → push_on x y d w ≡ x ∷ y ∷ w
    go (yes e) = absurd (h e)
    go (no n) = refl

-- Freely reduced words have no pairs.
push_no_pairs : (x : Letter) (w : Word) → NoPairs w → NoPairs (push x w)
push_no_pairs x [] h = (tt, tt)
push_no_pairs x (y ∷ w) h = go (same_letter y (inverse_letter x))
  where
    go : (d : Dec (y ≡ inverse_letter x)) → NoPairs (push_on x y d w)
    go (yes e) = h.1
    go (no n) = (n, h)

pub freely_no_pairs : (w : Word) → NoPairs (freely w)
freely_no_pairs [] = tt
freely_no_pairs (x ∷ w) = push_no_pairs x (freely w) (freely_no_pairs w)

-- The four pairs.
pub data Pair : Word → Type 0 where
  pair : (x : Letter) → Pair (x ∷ inverse_letter x ∷ [])

-- A letter undoes its inverse.
push_undo : (x : Letter) (w : Word) → NoPairs w → push x (push (inverse_letter x) w) ≡ w
push_undo x [] h = push_pair x []
push_undo x (y ∷ w) h = go (same_letter y (inverse_letter (inverse_letter x)))
  where
    go : (d : Dec (y ≡ inverse_letter (inverse_letter x))) → push x (push_on (inverse_letter x) y d w) ≡ y ∷ w
    go (yes e) =
        push x w ≡⟨ ap (λ (z : Letter). push z w) (sym (inverse_letter_twice x)) ⟩
        push (inverse_letter (inverse_letter x)) w ≡⟨ ap (λ (z : Letter). push z w) (sym e) ⟩
        push y w ≡⟨ push_apart y w h.0 ⟩
        y ∷ w ∎
    go (no n) = push_pair x (y ∷ w)

-- Congruent words have the same freely reduced word.
pub freely_same : {u v : Word} → Congruent Pair u v → freely u ≡ freely v
freely_same ≈_refl = refl
freely_same (≈_sym h) = sym (freely_same h)
freely_same (≈_trans h k) = freely_same h ∙ freely_same k
freely_same (≈_cons x h) = ap (push x) (freely_same h)
freely_same (≈_drop (pair x) t) = push_undo x (freely t) (freely_no_pairs t)

-- A chain joins a word to its freely reduced word.
pub freely_joined : (w : Word) → Joined w (freely w)
freely_joined w = ≈→joined (freely-sound eight_pairs w)
