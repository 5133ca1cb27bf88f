-- Free reduction: neighbouring inverse letters deleted. Words with one freely reduced word are congruent, so that all
-- letter-level derivations are checked by computing. Assumes nothing.
use mathlib.Core.Path.{◌≡◌, ap}
use mathlib.Core.List.{[], ◌∷◌, ◌++◌}
use mathlib.Core.Option.{Option, none, some}
use Prim.Native.String.{String}
use Rattle.group.specs.Letters.{Letter, same_letter, Word, inverse_letter}
use Rattle.group.specs.FreeReduction.{push_on, push, freely}
use Rattle.group.specs.Chains.{Strings}
use Rattle.group.specs.Texts.{word_of}
use Rattle.group.proofs.Congruence.{Congruent, ≈_refl, ≈_sym, ≈_cons, ≈_drop, ◌⟫◌, ≈_path, ≈_front, ≈_back}
use Rattle.group.proofs.Inverses.{HasPairs}

-- The word of a text that is one; the empty word of any other.
abbrev or_empty : Option Word → Word
or_empty none = []
or_empty (some w) = w

abbrev pub word : String → Word
word s = or_empty (word_of s)

module _ {R : Strings} (pairs : HasPairs R) where
  push_on_sound : (x y : Letter) (d : Dec (y ≡ inverse_letter x)) (w : Word) → Congruent R (x ∷ y ∷ w) (push_on x y d w)
  push_on_sound x y (yes e) w = ≈_path (ap (λ (z : Letter). x ∷ z ∷ w) e) ⟫ ≈_drop (pairs x) w
  push_on_sound x y (no n) w = ≈_refl

  push-sound : (x : Letter) (w : Word) → Congruent R (x ∷ w) (push x w)
  push-sound x [] = ≈_refl
  push-sound x (y ∷ w) = push_on_sound x y (same_letter y (inverse_letter x)) w

  pub freely-sound : (w : Word) → Congruent R w (freely w)
  freely-sound [] = ≈_refl
  freely-sound (x ∷ w) = ≈_cons x (freely-sound w) ⟫ push-sound x (freely w)

  pub free : (u v : Word) → freely u ≡ freely v → Congruent R u v
  free u v e = freely-sound u ⟫ ≈_path e ⟫ ≈_sym (freely-sound v)

  -- From p to q by one use of `u ≈ v` between `front` and `back`, with cancelling pairs put in and taken out.
  pub via : (p q front back : String) {u v : Word} → Congruent R u v
      → freely (word p) ≡ freely (word front ++ (u ++ word back))
      → freely (word front ++ (v ++ word back)) ≡ freely (word q)
      → Congruent R (word p) (word q)
  via p q front back {u} {v} h e d =
      free (word p) (word front ++ (u ++ word back)) e
      ⟫ ≈_front (word front) (≈_back h (word back))
      ⟫ free (word front ++ (v ++ word back)) (word q) d
