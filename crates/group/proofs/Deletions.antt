-- Deletions of neighbouring inverse letters (01, 'What the desk can be asked', record to word): they lead from a word
-- to its freely reduced word, nothing is left there to delete, and, in whatever order they are made until nothing is
-- left, they lead to that word. Assumes nothing.
use mathlib.Core.Path.{◌≡◌, refl, sym, ◌∙◌, ap, subst}
use mathlib.Core.List.{[], ◌∷◌, ◌++◌}
use Prim.Native.Nat.{◌+◌}
use native.Mathlib.Omega.{arith}
use lib.ListN.{length, length-append}
use Rattle.group.specs.Letters.{Letter, same_letter, Word, inverse_letter}
use Rattle.group.specs.FreeReduction.{Deletion, Deletions, stay, onward, FreelyReduced, push_on, push, freely}
use Rattle.group.proofs.Congruence.{Congruent, ≈_refl, ≈_drop, ◌⟫◌, ≈_path, ≈_front}
use Rattle.group.proofs.FreeWords.{NoPairs, freely_no_pairs, Pair, pair, freely_same}

-- A word without pairs has nothing to delete.
middle_pair : (p s : Word) (x : Letter) → NoPairs (p ++ (x ∷ inverse_letter x ∷ s)) → ⊥
middle_pair [] s x h = h.0 refl
middle_pair (y ∷ p) s x h = middle_pair p s x h.1

pub no_pairs_reduced : (w : Word) → NoPairs w → FreelyReduced w
no_pairs_reduced w h v d = middle_pair d.front d.back d.letter (subst NoPairs d.neighbours h)

pub freely_reduced : (w : Word) → FreelyReduced (freely w)
freely_reduced w = no_pairs_reduced (freely w) (freely_no_pairs w)

-- Deletions lead from a word to its freely reduced word.
deletion_cons : (x : Letter) {u v : Word} → Deletion u v → Deletion (x ∷ u) (x ∷ v)
deletion_cons x d =
    record {
      front = x ∷ d.front;
      back = d.back;
      letter = d.letter;
      neighbours = ap (λ (w : Word). x ∷ w) d.neighbours;
      left = ap (λ (w : Word). x ∷ w) d.left;
    }

-- Deletions behind a letter, and then others.
deletions_cons : (x : Letter) {u v w : Word} → Deletions u v → Deletions (x ∷ v) w → Deletions (x ∷ u) w
deletions_cons x stay k = k
deletions_cons x (onward d h) k = onward (deletion_cons x d) (deletions_cons x h k)

push_deletions : (x : Letter) (w : Word) → Deletions (x ∷ w) (push x w)
push_deletions x [] = stay
push_deletions x (y ∷ w) = go (same_letter y (inverse_letter x))
  where
    go : (d : Dec (y ≡ inverse_letter x)) → Deletions (x ∷ y ∷ w) (push_on x y d w)
    go (yes e) =
        onward
        (record {
          front = [];
          back = w;
          letter = x;
          neighbours = ap (λ (z : Letter). x ∷ z ∷ w) e;
          left = refl;
        })
        stay
    go (no n) = stay

pub freely_deletions : (w : Word) → Deletions w (freely w)
freely_deletions [] = stay
freely_deletions (x ∷ w) = deletions_cons x (freely_deletions w) (push_deletions x (freely w))

-- No deletions lead away from a freely reduced word.
reduced_stays : {u w : Word} → Deletions u w → FreelyReduced u → w ≡ u
reduced_stays stay h = refl
reduced_stays (onward {v} d k) h = absurd (h v d)

pub freely_fixed : (w : Word) → FreelyReduced w → freely w ≡ w
freely_fixed w h = reduced_stays (freely_deletions w) h

-- Each deletion takes two letters, so deletions come to an end.
pub deletion_shorter : (u v : Word) → Deletion u v → length v + 2 ≡ length u
deletion_shorter u v d =
    omega (
      arith,
      ap length d.neighbours,
      ap length d.left,
      length-append d.front (d.letter ∷ inverse_letter d.letter ∷ d.back),
      length-append d.front d.back,
    )

-- The order of deleting does not matter.
deletion_kept : {u v : Word} → Deletion u v → Congruent Pair u v
deletion_kept d =
    ≈_path d.neighbours ⟫ ≈_front d.front (≈_drop (pair d.letter) d.back) ⟫ ≈_path (sym d.left)

deletions_kept : {u w : Word} → Deletions u w → Congruent Pair u w
deletions_kept stay = ≈_refl
deletions_kept (onward d h) = deletion_kept d ⟫ deletions_kept h

pub deletions_end : (u w : Word) → Deletions u w → FreelyReduced w → w ≡ freely u
deletions_end u w d h = sym (freely_same (deletions_kept d) ∙ freely_fixed w h)
