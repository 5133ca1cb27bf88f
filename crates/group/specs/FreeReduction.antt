-- Free reduction (01, 'What the desk can be asked', record to word): "delete neighbouring inverse letters until none is
-- left".
--     Deletion u v      two neighbouring inverse letters of u are deleted, which leaves v
--     Deletions u w     deletions, one after another, at any places and in any order, lead from u to w
--     FreelyReduced w   no neighbouring inverse letters are left
--     freely w          the word that is left of w, worked out from its end
-- That the order of deleting does not matter, so that `freely` is the paper's sentence, is proved: Deletions of the
-- proofs. Assumes nothing.
use Rattle.std.specs.Prelude.{◌≡◌, [], ◌∷◌, ◌++◌}
use Rattle.group.specs.Letters.{Letter, same_letter, Word, inverse_letter}

-- One letter and its inverse behind it are deleted.
pub record Deletion (u v : Word) : Type 0 where
  pub front : Word
  pub back : Word
  pub letter : Letter
  pub neighbours : u ≡ front ++ (letter ∷ inverse_letter letter ∷ back)
  pub left : v ≡ front ++ back

-- Deletions, one after another.
pub data Deletions : Word → Word → Type 0 where
  stay : {w : Word} → Deletions w w
  onward : {u v w : Word} → Deletion u v → Deletions v w → Deletions u w

-- Nothing is left to delete.
abbrev pub FreelyReduced : Word → Type 0
FreelyReduced w = (v : Word) → Deletion w v → ⊥

-- x in front of y and then w: both are deleted where y is the inverse of x.
abbrev pub push_on : (x y : Letter) → Dec (y ≡ inverse_letter x) → Word → Word
push_on x y (yes e) w = w
push_on x y (no n) w = x ∷ y ∷ w

-- A letter in front of a freely reduced word.
abbrev pub push : Letter → Word → Word
push x [] = x ∷ []
push x (y ∷ w) = push_on x y (same_letter y (inverse_letter x)) w

-- The freely reduced word of a word.
abbrev pub freely : Word → Word
freely [] = []
freely (x ∷ w) = push x (freely w)
