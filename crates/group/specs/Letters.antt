-- The four letters, words in them, and the inverse of a word (01, 'Letters and maps' and 'Chains').
-- Assumes nothing.
use Rattle.std.specs.Prelude.{List, [], ◌∷◌, ◌++◌}

-- `a` is x0 and `A` its inverse; `b` is x1 and `B` its inverse.
pub data Letter : Type 0 where
  'a 'A 'b 'B : Letter
  deriving Discrete as same_letter

-- A word: a string of letters, of any length. The limit on words that are sent is no part of the group.
abbrev pub Word : Type 0
Word = List Letter

-- The inverse of a letter.
abbrev pub inverse_letter : Letter → Letter
inverse_letter 'a = 'A
inverse_letter 'A = 'a
inverse_letter 'b = 'B
inverse_letter 'B = 'b

-- The inverse of a word: its letters, last taken first, each exchanged for its inverse.
abbrev pub inverse : Word → Word
inverse [] = []
inverse (x ∷ w) = inverse w ++ (inverse_letter x ∷ [])
