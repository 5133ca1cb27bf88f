-- Words as they are sent, one byte a letter (01, 'Letters and maps'). A byte that is no letter has no letter.
--     bytes_of w     the bytes of a word             read_word s   the word that bytes are, or where they are none
--     FirstNotLetter s k   the first byte that is no letter stands at offset k
-- Assumes nothing.
use Rattle.std.specs.Prelude.{◌≡◌, List, [], ◌∷◌, ℕ, suc, ◌<◌, length, get_or}
use Rattle.std.proofs.Math.Option.{Option, none, some}
use Rattle.group.specs.Letters.{Letter, 'a, 'A, 'b, 'B, Word}
use Rattle.group.specs.Texts.{letter_of}

-- The byte of a letter: its ASCII code.
abbrev pub byte_of : Letter → ℕ
byte_of 'a = 97
byte_of 'A = 65
byte_of 'b = 98
byte_of 'B = 66

-- The bytes of a word.
abbrev pub bytes_of : Word → List ℕ
bytes_of [] = []
bytes_of (x ∷ w) = byte_of x ∷ bytes_of w

-- What bytes are read as: a word, or no word, with the offset of the first byte that is no letter.
pub data Reading : Type 0 where
  is_word : Word → Reading
  not_letter_is : (offset : ℕ) → Reading

-- A byte's letter, where it has one, in front of what the other bytes are read as.
abbrev pub read_letter : Option Letter → Reading → Reading
read_letter none r = not_letter_is 0
read_letter (some x) (is_word w) = is_word (x ∷ w)
read_letter (some x) (not_letter_is offset) = not_letter_is (suc offset)

-- The reading of bytes.
unfoldable pub read_word : List ℕ → Reading
read_word [] = is_word []
read_word (c ∷ s) = read_letter (letter_of c) (read_word s)

-- The byte at k is no letter, and every byte before it is one.
pub record FirstNotLetter (s : List ℕ) (k : ℕ) : Type 0 where
  pub within : k < length s
  pub here : letter_of (get_or s k 0) ≡ none
  pub before : (j : ℕ) → j < k → (x : Letter) × (letter_of (get_or s j 0) ≡ some x)
