-- The picture of a record's tree pair (the word `draw`): an SVG text, or characters.
--     picture_of c t s n   the picture of the trees t and s with the length n, in characters or as SVG
--     DrawnAs             the contract of `draw`
-- Assumes nothing.
use Rattle.std.specs.Prelude.{◌≡◌, Bool, cond, List, ℕ, ◌<◌, ◌≤◌, length, take, Result, Ok, Err}
use Rattle.numerals.specs.Decimals.{ascii}
use Rattle.group.specs.Forms.{Form}
use Rattle.refusals.specs.Outcomes.{accepted, refused}
use Rattle.trees.specs.Trees.{Tree}
use Rattle.trees.specs.Pairs.{carets_of, minus_tree, plus_tree}
use Rattle.lengths.specs.Weights.{form_length}
use Rattle.pairs.specs.Promises.{paired_in}
use Rattle.pictures.specs.Spans.{drawn}
use Rattle.pictures.specs.Svg.{svg_of}
use Rattle.pictures.specs.Characters.{characters_of}
use Rattle.commands.specs.declared.Answer.{Answer}
use Rattle.commands.specs.Answers.{denying, refusal_text, room_size, fitted}
use Rattle.commands.specs.Promises.{Says}

-- A picture of two trees with a length.
abbrev pub picture_of : (characters : Bool) (t s : Tree) → ℕ → List ℕ
picture_of characters t s n = cond characters (characters_of t s n) (svg_of t s n)

-- The picture of a form: T−, T+ and its length.
abbrev pub form_picture : Bool → Form → List ℕ
form_picture characters f = picture_of characters (minus_tree f) (plus_tree f) (form_length f)

-- The line for a pair with too many carets, and that for a picture that does not fit its buffer.
abbrev pub large_pair : List ℕ
large_pair = ascii "a pair of more than 300 carets\n"

abbrev pub long_picture : List ℕ
long_picture = ascii "a picture of more than 286720 bytes\n"

-- The bytes of the buffer of a picture.
abbrev pub picture_size : ℕ
picture_size = 286720

-- The picture stands at the front of its buffer; or why there is none is said in the other.
pub data DrawnAs (characters : Bool) (s picture answer : List ℕ) : Result ℕ Answer → Type 0 where
  is_drawn : (f : Form) → paired_in s room_size room_size ≡ accepted f → carets_of f ≤ drawn → (n : ℕ)
      → take n picture ≡ form_picture characters f → DrawnAs characters s picture answer (Ok n)
  is_long_value : (f : Form) → paired_in s room_size room_size ≡ accepted f → carets_of f ≤ drawn
      → picture_size < length (form_picture characters f) → (a : Answer) → Says (fitted (denying long_picture)) answer a
      → DrawnAs characters s picture answer (Err a)
  is_large : (f : Form) → paired_in s room_size room_size ≡ accepted f → drawn < carets_of f → (a : Answer)
      → Says (fitted (denying large_pair)) answer a → DrawnAs characters s picture answer (Err a)
  is_refused : (number place : ℕ) → paired_in s room_size room_size ≡ refused number place → (a : Answer)
      → Says (fitted (denying (refusal_text number place))) answer a → DrawnAs characters s picture answer (Err a)
