-- The answer to a line of the command line: a line of text, and whether something was refused.
--     Said               what is answered                      said show o    by an outcome: what is shown, or why not
--     refusal_text n p    `refused`, number, place, reason      reason_of n     the reason in words
--     fitted s           what is answered in a buffer of `answer_size` bytes
-- Assumes nothing.
use Rattle.std.specs.Prelude.{Bool, true, false, cond, List, [], ◌∷◌, ◌++◌, ℕ, ◌+◌, ◌*◌, length, get_or, ltb}
use Rattle.lines.specs.Lines.{line_feed}
use Rattle.numerals.specs.Decimals.{ascii, decimal}
use Rattle.group.specs.Limits.{limit}
use Rattle.refusals.specs.Outcomes.{Outcome, accepted, refused}

-- The text, and whether something was refused.
pub record Said : Type 0 where
  pub text : List ℕ
  pub denied : Bool

abbrev pub saying : List ℕ → Said
saying text = record { text = text; denied = false }

abbrev pub denying : List ℕ → Said
denying text = record { text = text; denied = true }

-- Bytes as a line.
abbrev pub line_of : List ℕ → List ℕ
line_of s = s ++ (line_feed ∷ [])

-- The reasons of the refusals, from number 1 on; number 0 is none.
abbrev pub reasons : List (List ℕ)
reasons =
    []
    ∷ ascii "more letters than the limit"
    ∷ ascii "a byte that is no letter"
    ∷ ascii "the two fields do not frame the record"
    ∷ ascii "an entry that breaks a rule"
    ∷ ascii "the form is not reduced"
    ∷ ascii "a table that is too short"
    ∷ ascii "an output buffer that is too short"
    ∷ ascii "a spelling with more letters than the limit"
    ∷ ascii "a misspelled token, or an index above the limit"
    ∷ ascii "exponents whose sizes sum above the limit"
    ∷ ascii "a reduced form with an index above the limit"
    ∷ ascii "no well-formed register"
    ∷ ascii "a holder with four entries"
    ∷ ascii "an entry that does not fit the register"
    ∷ ascii "no tree within the bound, or no such node or leaf"
    ∷ []

-- The reason of a refusal, by its number.
abbrev pub reason_of : ℕ → List ℕ
reason_of number = get_or reasons number []

-- The line of a refusal: `refused 2 at 1: a byte that is no letter`.
abbrev pub refusal_text : (number place : ℕ) → List ℕ
refusal_text number place =
    ascii "refused "
    ++ (decimal number ++ (ascii " at " ++ (decimal place ++ (ascii ": " ++ line_of (reason_of number)))))

-- What is said of an outcome.
abbrev pub said : {A : Type 0} → (A → List ℕ) → Outcome A → Said
said show (accepted x) = saying (line_of (show x))
said show (refused number place) = denying (refusal_text number place)

-- Bytes that are room enough for a word, a text, a shape and a record within the limit.
abbrev pub room_size : ℕ
room_size = 9 * limit

-- The bytes of the buffer of an answer.
abbrev pub answer_size : ℕ
answer_size = room_size + 64

-- What is answered where a text does not fit the buffer.
abbrev pub too_long : List ℕ
too_long = ascii "an answer that is too long\n"

-- What is answered in such a buffer.
abbrev pub fitted : Said → Said
fitted s = cond (ltb answer_size (length s.text)) (denying too_long) s
