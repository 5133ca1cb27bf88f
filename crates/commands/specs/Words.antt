-- What is answered of words (the words `record`, `list` and `same`).
--     LineRecord line o     the record of a line, a word or, where it begins with `x`, a text; or what is refused
--     RecordSaid line s     the answer of `record`        item_said line   of `list`        same_said u v   of `same`
-- Assumes nothing.
use Rattle.std.specs.Prelude.{◌≡◌, Bool, true, false, cond, List, [], ◌∷◌, ◌++◌, ℕ, zero, suc, eqb, ltb, length, take}
use Rattle.std.specs.Prelude.{drop}
use Rattle.numerals.specs.Decimals.{ascii}
use Rattle.group.specs.Limits.{limit}
use Rattle.group.specs.Letters.{Word}
use Rattle.group.specs.Powers.{SignedPower}
use Rattle.refusals.specs.Outcomes.{Outcome, accepted, refused, then}
use Rattle.records.specs.Format.{encode}
use Rattle.letters.specs.Judging.{line_read}
use Rattle.words.specs.Recording.{encode_word}
use Rattle.wordlists.specs.Items.{item}
use Rattle.forest.specs.Filling.{product_form}
use Rattle.tokens.specs.Tokens.{x_sign, space}
use Rattle.tokens.specs.Reading.{TextRead}
use Rattle.notation.specs.Promises.{room_for}
use Rattle.comparisons.specs.Comparing.{Decision, same, inverse, different, refused_word, decided}
use Rattle.appending.specs.Hexadecimal.{hex_of}
use Rattle.commands.specs.Answers.{Said, saying, denying, line_of, refusal_text, said, room_size}

-- Whether a line begins with `x`: it is then read as a text.
abbrev pub is_text_value : List ℕ → Bool
is_text_value [] = false
is_text_value (x ∷ s) = eqb x x_sign

-- The record of a word.
abbrev pub word_record : Outcome Word → Outcome (List ℕ)
word_record o = then o (λ w. accepted (encode_word w))

-- The record of what a text is read as, beside tables and a buffer that serve every text.
abbrev pub text_record : Outcome (List SignedPower) → Outcome (List ℕ)
text_record o =
    then (then o (room_for (suc limit) (suc limit) room_size)) (λ ps. accepted (encode (product_form ps)))

-- The record of a line, or what is refused.
pub data LineRecord (line : List ℕ) : Outcome (List ℕ) → Type 0 where
  of_word : is_text_value line ≡ false → LineRecord line (word_record (line_read line))
  of_text : is_text_value line ≡ true → (o : Outcome (List SignedPower)) → TextRead line o
      → LineRecord line (text_record o)

-- The most bytes of a text that is read: those of the longest argument of a command line.
abbrev pub text_most : ℕ
text_most = 131071

-- The line for a longer one.
abbrev pub long_text : List ℕ
long_text = ascii "text of more than 131071 bytes\n"

-- Whether a line is one.
abbrev pub is_long_value : List ℕ → Bool
is_long_value line = cond (is_text_value line) (ltb text_most (length line)) false

-- The answer of `record`.
pub data RecordSaid (line : List ℕ) : Said → Type 0 where
  long : is_long_value line ≡ true → RecordSaid line (denying long_text)
  read : is_long_value line ≡ false → (o : Outcome (List ℕ)) → LineRecord line o → RecordSaid line (said hex_of o)

-- Whether an outcome is a refusal.
abbrev pub is_refused : {A : Type 0} → Outcome A → Bool
is_refused (accepted x) = false
is_refused (refused number place) = true

-- The answer of `list`: the item of the line, in hexadecimal.
abbrev pub item_by : Outcome Word → Said
item_by o = record { text = line_of (hex_of (item o)); denied = is_refused o }

abbrev pub item_said : List ℕ → Said
item_said line = item_by (line_read line)

-- The answer of `same`, by what the call comes to; the refusal of the second word is named so.
abbrev pub decision_said : Decision → Said
decision_said same = saying (ascii "same\n")
decision_said inverse = saying (ascii "inverse\n")
decision_said different = saying (ascii "different\n")
decision_said (refused_word zero number place) = denying (refusal_text number place)
decision_said (refused_word (suc k) number place) = denying (ascii "second word " ++ refusal_text number place)

-- The answer of `same` for two words.
abbrev pub same_said : (first second : List ℕ) → Said
same_said first second = decision_said (decided (line_read first) (line_read second))

-- How many bytes stand in front of the first blank: all of them, where there is none.
unfoldable pub blank_at : List ℕ → ℕ
blank_at [] = 0
blank_at (x ∷ s) = cond (eqb x space) 0 (suc (blank_at s))

-- A line with no blank: its word is too long, whatever follows, or it is the only one.
abbrev pub single_said : List ℕ → Said
single_said line = cond (ltb limit (length line)) (denying (refusal_text 1 limit)) (denying (ascii "no second word\n"))

-- The answer of `same` for a line: two words with one blank between them.
abbrev pub same_line_said : List ℕ → Said
same_line_said line =
    cond (ltb (blank_at line) (length line))
    (same_said (take (blank_at line) line) (drop (suc (blank_at line)) line))
    (single_said line)
