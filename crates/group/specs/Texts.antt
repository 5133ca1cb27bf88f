-- Words written as texts: the letters a, A, b, B in ASCII (01, 'Letters and maps'). Any other character is no letter,
-- and a text that has one is no word. The worked examples and the proofs write words so. Assumes nothing.
use Rattle.std.specs.Prelude.{cond, [], ◌∷◌, ℕ, eqb}
use Rattle.std.proofs.Math.Option.{Option, none, some}
use Prim.Native.Char.{code}
use Prim.Native.String.{String, [] as []ˢ, ◌∷◌ as ◌∷ˢ◌}
use Rattle.group.specs.Letters.{Letter, 'a, 'A, 'b, 'B, Word}

-- The letter with an ASCII code, where there is one.
abbrev pub letter_of : ℕ → Option Letter
letter_of c =
    cond (eqb c 97) (some 'a)
    (cond (eqb c 65) (some 'A)
    (cond (eqb c 98) (some 'b)
    (cond (eqb c 66) (some 'B) none)))

-- A letter in front of a word, where both are there.
abbrev pub put_letter : Option Letter → Option Word → Option Word
put_letter none w = none
put_letter (some x) none = none
put_letter (some x) (some w) = some (x ∷ w)

-- The word that a text is, where it is one.
abbrev pub word_of : String → Option Word
word_of []ˢ = some []
word_of (c ∷ˢ s) = put_letter (letter_of (code c)) (word_of s)
