-- Numbers and kinds of carets in the text of a picture.
--     filled text ns   a text with numbers: each `~` stands for the next of the numbers
--     kind_name x       the two letters of a kind
-- Assumes nothing.
use Rattle.std.specs.Prelude.{cond, List, [], ◌∷◌, ◌++◌, ℕ, ◌+◌, eqb, get_or}
use Rattle.numerals.specs.Decimals.{ascii, decimal}
use Rattle.lengths.specs.Kinds.{Kind, L0, LL, RI, RN, R0, I0, IR}

-- The sign `~`.
abbrev pub tilde : ℕ
tilde = 126

-- The digits of number j for a `~`, and every other sign as it stands.
abbrev pub sign_of : List ℕ → (j sign : ℕ) → List ℕ
sign_of ns j x = cond (eqb x tilde) (decimal (get_or ns j 0)) (x ∷ [])

-- The number of the next of the numbers behind a sign.
abbrev pub behind_sign : (j sign : ℕ) → ℕ
behind_sign j x = cond (eqb x tilde) (j + 1) j

-- A text whose first `~` stands for number j.
unfoldable pub filled_from : List ℕ → ℕ → List ℕ → List ℕ
filled_from ns j [] = []
filled_from ns j (x ∷ text) = sign_of ns j x ++ filled_from ns (behind_sign j x) text

-- A text with numbers: each `~` stands for the next of the numbers, in decimal digits.
abbrev pub filled : (text numbers : List ℕ) → List ℕ
filled text ns = filled_from ns 0 text

-- The name of a kind.
abbrev pub kind_name : Kind → List ℕ
kind_name L0 = ascii "L0"
kind_name LL = ascii "LL"
kind_name RI = ascii "RI"
kind_name RN = ascii "RN"
kind_name R0 = ascii "R0"
kind_name I0 = ascii "I0"
kind_name IR = ascii "IR"
