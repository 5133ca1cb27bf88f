-- Texts of powers, and the pieces of any text (02, [1]): "tokens stand one space apart", "Empty text is the empty
-- word".
--     text_of ps             the tokens of the powers, one space apart
--     pieces_of t            what the spaces of a text part, each piece with its offset: k spaces part k + 1 pieces
--     FirstMisspelled t k   the first piece that is no token of a power in range stands at the offset k
-- Assumes nothing.
use Rattle.std.specs.Prelude.{◌≡◌, cond, List, [], ◌∷◌, ◌++◌, ℕ, ◌+◌, eqb, length}
use Rattle.group.specs.Powers.{SignedPower}
use Rattle.tokens.specs.Tokens.{space, token_text, WellSpelled}

-- The tokens of powers behind a token, a space in front of each.
abbrev pub further_text : List SignedPower → List ℕ
further_text [] = []
further_text (p ∷ ps) = space ∷ (token_text p ++ further_text ps)

-- The tokens of powers, one space apart.
abbrev pub text_of : List SignedPower → List ℕ
text_of [] = []
text_of (p ∷ ps) = token_text p ++ further_text ps

-- A piece of a text: its offset from the start, and its bytes.
pub data Piece : Type 0 where
  piece : (offset : ℕ) (bytes : List ℕ) → Piece

-- The pieces of a text whose first piece has begun at an offset with some bytes.
unfoldable pub pieces_from : (offset : ℕ) (begun text : List ℕ) → List Piece
pieces_from at begun [] = piece at begun ∷ []
pieces_from at begun (c ∷ t) =
    cond (eqb c space) (piece at begun ∷ pieces_from (at + length begun + 1) [] t) (pieces_from at (begun ++ (c ∷ [])) t)

-- The pieces of a text; the empty text has none.
abbrev pub pieces_of : List ℕ → List Piece
pieces_of [] = []
pieces_of (c ∷ t) = pieces_from 0 [] (c ∷ t)

-- Every piece is the token of a power in range.
abbrev pub AllWellSpelled : List Piece → Type 0
AllWellSpelled [] = Unit {0}
AllWellSpelled (piece at bytes ∷ ps) = WellSpelled bytes × AllWellSpelled ps

-- The first piece that is none stands at a place.
pub record FirstMisspelled (t : List ℕ) (place : ℕ) : Type 0 where
  pub before : List Piece
  pub bytes : List ℕ
  pub behind : List Piece
  pub order : pieces_of t ≡ before ++ (piece place bytes ∷ behind)
  pub here : WellSpelled bytes → ⊥
  pub first : AllWellSpelled before
