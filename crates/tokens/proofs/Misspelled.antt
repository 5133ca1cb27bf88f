-- The first misspelled piece of a text (02, [1]; refusal 9): where a reader has passed tokens with a space behind each
-- and meets no token of a power in range, there it stands; and it stands at one place only. Assumes nothing.
use mathlib.Core.Path.{◌≡◌, sym, ap, ◌∙◌, subst}
use mathlib.Core.List.{List, [], ◌∷◌, ◌++◌}
use Prim.Native.Nat.{ℕ}
use lib.ListN.{length}
use Rattle.group.specs.Powers.{SignedPower}
use Rattle.tokens.specs.Tokens.{token_text, InRange, AllInRange, WellSpelled}
use Rattle.tokens.specs.Texts.{Piece, piece, pieces_from, AllWellSpelled, FirstMisspelled}
use Rattle.tokens.specs.inside.Ends.{AtEnd, tokens_then}
use Rattle.tokens.proofs.Pieces.{pieces_begun, FirstPiece, first_piece, pieces_passed}

-- Where no token of a power in range stands in front of what is left, the piece that begins there is none.
piece_misspelled : (at : ℕ) (rest : List ℕ) (f : FirstPiece at [] rest)
    → ((p : SignedPower) (r : List ℕ) → InRange p → AtEnd r → rest ≡ token_text p ++ r → ⊥)
    → WellSpelled f.bytes → ⊥
piece_misspelled at rest f none w =
    none w.power f.rest w.in_range f.ends (f.same ∙ ap (λ (b : List ℕ). b ++ f.rest) w.text)

-- The tokens passed, and no token in front of what is left.
pub first_misspelled : (t : List ℕ) (ps : List SignedPower) (rest : List ℕ) → AllInRange ps
    → t ≡ tokens_then ps ++ rest → (t ≡ [] → ⊥)
    → ((p : SignedPower) (r : List ℕ) → InRange p → AtEnd r → rest ≡ token_text p ++ r → ⊥)
    → FirstMisspelled t (length (tokens_then ps))
first_misspelled t ps rest h e some none =
    go (pieces_passed ps rest h) (first_piece rest (length (tokens_then ps)) [])
  where
    go : (before : List Piece) × AllWellSpelled before
        × (pieces_from 0 [] (tokens_then ps ++ rest) ≡ before ++ pieces_from (length (tokens_then ps)) [] rest)
        → FirstPiece (length (tokens_then ps)) [] rest → FirstMisspelled t (length (tokens_then ps))
    go q f = record {
      before = q.0;
      bytes = f.bytes;
      behind = f.behind;
      order =
          pieces_begun t some ∙ ap (pieces_from 0 []) e ∙ q.2
          ∙ ap (λ (l : List Piece). q.0 ++ l) f.pieces;
      here = piece_misspelled (length (tokens_then ps)) rest f none;
      first = q.1;
    }

-- A piece behind others that is well spelled, as they all are.
pub spelled_behind : (before behind : List Piece) (at : ℕ) (bytes : List ℕ)
    → AllWellSpelled (before ++ (piece at bytes ∷ behind)) → WellSpelled bytes
spelled_behind [] behind at bytes h = h.0
spelled_behind (piece k x ∷ before) behind at bytes h = spelled_behind before behind at bytes h.1

-- The first misspelled of pieces.
one_first : (before behind others further : List Piece) (j k : ℕ) (x y : List ℕ)
    → (WellSpelled x → ⊥) → (WellSpelled y → ⊥) → AllWellSpelled before → AllWellSpelled others
    → before ++ (piece j x ∷ behind) ≡ others ++ (piece k y ∷ further) → j ≡ k
one_first [] behind [] further j k x y nx ny h g e = cc
one_first [] behind (piece i z ∷ others) further j k x y nx ny h g e =
    let same : z ≡ x = cc in absurd (nx (subst WellSpelled same g.0))
one_first (piece i z ∷ before) behind [] further j k x y nx ny h g e =
    let same : z ≡ y = cc in absurd (ny (subst WellSpelled same h.0))
one_first (piece i z ∷ before) behind (piece l w ∷ others) further j k x y nx ny h g e =
    let rest : before ++ (piece j x ∷ behind) ≡ others ++ (piece k y ∷ further) = cc in
    one_first before behind others further j k x y nx ny h.1 g.1 rest

-- A text has one first misspelled piece.
pub first_only : (t : List ℕ) (j k : ℕ) → FirstMisspelled t j → FirstMisspelled t k → j ≡ k
first_only t j k f g =
    one_first f.before f.behind g.before g.behind j k f.bytes g.bytes f.here g.here
    f.first g.first (sym f.order ∙ g.order)
