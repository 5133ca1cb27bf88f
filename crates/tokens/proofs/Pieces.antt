-- The pieces that the spaces of a text part (02, [1]: "tokens stand one space apart"): the first piece, and the pieces
-- of tokens with a space behind each. Assumes nothing.
use mathlib.Core.Path.{◌≡◌, refl, sym, ap, ◌∙◌}
use mathlib.Core.List.{List, [], ◌∷◌, ◌++◌, append_assoc, append-nil}
use Prim.Native.Nat.{ℕ, ◌+◌}
use native.Mathlib.Decide.{ℕ_discrete}
use native.Mathlib.Omega.{arith}
use lib.ListN.{length, length-append}
use borrow.Author.Tests.{eq-eqb, ne_eqb}
use Rattle.group.specs.Powers.{SignedPower}
use Rattle.tokens.specs.Tokens.{space, token_text, AllInRange}
use Rattle.tokens.specs.Texts.{Piece, piece, pieces_from, pieces_of, AllWellSpelled}
use Rattle.tokens.specs.inside.Ends.{AtEnd, tokens_then}
use Rattle.tokens.proofs.Spaces.{NoSpace}
use Rattle.tokens.proofs.TokenTexts.{token_no_space}

module _ (at : ℕ) (begun t : List ℕ) (c : ℕ) where
  -- A space ends the piece.
  pub pieces_end : c ≡ space
      → pieces_from at begun (c ∷ t) ≡ piece at begun ∷ pieces_from (at + length begun + 1) [] t
  unfolding pieces_from
  pieces_end e = simp (eq-eqb c space e)

  -- Any other byte belongs to it.
  pub pieces_more : (c ≡ space → ⊥) → pieces_from at begun (c ∷ t) ≡ pieces_from at (begun ++ (c ∷ [])) t
  unfolding pieces_from
  pieces_more other = simp (ne_eqb c space other)

-- Bytes without a space, and a space behind them.
pub pieces_part : (x : List ℕ) (at : ℕ) (begun t : List ℕ) → NoSpace x
    → pieces_from at begun (x ++ (space ∷ t))
    ≡ piece at (begun ++ x) ∷ pieces_from (at + length (begun ++ x) + 1) [] t
pieces_part [] at begun t h =
    pieces_end at begun t space refl
    ∙ ap (λ (b : List ℕ). piece at b ∷ pieces_from (at + length b + 1) [] t) (sym (append-nil begun))
pieces_part (c ∷ x) at begun t h =
    pieces_more at begun (x ++ (space ∷ t)) c h.0
    ∙ pieces_part x at (begun ++ (c ∷ [])) t h.1
    ∙ ap (λ (b : List ℕ). piece at b ∷ pieces_from (at + length b + 1) [] t) (append_assoc begun (c ∷ []) x)

-- Bytes without a space, and nothing behind them.
pub pieces_last : (x : List ℕ) (at : ℕ) (begun : List ℕ) → NoSpace x
    → pieces_from at begun x ≡ piece at (begun ++ x) ∷ []
unfolding pieces_from
pieces_last [] at begun h = ap (λ (b : List ℕ). piece at b ∷ []) (sym (append-nil begun))
pieces_last (c ∷ x) at begun h =
    pieces_more at begun x c h.0
    ∙ pieces_last x at (begun ++ (c ∷ [])) h.1
    ∙ ap (λ (b : List ℕ). piece at b ∷ []) (append_assoc begun (c ∷ []) x)

-- The pieces of a text that is not empty.
pub pieces_begun : (t : List ℕ) → (t ≡ [] → ⊥) → pieces_of t ≡ pieces_from 0 [] t
pieces_begun [] h = absurd (h refl)
pieces_begun (c ∷ t) h = refl

-- The first piece: what stands in front of the first space, or of the end.
pub record FirstPiece (at : ℕ) (begun t : List ℕ) : Type 0 where
  pub bytes : List ℕ
  pub rest : List ℕ
  pub behind : List Piece
  pub same : t ≡ bytes ++ rest
  pub no_space : NoSpace bytes
  pub ends : AtEnd rest
  pub pieces : pieces_from at begun t ≡ piece at (begun ++ bytes) ∷ behind

pub first_piece : (t : List ℕ) (at : ℕ) (begun : List ℕ) → FirstPiece at begun t
unfolding pieces_from
first_piece [] at begun = record {
  bytes = [];
  rest = [];
  behind = [];
  same = refl;
  no_space = tt;
  ends = tt;
  pieces = ap (λ (b : List ℕ). piece at b ∷ []) (sym (append-nil begun));
}
first_piece (c ∷ t) at begun = go (λ b. first_piece t at b) (ℕ_discrete c space)
  where
    more : (c ≡ space → ⊥) → FirstPiece at (begun ++ (c ∷ [])) t → FirstPiece at begun (c ∷ t)
    more other f = record {
      bytes = c ∷ f.bytes;
      rest = f.rest;
      behind = f.behind;
      same = ap (λ (l : List ℕ). c ∷ l) f.same;
      no_space = (other, f.no_space);
      ends = f.ends;
      pieces =
          pieces_more at begun t c other ∙ f.pieces
          ∙ ap (λ (b : List ℕ). piece at b ∷ f.behind) (append_assoc begun (c ∷ []) f.bytes);
    }

    go : ((b : List ℕ) → FirstPiece at b t) → Dec (c ≡ space) → FirstPiece at begun (c ∷ t)
    go later (yes e) = record {
      bytes = [];
      rest = c ∷ t;
      behind = pieces_from (at + length begun + 1) [] t;
      same = refl;
      no_space = tt;
      ends = e;
      pieces =
          pieces_end at begun t c e
          ∙ ap
          (λ (b : List ℕ). piece at b ∷ pieces_from (at + length begun + 1) [] t)
          (sym (append-nil begun));
    }
    go later (no other) = more other (later (begun ++ (c ∷ [])))

-- The pieces of tokens with a space behind each, the first at an offset.
abbrev pub passed : ℕ → List SignedPower → List Piece
passed at [] = []
passed at (p ∷ ps) = piece at (token_text p) ∷ passed (at + length (token_text p) + 1) ps

-- Each is well spelled.
pub passed_spelled : (ps : List SignedPower) (at : ℕ) → AllInRange ps → AllWellSpelled (passed at ps)
passed_spelled [] at h = tt
passed_spelled (p ∷ ps) at h = (
  record { power = p; in_range = h.0; text = refl },
  passed_spelled ps (at + length (token_text p) + 1) h.1,
)

-- They are passed first, and then what is left is met at its offset.
passed_from : (ps : List SignedPower) (at : ℕ) (rest : List ℕ)
    → pieces_from at [] (tokens_then ps ++ rest) ≡ passed at ps ++ pieces_from (at + length (tokens_then ps)) [] rest
passed_from [] at rest = let same : at ≡ at + 0 = omega arith in ap (λ (k : ℕ). pieces_from k [] rest) same
passed_from (p ∷ ps) at rest =
    let next : at + length (token_text p) + 1 + length (tokens_then ps) ≡ at + length (tokens_then (p ∷ ps)) =
    omega (arith, length-append (token_text p) (space ∷ tokens_then ps)) in
    ap (pieces_from at []) (append_assoc (token_text p) (space ∷ tokens_then ps) rest)
    ∙ pieces_part (token_text p) at [] (tokens_then ps ++ rest) (token_no_space p)
    ∙ ap (λ (l : List Piece). piece at (token_text p) ∷ l)
    (passed_from ps (at + length (token_text p) + 1) rest
    ∙ ap (λ (k : ℕ). passed (at + length (token_text p) + 1) ps ++ pieces_from k [] rest) next)

-- Tokens with a space behind each stand in front of what is left.
pub pieces_passed : (ps : List SignedPower) (rest : List ℕ) → AllInRange ps
    → (before : List Piece) × AllWellSpelled before
    × (pieces_from 0 [] (tokens_then ps ++ rest) ≡ before ++ pieces_from (length (tokens_then ps)) [] rest)
pieces_passed ps rest h =
    let same : 0 + length (tokens_then ps) ≡ length (tokens_then ps) = omega arith in (
      passed 0 ps,
      passed_spelled ps 0 h,
      passed_from ps 0 rest ∙ ap (λ (k : ℕ). passed 0 ps ++ pieces_from k [] rest) same,
    )
