-- A text part by part, as a reader from the left meets it (02, [1]: "tokens stand one space apart").
--     AtEnd s         a token ends in front of s: nothing is left, or a space is next
--     tokens_then ps   the tokens of the powers, a space behind each
-- Assumes nothing.
use Rattle.std.specs.Prelude.{◌≡◌, List, [], ◌∷◌, ◌++◌, ℕ}
use Rattle.group.specs.Powers.{SignedPower}
use Rattle.tokens.specs.Tokens.{space, token_text}

-- Nothing is left, or a space is next.
abbrev pub AtEnd : List ℕ → Type 0
AtEnd [] = Unit {0}
AtEnd (c ∷ s) = c ≡ space

-- Each token followed by a space.
abbrev pub tokens_then : List SignedPower → List ℕ
tokens_then [] = []
tokens_then (p ∷ ps) = token_text p ++ (space ∷ tokens_then ps)
