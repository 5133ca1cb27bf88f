-- Texts of powers (02, [1]: "tokens stand one space apart. … Empty text is the empty word."): the text of powers and
-- further powers, and no text is the text of two lists of powers. Assumes nothing.
use mathlib.Core.Path.{◌≡◌, refl, sym, ap, ap₂, ◌∙◌}
use mathlib.Core.List.{List, [], ◌∷◌, ◌++◌, append_assoc, append-nil}
use Prim.Native.Nat.{ℕ}
use native.Mathlib.Omega.{arith}
use Rattle.group.specs.Powers.{SignedPower, signed_power}
use Rattle.tokens.specs.Tokens.{space, token_text}
use Rattle.tokens.specs.Texts.{further_text, text_of}
use Rattle.tokens.specs.inside.Ends.{AtEnd, tokens_then}
use Rattle.tokens.proofs.TokenTexts.{token_prefix}

-- Further powers, and powers behind them.
pub further_append : (ps qs : List SignedPower) → further_text (ps ++ qs) ≡ further_text ps ++ further_text qs
further_append [] qs = refl
further_append (p ∷ ps) qs =
    ap (λ (t : List ℕ). space ∷ (token_text p ++ t)) (further_append ps qs)
    ∙ ap (λ (t : List ℕ). space ∷ t) (sym (append_assoc (token_text p) (further_text ps) (further_text qs)))

-- Nothing is left behind a token, or a space is next.
pub further_ends : (ps : List SignedPower) → AtEnd (further_text ps)
further_ends [] = tt
further_ends (p ∷ ps) = refl

-- A text of further powers is that of one list.
further_injective : (ps qs : List SignedPower) → further_text ps ≡ further_text qs → ps ≡ qs
further_injective [] [] h = refl
further_injective [] (q ∷ qs) h = let z : ◌≡◌ {A = ℕ} 0 1 = cc in absurd (omega arith)
further_injective (p ∷ ps) [] h = let z : ◌≡◌ {A = ℕ} 0 1 = cc in absurd (omega arith)
further_injective (p ∷ ps) (q ∷ qs) h =
    let tails : token_text p ++ further_text ps ≡ token_text q ++ further_text qs = cc in
    let parts = token_prefix p q (further_text ps) (further_text qs) (further_ends ps) (further_ends qs) tails in
    ap₂ (λ (a : SignedPower) (l : List SignedPower). a ∷ l) parts.0 (further_injective ps qs parts.1)

-- The text of a power at least is not empty.
pub text_begun : (p : SignedPower) (t : List ℕ) → token_text p ++ t ≡ [] → ⊥
text_begun (signed_power s k e) t h = let z : ◌≡◌ {A = ℕ} 0 1 = cc in omega arith

-- A text is the text of one list of powers.
pub text_injective : (ps qs : List SignedPower) → text_of ps ≡ text_of qs → ps ≡ qs
text_injective [] [] h = refl
text_injective [] (q ∷ qs) h = absurd (text_begun q (further_text qs) (sym h))
text_injective (p ∷ ps) [] h = absurd (text_begun p (further_text ps) h)
text_injective (p ∷ ps) (q ∷ qs) h =
    let parts = token_prefix p q (further_text ps) (further_text qs) (further_ends ps) (further_ends qs) h in
    ap₂ (λ (a : SignedPower) (l : List SignedPower). a ∷ l) parts.0 (further_injective ps qs parts.1)

-- Tokens with a space behind each, and one with none, are further powers behind a space.
then_further : (ps : List SignedPower) (p : SignedPower)
    → space ∷ (tokens_then ps ++ token_text p) ≡ further_text (ps ++ (p ∷ []))
then_further [] p = ap (λ (t : List ℕ). space ∷ t) (sym (append-nil (token_text p)))
then_further (q ∷ ps) p =
    ap (λ (t : List ℕ). space ∷ t)
    (append_assoc (token_text q) (space ∷ tokens_then ps) (token_text p)
    ∙ ap (λ (t : List ℕ). token_text q ++ t) (then_further ps p))

-- Tokens with a space behind each, and one with none, are a text.
pub text_ended : (ps : List SignedPower) (p : SignedPower) → tokens_then ps ++ token_text p ≡ text_of (ps ++ (p ∷ []))
text_ended [] p = sym (append-nil (token_text p))
text_ended (q ∷ ps) p =
    append_assoc (token_text q) (space ∷ tokens_then ps) (token_text p)
    ∙ ap (λ (t : List ℕ). token_text q ++ t) (then_further ps p)

-- One more token with a space behind it.
pub then_more : (ps : List SignedPower) (p : SignedPower)
    → tokens_then (ps ++ (p ∷ [])) ≡ tokens_then ps ++ (token_text p ++ (space ∷ []))
then_more [] p = refl
then_more (q ∷ ps) p =
    ap (λ (t : List ℕ). token_text q ++ (space ∷ t)) (then_more ps p)
    ∙ sym (append_assoc (token_text q) (space ∷ tokens_then ps) (token_text p ++ (space ∷ [])))
