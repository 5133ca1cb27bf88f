-- What a text is read as is one outcome (02, [1]): it passes refusal 9 just when it is the text of powers in range, the
-- first misspelled piece is one, and so is the outcome. Assumes nothing.
use mathlib.Core.Path.{◌≡◌, refl, sym, ap, ◌∙◌, subst}
use mathlib.Core.List.{List, [], ◌∷◌, ◌++◌, append_assoc, append-nil}
use mathlib.Core.Logic.{◌↔◌}
use Prim.Native.Nat.{ℕ, ◌+◌}
use native.Mathlib.Decide.{ℕ_discrete}
use native.Mathlib.Omega.{arith}
use lib.ListN.{length}
use Rattle.group.specs.Powers.{SignedPower, exponent_sizes}
use Rattle.refusals.specs.Outcomes.{Outcome, accepted, refused}
use Rattle.tokens.specs.Tokens.{space, token_text, InRange, AllInRange, WellSpelled}
use Rattle.tokens.specs.Texts.{further_text, text_of, piece, pieces_from, pieces_of, AllWellSpelled}
use Rattle.tokens.specs.Texts.{FirstMisspelled}
use Rattle.tokens.specs.Reading.{TextRead, misspelled, large, read}
use Rattle.tokens.proofs.TokenTexts.{token_no_space}
use Rattle.tokens.proofs.Texts.{text_begun, text_injective}
use Rattle.tokens.proofs.Pieces.{pieces_end, pieces_more, pieces_part, pieces_last, pieces_begun}
use Rattle.tokens.proofs.Misspelled.{first_only, spelled_behind}

-- A power at least, and all in range, whose text it is.
record TextPowers (t : List ℕ) : Type 0 where
  head : SignedPower
  tail : List SignedPower
  head_range : InRange head
  tail_range : AllInRange tail
  same : t ≡ text_of (head ∷ tail)

-- The last token.
powers_last : (begun : List ℕ) → WellSpelled begun → TextPowers (begun ++ [])
powers_last begun w = record {
  head = w.power;
  tail = [];
  head_range = w.in_range;
  tail_range = tt;
  same = ap (λ (b : List ℕ). b ++ []) w.text;
}

-- A token, a space, and the tokens behind it.
powers_more : (begun t : List ℕ) (c : ℕ) → c ≡ space → WellSpelled begun → TextPowers t → TextPowers (begun ++ (c ∷ t))
powers_more begun t c e w p = record {
  head = w.power;
  tail = p.head ∷ p.tail;
  head_range = w.in_range;
  tail_range = (p.head_range, p.tail_range);
  same =
      ap (λ (b : List ℕ). b ++ (c ∷ t)) w.text
      ∙ ap (λ (b : ℕ). token_text w.power ++ (b ∷ t)) e
      ∙ ap (λ (l : List ℕ). token_text w.power ++ (space ∷ l)) p.same;
}

-- Pieces that are all well spelled are those of a text.
powers_from : (t : List ℕ) (at : ℕ) (begun : List ℕ) → AllWellSpelled (pieces_from at begun t) → TextPowers (begun ++ t)
unfolding pieces_from
powers_from [] at begun h = powers_last begun h.0
powers_from (c ∷ t) at begun h = go (λ k b g. powers_from t k b g) (ℕ_discrete c space)
  where
    go : ((k : ℕ) (b : List ℕ) → AllWellSpelled (pieces_from k b t) → TextPowers (b ++ t)) → Dec (c ≡ space)
        → TextPowers (begun ++ (c ∷ t))
    go later (yes e) =
        let all : AllWellSpelled (piece at begun ∷ pieces_from (at + length begun + 1) [] t) =
        subst AllWellSpelled (pieces_end at begun t c e) h in
        powers_more begun t c e all.0 (later (at + length begun + 1) [] all.1)
    go later (no other) =
        subst TextPowers (append_assoc begun (c ∷ []) t)
        (later at (begun ++ (c ∷ [])) (subst AllWellSpelled (pieces_more at begun t c other) h))

-- The pieces of a text of powers in range are well spelled.
spelled_from : (ps : List SignedPower) (p : SignedPower) (at : ℕ) → InRange p → AllInRange ps
    → AllWellSpelled (pieces_from at [] (text_of (p ∷ ps)))
spelled_from [] p at h g =
    subst AllWellSpelled
    (sym (ap (pieces_from at []) (append-nil (token_text p)) ∙ pieces_last (token_text p) at [] (token_no_space p)))
    (record { power = p; in_range = h; text = refl }, tt)
spelled_from (q ∷ ps) p at h g =
    subst AllWellSpelled (sym (pieces_part (token_text p) at [] (text_of (q ∷ ps)) (token_no_space p))) (
      record { power = p; in_range = h; text = refl },
      spelled_from ps q (at + length (token_text p) + 1) g.0 g.1,
    )

-- The text of powers in range passes.
text_spelled : (ps : List SignedPower) → AllInRange ps → AllWellSpelled (pieces_of (text_of ps))
text_spelled [] h = tt
text_spelled (p ∷ ps) h =
    subst AllWellSpelled (sym (pieces_begun (text_of (p ∷ ps)) (text_begun p (further_text ps))))
    (spelled_from ps p 0 h.0 h.1)

-- A text that passes is the text of powers in range.
spelled_text : (t : List ℕ) → AllWellSpelled (pieces_of t) → (ps : List SignedPower) × AllInRange ps × (t ≡ text_of ps)
spelled_text [] h = ([], tt, refl)
spelled_text (c ∷ t) h = go (powers_from (c ∷ t) 0 [] h)
  where
    go : TextPowers (c ∷ t) → (ps : List SignedPower) × AllInRange ps × (c ∷ t ≡ text_of ps)
    go p = (p.head ∷ p.tail, (p.head_range, p.tail_range), p.same)

-- A text passes refusal 9 just when it is the text of powers in range; by `text_injective` of one list only.
pub all_spelled : (t : List ℕ)
    → AllWellSpelled (pieces_of t) ↔ ((ps : List SignedPower) × AllInRange ps × (t ≡ text_of ps))
all_spelled t = (
  spelled_text t,
  λ q. subst (λ (s : List ℕ). AllWellSpelled (pieces_of s)) (sym q.2) (text_spelled q.0 q.1),
)

-- A text with a misspelled piece is the text of no powers in range.
pub spelled_or_not : (t : List ℕ) (k : ℕ) → FirstMisspelled t k → (ps : List SignedPower) → AllInRange ps
    → t ≡ text_of ps → ⊥
spelled_or_not t k f ps h e =
    f.here
    (spelled_behind f.before f.behind k f.bytes
    (subst AllWellSpelled f.order ((all_spelled t).1 (ps, h, e))))

-- The powers of one text have one sum.
same_sizes : (t : List ℕ) (ps qs : List SignedPower) → t ≡ text_of ps → t ≡ text_of qs
    → exponent_sizes ps ≡ exponent_sizes qs
same_sizes t ps qs e f = ap exponent_sizes (text_injective ps qs (sym e ∙ f))

-- A text is read in one way.
pub read_one : (t : List ℕ) (o q : Outcome (List SignedPower)) → TextRead t o → TextRead t q → o ≡ q
read_one t o q (misspelled j f) (misspelled k g) = ap (refused 9) (first_only t j k f g)
read_one t o q (misspelled j f) (large ps h e l) = absurd (spelled_or_not t j f ps h e)
read_one t o q (misspelled j f) (read ps h e l) = absurd (spelled_or_not t j f ps h e)
read_one t o q (large ps h e l) (misspelled j f) = absurd (spelled_or_not t j f ps h e)
read_one t o q (large ps h e l) (large qs g f m) = refl
read_one t o q (large ps h e l) (read qs g f m) = absurd (omega (arith, same_sizes t ps qs e f))
read_one t o q (read ps h e l) (misspelled j f) = absurd (spelled_or_not t j f ps h e)
read_one t o q (read ps h e l) (large qs g f m) = absurd (omega (arith, same_sizes t ps qs e f))
read_one t o q (read ps h e l) (read qs g f m) = ap accepted (text_injective ps qs (sym e ∙ f))
