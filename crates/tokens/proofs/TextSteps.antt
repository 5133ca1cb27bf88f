-- A text read token by token: the tokens in front of the place, and what the reader answers. Assumes nothing.
use mathlib.Core.Path.{◌≡◌, refl, sym, ap, ◌∙◌, subst}
use mathlib.Core.List.{List, [], ◌∷◌, ◌++◌, append_assoc, append-nil}
use Prim.Native.Nat.{ℕ, ◌+◌, ◌≤◌, ◌<◌}
use native.Mathlib.Omega.{arith}
use lib.ListN.{length, get_or, drop, length-append, length-drop, drop_of_length-le}
use Rattle.std.specs.Prelude.{Option, Some, None, Ok, Err}
use Rattle.std.specs.Option.{ok_or}
use Rattle.group.specs.Limits.{limit}
use Rattle.group.specs.Powers.{SignedPower}
use Rattle.refusals.specs.declared.Refusal.TheVariants.{Misspelled, LargeExponents}
use Rattle.refusals.specs.Outcomes.{accepted, refused}
use Rattle.tokens.specs.Tokens.{space, token_text, InRange, AllInRange}
use Rattle.tokens.specs.Texts.{text_of, FirstMisspelled}
use Rattle.tokens.specs.Reading.{misspelled, large, read}
use Rattle.tokens.specs.declared.Powers.{Powers}
use Rattle.tokens.specs.declared.token.Power.{Power}
use Rattle.tokens.specs.inside.Arrays.{Holding, TokensRead}
use Rattle.tokens.specs.inside.Ends.{AtEnd, tokens_then}
use Rattle.tokens.specs.inside.Spelling.{PowerRead, NoToken}
use Rattle.tokens.specs.inside.Keeping.{power_of, Keepable, Kept}
use Rattle.tokens.proofs.DigitRuns.{drop_next}
use Rattle.tokens.proofs.Misspelled.{first_misspelled}
use Rattle.tokens.proofs.Stored.{Stored, held_none, stored_few, stored_more}
use Rattle.tokens.proofs.Texts.{text_ended, then_more}

-- Amid a text: the powers of the tokens in front of the place, each token with the space behind it; behind the end of
-- the text, the powers of all tokens.
pub record Reading (t : List ℕ) (at : ℕ) (kept : Option Powers) (ks es ss : List ℕ) : Type 0 where
  pub powers : List SignedPower
  pub in_range : AllInRange powers
  pub front : at ≤ length t → t ≡ tokens_then powers ++ drop at t
  pub all : length t < at → t ≡ text_of powers
  pub stored : Stored powers kept ks es ss

-- Powers in range, and one more.
in_range_more : (ps : List SignedPower) (p : SignedPower) → AllInRange ps → InRange p → AllInRange (ps ++ (p ∷ []))
in_range_more [] p h g = (g, tt)
in_range_more (q ∷ ps) p h g = (h.0, in_range_more ps p h.1 g)

-- A space follows.
space_next : (t : List ℕ) (i : ℕ) → i < length t → AtEnd (drop i t) → drop i t ≡ space ∷ drop (i + 1) t
space_next t i lt ends =
    let next : drop i t ≡ get_or t i 0 ∷ drop (i + 1) t = drop_next t i lt in
    let sign : get_or t i 0 ≡ space = subst AtEnd next ends in
    next ∙ ap (λ (c : ℕ). c ∷ drop (i + 1) t) sign

-- One token more, with the space behind it.
token_front : (ps : List SignedPower) (p : SignedPower) (s : List ℕ)
    → tokens_then ps ++ (token_text p ++ (space ∷ s)) ≡ tokens_then (ps ++ (p ∷ [])) ++ s
token_front ps p s = simp (then_more ps p, append_assoc)

-- The last token.
token_last : (ps : List SignedPower) (p : SignedPower) → tokens_then ps ++ (token_text p ++ []) ≡ text_of (ps ++ (p ∷ []))
token_last ps p = ap (λ (s : List ℕ). tokens_then ps ++ s) (append-nil (token_text p)) ∙ text_ended ps p

module _ {t : List ℕ} {at : ℕ} {kept : Option Powers} {ks es ss : List ℕ} (r : Reading t at kept ks es ss) where
  -- The power of a token can be kept.
  pub reading_keeps : {p : Power} → PowerRead t at (power_of p) p.end → length ks ≡ limit → length es ≡ limit
      → length ss ≡ limit → Keepable p kept ks es ss
  reading_keeps h hk he hs = record {
    in_range = h.in_range;
    few = stored_few r.powers kept ks es ss r.stored;
    ks_size = hk;
    es_size = he;
    ss_size = hs;
  }

  -- One token more.
  pub reading_more : {p : Power} {kept' : Option Powers} {ks' es' ss' : List ℕ} → at ≤ length t
      → PowerRead t at (power_of p) p.end → Keepable p kept ks es ss → Kept p kept ks es ss ks' es' ss' kept'
      → Reading t (p.end + 1) kept' ks' es' ss'
  reading_more {p} {kept'} {ks'} {es'} {ss'} le h can k = record {
    powers = r.powers ++ (power_of p ∷ []);
    in_range = in_range_more r.powers (power_of p) r.in_range h.in_range;
    front = λ on. then (space_next t p.end (omega arith) h.ends) ∙ token_front r.powers (power_of p) _;
    all = λ out. then (drop_of_length-le t {i = p.end} (omega arith)) ∙ token_last r.powers (power_of p);
    stored = stored_more r.powers p kept kept' ks es ss ks' es' ss' r.stored can k;
  }
    where
      text : t ≡ tokens_then r.powers ++ (token_text (power_of p) ++ drop p.end t)
      text = r.front le ∙ ap (λ (s : List ℕ). tokens_then r.powers ++ s) h.text

      then : {s : List ℕ} → drop p.end t ≡ s → t ≡ tokens_then r.powers ++ (token_text (power_of p) ++ s)
      then e = text ∙ ap (λ (s : List ℕ). tokens_then r.powers ++ (token_text (power_of p) ++ s)) e

  -- No token stands at the place.
  pub reading_misspelled : at ≤ length t → (length t ≡ 0 → ⊥) → NoToken (drop at t)
      → TokensRead t ks es ss (Err (Misspelled at))
  reading_misspelled le some none = record {
    outcome = refused 9 at;
    reads = misspelled at (subst (FirstMisspelled t) (sym place)
        (first_misspelled t r.powers (drop at t) r.in_range (r.front le) (λ e. some (ap length e)) none));
    result = refl;
    held = λ p ps e f. let z : ◌≡◌ {A = ℕ} 0 1 = cc in absurd (omega arith);
  }
    where
      place : at ≡ length (tokens_then r.powers)
      place =
          omega (arith, ap length (r.front le), length-append (tokens_then r.powers) (drop at t), length-drop at t)

-- Behind the end of the text: the sizes sum above the limit.
reading_large : {t : List ℕ} {at : ℕ} {ks es ss : List ℕ} → Reading t at None ks es ss → length t < at
    → TokensRead t ks es ss (Err LargeExponents)
reading_large r out = record {
  outcome = refused 10 0;
  reads = large r.powers r.in_range (r.all out) r.stored;
  result = refl;
  held = λ p ps e f. let z : ◌≡◌ {A = ℕ} 0 1 = cc in absurd (omega arith);
}

-- They do not.
reading_read : {t : List ℕ} {at : ℕ} {kept : Powers} {ks es ss : List ℕ} → Reading t at (Some kept) ks es ss
    → length t < at → TokensRead t ks es ss (Ok kept)
reading_read {kept = kept} {ks} {es} {ss} r out = record {
  outcome = accepted r.powers;
  reads = read r.powers r.in_range (r.all out) (omega (arith, r.stored.summed, r.stored.small));
  result = ap accepted r.stored.summed;
  held = λ p ps e f. holding p ps (cc) (cc);
}
  where
    holding : (p : Powers) (ps : List SignedPower) → kept ≡ p → r.powers ≡ ps → Holding ps p.count ks es ss
    holding p ps e f = rw (sym e, sym f) r.stored.held

-- The empty text.
pub reading_empty : (t ks es ss : List ℕ) → length t ≡ 0 → TokensRead t ks es ss (Ok (record { count = 0; sum = 0 }))
reading_empty [] ks es ss e = record {
  outcome = accepted [];
  reads = read [] tt refl (omega arith);
  result = refl;
  held = λ p ps e f. holding p ps (cc) (cc);
}
  where
    holding : (p : Powers) (ps : List SignedPower) → record { count = 0; sum = 0 } ≡ p → [] ≡ ps
        → Holding ps p.count ks es ss
    holding p ps e f = rw (sym e, sym f) ((held_none ks es ss).held)
reading_empty (c ∷ t) ks es ss e = absurd (omega arith)

-- The answer behind the end of the text.
pub reading_done : {t : List ℕ} {at : ℕ} (kept : Option Powers) {ks es ss : List ℕ} → Reading t at kept ks es ss
    → length t < at → TokensRead t ks es ss (ok_or kept LargeExponents)
reading_done (Some kept) r out = reading_read r out
reading_done None r out = reading_large r out
