-- The answers of text to record: a refusal of the reader is passed on; else the powers that it read are recorded.
-- Assumes nothing.
use mathlib.Core.Path.{◌≡◌, sym, ap, subst, ◌∙◌}
use mathlib.Core.List.{List}
use Prim.Native.Nat.{ℕ, ◌≤◌}
use lib.ListN.{length, take}
use lib.Seq.{sets}
use Rattle.std.specs.Prelude.{Result, Ok, Err}
use Rattle.group.specs.Limits.{limit}
use Rattle.group.specs.Forms.{b_side, a_side}
use Rattle.group.specs.Powers.{SignedPower, exponent_sizes}
use Rattle.group.specs.inside.PowerLists.{powers_in}
use Rattle.refusals.specs.declared.Refusal.{Refusal}
use Rattle.refusals.specs.Refusals.{number_of, place_of}
use Rattle.refusals.specs.Outcomes.{Outcome, accepted, refused, after, valued}
use Rattle.refusals.specs.Memory.{Memory}
use Rattle.refusals.proofs.Outcomes.{accepted_same, accepted_refused, valued_refused, valued_accepted}
use Rattle.records.specs.Format.{encode}
use Rattle.tokens.specs.Tokens.{AllInRange}
use Rattle.tokens.specs.Reading.{TextRead, misspelled, large, read}
use Rattle.tokens.specs.inside.Arrays.{tokens_of, TokensRead}
use Rattle.tokens.specs.declared.Powers.{Powers}
use Rattle.forest.specs.Filling.{product_form, product_table}
use Rattle.notation.specs.Promises.{judged_text, TextRecorded}
use Rattle.notation.specs.inside.Products.{ProductRecorded}
use Rattle.notation.proofs.HeldPowers.{Kept, held_kept}

-- Powers that were read are in range, and their sizes sum to at most the limit.
read_accepted : {t : List ℕ} {o : Outcome (List SignedPower)} (ps : List SignedPower) → TextRead t o → o ≡ accepted ps
    → AllInRange ps × (exponent_sizes ps ≤ limit)
read_accepted ps (misspelled k f) e = absurd (accepted_refused (sym e))
read_accepted ps (large qs range text more) e = absurd (accepted_refused (sym e))
read_accepted ps (read qs range text few) e =
    let same : qs ≡ ps = accepted_same e in
    subst (λ (us : List SignedPower). AllInRange us × (exponent_sizes us ≤ limit)) same (range, few)

module _ {t ks es ss : List ℕ} {v : Result Powers Refusal} (h : TokensRead t ks es ss v) where
  -- A refusal of the reader leaves everything.
  pub text_refused : (q : Refusal) → v ≡ Err q → (m : Memory) → TextRecorded t m m (Err q)
  text_refused q e m =
      let is : h.outcome ≡ refused (number_of q) (place_of q) =
      valued_refused exponent_sizes h.outcome (number_of q) (place_of q) (sym h.result ∙ ap tokens_of e) in
      let all : judged_text h.outcome m ≡ refused (number_of q) (place_of q) =
      ap (λ (o : Outcome (List SignedPower)). judged_text o m) is in
      record {
        found = h.outcome;
        reads = h.reads;
        result = sym (ap (valued (λ ps. length (encode (product_form ps)))) all);
        b_table = sym (ap (λ (o : Outcome (List SignedPower)). product_table b_side o m.b) all);
        a_table = sym (ap (λ (o : Outcome (List SignedPower)). product_table a_side o m.a) all);
        bytes =
            sym
            (ap (λ (o : Outcome (List SignedPower)).
            after o m.buffer (λ ps. sets m.buffer 0 (encode (product_form ps))))
            all);
      }

  -- The powers that were read.
  module _ (p : Powers) (e : v ≡ Ok p) where
    found : (ps : List SignedPower) × (h.outcome ≡ accepted ps) × (exponent_sizes ps ≡ p.sum)
    found = valued_accepted exponent_sizes h.outcome p.sum (sym h.result ∙ ap tokens_of e)

    -- As they are held.
    abbrev powers : List SignedPower
    powers = powers_in (take p.count ks) (take p.count es) (take p.count ss)

    held : powers ≡ found.0
    held = (h.held p found.0 e found.1).holds

    -- How many there are.
    pub text_long : (p.count ≤ length ks) × (p.count ≤ length es) × (p.count ≤ length ss)
    text_long =
        let holds = h.held p found.0 e found.1 in (holds.ks_long, holds.es_long, holds.ss_long)

    pub text_kept : Kept (take p.count ks) (take p.count es) (take p.count ss)
    text_kept =
        let range = read_accepted found.0 h.reads found.1 in
        held_kept (h.held p found.0 e found.1) range.0 range.1

    pub text_sum : p.sum ≡ exponent_sizes powers
    text_sum = sym found.2 ∙ ap exponent_sizes (sym held)

    pub text_recorded : {m m' : Memory} {r : Result ℕ Refusal} → ProductRecorded powers m m' r
        → TextRecorded t m m' r
    text_recorded {m} {m'} {r} w =
        let same : judged_text h.outcome m ≡ judged_text (accepted powers) m =
        ap (λ (o : Outcome (List SignedPower)). judged_text o m) (found.1 ∙ ap accepted (sym held)) in
        record {
          found = h.outcome;
          reads = h.reads;
          result = w.result ∙ sym (ap (valued (λ ps. length (encode (product_form ps)))) same);
          b_table = w.b_table ∙ sym (ap (λ (o : Outcome (List SignedPower)). product_table b_side o m.b) same);
          a_table = w.a_table ∙ sym (ap (λ (o : Outcome (List SignedPower)). product_table a_side o m.a) same);
          bytes =
              w.bytes
              ∙ sym
              (ap (λ (o : Outcome (List SignedPower)).
              after o m.buffer (λ ps. sets m.buffer 0 (encode (product_form ps))))
              same);
        }
