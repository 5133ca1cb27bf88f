-- The answers of `serve`: a part that was taken, or refusal 7. Assumes nothing.
use Rattle.std.proofs.Common.{◌≡◌, ℕ, ◌<◌, ◌≤◌, List, length, sym, refl, ap, ◌∙◌}
use lib.Seq.{sets}
use Rattle.std.specs.Prelude.{Result, Ok}
use Rattle.refusals.specs.declared.Refusal.{Refusal}
use Rattle.refusals.specs.Outcomes.{Outcome, accepted, refused, after, then}
use Rattle.receipts.specs.Serving.{Amid, served, part_size}
use Rattle.receipts.specs.Promises.{serving_of, answer_of, served_in, ServedPart}
use Rattle.receipts.specs.inside.Taking.{PartTaken}
use Rattle.receipts.specs.declared.Served.{Served}
use Rattle.refusals.proofs.Placing.{fit_short, fit_long}

module _ (part : List ℕ) (k held : ℕ) (line out : List ℕ) where
  abbrev m : Amid
  m = served part k line held

  -- A judgement of what is found gives the three parts of the contract.
  from : {line' out' : List ℕ} {r : Result Served Refusal} (o : Outcome Amid) → served_in part k held line out ≡ o
      → serving_of r ≡ then o (λ x. accepted (answer_of x)) → line' ≡ after o line (λ x. x.line)
      → out' ≡ after o out (λ x. sets out 0 x.receipts) → ServedPart part k held line out line' out' r
  from o e a b c = record {
    result = a ∙ sym (ap (λ (x : Outcome Amid). then x (λ y. accepted (answer_of y))) e);
    leaves_line = b ∙ sym (ap (λ (x : Outcome Amid). after x line (λ y. y.line)) e);
    leaves_out = c ∙ sym (ap (λ (x : Outcome Amid). after x out (λ y. sets out 0 y.receipts)) e);
  }

  -- The buffer is too short.
  pub part_short : (r : Result Served Refusal) → serving_of r ≡ refused 7 0 → length out < part_size (length part)
      → ServedPart part k held line out line out r
  part_short r e h = from (refused 7 0) (fit_short (part_size (length part)) m out h) e refl refl

  -- The part was taken.
  pub part_taken : {line' out' : List ℕ} {s : Served} → part_size (length part) ≤ length out
      → PartTaken (served part k line held) out line' out' s → ServedPart part k held line out line' out' (Ok s)
  part_taken h t =
      from (accepted m) (fit_long (part_size (length part)) m out h) (ap accepted t.result) t.leaves_line
      t.leaves_out
