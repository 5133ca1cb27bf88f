-- The contract of the record writer, on every input.
-- Inside: no claim reaches these definitions; a reader of the claims need not believe them. Assumes nothing.
use Rattle.std.specs.Prelude.{◌≡◌, cond, List, ℕ, suc, length, ltb, Result, Ok, Err}
use Rattle.std.proofs.lemmas.List.Edits.{sets}
use Rattle.refusals.specs.declared.Failure.{Failure}
use Rattle.refusals.specs.declared.Failure.TheVariants.{Refused, Unfit}
use Rattle.group.specs.Limits.{limit}
use Rattle.refusals.specs.Outcomes.{Outcome, accepted, refused, after, valued, refusal}
use Rattle.records.specs.Format.{record_of}

-- The outcome of each answer of the record writer: 0 is no number of the paper, and no call of the paper meets it.
abbrev pub encoding_of : Result ℕ Failure → Outcome ℕ
encoding_of (Ok n) = accepted n
encoding_of (Err (Refused r)) = refusal r
encoding_of (Err Unfit) = refused 0 0

-- The bytes of two tables' record, beside a buffer of the length n: tables with indices above the limit first, then 7.
abbrev pub encode_tables : (b a : List ℕ) (n : ℕ) → Outcome (List ℕ)
encode_tables b a n =
    cond (ltb (suc limit) (length b)) (refused 0 0)
    (cond (ltb (suc limit) (length a)) (refused 0 0)
    (cond (ltb n (length (record_of b a))) (refused 7 0) (accepted (record_of b a))))

-- The record of two tables was written at the front of the buffer, and nothing else.
pub record Encoded (b a buffer buffer' : List ℕ) (r : Result ℕ Failure) : Type 0 where
  pub result : encoding_of r ≡ valued length (encode_tables b a (length buffer))
  pub bytes : buffer' ≡ after (encode_tables b a (length buffer)) buffer (λ bytes. sets buffer 0 bytes)
