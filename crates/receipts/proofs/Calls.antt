-- What the calls of the receipt program leave, where they do not refuse: the text fits into the buffer, and stands at
-- its front. Assumes nothing.
use Rattle.std.proofs.Common.{◌≡◌, ℕ, ◌^◌, ◌<◌, ◌≤◌, List, [], ◌∷◌, length, take, sym, ap, ◌∙◌, arith, length-append}
use Rattle.std.proofs.Common.{length-take}
use native.Mathlib.Decide.{dec_lt}
use lib.Seq.{sets}
use Rattle.std.specs.Prelude.{Result}
use Rattle.refusals.specs.declared.Refusal.{Refusal}
use Rattle.lists.proofs.Writes.{sets_front}
use Rattle.lines.specs.Lines.{last_line}
use Rattle.refusals.specs.Outcomes.{Outcome, accepted, after, then, reply_of}
use Rattle.refusals.proofs.Outcomes.{accepted_same, accepted_refused}
use Rattle.refusals.proofs.Placing.{fit_short, fit_long, placed_front}
use Rattle.rows.specs.Receipts.{receipt_of, receipts_from, receipt_size}
use Rattle.receipts.specs.Serving.{Amid, line_size, served, part_size}
use Rattle.receipts.specs.Promises.{Finished, serving_of, answer_of, served_in, ServedPart}
use Rattle.receipts.specs.declared.Served.{Served}
use Rattle.rows.proofs.Sizes.{receipt_length}
use Rattle.receipts.proofs.Bounds.{served_bounds}

-- The receipt of a last line fits into the size stated.
pub last_size : (k : ℕ) (l : List ℕ) (n : ℕ) → k < 2 ^ 64 → length l ≤ n
    → length (receipts_from k (last_line l)) ≤ receipt_size n
last_size k [] n h le = omega arith
last_size k (x ∷ l) n h le =
    omega (arith, length-append (receipt_of k (x ∷ l)) [], receipt_length k (x ∷ l) h, le)

-- What `finish` writes.
pub finish_front : (k held : ℕ) (line : List ℕ) {out out' : List ℕ} {r : Result ℕ Refusal} {n : ℕ}
    → Finished k held line out out' r → k < 2 ^ 64 → length line ≡ line_size → reply_of r ≡ accepted n
    → take n out' ≡ receipts_from k (last_line (take held line))
finish_front k held line h few size e =
    placed_front h (last_size k (take held line) line_size few (omega (arith, length-take held line, size))) e

-- A part that was taken: the answer, the line buffer, and the receipts at the front of the buffer.
pub record FrontTaken (m : Amid) (line' out' : List ℕ) (s : Served) : Type 0 where
  pub answers : s ≡ answer_of m
  pub leaves_line : line' ≡ m.line
  pub front : take s.written out' ≡ m.receipts

-- What `serve` answers and writes.
pub serve_front : {part : List ℕ} {k held : ℕ} {line out line' out' : List ℕ} {r : Result Served Refusal} {s : Served}
    → ServedPart part k held line out line' out' r → k < 2 ^ 64 → length line ≡ line_size → serving_of r ≡ accepted s
    → FrontTaken (served part k line held) line' out' s
serve_front {part} {k} {held} {line} {out} {line'} {out'} {r} {s} h few size e =
    go (dec_lt (length out) (part_size (length part)))
  where
    m : Amid
    m = served part k line held

    answer : Outcome Amid → Outcome Served
    answer o = then o (λ x. accepted (answer_of x))

    go : Dec (length out < part_size (length part)) → FrontTaken (served part k line held) line' out' s
    go (yes short) =
        absurd (accepted_refused (sym e ∙ h.result ∙ ap answer (fit_short (part_size (length part)) m out short)))
    go (no long) =
        let fits : served_in part k held line out ≡ accepted m =
        fit_long (part_size (length part)) m out (omega arith) in
        let same : s ≡ answer_of m = accepted_same (sym e ∙ h.result ∙ ap answer fits) in
        let count : s.written ≡ length m.receipts = ap (λ (x : Served). x.written) same in
        let bound : length m.receipts ≤ length out =
        omega (arith, long, size, length-take held line, (served_bounds part k line held few).bytes) in
        record {
          answers = same;
          leaves_line = h.leaves_line ∙ ap (λ (o : Outcome Amid). after o line (λ x. x.line)) fits;
          front =
              ap (take s.written)
              (h.leaves_out ∙ ap (λ (o : Outcome Amid). after o out (λ x. sets out 0 x.receipts)) fits)
              ∙ sets_front m.receipts out s.written (sym count) (omega (arith, count, bound));
        }
