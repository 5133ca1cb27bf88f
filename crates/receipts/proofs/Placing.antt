-- What is put into a part that was lent, seen in the whole; and what `finish` writes: the receipt of a last line that
-- is not empty, or nothing. Assumes nothing.
use Rattle.std.proofs.Common.{◌≡◌, ℕ, zero, suc, ◌+◌, ◌-◌, ◌<◌, ◌≤◌, List, [], ◌∷◌, ◌++◌, length, take, drop, sym, refl}
use Rattle.std.proofs.Common.{ap, ◌∙◌, append-nil, arith, length-drop, length-take, take_all, min}
use native.Mathlib.Decide.{dec_lt}
use lib.Seq.{sets}
use Rattle.std.specs.Prelude.{Result, Ok}
use Rattle.refusals.specs.declared.Refusal.{Refusal}
use Rattle.lists.specs.inside.Writes.{Wrote}
use Rattle.lists.proofs.Writes.{wrote_same, wrote_none, write_part}
use Rattle.refusals.specs.Outcomes.{Outcome, accepted, after, valued}
use Rattle.refusals.proofs.Answered.{reply_accepted}
use Rattle.refusals.specs.Placing.{fitting, Placed}
use Rattle.refusals.proofs.Placing.{fit_long}
use Rattle.lines.specs.Lines.{last_line}
use Rattle.rows.specs.Receipts.{receipt_of, receipts_from}

-- The part from a place on was lent to a call that writes at its front, and there was room for the size stated.
module _ (at : ℕ) (text out : List ℕ) (size : ℕ) (r : Result ℕ Refusal) (h : at + size ≤ length out) where
  -- The part.
  abbrev part : List ℕ
  part = take (length out - at) (drop at out)

  roomy : fitting size text part ≡ accepted text
  roomy = fit_long size text part (omega (arith, length-take (length out - at) (drop at out), length-drop at out))

  -- The call refuses nothing.
  pub part_given : {y : List ℕ} → Placed (fitting size text part) part y r → r ≡ Ok (length text)
  part_given p = reply_accepted r (length text) (p.result ∙ ap (valued length) roomy)

  pub part_count : {y : List ℕ} (n : ℕ) → Placed (fitting size text part) part y r → r ≡ Ok n → n ≡ length text
  part_count n p e = let same = part_given p in cc

  pub part_wrote : {y : List ℕ} (n : ℕ) → Placed (fitting size text part) part y r → r ≡ Ok n
      → Wrote text out at (take at out ++ (y ++ drop (length out - at) (drop at out))) (at + n)
  part_wrote {y} n p e =
      write_part at text out y n (omega arith)
      (record {
        ends = omega (arith, part_count n p e);
        holds = p.bytes ∙ ap (λ (o : Outcome (List ℕ)). after o part (λ bytes. sets part 0 bytes)) roomy;
      })

-- The bytes that are held are no more than the line has.
pub take_min : (n : ℕ) (l : List ℕ) {m : ℕ} → m ≡ min n (length l) → take m l ≡ take n l
take_min n l {m} e = go (dec_lt n (length l))
  where
    go : Dec (n < length l) → take m l ≡ take n l
    go (yes lt) = let same : m ≡ n = omega arith in ap (λ (k : ℕ). take k l) same
    go (no ge) = take_all m l (omega arith) ∙ sym (take_all n l (omega arith))

-- No byte is held: nothing is written.
pub last_none : (k held : ℕ) (line out : List ℕ) → held ≡ 0
    → Wrote (receipts_from k (last_line (take held line))) out 0 out 0
last_none k held line out e =
    wrote_same (sym (ap (λ (n : ℕ). receipts_from k (last_line (take n line))) e)) (wrote_none out 0)

-- A last line that is not empty.
last_line_lem : (k held : ℕ) (line : List ℕ) → (held ≡ 0 → ⊥) → 0 < length line
    → receipt_of k (take held line) ≡ receipts_from k (last_line (take held line))
last_line_lem k zero line some long = absurd (some refl)
last_line_lem k (suc held) [] some long = absurd (omega arith)
last_line_lem k (suc held) (x ∷ line) some long = sym (append-nil (receipt_of k (x ∷ take held line)))

-- Its receipt was written.
pub last_some : (k held : ℕ) (line : List ℕ) {out out' : List ℕ} {n : ℕ} → (held ≡ 0 → ⊥) → 0 < length line
    → Wrote (receipt_of k (take held line)) out 0 out' n
    → Wrote (receipts_from k (last_line (take held line))) out 0 out' n
last_some k held line some long w = wrote_same (last_line_lem k held line some long) w
