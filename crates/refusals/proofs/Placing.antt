-- Laws of calls that write at the front of a lent buffer: how a call comes to meet `Placed`, and what stands at the
-- front of the buffer then. Assumes nothing.
use mathlib.Core.Path.{◌≡◌, sym, ap, ◌∙◌}
use mathlib.Core.List.{List}
use Prim.Native.Nat.{ℕ, ◌+◌, ◌<◌, ◌≤◌}
use native.Mathlib.Decide.{dec_lt}
use native.Mathlib.Omega.{arith}
use borrow.Author.Tests.{lt-ltb, le-ltb}
use lib.ListN.{length, take}
use lib.Seq.{sets}
use Rattle.std.specs.Prelude.{Result, Ok, Err}
use Rattle.refusals.specs.declared.Refusal.{Refusal}
use Rattle.lists.specs.inside.Writes.{Wrote}
use Rattle.lists.proofs.Writes.{sets_front}
use Rattle.refusals.proofs.Answered.{count_in}
use Rattle.refusals.specs.Outcomes.{Outcome, accepted, refused, after, valued, reply_of}
use Rattle.refusals.specs.Placing.{fitting, Placed}
use Rattle.refusals.proofs.Outcomes.{accepted_same, accepted_refused}

module _ {A : Type 0} (size : ℕ) (x : A) (out : List ℕ) where
  -- A buffer that is too short.
  pub fit_short : length out < size → fitting size x out ≡ refused 7 0
  fit_short h = simp (lt-ltb (length out) size h)

  -- One that is long enough.
  pub fit_long : size ≤ length out → fitting size x out ≡ accepted x
  fit_long h = simp (le-ltb (length out) size h)

-- The buffer, by the outcome.
abbrev placing : List ℕ → Outcome (List ℕ) → List ℕ
placing out o = after o out (λ bytes. sets out 0 bytes)

module _ {o : Outcome (List ℕ)} {out : List ℕ} (r : Result ℕ Refusal) where
  -- A refusal, and nothing is written.
  pub place_refused : {n p : ℕ} → o ≡ refused n p → reply_of r ≡ refused n p → Placed o out out r
  place_refused h e = record { result = e ∙ sym (ap (valued length) h); bytes = sym (ap (placing out) h) }

  -- A text that was written.
  pub place_wrote : {text out' : List ℕ} {n : ℕ} → o ≡ accepted text → reply_of r ≡ accepted n
      → Wrote text out 0 out' n → Placed o out out' r
  place_wrote {text} {out'} {n} h e w =
      let count : n ≡ length text = omega (arith, w.ends) in
      record {
        result = e ∙ ap accepted count ∙ sym (ap (valued length) h);
        bytes = w.holds ∙ sym (ap (placing out) h);
      }

-- The same with a size stated: a buffer that is too short, and one that is long enough.
module _ (size : ℕ) (text out : List ℕ) (r : Result ℕ Refusal) where
  pub place_short : reply_of r ≡ refused 7 0 → length out < size → Placed (fitting size text out) out out r
  place_short e h = place_refused r (fit_short size text out h) e

  pub place_long : {out' : List ℕ} {n : ℕ} → reply_of r ≡ accepted n → size ≤ length out → Wrote text out 0 out' n
      → Placed (fitting size text out) out out' r
  place_long e h w = place_wrote r (fit_long size text out h) e w

-- A text that was placed: the buffer is long enough for the size stated, and the text stands at its front.
pub placed_front : {size : ℕ} {text out out' : List ℕ} {r : Result ℕ Refusal} {n : ℕ}
    → Placed (fitting size text out) out out' r
    → length text ≤ size → reply_of r ≡ accepted n → take n out' ≡ text
placed_front {size} {text} {out} {out'} {r} {n} h le e = go (dec_lt (length out) size)
  where
    go : Dec (length out < size) → take n out' ≡ text
    go (yes short) =
        absurd (accepted_refused (sym e ∙ h.result ∙ ap (valued length) (fit_short size text out short)))
    go (no long) =
        let fits : fitting size text out ≡ accepted text = fit_long size text out (omega arith) in
        let same : n ≡ length text = accepted_same (sym e ∙ h.result ∙ ap (valued length) fits) in
        ap (take n) (h.bytes ∙ ap (placing out) fits)
        ∙ sets_front text out n (sym same) (omega (arith, long, le, same))

-- The same as a write, of as many bytes as the answer counts.
pub placed_wrote : {size : ℕ} {text out out' : List ℕ} (r : Result ℕ Refusal)
    → Placed (fitting size text out) out out' r
    → size ≤ length out → Wrote text out 0 out' (count_in r)
placed_wrote {size} {text} {out} {out'} r h long =
    let fits : fitting size text out ≡ accepted text = fit_long size text out long in
    record {
      ends = counted r (h.result ∙ ap (valued length) fits);
      holds = h.bytes ∙ ap (placing out) fits;
    }
  where
    counted : (q : Result ℕ Refusal) → reply_of q ≡ accepted (length text) → count_in q ≡ 0 + length text
    counted (Ok n) e = let same : n ≡ length text = accepted_same e in omega arith
    counted (Err x) e = absurd (accepted_refused (sym e))
