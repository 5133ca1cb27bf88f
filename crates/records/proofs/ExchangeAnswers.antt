-- What the functions on a record and its exchange answer, by the frame that was read. Assumes nothing.
use mathlib.Core.Path.{◌≡◌, refl, ap, ◌∙◌}
use mathlib.Core.Bool.{Bool, true, cond}
use mathlib.Core.List.{List}
use Prim.Native.Nat.{ℕ, ◌≤◌}
use native.Mathlib.Omega.{arith}
use lib.ListN.{length}
use lib.Seq.{sets}
use Rattle.std.specs.Prelude.{Ok}
use Rattle.refusals.specs.Outcomes.{refused}
use Rattle.refusals.specs.Placing.{fitting, Placed}
use Rattle.refusals.proofs.Placing.{fit_long, place_wrote}
use Rattle.records.specs.Reading.{frames}
use Rattle.records.specs.Exchange.{exchanged, is_above, smaller_record}
use Rattle.records.specs.inside.Exchanging.{smaller_in}
use Rattle.records.proofs.SmallerRecords.{smaller_long}

-- The smaller of the two, beside a buffer.
module _ (s out : List ℕ) where
  pub smaller_framed : frames s ≡ true → smaller_in s out ≡ fitting (length s) (smaller_record s) out
  smaller_framed e = ap (λ (p : Bool). cond p (fitting (length s) (smaller_record s) out) (refused 3 0)) e

  -- What was written where there is room.
  pub smaller_put : {out' : List ℕ} (p : Bool) → frames s ≡ true → length s ≤ length out → p ≡ is_above s
      → out' ≡ sets out 0 (cond p (exchanged s) s) → Placed (smaller_in s out) out out' (Ok (length s))
  smaller_put {out'} p e room is holds =
      place_wrote (Ok (length s))
      (smaller_framed e ∙ fit_long (length s) (smaller_record s) out room)
      refl
      (record {
        ends = omega (arith, smaller_long s e);
        holds = holds ∙ ap (λ (q : Bool). sets out 0 (cond q (exchanged s) s)) is;
      })
