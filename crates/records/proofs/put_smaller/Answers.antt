-- `put_smaller` meets its contract: the exchange where it comes first, else the record. Assumes nothing.
use mathlib.Core.Path.{◌≡◌, sym, ap, ◌∙◌}
use mathlib.Core.Bool.{true, false}
use mathlib.Core.List.{List, ◌++◌}
use Prim.Native.Nat.{ℕ}
use native.Mathlib.Nat.{zero-add}
use native.Mathlib.Omega.{arith}
use lib.ListN.{length, drop}
use lib.Seq.{sets, sets-eq}
use Rattle.std.specs.Prelude.{Some}
use Rattle.records.specs.Reading.{frames}
use Rattle.records.specs.Exchange.{is_above}
use Rattle.records.proofs.ExchangeAnswers.{smaller_put}
use Rattle.records.proofs.put_smaller.Goals as goal

pub returns-else-is_above : goal.returns-else-is_above
returns-else-is_above c =
    let s : List ℕ = c.args.«record».now in
    let out : List ℕ = c.args.out.now in
    let f = c.in_ok-frame.frame in
    let some : c.read.result ≡ Some f = grind arith in
    let same : f.bytes.now ≡ s = rw some at c.read.ensures in
    let framed : frames s ≡ true = ap frames (sym same) ∙ f.framed.framed in
    let below : false ≡ is_above s = sym c.if-is_above.false ∙ c.is_above.ensures ∙ ap is_above same in
    let holds : s ++ drop (length s) out ≡ sets out 0 s = sym (rw zero-add at (sets-eq s out 0 (omega arith))) in
    smaller_put s out false framed (omega arith) below
    (ap (λ (l : List ℕ). l ++ drop (length s) out) c.copy_from_slice.ensures.after ∙ holds)
