use mathlib.Core.Path.{ap}
use mathlib.Core.List.{[], ◌∷◌}
use Prim.Native.Nat.{ℕ}
use native.Mathlib.Omega.{arith}
use Rattle.appending.proofs.Appending.{append-then, append_again, append_same}
use Rattle.commands.proofs.ShapeDigits.{digits_more}
use Rattle.commands.proofs.digits.append_digits.Goals as goal

pub loop-x-init : goal.loop-x-init
loop-x-init c = append_again c.append-end.ensures

pub loop-x-preserved : goal.loop-x-preserved
loop-x-preserved c = append_same (digits_more c.args.shape.now c.loop-x.x-index (omega arith))
    (append-then c.loop-x.invariant (append_same (ap (λ (n : ℕ). n ∷ []) c.digit.ensures) c.append_byte-end.ensures))
