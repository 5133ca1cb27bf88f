use mathlib.Core.Path.{ap}
use mathlib.Core.List.{[], ◌∷◌}
use Prim.Native.Nat.{ℕ}
use native.Mathlib.Omega.{arith}
use Rattle.appending.proofs.Appending.{append_same}
use Rattle.pictures.proofs.Pieces.{left_start, left_more, left_last}
use Rattle.pictures.proofs.LeafDigits.{digits_all, digits_next, digits_none}
use Rattle.pictures.proofs.numbers.put_digits.Goals as goal

pub loop-c-init : goal.loop-c-init
loop-c-init c = left_start _ _ _

pub cell-requires : goal.cell-requires
cell-requires c = omega arith

pub loop-c-preserved : goal.loop-c-preserved
loop-c-preserved c =
    let a = c.args in
    left_more (digits_next a.n a.place c.loop-c.c (omega arith)) c.loop-c.invariant
    (append_same (ap (λ (x : ℕ). x ∷ []) c.cell.ensures) c.append_byte-end.ensures)

pub returns : goal.returns
returns c =
    let a = c.args in
    append_same (digits_all a.n a.place)
    (left_last (digits_none a.n a.place c.loop-c.c (omega arith)) c.loop-c.invariant
    c.append.ensures)
