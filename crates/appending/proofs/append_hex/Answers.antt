use Rattle.std.proofs.Common.{[], ◌∷◌, ◌/◌, ◌%◌, get_or, refl, arith}
use lib.ListN.{length-set}
use Rattle.io.specs.Digits.{hex_digit_ascii}
use Rattle.appending.specs.Hexadecimal.{hex_of}
use Rattle.printing.proofs.Loops.{pass_start, pass_length, pass_more, pass_done}
use Rattle.appending.proofs.Hex.{hex_length, hex_room, hex_wrote}
use Rattle.appending.proofs.Appending.{append_all, append_over}
use Rattle.appending.proofs.append_hex.Goals as goal

pub returns-then-out-at : goal.returns-then-out-at
returns-then-out-at c = append_over refl (grind (arith, hex_length c.args.bytes.now))

pub loop-x-init : goal.loop-x-init
loop-x-init c = pass_start hex_of _ _ _

pub bounds-out-end : goal.bounds-out-end
bounds-out-end c = omega (arith, hex_room c.loop-x.invariant (omega arith) (omega arith))

pub overflow_add-out : goal.overflow_add-out
overflow_add-out c =
    omega (arith, hex_room c.loop-x.invariant (omega arith) (omega arith), pass_length c.loop-x.invariant)

pub bounds-out-end-in-loop-x : goal.bounds-out-end-in-loop-x
bounds-out-end-in-loop-x c = simp length-set (omega (arith, hex_room c.loop-x.invariant (omega arith) (omega arith)))

pub overflow_add-end : goal.overflow_add-end
overflow_add-end c =
    omega (arith, hex_room c.loop-x.invariant (omega arith) (omega arith), pass_length c.loop-x.invariant)

pub loop-x-preserved : goal.loop-x-preserved
loop-x-preserved c =
    let x = get_or c.args.bytes.now c.loop-x.x-index 0 in
    pass_more c.loop-x.invariant (hex_digit_ascii (x / 16) ∷ hex_digit_ascii (x % 16) ∷ []) (omega arith) refl
    (hex_wrote x c.digit.ensures c.digit-in-loop-x.ensures)

pub returns : goal.returns
returns c =
    append_all (omega (arith, hex_length c.args.bytes.now))
    (pass_done c.loop-x.invariant (omega arith) refl)
