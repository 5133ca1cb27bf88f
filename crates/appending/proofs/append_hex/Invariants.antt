-- `append_hex` meets its contract: after i turns the digits of the first i bytes are written. Assumes nothing.
use Rattle.appending.specs.Hexadecimal.{hex_of}
use Rattle.printing.proofs.Loops.{Passing}
use Rattle.appending.proofs.append_hex.Given as goal

abbrev pub invariant-loop-x : goal.invariant-loop-x
invariant-loop-x l = Passing hex_of l.bytes l.out l.end l.x-index l.initial.out l.at
