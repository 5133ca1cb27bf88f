-- `read` meets its contract: after i turns the first i characters are taken. Assumes nothing.
use Rattle.hexadecimal.proofs.Turns.{Passing}
use Rattle.hexadecimal.proofs.read.Given as goal

abbrev pub invariant-loop-c : goal.invariant-loop-c
invariant-loop-c l = Passing l.chars l.initial.bytes l.initial.m l.bytes l.m l.c-index
