-- `append_digits` meets its contract: the digits of the nodes so far are appended. Assumes nothing.
use Rattle.std.proofs.Common.{take}
use Rattle.appending.specs.inside.Appending.{Appended}
use Rattle.commands.specs.Records.{digits_of}
use Rattle.commands.proofs.digits.append_digits.Given as goal

abbrev pub invariant-loop-x : goal.invariant-loop-x
invariant-loop-x l = Appended (digits_of (take l.x-index l.shape)) l.initial.out l.initial.end l.out l.end
