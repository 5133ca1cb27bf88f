-- `put_digits` meets its contract: in front of each turn the columns from c on are left. Assumes nothing.
use Prim.Native.Nat.{◌+◌, ◌-◌, ◌*◌}
use Rattle.pictures.specs.Characters.{digits_from}
use Rattle.pictures.proofs.Pieces.{Left}
use Rattle.pictures.proofs.numbers.put_digits.Given as goal

abbrev pub invariant-loop-c : goal.invariant-loop-c
invariant-loop-c l =
    Left (digits_from l.place l.c (2 * l.n + 1 - l.c)) l.out l.end (digits_from l.place 0 (2 * l.n + 1 - 0))
    l.initial.out l.at
