-- `fill` meets its contract: in front of each turn the text from sign i on is left. Assumes nothing.
use Prim.Native.Nat.{◌≤◌}
use lib.ListN.{drop}
use Rattle.pictures.specs.Texts.{filled_from, filled}
use Rattle.pictures.proofs.Pieces.{Left}
use Rattle.pictures.proofs.text.fill.Given as goal

abbrev pub invariant-loop-x : goal.invariant-loop-x
invariant-loop-x l =
    (l.j ≤ l.x-index) × Left (filled_from l.numbers l.j (drop l.x-index l.text)) l.out l.end (filled l.text l.numbers)
    l.initial.out l.at
