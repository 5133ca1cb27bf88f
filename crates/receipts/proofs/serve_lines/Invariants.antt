-- `serve_lines` meets its contract: what is left of the part gives what the whole gives. Assumes nothing.
use Rattle.std.proofs.Common.{◌≡◌, ◌-◌, length}
use Rattle.receipts.specs.Serving.{line_size, served}
use Rattle.receipts.proofs.Serves.{Serves}
use Rattle.receipts.proofs.serve_lines.Given as goal

abbrev pub invariant-loop-at : goal.invariant-loop-at
invariant-loop-at l =
    Serves l.part l.initial.out (served l.part l.number l.initial.line l.held) l.line l.out l.at
    l.taken.number l.taken.held l.taken.written
    × (length l.line ≡ line_size)

abbrev pub decreases-loop-at : goal.decreases-loop-at
decreases-loop-at l = length l.part - l.at
