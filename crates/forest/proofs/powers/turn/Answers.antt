-- `powers::turn` meets its contract: the bush joined or parted by the side.
-- Assumes nothing.
use Rattle.forest.proofs.PowerTurns.{joined_turn, turned_b}
use Rattle.forest.proofs.powers.turn.Goals as goal

pub returns-then-side-eq0 : goal.returns-then-side-eq0
returns-then-side-eq0 c = turned_b c.args.side c.if-side-eq0.true (joined_turn c.pop-p.ensures c.join-j.ensures)
