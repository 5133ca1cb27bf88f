-- `powers::go_back` meets its contract: tips skipped, then bushes stored.
-- Assumes nothing.
use Rattle.forest.proofs.Seeking.{skipped_moves}
use Rattle.forest.proofs.powers.go_back.Goals as goal

pub returns : goal.returns
returns c =
    let entry = c.args in
    skipped_moves c.skip_zeros-i.ensures entry.stack.now c.move_back.new.stack
    c.move_back.result c.move_back.ensures
