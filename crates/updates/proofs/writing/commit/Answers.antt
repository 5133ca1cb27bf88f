-- `commit` meets its contract, by what was decided. Assumes nothing.
use Rattle.updates.proofs.Committing.{new_asks, new_committed, present_committed}
use Rattle.updates.proofs.writing.commit.Goals as goal

pub put_new-requires : goal.put_new-requires
put_new-requires c = new_asks _ _ c.in-New.is c.requires

pub returns-in-New : goal.returns-in-New
returns-in-New c = new_committed _ _ c.in-New.is c.put_new.ensures

pub returns-in-Present : goal.returns-in-Present
returns-in-Present c = present_committed _ _ c.in-Present.is c.charge.ensures
