-- `tally` meets its contract. Assumes nothing.
use Rattle.bitrows.proofs.ByteTables.{byte_tally}
use Rattle.bitrows.proofs.bytes.Bytes.tally.Goals as goal

pub returns-clause-carets : goal.returns-clause-carets
returns-clause-carets c = (byte_tally c.args.self.now.byte_table c.args.x).0

pub returns-clause-fall : goal.returns-clause-fall
returns-clause-fall c = (byte_tally c.args.self.now.byte_table c.args.x).1
