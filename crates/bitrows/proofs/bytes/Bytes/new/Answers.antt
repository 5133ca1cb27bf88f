-- `new` holds the table. Assumes nothing.
use Rattle.bitrows.proofs.ByteTables.{byte_table}
use Rattle.bitrows.proofs.bytes.Bytes.new.Goals as goal

pub invariant_of-result : goal.invariant_of-result
invariant_of-result c = record { byte_table = byte_table }
