-- `new` meets its contract: a table of zeros counts nothing. Assumes nothing.
use Rattle.lists.proofs.Totals.{same_replicate}
use Rattle.registers.specs.inside.Steps.{table_size}
use Rattle.registers.proofs.passing.Seen.new.Goals as goal

pub returns-clause-table : goal.returns-clause-table
returns-clause-table c h = same_replicate table_size h
