-- `of` meets its contract: the spans were read into a table. Assumes nothing.
use mathlib.Core.Path.{refl}
use lib.ListN.{length-replicate}
use Rattle.pictures.specs.declared.spans.CaretSpan.{CaretSpan}
use Rattle.pictures.proofs.TreeTables.{table-spans}
use Rattle.pictures.proofs.spans.Spans.of.Goals as goal

pub returns : goal.returns
returns c = record {
  same = refl;
  holds = λ t e count.
      table-spans t c.read.ensures
      (length-replicate {A = CaretSpan} 300 (record { first = 0; width = 0 })) e count c.requires.few;
}
