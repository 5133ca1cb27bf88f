-- `put_kinds` meets its contract: behind the first kind, in front of each turn, the kinds from k on are left.
-- Assumes nothing.
use Rattle.pictures.specs.Characters.{later_line}
use Rattle.pictures.specs.inside.Tables.{table_kinds}
use Rattle.pictures.proofs.Pieces.{Left}
use Rattle.pictures.proofs.spans.Spans.put_kinds.Given as goal

abbrev pub invariant-loop-k : goal.invariant-loop-k
invariant-loop-k l =
    Left (later_line (table_kinds l.self.table l.self.carets l.k)) l.out l.end
    (later_line (table_kinds l.self.table l.self.carets 1)) l.initial.out
    l.initial.end
