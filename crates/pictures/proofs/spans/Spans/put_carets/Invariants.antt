-- `put_carets` meets its contract: in front of each turn the carets from k on are left. Assumes nothing.
use Rattle.pictures.specs.inside.Tables.{carets_from}
use Rattle.pictures.proofs.Pieces.{Left}
use Rattle.pictures.proofs.spans.Spans.put_carets.Given as goal

abbrev pub invariant-loop-k : goal.invariant-loop-k
invariant-loop-k l = Left (carets_from l.self.table l.self.carets l.k) l.out l.end
    (carets_from l.self.table l.self.carets 0) l.initial.out l.at
