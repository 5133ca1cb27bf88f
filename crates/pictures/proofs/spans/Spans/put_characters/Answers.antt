-- `put_table` meets its contract: its three pieces. Assumes nothing.
use Rattle.appending.proofs.Appending.{append-then}
use Rattle.pictures.specs.Characters.{spans_characters}
use Rattle.pictures.proofs.spans.Spans.put_characters.Goals as goal

pub returns : goal.returns
unfolding spans_characters
returns c =
    append-then c.append-e1.ensures
    (append-then c.put_rows-e2.ensures c.put_kinds.ensures)
