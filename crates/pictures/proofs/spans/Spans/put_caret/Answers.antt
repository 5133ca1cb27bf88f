-- `put_caret` meets its contract: its three pieces, with the numbers of its row. Assumes nothing.
use mathlib.Core.Path.{ap}
use Rattle.std.specs.Prelude.{slice_index_or}
use Rattle.appending.proofs.Appending.{append-then, append_same}
use Rattle.pictures.specs.Texts.{filled}
use Rattle.pictures.specs.Svg.{caret_text, caret_svg}
use Rattle.pictures.proofs.Carets.{caret_numbers_lem}
use Rattle.pictures.proofs.spans.Spans.put_caret.Goals as goal

pub returns : goal.returns
unfolding caret_svg
returns c =
    let a = c.args in
    let numbers = caret_numbers_lem (slice_index_or a.self.now.table a.k (record { first = 0; width = 0 })) in
    append-then (append_same (ap (filled caret_text) numbers) c.fill-e1.ensures)
    (append-then c.put_kind-e2.ensures c.append.ensures)
