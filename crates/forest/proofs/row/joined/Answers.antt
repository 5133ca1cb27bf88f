-- `row::joined` meets its contract: the letters a and b.
-- Assumes nothing.
use mathlib.Core.Path.{sym, ap}
use Rattle.forest.specs.inside.Moves.{join_letter}
use Rattle.forest.proofs.Moving.{joined_first, joined_second, as_letter, letter_b}
use Rattle.forest.proofs.row.joined.Goals as goal

pub returns-then-byte-eq97 : goal.returns-then-byte-eq97
returns-then-byte-eq97 c =
    as_letter (ap join_letter (sym c.if-byte-eq97.true))
    (joined_first _ _ _ _ _ _ _ _ _ _ _ c.pop-p.ensures c.join-j.ensures)

pub returns : goal.returns
returns c =
    as_letter (letter_b _ c.if-byte-eq97.false)
    (joined_second _ _ _ _ _ _ _ _ _ _ _ c.pop-p-2.ensures c.join-j-2.ensures)
