-- `put_turn` meets its contract. Assumes nothing.
use native.Mathlib.Omega.{arith}
use Rattle.lists.proofs.Writes.{wrote_same}
use Rattle.spelling.proofs.Letters.{turn-inverse, turn_plain}
use Rattle.spelling.proofs.speller.put_turn.Goals as goal

pub returns-then-m-n : goal.returns-then-m-n
returns-then-m-n c = wrote_same (turn-inverse c.args.m c.args.n (omega arith)) c.put_letters.ensures

pub returns : goal.returns
returns c = wrote_same (turn_plain c.args.m c.args.n (omega arith)) c.put_letters-2.ensures
