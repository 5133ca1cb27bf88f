-- `is_packed` meets its contract. Assumes nothing.
use native.Mathlib.Omega.{arith}
use Rattle.packed.proofs.Checks.{packs_short, packs_unclear, packs_summed}
use Rattle.packed.proofs.checking.Packed.is_packed.Goals as goal

pub returns-then-self-n : goal.returns-then-self-n
returns-then-self-n c =
    let args = c.args in
    packs_short args.self.numbers.now args.self.summary.now args.nodes c.requires
    (omega (arith, c.numbers_of-n.ensures))

pub returns-then-not-is_clear : goal.returns-then-not-is_clear
returns-then-not-is_clear c =
    let args = c.args in
    packs_unclear args.self.numbers.now args.self.summary.now args.nodes c.requires c.is_clear.ensures.wide
    c.is_clear.result c.is_clear.ensures.value (c.if-not-is_clear.true)

pub returns : goal.returns
returns c =
    let args = c.args in
    let count = c.numbers_of-n in
    packs_summed args.self.numbers.now args.self.summary.now args.nodes count.result count.ensures c.requires
    c.is_clear.ensures.wide (omega arith) (c.is_clear.ensures.clear (c.if-not-is_clear.false))
    c.is_summed.result
    c.is_summed.ensures.summed c.is_summed.ensures.value
