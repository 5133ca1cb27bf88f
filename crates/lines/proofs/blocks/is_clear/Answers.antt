-- `blocks::is_clear` meets its contract: too few bytes, or a whole block. Assumes nothing.
use Rattle.std.proofs.Common.{length, take, ap, ◌∙◌, arith}
use Rattle.std.proofs.lemmas.Slice.{between_to_end}
use Rattle.lines.proofs.BlockTests.{short_block, tested_block}
use Rattle.lines.proofs.blocks.is_clear.Goals as goal

pub returns-in_default : goal.returns-in_default
returns-in_default c = short_block c.args.bytes.now c.args.from 64 (omega (arith, c.in_default.ensures.lookup))

pub returns-in_default-get : goal.returns-in_default-get
returns-in_default-get c =
    short_block c.args.bytes.now c.args.from 64
    (omega (arith, c.in_default-get.ensures.lookup, c.in-Some.ensures.lookup))

pub returns : goal.returns
returns c =
    let s = c.args.bytes.now in
    let rest = c.in-Some.ensures.lookup in
    let block = c.in-Some-get.ensures.lookup in
    tested_block s _ c.args.from 64 _ (omega (arith, rest, block))
    (block.0.2 ∙ ap (take 64) (rest.0.2 ∙ between_to_end s c.args.from (length s) (omega arith)))
    c.has_feed.ensures
