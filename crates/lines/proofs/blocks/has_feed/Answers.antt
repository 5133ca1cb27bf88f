-- `blocks::has_feed` meets its contract: the fold over the bytes. Assumes nothing.
use Rattle.std.proofs.Common.{rules}
use borrow.Author.Tests.{tests}
use Rattle.std.proofs.lemmas.Iterator.{YieldsList-from_slice}
use Rattle.std.proofs.lemmas.Iterator.Consumers.{fold_from_yields_List}
use Rattle.lines.proofs.BlockTests.{found_next, found_in}
use Rattle.lines.proofs.blocks.has_feed.Goals as goal

pub returns : goal.returns
returns c =
    let s = c.args.block.now in
    found_in s _
    (fold_from_yields_List _ found_next 0 _ c.fold-found.ensures.ran (YieldsList-from_slice s (cc))
    (λ a x b q k. search (rules, tests)))
