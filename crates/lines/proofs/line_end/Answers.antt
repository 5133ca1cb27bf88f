-- `line_end` meets its contract: the first line feed behind the blocks that were passed. Assumes nothing.
use Rattle.std.proofs.Common.{◌≡◌, ℕ, ◌+◌, length, drop, ap, ◌∙◌, eqb, arith, rules}
use borrow.Author.Tests.{tests}
use Rattle.std.proofs.lemmas.Iterator.{YieldsList-from_slice}
use Rattle.std.proofs.lemmas.Iterator.Search.{position_from_yields_List}
use Rattle.std.proofs.lemmas.Slice.{between_to_end}
use Rattle.lines.specs.Lines.{line_feed}
use Rattle.lines.specs.LineEnds.{until_feed}
use Rattle.lines.proofs.UntilFeed.{until_found}
use Rattle.lines.proofs.LineEnds.{line_end_over}
use Rattle.lines.proofs.line_end.Goals as goal

pub returns : goal.returns
returns c =
    let s = c.args.bytes.now in
    let start = c.pass_blocks-start.result in
    let rest = c.in-Some.rest.now in
    let from : rest ≡ drop start s = c.in-Some.ensures.lookup.0.2 ∙ between_to_end s start (length s) (omega arith) in
    let found = until_found rest _
    (position_from_yields_List (λ x. eqb x line_feed) _ _ c.position-feed.result c.position-feed.ensures.ran
    (YieldsList-from_slice rest (cc)) (λ x b q k. search (rules, tests))) in
    ap (λ (n : ℕ). start + n) (c.unwrap_or.ensures ∙ found ∙ ap until_feed from) ∙ c.pass_blocks-start.ensures

pub returns-in_default : goal.returns-in_default
returns-in_default c =
    line_end_over c.args.bytes.now _ (omega (arith, c.in_default.ensures.lookup)) ∙ c.pass_blocks-start.ensures
