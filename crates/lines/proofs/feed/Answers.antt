-- `feed` meets its contract: the bytes up to the end of the line are kept, and the line feed is passed over. Assumes
-- nothing.
use Rattle.std.proofs.Common.{refl, ap, ◌∙◌}
use Rattle.lines.proofs.Taking.{feed_bytes, feed_end, feed_out}
use Rattle.lines.proofs.feed.Goals as goal

pub returns-then-end-part : goal.returns-then-end-part
returns-then-end-part c =
    let part = c.args.part.now in
    let e = c.line_end-end.ensures in
    let bytes = feed_bytes part c.args.from _ _ _ e refl c.get.ensures.lookup.0 in
    feed_end part c.args.from e (ap (λ x. x.now) c.unwrap_or.ensures ∙ bytes) c.keep_all-held.ensures c.if-end-part.true

pub returns-else-end-part : goal.returns-else-end-part
returns-else-end-part c =
    let part = c.args.part.now in
    let e = c.line_end-end.ensures in
    let bytes = feed_bytes part c.args.from _ _ _ e refl c.get.ensures.lookup.0 in
    feed_out part c.args.from e (ap (λ x. x.now) c.unwrap_or.ensures ∙ bytes) c.keep_all-held.ensures
    c.if-end-part.false
