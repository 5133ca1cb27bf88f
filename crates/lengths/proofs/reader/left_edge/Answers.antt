-- `left_edge` meets its contract: the carets in front are counted. Assumes nothing.
use mathlib.Core.Path.{◌≡◌, ◌∙◌}
use native.Mathlib.Omega.{arith}
use lib.Dec.{eqb}
use Rattle.std.proofs.Common.{rules}
use borrow.Author.Tests.{tests}
use Rattle.std.proofs.lemmas.Iterator.{YieldsList-from_slice}
use Rattle.std.proofs.lemmas.Iterator.Consumers.{count_from_yields_List, YieldsList-at}
use Rattle.std.proofs.lemmas.Iterator.Search.{YieldsList-from_take_while}
use Rattle.std.proofs.lemmas.List.Folds.{length-prefix_len}
use Rattle.std.specs.List.{prefix_len}
use Rattle.lengths.proofs.LeftEdge.{edge_count}
use Rattle.lengths.proofs.reader.left_edge.Goals as goal

pub returns : goal.returns
returns c =
    let gives : c.count.result ≡ prefix_len (λ x. eqb x 1) c.args.shape.now =
    count_from_yields_List c.take_while.result _ c.count.ensures.ran
    (YieldsList-from_take_while _ (λ x. eqb x 1)
    (YieldsList-at c.take_while.ensures.source (YieldsList-from_slice c.args.shape.now cc))
    c.take_while.ensures.closure c.take_while.ensures.done (λ x b q k. search (rules, tests)))
    ∙ length-prefix_len (λ x. eqb x 1) c.args.shape.now in
    let edge = edge_count c.args.shape.now 0 c.requires.exact in
    record { value = gives ∙ edge.0; upper_bound = omega (arith, gives, edge.0, edge.1) }
