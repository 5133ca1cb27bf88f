-- `some_inside` meets its contract. Assumes nothing.
use mathlib.Core.Path.{refl, ◌∙◌}
use Prim.Native.Nat.{◌-◌}
use borrow.Author.Tests.{tests}
use Rattle.std.proofs.Common.{rules}
use Rattle.std.proofs.lemmas.Iterator.{YieldsList-from_range}
use Rattle.std.proofs.lemmas.Iterator.Search.{any_from_yields_List}
use Rattle.lengths.specs.Kinds.{next_inside}
use Rattle.pictures.specs.inside.Tables.{classes_at}
use Rattle.pictures.proofs.Tables.{some_any}
use Rattle.pictures.proofs.spans.Spans.some_inside.Goals as goal

pub returns : goal.returns
returns c =
    let s = c.args.self.now in
    let k = c.args.k in
    any_from_yields_List (λ j. next_inside (classes_at s.table s.carets j)) _ _ _ c.any.ensures.ran
    (YieldsList-from_range k s.carets (s.carets - k) refl refl)
    (λ x b q h. search (rules, tests))
    ∙ some_any s.table s.carets (s.carets - k) k refl
