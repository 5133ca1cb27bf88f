-- `find_leaf` meets its contract. Assumes nothing.
use mathlib.Core.Path.{◌≡◌, refl, sym, ap, subst, ◌∙◌}
use mathlib.Core.List.{List}
use Prim.Native.Nat.{ℕ}
use lib.ListN.{get_or}
use Rattle.std.proofs.Common.{rules, tests, Option, Some, None}
use Rattle.std.specs.Option.{option_map, unwrap_or}
use Rattle.std.specs.List.{slice_get}
use Rattle.std.proofs.lemmas.Iterator.{YieldsList-from_range}
use Rattle.std.proofs.lemmas.Iterator.Consumers.{YieldsList-from_filter, nth_from_yields_List}
use Rattle.std.proofs.lemmas.Option.{unwrap_or-slice_get}
use Rattle.bitrows.specs.inside.Growth.{FoundLeaf}
use Rattle.bitrows.proofs.Searching.{is_leaf, leaves_of, leaf_sought}
use Rattle.bitrows.proofs.find_leaf.Goals as goal

-- What `unwrap_or` gives of an element that may be missing.
element : (o : Option ℕ) (xs : List ℕ) (k d : ℕ) → option_map (λ x. x) o ≡ slice_get xs k
    → get_or xs k d ≡ unwrap_or o d
element None xs k d e = sym (ap (λ o. unwrap_or o d) e ∙ unwrap_or-slice_get xs k d)
element (Some x) xs k d e = sym (ap (λ o. unwrap_or o d) e ∙ unwrap_or-slice_get xs k d)

pub returns : goal.returns
returns c =
    let x = c.args.x in
    let k = c.args.k in
    subst (FoundLeaf x k)
    (element c.nth.result (leaves_of x 0 64) k 64 (nth_from_yields_List c.nth.result c.nth.new.self k c.nth.ensures.ran
    (YieldsList-from_filter _ (is_leaf x) (YieldsList-from_range 0 64 64 c.filter.ensures.source refl)
    c.filter.ensures.closure (λ y r q h. search (rules, tests)))))
    (leaf_sought x k c.ranges.x.fits)
