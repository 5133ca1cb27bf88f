-- `used` meets its contract. Assumes nothing.
use mathlib.Core.Path.{◌≡◌, sym, subst}
use Prim.Native.Nat.{ℕ, ◌+◌}
use Rattle.std.proofs.Common.{rules}
use Rattle.std.specs.Option.{option_map_or}
use Rattle.trees.specs.inside.Counting.{UpToLast}
use Rattle.trees.proofs.Counting.{up_to}
use Rattle.trees.proofs.count.used.Goals as goal

pub returns : goal.returns
returns c =
    let gives : c.map_or.result ≡ option_map_or (λ (i : ℕ). i + 1) c.last.result 0 = search rules in
    subst (UpToLast c.args.e.now) (sym gives) (up_to c.whole_blocks.ensures c.last.result c.last.ensures)
