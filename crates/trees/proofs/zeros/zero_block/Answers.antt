use Rattle.std.proofs.Common.{◌≡◌, ℕ, ◌+◌, ◌-◌, take, drop, refl, ◌∙◌, sym, subst, ap, arith, rules}
use lib.Bits.{bit_or}
use borrow.Author.Tests.{eqb-true}
use Rattle.std.proofs.lemmas.Fn.{fold_over, slice_gives, fronts}
use Rattle.trees.proofs.ZeroBlocks.{or_left, or_right, Zeros, zeros_push, zeros_known}
use Rattle.trees.proofs.zeros.zero_block.Goals as goal

-- What was folded is 0 where no bit is set.
pub returns : goal.returns
returns c = λ t.
    let e = c.args.e.now in
    let folded =
    fold_over fronts (λ y. y.now) _ (λ ys a. a ≡ 0 → Zeros ys) _
    (λ ys a x b f j k.
    let gives : b ≡ bit_or a x.now = search rules in (
      λ z. zeros_push ys x.now (or_right a x.now (sym gives ∙ z)) (j (or_left a x.now (sym gives ∙ z))),
      search rules,
    ))
    c.iter.result c.iter.result.rest.now 0 c.fold.result (slice_gives c.iter.result) (λ z i. refl) c.fold.ensures.ran in
    let size : c.args.from + 64 - c.args.from ≡ 64 = omega arith in
    let whole = c.iter.ensures.rest ∙ ap (λ (n : ℕ). take n (drop c.args.from e)) size in
    zeros_known e c.args.from 64 (subst Zeros whole (folded (eqb-true c.fold.result 0 t)))
