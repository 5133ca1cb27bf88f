use mathlib.Core.Path.{sym, ap, ◌∙◌}
use mathlib.Core.List.{◌++◌}
use Prim.Native.Nat.{ℕ, ◌+◌}
use native.Mathlib.Omega.{arith}
use lib.ListN.{get_or, drop}
use Rattle.pictures.specs.Texts.{sign_of, filled_from}
use Rattle.pictures.proofs.Pieces.{left_more, left_last}
use Rattle.pictures.proofs.Filling.{behind_le, filled_next, filled_none}
use Rattle.pictures.proofs.text.fill.Goals as goal

pub loop-x-preserved : goal.loop-x-preserved
loop-x-preserved c =
    let a = c.args in
    let x = get_or a.text.now c.loop-x.x-index 0 in (
      omega (arith, behind_le c.loop-x.j x, c.behind-j.ensures),
      left_more
          (filled_next a.numbers.now a.text.now c.loop-x.x-index c.loop-x.j (omega arith)
          ∙ ap (λ (k : ℕ). sign_of a.numbers.now c.loop-x.j x
          ++ filled_from a.numbers.now k (drop (c.loop-x.x-index + 1) a.text.now)) (sym c.behind-j.ensures))
          c.loop-x.invariant.1 c.put_sign-end.ensures,
    )

pub returns : goal.returns
returns c =
    let a = c.args in
    left_last (filled_none a.numbers.now a.text.now c.loop-x.x-index c.loop-x.j (omega arith))
    c.loop-x.invariant.1 c.append.ensures
