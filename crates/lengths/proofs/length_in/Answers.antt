-- `length_in` meets its contract: the shapes of the pair, then the sum over them. Assumes nothing.
use mathlib.Core.Path.{refl, sym, ap, ◌∙◌}
use lib.ListN.{length-replicate}
use Prim.Native.Nat.{ℕ}
use Rattle.lengths.specs.inside.Steps.{length_within}
use Rattle.lengths.proofs.PairLengths.{ok_is, pair_shaped, pair_summed}
use Rattle.lengths.proofs.length_in.Goals as goal

pub shapes_length-requires : goal.shapes_length-requires
shapes_length-requires g c =
    pair_shaped refl c.write_pair.ensures (ok_is c.write_pair.result (sym c.ok.ensures.value ∙ c.in_ok-n.was))

pub returns : goal.returns
returns g c =
    let is = ok_is c.write_pair.result (sym c.ok.ensures.value ∙ c.in_ok-n.was) in
    pair_summed refl c.write_pair.ensures is c.shapes_length.ensures
    ∙ ap (λ (m : ℕ). length_within m c.args.b.now c.args.a.now) (length-replicate {A = ℕ} g.row.N 0)
