-- `put_leaves` meets its contract: in front of each turn the leaves from k on are left. Assumes nothing.
use Prim.Native.Nat.{suc, ◌-◌}
use Rattle.pictures.specs.Svg.{leaves_svg}
use Rattle.pictures.proofs.Pieces.{Left}
use Rattle.pictures.proofs.svg.put_leaves.Given as goal

abbrev pub invariant-loop-k : goal.invariant-loop-k
invariant-loop-k l = Left (leaves_svg l.k (suc l.n - l.k)) l.out l.end (leaves_svg 0 (suc l.n - 0)) l.initial.out l.at
