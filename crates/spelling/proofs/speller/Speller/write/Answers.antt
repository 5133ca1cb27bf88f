-- `write` meets its contract: nothing for exponent 0, else the turn and then the letters b or B. Assumes nothing.
use mathlib.Core.Path.{◌≡◌, ap}
use mathlib.Core.Bool.{cond}
use Prim.Native.Nat.{◌-◌}
use native.Mathlib.Omega.{arith}
use Rattle.group.specs.Letters.{'b, 'B}
use Rattle.group.specs.Bytes.{byte_of}
use Rattle.group.proofs.Bytes.{bytes_length}
use Rattle.spelling.specs.inside.RunLetters.{turn}
use Rattle.spelling.specs.declared.speller.Speller.{Speller}
use Rattle.spelling.proofs.Lengths.{turn-length}
use Rattle.spelling.proofs.Behind.{behind_power_lem}
use Rattle.spelling.proofs.WrittenRuns.{run_wrote}
use Rattle.spelling.proofs.speller.Speller.write.Goals as goal
use Rattle.spelling.proofs.speller.Speller.write.Goals.{then-inverse, else-inverse}

pub put_turn-at-requires : goal.put_turn-at-requires
put_turn-at-requires c =
    let args = c.args in
    omega (
      arith,
      ap (λ (s : Speller). s.count) (behind_power_lem args.self (args.k.0 - 1) args.e (omega arith)),
      c.requires,
    )

pub put_letters-count-requires : goal.put_letters-count-requires
put_letters-count-requires c =
    let args = c.args in
    let turned = rw c.from-due.ensures at c.put_turn-at.ensures in
    omega (
      arith,
      ap (λ (s : Speller). s.count)
          (behind_power_lem args.self (args.k.0 - 1) args.e (omega (arith, c.if-e-eq0.false))),
      bytes_length (turn args.self.due (args.k.0 - 1)),
      turn-length args.self.due (args.k.0 - 1),
      turned.ends,
      c.put_turn-at.auto,
      c.requires,
    )

pub returns : goal.returns
returns c =
    let args = c.args in
    let byte : c.if-inverse.letter ≡ byte_of (cond args.inverse 'B 'b) =
    elim c.if-inverse.branch [
      | then-inverse w ↦ rw w.if-inverse.true w.letter-is
      | else-inverse w ↦ rw w.if-inverse.false w.letter-is
    ] in
    rw c.from-due.ensures
    (run_wrote (args.k.0 - 1) (cond args.inverse 'B 'b) args.e (omega (arith, c.if-e-eq0.false)) byte
    (rw c.from-due.ensures at c.put_turn-at.ensures) (rw c.from.ensures at c.put_letters-count.ensures))
