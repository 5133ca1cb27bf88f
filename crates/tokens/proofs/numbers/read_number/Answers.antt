use Rattle.std.proofs.Common.{sym, ◌∙◌, arith}
use Rattle.std.proofs.lemmas.Bool.Decides.{nat_tests}
use Rattle.tokens.proofs.DigitRuns.{number_large, number_none, number_zero, number_found}
use Rattle.tokens.proofs.numbers.read_number.Goals.{then-found-at-via-then-found-at, then-found-at-2, else-found-at-2}
use Rattle.tokens.proofs.numbers.read_number.Goals.{then-found-at-via-else-found-at+then-text-at-eq48}
use Rattle.tokens.proofs.numbers.read_number.Goals as goal

pub returns-in_err-found : goal.returns-in_err-found
returns-in_err-found c = rw c.from_residual.ensures (number_large c.in_err-found.ensures)

pub returns-then-found-at : goal.returns-then-found-at
returns-then-found-at c =
    let d = c.in_ok-found.ensures in
    elim c.then-found-at.branch [
      | then-found-at-via-then-found-at w ↦ number_none c.requires d.0 d.1 w.if-found-at.true
      | then-found-at-via-else-found-at+then-text-at-eq48 w ↦
          elim w.if-found-at-2.branch [
            | then-found-at-2 v ↦
                let zero = sym v.value-is ∙ w.if-text-at-eq48.true in
                number_zero c.requires d.0 d.1 (grind (arith, nat_tests)) v.if-found-at-2.true
            | else-found-at-2 v ↦
                let more = sym v.value-is ∙ w.if-text-at-eq48.true in
                absurd (grind (arith, nat_tests, v.if-found-at-2.false))
          ]
    ]

pub returns : goal.returns
returns c =
    let d = c.in_ok-found.ensures in
    number_found c.requires d.0 d.1 c.if-found-at.false
    (λ zero more.
    elim c.if-found-at-2.branch [
      | then-found-at-2 v ↦ let other = sym v.value-is ∙ c.if-text-at-eq48.false in grind (arith, nat_tests)
      | else-found-at-2 v ↦ omega (arith, v.if-found-at-2.false)
    ])
