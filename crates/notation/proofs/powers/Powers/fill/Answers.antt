-- `fill` meets its contract: the engine takes the powers, with scratch of its sizes. Assumes nothing.
use borrow.Author.Rules.{rules}
use Rattle.notation.proofs.HeldPowers.{kept, engine_fits, engine_fills, engine_refuses}
use Rattle.notation.proofs.powers.Powers.fill.Goals as goal

pub unreachable-requires : goal.unreachable-requires
unreachable-requires c =
    let unfit = rw c.in-Err-Unfit.is at c.in-Err-Unfit.field-0-is in
    engine_fits (kept c.args.self.now) _ _ _ _ _ _ (search rules) (search rules) (search rules) (search rules)
    (rw (c.in-Err-Unfit.is, unfit) at c.fill_powers-filled.ensures)

pub returns-in-Ok : goal.returns-in-Ok
returns-in-Ok c =
    engine_fills (kept c.args.self.now) _ _ _ _ _ _ (search rules) (search rules) (search rules) (search rules)
    c.in-Ok.levels c.in-Ok.ensures

pub returns-in-Err-Refused : goal.returns-in-Err-Refused
returns-in-Err-Refused c =
    let refused = rw c.in-Err-Refused.is at c.in-Err-Refused.field-0-is in
    engine_refuses (kept c.args.self.now) _ _ _ _ _ _ (search rules) (search rules) (search rules) (search rules)
    c.in-Err-Refused.r (rw (c.in-Err-Refused.is, refused) at c.fill_powers-filled.ensures)
