-- The answers of two tables that have carets and a length. Assumes nothing.
use Rattle.std.proofs.Common.{◌≡◌, ℕ, sym, ap, Result, Ok, Err, Option, Some, None}
use Rattle.refusals.specs.declared.Failure.{Failure}
use Rattle.refusals.specs.declared.Failure.TheVariants.{Refused, Unfit}
use Rattle.refusals.specs.Outcomes.{accepted}
use Rattle.refusals.proofs.Outcomes.{accepted_same, accepted_refused}
use Rattle.trees.specs.inside.Writing.{pairing_of}
use Rattle.lengths.specs.inside.Contracts.{length_of}

pub carets_given : (r : Result ℕ Failure) (n : ℕ) → pairing_of r ≡ accepted n → r ≡ Ok n
carets_given (Ok k) n e = ap Ok (accepted_same e)
carets_given (Err (Refused r)) n e = absurd (accepted_refused (sym e))
carets_given (Err Unfit) n e = absurd (accepted_refused (sym e))

pub length_given : (r : Option ℕ) (n : ℕ) → length_of r ≡ accepted n → r ≡ Some n
length_given (Some k) n e = ap Some (accepted_same e)
length_given None n e = absurd (accepted_refused (sym e))
