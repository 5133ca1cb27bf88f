-- A holder's account (02, [3]): "which is its number and its live count in the register"; a filing charges it "by one
-- where it gives a new entry and by nothing otherwise".
--     account_in h r   the account of a holder in a register        raised a n   an account charged by n
--     AccountRead     the contract of `account_of`
-- Assumes nothing.
use Rattle.std.specs.Prelude.{◌≡◌, List, ℕ, ◌+◌, Result, Ok, Err}
use Rattle.refusals.specs.declared.Refusal.{Refusal}
use Rattle.refusals.specs.Outcomes.{Outcome, accepted, then, refusal}
use Rattle.fields.specs.Fields.{Bytes}
use Rattle.registers.specs.Format.{Register}
use Rattle.registers.specs.Reading.{live, read_register}
use Rattle.updates.specs.declared.Account.{Account}

-- The account of a holder: its number and its live count in the register.
abbrev pub account_in : (holder : ℕ) → Register → Account
account_in h r = record { holder = h; live = live h r.entries }

-- An account charged by n.
abbrev pub raised : Account → ℕ → Account
raised a n = record { holder = a.holder; live = a.live + n }

-- The outcome of `account_of`.
abbrev pub account_of : Result Account Refusal → Outcome Account
account_of (Ok a) = accepted a
account_of (Err r) = refusal r

-- The account of a holder in the register that bytes are, or 12.
pub record AccountRead (s : List ℕ) (holder : ℕ) (r : Result Account Refusal) : Type 0 where
  pub are_bytes : Bytes s
  pub result : account_of r ≡ then (read_register s) (λ q. accepted (account_in holder q))
