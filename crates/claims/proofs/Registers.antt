-- The claims of specs/Registers.antt on what is read, and on runs of filings; proofs/EnterCalls.antt has those on one
-- filing. Assumes nothing.
use mathlib.Core.Path.{◌≡◌, sym, ap, ◌∙◌}
use mathlib.Core.List.{List}
use mathlib.Core.Logic.{◌↔◌}
use Prim.Native.Nat.{ℕ}
use Rattle.std.specs.Prelude.{⊤, Result}
use Rattle.refusals.specs.declared.Refusal.{Refusal}
use Rattle.refusals.specs.Outcomes.{accepted, drop_value, verdict_of}
use Rattle.refusals.proofs.Outcomes.{valued_accepted}
use Rattle.registers.specs.Reading.{read_register}
use Rattle.registers.specs.Answers.{RegisterChecked}
use Rattle.registers.proofs.WellFormed.{reads_well_formed}
use Rattle.registers.proofs.Written.{register_written}
use Rattle.registers.proofs.Finding.{find_number}
use Rattle.updates.proofs.History.{history as run-history}
use Rattle.updates.proofs.SameEntry.{same_entry as run-same-entry}
use Rattle.claims.specs.Registers.{IsRegister, RegistersAreRead, History, SameEntry, Charges}
use Rattle.claims.proofs.EnterCalls.{account_charged}

-- The check accepts just the registers.
check_accepts : (s : List ℕ) (v : Result ⊤ Refusal) → RegisterChecked s v → (verdict_of v ≡ accepted 0) ↔ IsRegister s
check_accepts s v h = (
  (λ a.
      let x = valued_accepted (λ q. 0) (read_register s) 0 (sym h.result ∙ a) in
      (x.0, (reads_well_formed s x.0 h.are_bytes).0 x.1)),
  (λ q. h.result ∙ ap (λ o. drop_value o) ((reads_well_formed s q.0 h.are_bytes).1 q.1)),
)

pub registers_are_read : RegistersAreRead
registers_are_read = record {
  read_just_when = λ s v h q. reads_well_formed s q h.are_bytes;
  accepted_just_when = check_accepts;
  found_there = λ s v h q w f.
      find_number s q f (register_written s q h.are_bytes ((reads_well_formed s q h.are_bytes).1 w));
}

pub history : History
history = run-history

pub same_entry : SameEntry
same_entry = run-same-entry

pub charges : Charges
charges = account_charged
