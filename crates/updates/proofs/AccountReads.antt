-- The account of a holder, from the register's overview. Assumes nothing.
use mathlib.Core.Path.{◌≡◌, sym, ap, ◌∙◌}
use mathlib.Core.List.{List}
use Prim.Native.Nat.{ℕ}
use Rattle.std.specs.Prelude.{Result, Ok, Err}
use Rattle.refusals.specs.declared.Refusal.{Refusal}
use Rattle.refusals.specs.Outcomes.{Outcome, accepted, then}
use Rattle.registers.specs.Format.{Register}
use Rattle.registers.specs.Reading.{read_register}
use Rattle.registers.specs.Answers.{overview, summary_of, Summarised}
use Rattle.registers.specs.declared.Overview.{Overview}
use Rattle.updates.specs.Accounts.{account_in, AccountRead}
use Rattle.updates.proofs.Decisions.{overview_read, overview_refused}

module _ {s : List ℕ} {h : ℕ} {q : Result Overview Refusal} (told : Summarised s h q) where
  pub account_found : {o : Overview} → q ≡ Ok o
      → AccountRead s h (Ok (record { holder = h; live = o.live }))
  account_found {o} e = go (overview_read s h o (sym (ap summary_of e) ∙ told.result))
    where
      go : (r : Register) × (read_register s ≡ accepted r) × (o ≡ overview h r)
          → AccountRead s h (Ok (record { holder = h; live = o.live }))
      go (r, reads, over) = record {
        are_bytes = told.are_bytes;
        result =
            ap (λ (v : Overview). accepted (record { holder = h; live = v.live })) over
            ∙ sym (ap (λ (x : Outcome Register). then x (λ y. accepted (account_in h y))) reads);
      }

  pub account_refused : {r : Refusal} → q ≡ Err r → AccountRead s h (Err r)
  account_refused {r} e = record {
    are_bytes = told.are_bytes;
    result =
        sym
        (ap (λ (x : Outcome Register). then x (λ y. accepted (account_in h y)))
        (overview_refused s h _ _ (sym (ap summary_of e) ∙ told.result)));
  }
