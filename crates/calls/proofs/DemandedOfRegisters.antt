-- The demands on the calls on a register: the relations of the calls, and the claims on them; an export's numbers say
-- what an answer of its call says. Assumes nothing.
use mathlib.Core.Path.{◌≡◌, refl, sym, ap, ◌∙◌, subst}
use mathlib.Core.List.{List}
use mathlib.Core.Logic.{◌↔◌}
use Prim.Native.Nat.{ℕ}
use native.Mathlib.Omega.{arith}
use Rattle.std.specs.Prelude.{⊤, Result, Ok, Err}
use Rattle.refusals.specs.declared.Refusal.{Refusal}
use Rattle.refusals.specs.Outcomes.{Outcome, accepted, refused, valued, then, verdict_of}
use Rattle.refusals.specs.Memory.{Memory, memory}
use Rattle.refusals.proofs.Outcomes.{accepted_refused, accepted_when}
use Rattle.registers.proofs.WellFormed.{reads_well_formed}
use Rattle.registers.specs.Format.{Register}
use Rattle.registers.specs.Reading.{live, read_register}
use Rattle.registers.specs.Answers.{RegisterChecked}
use Rattle.updates.specs.Accounts.{AccountRead, account_in}
use Rattle.updates.specs.Entering.{Reply, new_entry, Answer, EnteredWord}
use Rattle.updates.specs.Entering.{entered_of, replied_of, number_of_entered, reply_number}
use Rattle.updates.specs.declared.Account.{Account}
use Rattle.updates.specs.declared.Entered.{Entered}
use Rattle.updates.specs.declared.Entered.TheVariants.{New, Present}
use Rattle.thompson.specs.Codes.{live_of}
use Rattle.claims.specs.Answers.{Refuses, IsRefused}
use Rattle.claims.specs.Registers.{EnterRefusal, RegisterRefusal, EnteredAs}
use Rattle.claims.proofs.RegisterRefusals.{read↔refusal}
use Rattle.claims.proofs.Demands.{demand1}
use Rattle.claims.proofs.Exports.{exports_answer_as_calls}
use Rattle.claims.proofs.Registers.{registers_are_read, charges}
use Rattle.claims.proofs.EnterCalls.{enters_words, only_new_bytes, stored_is_smaller}
use Rattle.calls.specs.Functions.{Library}
use Rattle.calls.specs.Calls.{Exports}
use Rattle.calls.specs.DemandedOfRegisters.{CheckRegister, EnterWord, LiveEntries, DemandedOfRegisters}
use Rattle.calls.proofs.Always.{always_below}
use Rattle.calls.proofs.Calls.{calls}

check_register_lem : {s : List ℕ} {r : Result ⊤ Refusal} → RegisterChecked s r → CheckRegister s (verdict_of r)
check_register_lem {s} {r} h = record {
  refuses = demand1.check_register_lem s r h;
  accepts = registers_are_read.accepted_just_when s r h;
}

-- The number of a filing's answer, by the reply and by the answer.
number_replied : (r : Result Entered Refusal) → number_of_entered r ≡ valued reply_number (replied_of r)
number_replied (Ok (New k a)) = refl
number_replied (Ok (Present k a)) = refl
number_replied (Err q) = refl

-- The answer of a reply.
answer_of : (r : Result Entered Refusal) (y : Reply) → replied_of r ≡ accepted y
    → (x : Answer) × (entered_of r ≡ accepted x) × (x.reply ≡ y)
answer_of r y e = go (entered_of r) refl e
  where
    go : (o : Outcome Answer) → entered_of r ≡ o → then o (λ x. accepted x.reply) ≡ accepted y
        → (x : Answer) × (entered_of r ≡ accepted x) × (x.reply ≡ y)
    go (accepted x) p q = (x, p, (cc))
    go (refused n k) p q = absurd (let w : ◌≡◌ {A = ℕ} 0 1 = cc in omega arith)

enter_word_lem : {u : List ℕ} {m m' : Memory} {h : ℕ} {s s' : List ℕ} {r : Result Entered Refusal}
    → EnteredWord u m m' h s s' r
    → EnterWord u m m' h s s' (replied_of r)
enter_word_lem {u} {m} {m'} {h} {s} {s'} {r} c =
    let first = demand1.enter_word_lem u m m' h s s' r c in
    record {
      refuses = subst (λ (o : Outcome ℕ). Refuses o (EnterRefusal u m h s)) (number_replied r) first.0;
      unaltered = λ e. first.1 (subst IsRefused (sym (number_replied r)) e);
      gives = λ y e.
          let x = answer_of r y e in
          subst (λ (z : Reply). EnteredAs u m m' h s s' z) x.2 (enters_words u m m' h s s' r x.0 c x.1);
      only_new = λ k w q e b f.
          let x = answer_of r (new_entry k) e in
          only_new_bytes u m m' h s s' r x.0 k w q c x.1 x.2 b f;
      stores = λ k w q e b f.
          let x = answer_of r (new_entry k) e in
          stored_is_smaller u m m' h s s' r x.0 k w q c x.1 x.2 b f;
    }

-- The live count of a holder, by what is read.
abbrev count_in : (h : ℕ) → Outcome Register → Outcome ℕ
count_in h o = valued (λ x. x.live) (then o (λ q. accepted (account_in h q)))

-- It is refused as the register is.
live_refused : (h : ℕ) (o : Outcome Register) (n p : ℕ) → (count_in h o ≡ refused n p) ↔ (o ≡ refused n p)
live_refused h (accepted q) n p = ((λ e. absurd (accepted_refused e)), λ e. absurd (accepted_refused e))
live_refused h (refused a b) n p = ((λ e. (cc)), λ e. (cc))

-- Else it is that of the register.
live_read : (h : ℕ) (o : Outcome Register) (n : ℕ) → count_in h o ≡ accepted n
    → (q : Register) × (o ≡ accepted q) × (n ≡ live h q.entries)
live_read h (accepted q) n e = (q, refl, (cc))
live_read h (refused a b) n e = absurd (accepted_refused (sym e))

live_entries_lem : {s : List ℕ} {h : ℕ} {r : Result Account Refusal} → AccountRead s h r → LiveEntries s h (live_of r)
live_entries_lem {s} {h} {r} c =
    record {
      refuses = record {
        refused_just_when = just;
        accepted_just_when = accepted_when (live_of r) (RegisterRefusal s) just;
      };
      gives = λ n e.
          let q = live_read h (read_register s) n (sym is ∙ e) in
          (q.0, (reads_well_formed s q.0 c.are_bytes).0 q.1, q.2);
    }
  where
    is : live_of r ≡ count_in h (read_register s)
    is = ap (λ (o : Outcome Account). valued (λ x. x.live) o) c.result

    just : (n p : ℕ) → (live_of r ≡ refused n p) ↔ RegisterRefusal s n p
    just n p =
        let first = live_refused h (read_register s) n p in
        let second = read↔refusal s c.are_bytes n p in
        ((λ e. second.0 (first.0 (sym is ∙ e))), λ k. is ∙ first.1 (second.1 k))

pub demanded_of_registers : {L : Library} → Exports L → DemandedOfRegisters L
demanded_of_registers exports = record {
  check_register_lem = always_below calls.check_register_lem (λ κs s s' r. check_register_lem);
  enter_word_lem = always_below calls.enter_word_lem (λ κs u u' b b' a a' e e' h h' s s' r c.
      let m = memory b.now a.now e.now in
      let m' = memory b'.now a'.now e'.now in
      (enter_word_lem c, λ x q. charges u.now m m' h s.now s'.now r x c q));
  account_of_is = always_below calls.account_of_is (λ κs s s' h h' r. live_entries_lem);
  exported_check_register = always_below exports.check_register_lem (λ κs s s' r c.
      let x = exports_answer_as_calls.check_register_lem s.now r c in
      subst (λ (o : Outcome ℕ). CheckRegister s.now o) (sym x.2) (check_register_lem x.1));
  exported_enter_word = always_below exports.enter_word_lem (λ κs u u' b b' a a' e e' h h' s s' r c.
      let m = memory b.now a.now e.now in
      let m' = memory b'.now a'.now e'.now in
      let x = exports_answer_as_calls.enter_word_lem u.now m m' h s.now s'.now r c in (
        subst (λ (o : Outcome Reply). EnterWord u.now m m' h s.now s'.now o) (sym x.2) (enter_word_lem x.1),
        x.3,
      ));
  exported_live_entries = always_below exports.live_entries_lem (λ κs s s' h h' r c.
      let x = exports_answer_as_calls.live-entries s.now h r c in
      subst (λ (o : Outcome ℕ). LiveEntries s.now h o) (sym x.2) (live_entries_lem x.1));
}
