-- A filing charges its holder's account by one where it gives a new entry, and by nothing otherwise. Assumes nothing.
use mathlib.Core.Path.{◌≡◌, refl, sym, ap, ◌∙◌, subst}
use mathlib.Core.Bool.{Bool, cond}
use mathlib.Core.List.{List, [], ◌∷◌}
use mathlib.Core.Option.{Option, none, some}
use Prim.Native.Nat.{ℕ, suc, ◌+◌}
use native.Mathlib.Omega.{arith}
use lib.ListN.{length}
use borrow.Author.Tests.{eq-eqb}
use Rattle.group.specs.Letters.{Word}
use Rattle.group.specs.Forms.{Form}
use Rattle.refusals.specs.Outcomes.{Outcome, accepted, refused, then}
use Rattle.refusals.specs.Memory.{Memory}
use Rattle.refusals.proofs.Outcomes.{accepted_same, accepted_refused}
use Rattle.words.specs.Recording.{judged_with}
use Rattle.registers.specs.Format.{Entry, Register}
use Rattle.registers.specs.Reading.{live, number_for, read_register}
use Rattle.registers.proofs.Counts.{owned_by, live-behind}
use Rattle.updates.specs.declared.Account.{Account}
use Rattle.updates.specs.Accounts.{account_in, raised}
use Rattle.updates.specs.Entering.{Reply, new_entry, present, stored_form, with_entry, entered, Found, grown}
use Rattle.updates.specs.Entering.{answered, entered_word, entered_in}
use Rattle.updates.specs.History.{new_reply}
use Rattle.updates.proofs.Fitting.{entered_accepted}

-- The holder of a new entry has one more.
pub live_one : (r : Register) (h : ℕ) (f : Form) → live h (with_entry r h f).entries ≡ live h r.entries + 1
live_one r h f =
    let e : Entry = record { number = suc r.last; holder = h; form = f } in
    let own : owned_by h e ≡ 1 = ap {B = ℕ} (λ (b : Bool). cond b 1 0) (eq-eqb h h refl) in
    omega (arith, live-behind h r.entries e, own)

-- The account of a holder with so many live entries.
abbrev counted : (h n : ℕ) → Account
counted h n = record { holder = h; live = n }

-- What a filing charges.
abbrev Charged : (h : ℕ) (r : Register) (x : Found) → Type 0
Charged h r x = account_in h x.register ≡ raised (account_in h r) (new_reply x.answer)

answered_charges : (o : Option ℕ) (r : Register) (n h : ℕ) (f : Form) (x : Found) → answered o r n h f ≡ accepted x
    → Charged h r x
answered_charges (some k) r n h f x e =
    let none_more : live h r.entries ≡ live h r.entries + 0 = omega arith in
    subst (Charged h r) (accepted_same e) (ap (counted h) none_more)
answered_charges none r n h f x e = go (entered r n h (f ∷ [])) refl e
  where
    go : (o : Outcome Register) → entered r n h (f ∷ []) ≡ o → then o (λ q. accepted (grown q)) ≡ accepted x
        → Charged h r x
    go (refused a b) m k = absurd (accepted_refused (sym k))
    go (accepted q) m k =
        let is = (entered_accepted r n h f q m).0 in
        subst (Charged h r) (accepted_same k)
        (ap (counted h) (ap (λ (y : Register). live h y.entries) is ∙ live_one r h f))

-- The account at exit, by the answer.
pub charges : (word : List ℕ) (m : Memory) (s : List ℕ) (h : ℕ) (r : Register) (x : Found)
    → read_register s ≡ accepted r → entered_in word m s h ≡ accepted x
    → account_in h x.register ≡ raised (account_in h r) (new_reply x.answer)
charges word m s h r x reads e = go (judged_with word m) e
  where
    go : (o : Outcome Word) → then o (λ w. entered_word s h w) ≡ accepted x → Charged h r x
    go (refused a b) k = absurd (accepted_refused (sym k))
    go (accepted w) k =
        answered_charges (number_for (stored_form w) r.entries) r (length s) h (stored_form w) x
        (ap (λ (o : Outcome Register). then o (λ q. answered (number_for (stored_form w) q.entries) q (length s) h
        (stored_form w))) (sym reads) ∙ k)

pub charges_new : (word : List ℕ) (m : Memory) (s : List ℕ) (h : ℕ) (r : Register) (x : Found) (k : ℕ)
    → read_register s ≡ accepted r → entered_in word m s h ≡ accepted x → x.answer ≡ new_entry k
    → account_in h x.register ≡ raised (account_in h r) 1
charges_new word m s h r x k reads e a =
    charges word m s h r x reads e ∙ ap (λ (y : Reply). raised (account_in h r) (new_reply y)) a

pub charges_present : (word : List ℕ) (m : Memory) (s : List ℕ) (h : ℕ) (r : Register) (x : Found) (k : ℕ)
    → read_register s ≡ accepted r → entered_in word m s h ≡ accepted x → x.answer ≡ present k
    → account_in h x.register ≡ raised (account_in h r) 0
charges_present word m s h r x k reads e a =
    charges word m s h r x reads e ∙ ap (λ (y : Reply). raised (account_in h r) (new_reply y)) a
