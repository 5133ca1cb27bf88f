-- A form whose clause was tested, put into two tables, case by case.
-- Assumes nothing.
use mathlib.Core.Path.{◌≡◌, refl, sym, ap, ◌∙◌}
use mathlib.Core.Logic.{◌⊎◌, inl, inr}
use mathlib.Core.Bool.{Bool, true, false, cond}
use mathlib.Core.List.{List}
use Prim.Native.Nat.{ℕ, zero, suc, ◌<◌, ◌≤◌}
use native.Mathlib.Omega.{arith}
use lib.ListN.{length, get_or}
use borrow.Author.Tests.{lt-ltb, le-ltb}
use Rattle.std.specs.Prelude.{⊤, Result, Ok, Err}
use Rattle.lists.specs.Tables.{filled}
use Rattle.copying.specs.inside.Copying.{Copied}
use Rattle.copying.proofs.Copying.{copied_values}
use Rattle.group.specs.Forms.{Side, b_side, a_side, Form, exponent}
use Rattle.group.specs.Limits.{limit}
use Rattle.refusals.specs.declared.Refusal.{Refusal}
use Rattle.refusals.specs.declared.Refusal.TheVariants.{ShortTable}
use Rattle.refusals.specs.Outcomes.{Outcome, accepted, refused, then, drop_value, refusal, verdict_of}
use Rattle.refusals.proofs.Outcomes.{accepted_refused, drop_accepted, drop_refused}
use Rattle.clause.specs.Clause.{breaks, find_break}
use Rattle.clause.specs.inside.Tables.{fits, table_read, ReadInto}

module _ {o : Outcome Form} {b a : List ℕ} (r : Result ⊤ Refusal) where
  -- Nothing is written where the outcome beside the tables is a refusal.
  into_kept : {n p : ℕ} → then o (fits (length b) (length a)) ≡ refused n p → verdict_of r ≡ refused n p
      → ReadInto o b a b a r
  into_kept e v = record {
    result = v ∙ sym (ap (λ (q : Outcome Form). drop_value q) e);
    b_table = sym (ap (λ (q : Outcome Form). table_read b_side q b) e);
    a_table = sym (ap (λ (q : Outcome Form). table_read a_side q a) e);
  }

  pub into_refused : {n p : ℕ} → o ≡ refused n p → verdict_of r ≡ refused n p → ReadInto o b a b a r
  into_refused e v = into_kept (ap (λ (q : Outcome Form). then q (fits (length b) (length a))) e) v

module _ {o : Outcome Form} {f : Form} (b a : List ℕ) (e : o ≡ accepted f) where
  beside : then o (fits (length b) (length a)) ≡ fits (length b) (length a) f
  beside = ap (λ (q : Outcome Form). then q (fits (length b) (length a))) e

  into_short_b : length b < suc limit → ReadInto o b a b a (Err ShortTable)
  into_short_b lt = into_kept (Err ShortTable) (beside ∙ simp (lt-ltb (length b) (suc limit) lt)) refl

  into_short_a : suc limit ≤ length b → length a < suc limit → ReadInto o b a b a (Err ShortTable)
  into_short_a le lt =
      into_kept (Err ShortTable)
      (beside ∙ simp (le-ltb (length b) (suc limit) le, lt-ltb (length a) (suc limit) lt)) refl

  -- Either is too short.
  pub into_short : (length b < suc limit) ⊎ ((suc limit ≤ length b) × (length a < suc limit))
      → ReadInto o b a b a (Err ShortTable)
  into_short (inl lt) = into_short_b lt
  into_short (inr (le, lt)) = into_short_a le lt

  pub into_filled : {b' a' : List ℕ} → suc limit ≤ length b → suc limit ≤ length a
      → b' ≡ filled (suc limit) (exponent b_side f) b → a' ≡ filled (suc limit) (exponent a_side f) a
      → ReadInto o b a b' a' (Ok tt)
  into_filled lb la p q =
      let both : then o (fits (length b) (length a)) ≡ accepted f =
      beside ∙ simp (le-ltb (length b) (suc limit) lb, le-ltb (length a) (suc limit) la) in
      record {
        result = sym (ap (λ (u : Outcome Form). drop_value u) both);
        b_table = p ∙ sym (ap (λ (u : Outcome Form). table_read b_side u b) both);
        a_table = q ∙ sym (ap (λ (u : Outcome Form). table_read a_side u a) both);
      }

-- The clause, where it holds, gives the form back.
find_form : (f : Form) (k i : ℕ) (g : Form) → find_break f i k ≡ accepted g → find_break f i k ≡ accepted f
unfolding find_break
find_form f zero i g e = refl
find_form f (suc k) i g e = go (breaks f i) (find_form f k (suc i) g) e
  where
    go : (t : Bool) → (find_break f (suc i) k ≡ accepted g → find_break f (suc i) k ≡ accepted f)
        → cond t (refused 5 i) (find_break f (suc i) k) ≡ accepted g
        → cond t (refused 5 i) (find_break f (suc i) k) ≡ accepted f
    go true rest h = absurd (accepted_refused (sym h))
    go false rest h = rest h

module _ (f : Form) (v : Result ⊤ Refusal) (h : verdict_of v ≡ drop_value (find_break f 0 (suc limit))) where
  -- The clause is broken.
  pub find_refused : {x : Refusal} → v ≡ Err x → find_break f 0 (suc limit) ≡ refusal x
  find_refused e = drop_refused (find_break f 0 (suc limit)) (sym (ap verdict_of e) ∙ h)

  -- It holds.
  pub find_accepted : v ≡ (Ok tt) → find_break f 0 (suc limit) ≡ accepted f
  find_accepted e =
      let g = drop_accepted (find_break f 0 (suc limit)) (sym (ap verdict_of e) ∙ h) in
      find_form f (suc limit) 0 g.0 g.1

-- A table that is copied from one that shows the form holds its exponents.
pub copied_shown : {from entry exit : List ℕ} (f : Form) (d : Side) → Copied from entry (suc limit) exit
    → suc limit ≤ length from → suc limit ≤ length entry
    → ((i : ℕ) → i ≤ suc limit → get_or from i 0 ≡ exponent d f i)
    → exit ≡ filled (suc limit) (exponent d f) entry
copied_shown f d c long room shown =
    copied_values (exponent d f) c long room (λ i lt. shown i (omega (arith, lt)))
