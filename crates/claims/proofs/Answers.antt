-- An answer refuses as the outcome that its contract speaks of. Assumes nothing.
use mathlib.Core.Path.{◌≡◌, sym, ap, ◌∙◌}
use mathlib.Core.Logic.{◌↔◌}
use Prim.Native.Nat.{ℕ}
use Rattle.refusals.specs.Outcomes.{Outcome, refused, valued}
use Rattle.refusals.proofs.Outcomes.{valued_refused, accepted_when}
use Rattle.claims.specs.Answers.{IsRefused, Refuses}

-- An outcome o with a number in place of what was found, and the conditions R under which o is refused.
module _ {A : Type 0} (g : A → ℕ) (o : Outcome A) {x : Outcome ℕ} (h : x ≡ valued g o) where
  -- It is refused as o is.
  refused_of : (n p : ℕ) → x ≡ refused n p → o ≡ refused n p
  refused_of n p e = valued_refused g o n p (sym h ∙ e)

  pub is_refused_lem : IsRefused x → (n p : ℕ) × (o ≡ refused n p)
  is_refused_lem (n, p, e) = (n, p, refused_of n p e)

  -- The call refuses under the same conditions.
  pub refuses_when : (R : ℕ → ℕ → Type 0) → ((n p : ℕ) → (o ≡ refused n p) ↔ R n p) → Refuses x R
  refuses_when R c = record { refused_just_when = just; accepted_just_when = accepted_when x R just }
    where
      just : (n p : ℕ) → (x ≡ refused n p) ↔ R n p
      just n p = ((λ e. (c n p).0 (refused_of n p e)), λ r. h ∙ ap (valued g) ((c n p).1 r))
