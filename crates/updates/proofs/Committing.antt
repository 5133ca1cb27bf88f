-- What is written and answered, by the case of a decision. Assumes nothing.
use mathlib.Core.Path.{◌≡◌, refl, sym, ap, subst}
use mathlib.Core.List.{List}
use Prim.Native.Nat.{ℕ}
use Rattle.updates.specs.declared.Account.{Account}
use Rattle.updates.specs.declared.Entered.{Entered}
use Rattle.updates.specs.declared.Entered.TheVariants as Answers
use Rattle.updates.specs.declared.deciding.Place.{Place}
use Rattle.updates.specs.declared.deciding.Decision.{Decision}
use Rattle.updates.specs.declared.deciding.Decision.TheVariants.{New, Present}
use Rattle.updates.specs.Accounts.{raised}
use Rattle.updates.specs.inside.Steps.{RoomFor, PutNew, Committable, Committed}

module _ {d : Decision} (bytes s : List ℕ) where
  pub new_asks : {p : Place} → d ≡ New p → Committable d bytes s → RoomFor p bytes s
  new_asks {p} e h = subst (λ (q : Decision). Committable q bytes s) e h

  pub new_committed : {p : Place} {s' : List ℕ} {r : Entered} → d ≡ New p → PutNew p bytes s s' r
      → Committed d bytes s s' r
  new_committed {p} {s'} {r} e h = subst (λ (q : Decision). Committed q bytes s s' r) (sym e) h

  pub present_committed : {k : ℕ} {a b : Account} → d ≡ Present k a → b ≡ raised a 0
      → Committed d bytes s s (Answers.Present k b)
  present_committed {k} {a} {b} e h =
      subst (λ (q : Decision). Committed q bytes s s (Answers.Present k b)) (sym e)
      (refl, ap (λ (x : Account). Answers.Present k x) h)
