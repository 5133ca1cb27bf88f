-- The decision by numbers, one case for each way out of `settle`. Assumes nothing.
use mathlib.Core.Path.{◌≡◌, refl, sym, ap, ◌∙◌}
use mathlib.Core.Bool.{Bool, true, false, cond}
use Prim.Native.Nat.{ℕ, suc, ◌+◌, ◌<◌, ◌≤◌}
use lib.Dec.{ltb}
use borrow.Author.Tests.{lt-ltb, le-ltb}
use Rattle.std.specs.Prelude.{Option, None, Result, Ok, Err}
use Rattle.refusals.specs.declared.Refusal.{Refusal}
use Rattle.refusals.specs.declared.Refusal.TheVariants.{HolderFull, RegisterFull}
use Rattle.registers.specs.Format.{number_most, live_most}
use Rattle.updates.specs.declared.Account.{Account}
use Rattle.updates.specs.declared.deciding.Decision.{Decision}
use Rattle.updates.specs.declared.deciding.Decision.TheVariants.{New}
use Rattle.updates.specs.inside.Steps.{entry_length, roomed, settled}

module _ (s : Option ℕ) (a : Account) (last end n m : ℕ) where
  module _ (none : s ≡ None) where
    settled-nothing : settled s a last end n m ≡ settled None a last end n m
    settled-nothing = ap (λ (q : Option ℕ). settled q a last end n m) none

    pub settled_full : live_most ≤ a.live → Err HolderFull ≡ settled s a last end n m
    settled_full h = sym (settled-nothing ∙ simp (le-ltb a.live live_most h))

    module _ (few : a.live < live_most) where
      settled-roomed : settled s a last end n m ≡ roomed a last end n m
      settled-roomed = settled-nothing ∙ simp (lt-ltb a.live live_most few)

      pub settled_last : number_most ≤ last → Err RegisterFull ≡ settled s a last end n m
      settled_last h = sym (settled-roomed ∙ simp (le-ltb last number_most h))

      pub settled_short : m < end + entry_length n → Err RegisterFull ≡ settled s a last end n m
      settled_short h = sym (settled-roomed ∙ simp (lt-ltb m (end + entry_length n) h) (go (ltb last number_most)))
        where
          go : (b : Bool) → ◌≡◌ {A = Result Decision Refusal} (cond b (Err RegisterFull) (Err RegisterFull))
              (Err RegisterFull)
          go true = refl
          go false = refl

      pub settled_new : (k : ℕ) → k ≡ suc last → last < number_most → end + entry_length n ≤ m
          → Ok (New (record { number = k; end = end; account = a })) ≡ settled s a last end n m
      settled_new k e below room =
          ap (λ (i : ℕ). Ok (New (record { number = i; end = end; account = a }))) e
          ∙ sym
          (settled-roomed ∙ simp (lt-ltb last number_most below, le-ltb m (end + entry_length n) room))
