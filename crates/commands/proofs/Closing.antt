-- A text that was appended from the front of a buffer on, closed: it stands there, or it is said to be too long.
-- Assumes nothing.
use mathlib.Core.Path.{◌≡◌, refl, subst, ◌∙◌}
use mathlib.Core.Bool.{Bool, true}
use mathlib.Core.List.{List}
use Prim.Native.Nat.{ℕ, ◌≤◌}
use native.Mathlib.Omega.{arith}
use borrow.Author.Tests.{lt-ltb, le-ltb}
use lib.ListN.{length}
use Rattle.appending.specs.inside.Appending.{beyond, Appended}
use Rattle.appending.proofs.Appending.{appended_front, appended_over}
use Rattle.commands.specs.declared.Answer.{Answer}
use Rattle.commands.specs.Answers.{Said, answer_size, too_long, fitted}
use Rattle.commands.specs.Promises.{Says}

-- The same thing said, by another name.
pub says_same : {s t : Said} {out : List ℕ} {r : Answer} → s ≡ t → Says (fitted s) out r → Says (fitted t) out r
says_same {s} {t} {out} {r} e h = subst (λ (x : Said). Says (fitted x) out r) e h

module _ (text start : List ℕ) {out : List ℕ} {end : ℕ} (size : length start ≡ answer_size)
    (a : Appended text start 0 out end) where
  -- It fits.
  pub close_front : (denied : Bool) → (end ≡ beyond → ⊥)
      → Says (fitted (record { text = text; denied = denied })) out (record { bytes = end; refused = denied })
  close_front denied other =
      let front = appended_front (omega (arith, size)) a other in
      let few : length text ≤ answer_size = omega (arith, front.1, front.2, size, a.size) in
      simp (le-ltb answer_size (length text) few)
      (record { text = front.0; counted = front.2; denied = refl })

  -- It does not.
  pub close_over : {out' : List ℕ} {n : ℕ} (denied : Bool) → end ≡ beyond → Appended too_long out 0 out' n
      → Says (fitted (record { text = text; denied = denied })) out' (record { bytes = n; refused = true })
  close_over {out'} {n} denied e b =
      let many = appended_over (omega (arith, size)) a e in
      let same : length out ≡ answer_size = a.size ∙ size in
      let all = b.fits (omega (arith, same)) in
      let front = appended_front (omega (arith, same)) b (λ z. omega (arith, z, all.ends)) in
      simp (lt-ltb answer_size (length text) (omega (arith, many, size)))
      (record { text = front.0; counted = front.2; denied = refl })
