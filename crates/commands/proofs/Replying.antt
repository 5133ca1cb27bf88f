-- What is said of a call's reply: a line at the front of the buffer, or the line of the refusal. Assumes nothing.
use mathlib.Core.Path.{◌≡◌, sym, ap, ◌∙◌}
use mathlib.Core.List.{List}
use Prim.Native.Nat.{ℕ}
use Rattle.std.specs.Prelude.{Result, Ok, Err}
use Rattle.std.specs.Result.{IsErrAnd}
use Rattle.std.proofs.lemmas.Result.{err_from_is_err_and}
use Rattle.refusals.specs.Outcomes.{Outcome, accepted, refusal}
use Rattle.refusals.specs.declared.Refusal.{Refusal}
use Rattle.appending.specs.inside.Appending.{Appended}
use Rattle.commands.specs.Answers.{Said, saying, denying, line_of, said}
use Rattle.commands.specs.inside.Steps.{refusal_of, Replied}

-- A refusal that ends a function is said.
pub denied_exit : (s : Said) (q : Refusal) (r : Result ℕ Refusal) (out : List ℕ) → denying (refusal_of q) ≡ s
    → IsErrAnd r (λ x. x ≡ q) → Replied s out out r
denied_exit s q r out e h =
    let p = err_from_is_err_and r h in
    let so : Replied s out out (Err q) = sym e in
    rw (p.1, p.2) so

module _ (show : ℕ → List ℕ) {s : Said} (o : Outcome ℕ) (e : said show o ≡ s) where
  -- What was found is shown in a line.
  pub reply_line : (n : ℕ) {end : ℕ} (t : List ℕ) {out out' : List ℕ} → o ≡ accepted n → t ≡ show n
      → Appended (line_of t) out 0 out' end → Replied s out out' (Ok end)
  reply_line n t f g a =
      (line_of t, sym e ∙ ap (said show) f ∙ ap (λ (l : List ℕ). saying (line_of l)) (sym g), a)

  -- A refusal ends the function.
  pub reply_denied : (q : Refusal) (r : Result ℕ Refusal) (out : List ℕ) → o ≡ refusal q → IsErrAnd r (λ x. x ≡ q)
      → Replied s out out r
  reply_denied q r out f h = denied_exit s q r out (sym (ap (said show) f) ∙ e) h
