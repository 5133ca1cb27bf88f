-- Two words on a line: the first blank, and a line that has none. Assumes nothing.
use mathlib.Core.Path.{◌≡◌, refl, sym, ap, ap₂, ◌∙◌}
use mathlib.Core.Bool.{cond}
use mathlib.Core.List.{List}
use Prim.Native.Nat.{ℕ, suc, ◌+◌, ◌<◌, ◌≤◌}
use native.Mathlib.Decide.{dec_lt}
use native.Mathlib.Omega.{arith}
use borrow.Author.Tests.{lt-ltb, le-ltb}
use lib.Dec.{eqb, ltb}
use lib.ListN.{length, take, drop}
use Rattle.std.specs.Prelude.{Option, Some, None, Result}
use Rattle.std.specs.List.{position, position_or_len}
use Rattle.std.proofs.lemmas.List.Recursion.{is_position_or_len}
use Rattle.numerals.specs.Decimals.{ascii}
use Rattle.group.specs.Limits.{limit}
use Rattle.refusals.specs.Memory.{Memory}
use Rattle.tokens.specs.Tokens.{space}
use Rattle.comparisons.specs.declared.Comparison.{Comparison}
use Rattle.comparisons.specs.declared.RefusedWord.{RefusedWord}
use Rattle.comparisons.specs.Comparing.{decision_of, decided, Compared}
use Rattle.commands.specs.Answers.{denying, refusal_text}
use Rattle.commands.specs.Words.{decision_said, same_said, blank_at, single_said, same_line_said}
use Rattle.commands.proofs.LineAnswers.{Full, full_judged}

-- The place of the first blank is that of the first byte that passes the test.
blank_is : (line : List ℕ) → blank_at line ≡ position_or_len (λ x. eqb x space) line
unfolding blank_at
blank_is line = is_position_or_len blank_at (λ x. eqb x space) refl step line
  where
    step : (x : ℕ) (s : List ℕ) → cond (eqb x space) 0 (suc (blank_at s)) ≡ cond (eqb x space) 0 (1 + blank_at s)
    step x s = let e : suc (blank_at s) ≡ 1 + blank_at s = omega arith in ap (cond (eqb x space) 0) e

-- A place that is given where it is inside.
place_given : (n l k : ℕ) → cond (ltb n l) (Some n) None ≡ Some k → (k ≡ n) × (k < l)
place_given n l k e = go (dec_lt n l)
  where
    go : Dec (n < l) → (k ≡ n) × (k < l)
    go (yes inside) =
        let f = rw (lt-ltb n l inside) at e in
        let same : k ≡ n = cc in
        (same, omega arith)
    go (no behind) = let f = rw (le-ltb n l (omega arith)) at e in cc

place_missing : (n l : ℕ) → ◌≡◌ {A = Option ℕ} (cond (ltb n l) (Some n) None) None → l ≤ n
place_missing n l e = go (dec_lt n l)
  where
    go : Dec (n < l) → l ≤ n
    go (yes inside) = let f = rw (lt-ltb n l inside) at e in cc
    go (no behind) = omega arith

-- The first blank, or none.
pub blank_found : (line : List ℕ) (k : ℕ) → position (λ x. eqb x space) line ≡ Some k
    → (k ≡ blank_at line) × (k < length line)
blank_found line k e =
    let p = place_given (position_or_len (λ x. eqb x space) line) (length line) k e in
    (p.0 ∙ sym (blank_is line), p.1)

pub blank_missing : (line : List ℕ) → ◌≡◌ {A = Option ℕ} (position (λ x. eqb x space) line) None
    → length line ≤ blank_at line
blank_missing line e =
    omega (arith, blank_is line, place_missing (position_or_len (λ x. eqb x space) line) (length line) e)

-- A line that has no blank.
pub single_long : (line : List ℕ) → limit < length line → denying (refusal_text 1 limit) ≡ single_said line
single_long line h = simp (lt-ltb limit (length line) h)

pub single_short : (line : List ℕ) → length line ≤ limit → denying (ascii "no second word\n") ≡ single_said line
single_short line h = simp (le-ltb limit (length line) h)

-- A line by its first blank.
pub line_two : (line : List ℕ) {k : ℕ} {u v : List ℕ} → k ≡ blank_at line → k < length line → u ≡ take k line
    → v ≡ drop (k + 1) line → same_said u v ≡ same_line_said line
line_two line {k} {u} {v} e h first second =
    let place : suc (blank_at line) ≡ k + 1 = omega (arith, e) in
    simp (lt-ltb (blank_at line) (length line) (omega (arith, e, h)))
    (ap₂ same_said (first ∙ ap (λ (n : ℕ). take n line) e) (second ∙ ap (λ (n : ℕ). drop n line) (sym place)))

pub line_single : (line : List ℕ) {k : ℕ} → k ≡ blank_at line → length line ≤ k → single_said line ≡ same_line_said line
line_single line e h = simp (le-ltb (blank_at line) (length line) (omega (arith, e, h)))

-- What is decided of two words in memory that serves every word.
pub compared_said : (u v : List ℕ) {m m' n n' : Memory} {r : Result Comparison RefusedWord} → Full m → Full n
    → Compared u m m' v n n' r → decision_said (decision_of r) ≡ same_said u v
compared_said u v {m} {m'} {n} {n'} {r} f g h =
    ap decision_said
    (h.result ∙ ap₂ decided (full_judged u m f) (full_judged v n g))
