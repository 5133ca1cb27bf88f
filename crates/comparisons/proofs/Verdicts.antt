-- The verdict on two records, by what the tests on them answered. Assumes nothing.
use mathlib.Core.Path.{◌≡◌, refl, sym, ap, ap₂, ◌∙◌}
use mathlib.Core.Bool.{Bool, true, false, true≢false}
use mathlib.Core.List.{List}
use Prim.Native.Nat.{ℕ}
use Rattle.lists.specs.SameBytes.{same_bytes}
use Rattle.lists.proofs.SameBytes.{same_bytes_lem, bytes_same}
use Rattle.records.specs.Exchange.{exchanged}
use Rattle.records.specs.inside.Exchanging.{is_exchange_value}
use Rattle.comparisons.specs.Comparing.{same, verdict_by, verdict_on}
use Rattle.records.specs.Reading.{frames}

-- They are equal.
pub verdict_equal : (s t : List ℕ) → s ≡ t → same ≡ verdict_on s t
verdict_equal s t e =
    sym
    (ap (λ (p : Bool). verdict_by p (same_bytes s (exchanged t))) (ap (same_bytes s) (sym e) ∙ bytes_same s))

-- Of framed records the test of the exchange is that of the bytes.
pub exchange_framed : (s t : List ℕ) → frames s ≡ true → frames t ≡ true
    → is_exchange_value s t ≡ same_bytes s (exchanged t)
exchange_framed s t e g = (cc)

-- They are framed and, by a test p that holds of equal ones, not equal; q is whether they are exchanged.
pub verdict_unequal : {s t : List ℕ} {p : Bool} (q : Bool) → (frames s ≡ true) × (frames t ≡ true)
    → (s ≡ t → p ≡ true) → p ≡ false → is_exchange_value s t ≡ q → verdict_by false q ≡ verdict_on s t
verdict_unequal {s} {t} {p} q f holds fails is = sym (ap₂ verdict_by (go (same_bytes s t) refl) exchange)
  where
    exchange : same_bytes s (exchanged t) ≡ q
    exchange = sym (exchange_framed s t f.0 f.1) ∙ is

    go : (b : Bool) → same_bytes s t ≡ b → b ≡ false
    go true e = absurd (true≢false (sym (holds (same_bytes_lem s t e)) ∙ fails))
    go false e = refl
