-- The powers of tables, entry by entry, and those of a form whose exponents they hold (02, [1]). Assumes nothing.
use mathlib.Core.Path.{◌≡◌, refl, ap, ap₂, ◌∙◌}
use mathlib.Core.List.{List, [], ◌∷◌, ◌++◌}
use Prim.Native.Nat.{ℕ, zero, suc, ◌+◌, ◌-◌, ◌*◌, ◌<◌, ◌≤◌}
use native.Mathlib.Numerals.{add-one}
use native.Mathlib.Omega.{arith}
use lib.ListN.{length, take, drop, get_or, length-append, drop_of_length-le}
use lib.Seq.{take-suc, drop-cons, length-take-le}
use Rattle.group.specs.Forms.{b_side, a_side, Form, empty, level, exponent, levels, exponent_sum}
use Rattle.group.specs.Powers.{SignedPower, put_signed, rising_powers, falling_powers, form_powers}
use Rattle.tokens.specs.Texts.{further_text}
use Rattle.notation.specs.inside.Tables.{rising_in, falling_in, powers_of}
use Rattle.tokens.proofs.Texts.{further_append}
use Rattle.notation.proofs.Texts.{put_append, further_put, put_size, Next}

-- The first power of those from index k on.
pub rising_next : (b : List ℕ) (k : ℕ) → k < length b
    → Next (rising_in k (drop k b)) (rising_in (k + 1) (drop (k + 1) b)) b_side k (get_or b k 0)
rising_next b k h = record { begins = rw add-one (ap (rising_in k) (drop-cons b k 0 h)) }

-- Behind the last entry there is none.
pub rising_done : (b : List ℕ) (k : ℕ) → length b ≤ k → rising_in k (drop k b) ≡ []
rising_done b k h = ap (rising_in k) (drop_of_length-le b {i = k} h)

-- One entry more at the end of a table is the first power, indices falling.
falling_last : (t : List ℕ) (j k e : ℕ) → k ≡ j + length t
    → falling_in j (t ++ (e ∷ [])) ≡ put_signed a_side k e (falling_in j t)
falling_last [] j k e h = let same : j ≡ k = omega arith in ap (λ (i : ℕ). put_signed a_side i e []) same
falling_last (x ∷ t) j k e h =
    ap (λ (ps : List SignedPower). ps ++ put_signed a_side j x []) (falling_last t (suc j) k e (omega arith))
    ∙ put_append a_side k e (falling_in (suc j) t) (put_signed a_side j x [])

-- The first power of those of the indices below k.
pub falling_next : (a : List ℕ) (k : ℕ) → 0 < k → k ≤ length a
    → Next (falling_in 0 (take k a)) (falling_in 0 (take (k - 1) a)) a_side (k - 1) (get_or a (k - 1) 0)
falling_next a zero h g = absurd (omega arith)
falling_next a (suc k) h g =
    let same : suc k - 1 ≡ k = omega arith in
    rw same
    (record {
      begins =
          ap (falling_in 0) (take-suc a k 0 (omega arith))
          ∙ falling_last (take k a) 0 k (get_or a k 0) (omega (arith, length-take-le k a (omega arith)));
    })

-- Below index 0 there is none.
pub falling_done : (a : List ℕ) (k : ℕ) → k ≤ 0 → falling_in 0 (take k a) ≡ []
falling_done a zero h = refl
falling_done a (suc k) h = absurd (omega arith)

-- A table of zeros has no powers.
rising_none : (t : List ℕ) (k : ℕ) → ((i : ℕ) → get_or t i 0 ≡ 0) → rising_in k t ≡ []
rising_none [] k h = refl
rising_none (e ∷ t) k h = ap₂ (put_signed b_side k) (h 0) (rising_none t (suc k) (λ i. h (suc i)))

falling_none : (t : List ℕ) (k : ℕ) → ((i : ℕ) → get_or t i 0 ≡ 0) → falling_in k t ≡ []
falling_none [] k h = refl
falling_none (e ∷ t) k h =
    ap₂ (λ (ps : List SignedPower) (x : ℕ). ps ++ put_signed a_side k x [])
    (falling_none t (suc k) (λ i. h (suc i))) (h 0)

-- A table that holds a form's exponents has the form's powers.
pub rising_form : (f : Form) (t : List ℕ) (k : ℕ) → levels f ≤ length t → ((i : ℕ) → get_or t i 0 ≡ exponent b_side f i)
    → rising_in k t ≡ rising_powers k f
rising_form empty t k l h = rising_none t k h
rising_form (level b a f) [] k l h = absurd (omega arith)
rising_form (level b a f) (e ∷ t) k l h =
    ap₂ (put_signed b_side k) (h 0) (rising_form f t (suc k) (omega arith) (λ i. h (suc i)))

pub falling_form : (f : Form) (t : List ℕ) (k : ℕ) → levels f ≤ length t → ((i : ℕ) → get_or t i 0 ≡ exponent a_side f i)
    → falling_in k t ≡ falling_powers k f
falling_form empty t k l h = falling_none t k h
falling_form (level b a f) [] k l h = absurd (omega arith)
falling_form (level b a f) (e ∷ t) k l h =
    ap₂ (λ (ps : List SignedPower) (x : ℕ). ps ++ put_signed a_side k x [])
    (falling_form f t (suc k) (omega arith) (λ i. h (suc i))) (h 0)

-- The bytes of both sides: at most 12 for each 1 of the exponents.
both_size : (f : Form) (k : ℕ) → k + levels f ≤ 10000 → exponent_sum f < 10000
    → length (further_text (rising_powers k f)) + length (further_text (falling_powers k f)) ≤ 12 * exponent_sum f
both_size empty k h g = omega arith
both_size (level b a f) k h g =
    omega (
      arith,
      both_size f (suc k) (omega arith) (omega arith),
      ap length (further_put b_side k b (rising_powers (suc k) f)),
      length-append (further_text (put_signed b_side k b [])) (further_text (rising_powers (suc k) f)),
      ap length (further_append (falling_powers (suc k) f) (put_signed a_side k a [])),
      length-append (further_text (falling_powers (suc k) f)) (further_text (put_signed a_side k a [])),
      put_size b_side k b (omega arith) (omega arith),
      put_size a_side k a (omega arith) (omega arith),
    )

-- The bytes of a form's powers.
pub form_size : (f : Form) → levels f ≤ 10000 → exponent_sum f < 10000
    → length (further_text (form_powers f)) ≤ 12 * exponent_sum f
form_size f h g =
    omega (
      arith,
      both_size f 0 (omega arith) g,
      ap length (further_append (rising_powers 0 f) (falling_powers 0 f)),
      length-append (further_text (rising_powers 0 f)) (further_text (falling_powers 0 f)),
    )

-- The bytes of both tables.
pub both-length : (b a : List ℕ)
    → length (further_text (powers_of b a)) ≡ length (further_text (rising_in 0 b)) + length (further_text (falling_in 0 a))
both-length b a =
    ap length (further_append (rising_in 0 b) (falling_in 0 a))
    ∙ length-append (further_text (rising_in 0 b)) (further_text (falling_in 0 a))
