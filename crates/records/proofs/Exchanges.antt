-- Records and forms with their sides exchanged: the exchanged record is that of the exchanged form, the smaller of the
-- two is not above its exchange, and a form and its exchange have one smaller form. Assumes nothing.
use mathlib.Core.Path.{◌≡◌, refl, sym, ap, ap₂, ◌∙◌}
use mathlib.Core.Bool.{Bool, true, false, cond, true≢false}
use mathlib.Core.List.{List, ◌∷◌}
use mathlib.Core.Logic.{◌⊎◌, inl, inr}
use Prim.Native.Nat.{ℕ, ◌<◌, ◌≤◌}
use native.Mathlib.Omega.{arith}
use lib.ListN.{take}
use lib.Seq.{take_at, take-length}
use Rattle.group.specs.Forms.{Side, b_side, a_side, Form, empty, level, exponent, exponents}
use Rattle.group.specs.Limits.{limit}
use Rattle.group.specs.Products.{exchange}
use Rattle.group.proofs.Exchange.{exchange-exponent, exchange_canonical, exchange_twice, exchange-sum}
use Rattle.fields.specs.Fields.{Bytes, field}
use Rattle.records.specs.Format.{powers, entries, a_tag, encode, Within, IsRecord}
use Rattle.records.specs.Reading.{b_length, b_powers, a_powers}
use Rattle.records.specs.Exchange.{bytes_below, b_body, a_body, exchanged, is_above, smaller_record, smaller_form}
use Rattle.records.proofs.Framing.{fields, fields_b, fields_a, fields_start, Frame, frame_written}
use Rattle.records.proofs.ReadBack.{encode_injective}
use Rattle.records.proofs.ByteOrder.{below_not, below_same}

-- The bodies of two fields.
module _ (b a : List ℕ) where
  pub body_b : b_body (fields b a) ≡ b
  body_b = take_at b (field a_tag a) (b_length (fields b a)) (sym (fields_b b a))

  pub body_a : a_body (fields b a) ≡ a
  body_a = ap₂ (λ (n : ℕ) (l : List ℕ). take n l) (fields_a b a) (fields_start b a) ∙ take-length a

  pub exchanged_fields : exchanged (fields b a) ≡ fields a b
  exchanged_fields = ap₂ (λ (x y : List ℕ). fields x y) body_a body_b

-- Bytes that two fields frame are the fields of their bodies.
pub bodies_written : (s : List ℕ) → Bytes s → Frame s → s ≡ fields (b_body s) (a_body s)
bodies_written s bytes h =
    let b : List ℕ = entries (b_powers s) in
    let a : List ℕ = entries (a_powers s) in
    let is : s ≡ fields b a = frame_written s bytes h in
    is ∙ ap₂ (λ (x y : List ℕ). fields x y) (sym (ap b_body is ∙ body_b b a)) (sym (ap a_body is ∙ body_a b a))

-- The exponents of the exchanged form.
exponents-exchange : (f : Form) → (exponents b_side (exchange f) ≡ exponents a_side f)
    × (exponents a_side (exchange f) ≡ exponents b_side f)
exponents-exchange empty = (refl, refl)
exponents-exchange (level b a f) =
    let rest = exponents-exchange f in
    (ap (λ (l : List ℕ). a ∷ l) rest.0, ap (λ (l : List ℕ). b ∷ l) rest.1)

-- The record with its sides exchanged is the record of the exchanged form.
pub exchanged-encode : (f : Form) → exchanged (encode f) ≡ encode (exchange f)
exchanged-encode f =
    let sides = exponents-exchange f in
    exchanged_fields (entries (powers 0 (exponents b_side f))) (entries (powers 0 (exponents a_side f)))
    ∙ ap₂ (λ (x y : List ℕ). fields (entries (powers 0 x)) (entries (powers 0 y))) (sym sides.0) (sym sides.1)

above_encode : (f : Form) → is_above (encode f) ≡ bytes_below (encode (exchange f)) (encode f)
above_encode f = ap (λ (l : List ℕ). bytes_below l (encode f)) (exchanged-encode f)

-- The smaller record is that of the smaller form.
pub smaller-encode : (f : Form) → smaller_record (encode f) ≡ encode (smaller_form f)
smaller-encode f = go (is_above (encode f))
  where
    go : (p : Bool) → cond p (exchanged (encode f)) (encode f) ≡ encode (cond p (exchange f) f)
    go true = exchanged-encode f
    go false = refl

-- It is not above its exchange.
pub smaller_least : (f : Form) → is_above (encode (smaller_form f)) ≡ false
smaller_least f = go (is_above (encode f)) refl
  where
    go : (p : Bool) → is_above (encode f) ≡ p → is_above (encode (cond p (exchange f) f)) ≡ false
    go true e =
        above_encode (exchange f)
        ∙ ap (λ (g : Form). bytes_below (encode g) (encode (exchange f))) (exchange_twice f)
        ∙ below_not (encode (exchange f)) (encode f) (sym (above_encode f) ∙ e)
    go false e = e

-- It is the form or its exchange.
pub smaller_one : (f : Form) → (smaller_form f ≡ f) ⊎ (smaller_form f ≡ exchange f)
smaller_one f = go (is_above (encode f))
  where
    go : (p : Bool) → (cond p (exchange f) f ≡ f) ⊎ (cond p (exchange f) f ≡ exchange f)
    go true = inr refl
    go false = inl refl

-- The exchange of a form that a record holds is one.
pub exchange_record : (f : Form) → IsRecord (encode f) f → IsRecord (encode (exchange f)) (exchange f)
exchange_record f r =
    let c = exchange_canonical f (record { reduced = r.reduced; trimmed = r.trimmed }) in
    record { bytes = refl; within = within; reduced = c.reduced; trimmed = c.trimmed }
  where
    low : (s : Side) (i : ℕ) → 0 < exponent s (exchange f) i → i ≤ limit
    low b_side i h = r.within.indices a_side i (omega (arith, exchange-exponent b_side f i, h))
    low a_side i h = r.within.indices b_side i (omega (arith, exchange-exponent a_side f i, h))

    within : Within (exchange f)
    within = record { indices = low; sum = omega (arith, exchange-sum f, r.within.sum) }

pub smaller_record_lem : (f : Form) → IsRecord (encode f) f → IsRecord (encode (smaller_form f)) (smaller_form f)
smaller_record_lem f r = go (is_above (encode f))
  where
    go : (p : Bool) → IsRecord (encode (cond p (exchange f) f)) (cond p (exchange f) f)
    go true = exchange_record f r
    go false = r

-- Forms that records hold are equal where their records are.
pub record_form : (f g : Form) → IsRecord (encode f) f → IsRecord (encode g) g → encode f ≡ encode g → f ≡ g
record_form f g r q = encode_injective f g r.trimmed r.within q.trimmed q.within

-- A form and its exchange have one smaller form.
pub smaller-exchange : (f : Form) → IsRecord (encode f) f → smaller_form (exchange f) ≡ smaller_form f
smaller-exchange f r =
    let back = above_encode (exchange f)
    ∙ ap (λ (g : Form). bytes_below (encode g) (encode (exchange f))) (exchange_twice f) in
    ap₂ (λ (p : Bool) (g : Form). cond p g (exchange f)) back (exchange_twice f)
    ∙ go (bytes_below (encode f) (encode (exchange f))) (bytes_below (encode (exchange f)) (encode f)) refl refl
    ∙ ap (λ (p : Bool). cond p (exchange f) f) (sym (above_encode f))
  where
    go : (q p : Bool) → bytes_below (encode f) (encode (exchange f)) ≡ q
        → bytes_below (encode (exchange f)) (encode f) ≡ p
        → cond q f (exchange f) ≡ cond p (exchange f) f
    go true true a b = absurd (true≢false (sym b ∙ below_not (encode f) (encode (exchange f)) a))
    go true false a b = refl
    go false true a b = refl
    go false false a b =
        sym (record_form f (exchange f) r (exchange_record f r)
        (below_same (encode f) (encode (exchange f)) a b))

-- One that is not above its exchange is the smaller.
pub smaller-kept : (f : Form) → is_above (encode f) ≡ false → smaller_form f ≡ f
smaller-kept f e = ap (λ (p : Bool). cond p (exchange f) f) e

-- Forms have one smaller form just where they are equal, or one is the other with its sides exchanged.
pub smaller-either : (f g : Form) → smaller_form f ≡ smaller_form g → (f ≡ g) ⊎ (f ≡ exchange g)
smaller-either f g e = go (smaller_one f) (smaller_one g)
  where
    back : (h : Form) → exchange f ≡ h → f ≡ exchange h
    back h i = sym (exchange_twice f) ∙ ap exchange i

    go : (smaller_form f ≡ f) ⊎ (smaller_form f ≡ exchange f) → (smaller_form g ≡ g) ⊎ (smaller_form g ≡ exchange g)
        → (f ≡ g) ⊎ (f ≡ exchange g)
    go (inl a) (inl b) = inl (sym a ∙ e ∙ b)
    go (inl a) (inr b) = inr (sym a ∙ e ∙ b)
    go (inr a) (inl b) = inr (back g (sym a ∙ e ∙ b))
    go (inr a) (inr b) = inl (back (exchange g) (sym a ∙ e ∙ b) ∙ exchange_twice g)

pub either-smaller : (f g : Form) → IsRecord (encode g) g → (f ≡ g) ⊎ (f ≡ exchange g)
    → smaller_form f ≡ smaller_form g
either-smaller f g r (inl e) = ap smaller_form e
either-smaller f g r (inr e) = ap smaller_form e ∙ smaller-exchange g r
