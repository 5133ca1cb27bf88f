-- The form of a word of at most as many letters as the limit is within the limits (01, 'The reduced form'), and so is
-- that of a product of powers, under two conditions (02, [1]). Assumes nothing.
use mathlib.Core.Path.{refl}
use mathlib.Core.List.{List}
use Prim.Native.Nat.{ℕ, suc, ◌<◌, ◌≤◌}
use native.Mathlib.Decide.{dec_le}
use native.Mathlib.Omega.{arith}
use lib.ListN.{length}
use Rattle.group.specs.Letters.{Word}
use Rattle.group.specs.Forms.{Side, exponent, levels}
use Rattle.group.specs.Limits.{limit}
use Rattle.group.specs.Products.{form_of}
use Rattle.group.specs.Powers.{SignedPower, product_letters, exponent_sizes}
use Rattle.group.proofs.Powers.{product_sum}
use Rattle.group.proofs.Reduced.{form_canonical}
use Rattle.group.proofs.Sizes.{form_sum, form_index, exponent-behind}
use Rattle.records.specs.Format.{encode, Within, IsRecord}

pub form_within : (w : Word) → length w ≤ limit → Within (form_of w)
form_within w short = record {
  indices = λ s i some. low s i some (dec_le i (length w));
  sum = omega (arith, form_sum w, short);
}
  where
    low : (s : Side) (i : ℕ) → 0 < exponent s (form_of w) i → Dec (i ≤ length w) → i ≤ limit
    low s i some (yes h) = omega (arith, h, short)
    low s i some (no h) = absurd (omega (arith, form_index w s i (omega (arith, h)), some))

-- Its record is one.
pub word_record : (w : Word) → length w ≤ limit → IsRecord (encode (form_of w)) (form_of w)
word_record w short =
    let c = form_canonical w in
    record { bytes = refl; within = form_within w short; reduced = c.reduced; trimmed = c.trimmed }

-- Powers whose sizes sum to at most the limit, and whose form has no index above it.
pub product_within : (ps : List SignedPower) → exponent_sizes ps ≤ limit
    → levels (form_of (product_letters ps)) ≤ suc limit → Within (form_of (product_letters ps))
product_within ps few low = record {
  indices = λ s i some. under s i some (dec_le i limit);
  sum = omega (arith, product_sum ps, few);
}
  where
    under : (s : Side) (i : ℕ) → 0 < exponent s (form_of (product_letters ps)) i → Dec (i ≤ limit) → i ≤ limit
    under s i some (yes h) = h
    under s i some (no h) =
        absurd (omega (arith, exponent-behind s (form_of (product_letters ps)) i (omega (arith, h, low)), some))
