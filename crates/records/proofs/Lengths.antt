-- The lengths of records (01, 'The record'): six bytes and four for each power. Assumes nothing.
use mathlib.Core.Path.{◌≡◌, refl}
use mathlib.Core.List.{List, [], ◌∷◌}
use Prim.Native.Nat.{ℕ, suc, ◌+◌, ◌*◌, ◌≤◌}
use native.Mathlib.Omega.{arith}
use lib.ListN.{length, length-append}
use Rattle.group.specs.Forms.{b_side, a_side, Form, empty, level, exponents, exponent_sum}
use Rattle.records.specs.Format.{Power, power, powers, entries, b_tag, a_tag, record_of}
use Rattle.fields.specs.Fields.{field}
use Rattle.records.specs.Format.{encode, base_size, buffer_size}
use Rattle.records.proofs.Powers.{put_length, put_few}

pub entries-length : (ps : List Power) → length (entries ps) ≡ 4 * length ps
entries-length [] = refl
entries-length (power i e ∷ ps) = omega (arith, entries-length ps)

-- A table has at most a power for each index.
pub powers-most : (i : ℕ) (t : List ℕ) → length (powers i t) ≤ length t
powers-most i [] = omega arith
powers-most i (e ∷ t) = omega (arith, put_length i e (powers (suc i) t), put_few e, powers-most (suc i) t)

pub record_length : (b a : List ℕ)
    → length (record_of b a) ≡ base_size + 4 * (length (powers 0 b) + length (powers 0 a))
record_length b a =
    omega (
      arith,
      length-append (field b_tag (entries (powers 0 b))) (field a_tag (entries (powers 0 a))),
      entries-length (powers 0 b),
      entries-length (powers 0 a),
    )

pub encode-length : (f : Form)
    → length (encode f) ≡ base_size + 4 * (length (powers 0 (exponents b_side f)) + length (powers 0 (exponents a_side f)))
encode-length f = record_length (exponents b_side f) (exponents a_side f)

-- Each power has an exponent of at least 1.
powers-sum : (f : Form) (i : ℕ)
    → length (powers i (exponents b_side f)) + length (powers i (exponents a_side f)) ≤ exponent_sum f
powers-sum empty i = omega arith
powers-sum (level b a f) i =
    omega (
      arith,
      put_length i b (powers (suc i) (exponents b_side f)),
      put_length i a (powers (suc i) (exponents a_side f)),
      put_few b,
      put_few a,
      powers-sum f (suc i),
    )

-- A buffer for as many letters as the exponents sum to has room for the record.
pub encode_size : (f : Form) → length (encode f) ≤ buffer_size (exponent_sum f)
encode_size f = omega (arith, encode-length f, powers-sum f 0)
