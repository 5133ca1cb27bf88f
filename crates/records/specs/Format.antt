-- The record of a form (01, 'The record'). All numbers are unsigned, high byte first.
--     Power            x_i^e by its index and exponent        powers i t     the powers of exponents e_i, e_(i+1), …
--     record_of b a     the record of two sides' exponents     encode f       the record of a form
--     IsRecord s f     the bytes s are a record, that of f    Within f       indices and exponents within the limit
-- Assumes nothing.
use Rattle.std.specs.Prelude.{◌≡◌, List, [], ◌∷◌, ◌++◌, ℕ, zero, suc, ◌+◌, ◌*◌, ◌<◌, ◌≤◌}
use Rattle.group.specs.Forms.{Side, b_side, a_side, Form, exponent, exponents, Trimmed, exponent_sum}
use Rattle.group.specs.Limits.{limit}
use Rattle.group.specs.Reducing.{Reduced}
use Rattle.fields.specs.Fields.{two_bytes, field}

-- A power of a generator: its index and its exponent.
pub data Power : Type 0 where
  power : (index exponent : ℕ) → Power

-- The powers of a list of exponents whose first has index i; exponent 0 is no power.
abbrev pub put_power : ℕ → ℕ → List Power → List Power
put_power i zero ps = ps
put_power i (suc e) ps = power i (suc e) ∷ ps

abbrev pub powers : ℕ → List ℕ → List Power
powers i [] = []
powers i (e ∷ t) = put_power i e (powers (suc i) t)

-- The entries of powers, four bytes each: index, exponent.
abbrev pub entries : List Power → List ℕ
entries [] = []
entries (power i e ∷ ps) = two_bytes i ++ (two_bytes e ++ entries ps)

-- The tags of the b side and of the a side.
abbrev pub b_tag : ℕ
b_tag = 1

abbrev pub a_tag : ℕ
a_tag = 2

-- The record of the exponents b_0, b_1, … and a_0, a_1, …: the field of the b side, then the field of the a side.
abbrev pub record_of : List ℕ → List ℕ → List ℕ
record_of b a = field b_tag (entries (powers 0 b)) ++ field a_tag (entries (powers 0 a))

-- The record of a form.
abbrev pub encode : Form → List ℕ
encode f = record_of (exponents b_side f) (exponents a_side f)

-- The bytes of a record with no entry.
abbrev pub base_size : ℕ
base_size = 6

-- The bytes that a record buffer needs for a word of n letters: every letter may need an entry.
abbrev pub buffer_size : ℕ → ℕ
buffer_size n = base_size + 4 * n

-- No index above the limit occurs, and the exponents sum to at most the limit.
pub record Within (f : Form) : Type 0 where
  pub indices : (s : Side) (i : ℕ) → 0 < exponent s f i → i ≤ limit
  pub sum : exponent_sum f ≤ limit

-- The bytes are a record, that of the form: the two fields of its entries, indices and exponents within the limit, the
-- form reduced. It has no level (0, 0) at its end, so that one form has these exponents.
pub record IsRecord (s : List ℕ) (f : Form) : Type 0 where
  pub bytes : s ≡ encode f
  pub within : Within f
  pub reduced : Reduced f
  pub trimmed : Trimmed f
