-- The reading of a record: its form, or refusal 3, 4 or 5 with the place (01, 'The record', 'Who caused the refusal').
--     frames s        the two fields frame the bytes exactly     scan     the entries of a field, in order
--     reduced_form s   the form, or refusal 5                      decode   the whole
-- This is how a record is read; that it is the paper's sentences is claimed apart from this. Assumes nothing.
use Rattle.std.specs.Prelude.{Bool, true, false, cond, List, [], ◌∷◌, ℕ, zero, suc, ◌+◌, ◌/◌, ◌%◌, length, get_or, eqb, ltb}
use Rattle.group.specs.Forms.{Form}
use Rattle.group.specs.UpTo.{form_up_to}
use Rattle.group.specs.Limits.{limit}
use Rattle.refusals.specs.Outcomes.{Outcome, accepted, refused, then}
use Rattle.fields.specs.Fields.{two_at}
use Rattle.clause.specs.Clause.{both, find_break}
use Rattle.records.specs.Format.{Power, power, b_tag, a_tag, base_size}

-- The lengths of the two bodies, and where the second begins.
abbrev pub b_length : List ℕ → ℕ
b_length s = two_at s 1

abbrev pub a_start : List ℕ → ℕ
a_start s = base_size + b_length s

abbrev pub a_length : List ℕ → ℕ
a_length s = two_at s (4 + b_length s)

-- Both tags stand where they should, the second body ends where the bytes end, and neither body ends amid an entry.
abbrev pub fields_fit : List ℕ → Bool
fields_fit s =
    both (eqb (get_or s 0 0) b_tag)
    (both (eqb (get_or s (3 + b_length s) 0) a_tag)
    (both (eqb (length s) (a_start s + a_length s))
    (both (eqb (b_length s % 4) 0) (eqb (a_length s % 4) 0))))

-- The two fields frame the bytes exactly.
abbrev pub frames : List ℕ → Bool
frames s = cond (ltb (length s) base_size) false (cond (ltb (length s) (a_start s)) false (fields_fit s))

-- The k entries from an offset on.
abbrev pub entries_at : List ℕ → ℕ → ℕ → List Power
entries_at s at zero = []
entries_at s at (suc k) = power (two_at s at) (two_at s (at + 2)) ∷ entries_at s (at + 4) k

abbrev pub b_powers : List ℕ → List Power
b_powers s = entries_at s 3 (b_length s / 4)

abbrev pub a_powers : List ℕ → List Power
a_powers s = entries_at s (a_start s) (a_length s / 4)

-- What is wrong with an entry: exponent 0, an index above the limit, an index below `low`, which is one above the index
-- before it in its field, or an exponent that takes the sum of both fields above the limit.
abbrev pub is_faulty : (low sum index exponent : ℕ) → Bool
is_faulty low sum i e =
    cond (eqb e 0) true (cond (ltb limit i) true (cond (ltb i low) true (ltb limit (sum + e))))

-- The sum of the exponents, or refusal 4 at the first entry that is wrong; `at` is the offset of the first entry.
abbrev pub scan : (at low sum : ℕ) → List Power → Outcome ℕ
scan at low sum [] = accepted sum
scan at low sum (power i e ∷ ps) = cond (is_faulty low sum i e) (refused 4 at) (scan (at + 4) (suc i) (sum + e) ps)

-- The exponent of an index among powers.
abbrev pub exponent_at : List Power → ℕ → ℕ
exponent_at [] i = 0
exponent_at (power j e ∷ ps) i = cond (eqb j i) e (exponent_at ps i)

-- The form of two sides' powers, none of whose indices is above the limit.
abbrev pub form_of_powers : List Power → List Power → Form
form_of_powers p q = form_up_to (suc limit) (exponent_at p) (exponent_at q)

-- The form of bytes whose fields frame them and whose entries are right, or refusal 5.
abbrev pub reduced_form : List ℕ → Outcome Form
reduced_form s = find_break (form_of_powers (b_powers s) (a_powers s)) 0 (suc limit)

-- The entries of both fields in order, with one sum; then the clause.
abbrev pub read_entries : List ℕ → Outcome Form
read_entries s = then (scan 3 0 0 (b_powers s)) (λ sum. then (scan (a_start s) 0 sum (a_powers s)) (λ total. reduced_form s))

-- The form of a record, or its refusal.
abbrev pub decode : List ℕ → Outcome Form
decode s = cond (frames s) (read_entries s) (refused 3 0)
