-- The powers and entries of a table, one index at a time: what is left of a table from index i on is what index i gives
-- and what is left from i + 1 on. Assumes nothing.
use mathlib.Core.Path.{◌≡◌, refl, ap, ◌∙◌}
use mathlib.Core.List.{List, [], ◌++◌}
use Prim.Native.Nat.{ℕ, zero, suc, ◌+◌, ◌<◌, ◌≤◌}
use native.Mathlib.Numerals.{add-one}
use native.Mathlib.Omega.{arith}
use lib.ListN.{length, drop, get_or, drop_of_length-le}
use lib.Seq.{drop-cons}
use Rattle.records.specs.Format.{Power, put_power, powers, entries}
use Rattle.fields.specs.Fields.{two_bytes}

-- An exponent above 0 gives one power, of four bytes.
pub entry_bytes : (i e : ℕ) → 0 < e → two_bytes i ++ two_bytes e ≡ entries (put_power i e [])
entry_bytes i zero h = absurd (omega arith)
entry_bytes i (suc e) h = refl

pub put_one : (e : ℕ) → 0 < e → length (put_power 0 e []) ≡ 1
put_one zero h = absurd (omega arith)
put_one (suc e) h = refl

pub put_length : (i e : ℕ) (ps : List Power) → length (put_power i e ps) ≡ length (put_power 0 e []) + length ps
put_length i zero ps = omega arith
put_length i (suc e) ps = omega arith

pub put_few : (e : ℕ) → (length (put_power 0 e []) ≤ 1) × (length (put_power 0 e []) ≤ e)
put_few zero = omega arith
put_few (suc e) = omega arith

put_entries : (i e : ℕ) (ps : List Power) → entries (put_power i e ps) ≡ entries (put_power i e []) ++ entries ps
put_entries i zero ps = refl
put_entries i (suc e) ps = refl

-- The powers from index i on.
abbrev pub powers_from : ℕ → List ℕ → List Power
powers_from i t = powers i (drop i t)

pub powers_none : (t : List ℕ) (i : ℕ) → length t ≤ i → powers_from i t ≡ []
powers_none t i h = ap (powers i) (drop_of_length-le t h)

module _ (t : List ℕ) (i : ℕ) (h : i < length t) where
  powers_next : powers_from i t ≡ put_power i (get_or t i 0) (powers_from (i + 1) t)
  powers_next = rw add-one (ap (powers i) (drop-cons t i 0 h))

  pub count_next : length (powers_from i t) ≡ length (put_power 0 (get_or t i 0) []) + length (powers_from (i + 1) t)
  count_next = ap length powers_next ∙ put_length i (get_or t i 0) (powers_from (i + 1) t)

  pub entries_next : entries (powers_from i t) ≡ entries (put_power i (get_or t i 0) []) ++ entries (powers_from (i + 1) t)
  entries_next = ap entries powers_next ∙ put_entries i (get_or t i 0) (powers_from (i + 1) t)
