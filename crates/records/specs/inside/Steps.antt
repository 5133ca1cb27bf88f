-- What the steps of the reading promise one another inside this crate. Assumes nothing.
use Rattle.std.specs.Prelude.{◌≡◌, true, List, [], ◌∷◌, ℕ, suc, ◌≤◌, ◌<◌, set}
use Rattle.lists.specs.Tables.{filled}
use Rattle.std.proofs.Props.{props}
use Rattle.group.specs.Limits.{limit}
use Rattle.refusals.specs.Outcomes.{Outcome, then}
use Rattle.records.specs.Format.{Power, power}
use Rattle.records.specs.Reading.{b_length, a_length, a_start, frames, scan}
use Rattle.records.specs.Reading.{b_powers, a_powers, exponent_at}

-- Two fields frame the bytes, with bodies of these lengths.
pub record FramedBy (s : List ℕ) (b a : ℕ) : Type 0 where
  pub framed : frames s ≡ true
  pub first : b ≡ b_length s
  pub second : a ≡ a_length s

-- Both fields, with one sum.
abbrev pub scan_both : List ℕ → Outcome ℕ
scan_both s = then (scan 3 0 0 (b_powers s)) (λ sum. scan (a_start s) 0 sum (a_powers s))

-- Powers as a side of a record has them: the indices rise from `low` on up to the limit, and no exponent is 0.
abbrev pub Proper : ℕ → List Power → Type 0
Proper low [] = Unit {0}
Proper low (power i e ∷ ps) = (low ≤ i) × (i ≤ limit) × (0 < e) × Proper (suc i) ps

-- That powers are proper is so in at most one way.
pub proper_prop : (low : ℕ) (ps : List Power) → IsProp (Proper low ps)
proper_prop low [] = Prim.hlevel props
proper_prop low (power i e ∷ ps) = let rest = proper_prop (suc i) ps in Prim.hlevel (props, rest)

-- Powers put into a table, each at its index.
abbrev pub place_powers_value : List Power → List ℕ → List ℕ
place_powers_value [] t = t
place_powers_value (power i e ∷ ps) t = place_powers_value ps (set t i e)

-- Both tables hold the exponents of the fields by index, up to the limit; everything beyond is unchanged.
pub record FieldsFilled (s b a b' a' : List ℕ) : Type 0 where
  pub b_table : b' ≡ filled (suc limit) (exponent_at (b_powers s)) b
  pub a_table : a' ≡ filled (suc limit) (exponent_at (a_powers s)) a
