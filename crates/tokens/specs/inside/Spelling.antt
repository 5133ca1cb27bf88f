-- The contracts of the functions that read the parts of a token: what stands in the text t from the place at on, and
-- the place behind it; where the part is misspelled, none. Assumes nothing.
use Rattle.std.specs.Prelude.{◌≡◌, Bool, true, false, List, [], ◌∷◌, ◌++◌, ℕ, ◌+◌, ◌-◌, ◌*◌, ◌≤◌, ◌<◌, eqb, length}
use Rattle.std.specs.Prelude.{get_or, drop, Option, Some, None}
use Rattle.numerals.specs.Decimals.{decimal, Digits, value_from}
use Rattle.numerals.specs.inside.Reading.{NoDigit}
use Rattle.group.specs.Forms.{Side, b_side, a_side}
use Rattle.group.specs.Limits.{limit}
use Rattle.group.specs.Powers.{SignedPower}
use Rattle.tokens.specs.Tokens.{x_sign, space, exponent_text, token_text, InRange}
use Rattle.tokens.specs.inside.Ends.{AtEnd}
use Rattle.tokens.specs.declared.numbers.Number.{Number}
use Rattle.tokens.specs.declared.exponents.Exponent.{Exponent}

-- The sign c stands at a place.
pub record Stands (t : List ℕ) (at c : ℕ) : Type 0 where
  pub within : at < length t
  pub here : get_or t at 0 ≡ c

-- The side of an exponent with a minus sign, or with none.
abbrev pub side_of_sign : (inverse : Bool) → Side
side_of_sign false = b_side
side_of_sign true = a_side

-- The number that the side is kept as.
abbrev pub side_number : (inverse : Bool) → ℕ
side_number false = 0
side_number true = 1

-- The value v with the digit c more, or none where that is above the limit.
abbrev pub NextValue : (v c : ℕ) → Option ℕ → Type 0
NextValue v c (Some n) = (n ≡ 10 * v + (c - 48)) × (n ≤ limit)
NextValue v c None = limit < 10 * v + (c - 48)

-- Amid digits: those up to the place end, of a value up to the limit.
pub record DigitsRun (t : List ℕ) (at value end : ℕ) : Type 0 where
  pub run : List ℕ
  pub within : end ≤ length t
  pub text : drop at t ≡ run ++ drop end t
  pub digits : Digits run
  pub valued : value ≡ value_from 0 run
  pub small : value ≤ limit

-- Digits whose value is above the limit stand in front.
pub record LargeDigits (s : List ℕ) : Type 0 where
  pub run : List ℕ
  pub behind : List ℕ
  pub text : s ≡ run ++ behind
  pub digits : Digits run
  pub large : limit < value_from 0 run

-- All digits from a place on, or so many that their value is above the limit.
abbrev pub DigitsRead : (t : List ℕ) (at : ℕ) → Option Number → Type 0
DigitsRead t at (Some n) = DigitsRun t at n.value n.end × NoDigit (drop n.end t)
DigitsRead t at None = LargeDigits (drop at t)

-- The number at a place, in front of bytes that do not begin with a digit.
pub record NumberFound (t : List ℕ) (at value end : ℕ) : Type 0 where
  pub within : end ≤ length t
  pub small : value ≤ limit
  pub text : drop at t ≡ decimal value ++ drop end t
  pub stops : NoDigit (drop end t)

-- No number up to the limit stands in front.
abbrev pub NoNumber : List ℕ → Type 0
NoNumber s = (n : ℕ) (r : List ℕ) → n ≤ limit → NoDigit r → s ≡ decimal n ++ r → ⊥

-- The number at a place, or none.
abbrev pub NumberRead : (t : List ℕ) (at : ℕ) → Option Number → Type 0
NumberRead t at (Some n) = NumberFound t at n.value n.end
NumberRead t at None = NoNumber (drop at t)

-- The sign `x` and an index.
pub record IndexFound (t : List ℕ) (at value end : ℕ) : Type 0 where
  pub within : end ≤ length t
  pub small : value ≤ limit
  pub text : drop at t ≡ x_sign ∷ (decimal value ++ drop end t)
  pub stops : NoDigit (drop end t)

-- They stand at a place, or not.
abbrev pub IndexRead : (t : List ℕ) (at : ℕ) → Option Number → Type 0
IndexRead t at (Some n) = IndexFound t at n.value n.end
IndexRead t at None = (n : ℕ) (r : List ℕ) → n ≤ limit → NoDigit r → drop at t ≡ x_sign ∷ (decimal n ++ r) → ⊥

-- No byte follows, or a space.
abbrev pub is_end : List ℕ → Bool
is_end [] = true
is_end (c ∷ r) = eqb c space

-- The number that ends a token, from a least on.
pub record LastFound (t : List ℕ) (at least value end : ℕ) : Type 0 where
  pub within : end ≤ length t
  pub least_within : least ≤ value
  pub small : value ≤ limit
  pub text : drop at t ≡ decimal value ++ drop end t
  pub ends : AtEnd (drop end t)

-- It stands at a place, or not.
abbrev pub LastRead : (t : List ℕ) (at least : ℕ) → Option Number → Type 0
LastRead t at least (Some n) = LastFound t at least n.value n.end
LastRead t at least None = (n : ℕ) (r : List ℕ) → least ≤ n → n ≤ limit → AtEnd r → drop at t ≡ decimal n ++ r → ⊥

-- The exponent of the bytes s, which end as the text does.
pub record ExponentFound (s t : List ℕ) (side : Side) (size end : ℕ) : Type 0 where
  pub within : end ≤ length t
  pub some : 1 ≤ size
  pub small : size ≤ limit
  pub text : s ≡ exponent_text side size ++ drop end t
  pub ends : AtEnd (drop end t)

-- One stands there, or not.
abbrev pub ExponentRead : (s t : List ℕ) → Option Exponent → Type 0
ExponentRead s t (Some x) = ExponentFound s t (side_of_sign x.inverse) x.size x.end
ExponentRead s t None =
    (σ : Side) (e : ℕ) (r : List ℕ) → 1 ≤ e → e ≤ limit → AtEnd r → s ≡ exponent_text σ e ++ r → ⊥

-- The token of a power.
pub record PowerRead (t : List ℕ) (at : ℕ) (p : SignedPower) (end : ℕ) : Type 0 where
  pub within : end ≤ length t
  pub in_range : InRange p
  pub text : drop at t ≡ token_text p ++ drop end t
  pub ends : AtEnd (drop end t)

-- No token of a power in range stands in front.
abbrev pub NoToken : List ℕ → Type 0
NoToken s = (p : SignedPower) (r : List ℕ) → InRange p → AtEnd r → s ≡ token_text p ++ r → ⊥
