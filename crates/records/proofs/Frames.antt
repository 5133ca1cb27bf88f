-- The frame that is read, by the tests of the two fields. Assumes nothing.
use mathlib.Core.Path.{◌≡◌}
use mathlib.Core.List.{List}
use Prim.Native.Nat.{ℕ, ◌+◌}
use native.Mathlib.Omega.{arith}
use lib.ListN.{length}
use Rattle.records.specs.Format.{base_size}
use Rattle.records.specs.Reading.{b_length, a_length}
use Rattle.records.specs.inside.Steps.{FramedBy}
use Rattle.records.proofs.Framing.{frames→frame}

-- Fields that frame the bytes, with bodies of these lengths.
pub record Opened (s : List ℕ) (b a : ℕ) : Type 0 where
  pub first : b ≡ b_length s
  pub second : a ≡ a_length s
  pub whole : length s ≡ base_size + b + a

pub frame_opens : {s : List ℕ} {b a : ℕ} → FramedBy s b a → Opened s b a
frame_opens {s} {b} {a} e =
    let ends : length s ≡ base_size + b_length s + a_length s = (frames→frame s e.framed).ends in
    record { first = e.first; second = e.second; whole = omega (arith, e.first, e.second, ends) }
