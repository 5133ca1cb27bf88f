-- Bytes in hexadecimal digits. Assumes nothing.
use mathlib.Core.Path.{◌≡◌, refl, ap₂}
use mathlib.Core.List.{List, [], ◌∷◌}
use Prim.Native.Nat.{ℕ, ◌+◌, ◌*◌, ◌/◌, ◌%◌, ◌<◌, ◌≤◌}
use native.Mathlib.Numerals.{add-one}
use native.Mathlib.Omega.{arith}
use lib.ListN.{length, drop, set, length-drop}
use Rattle.io.specs.Digits.{hex_digit_ascii}
use Rattle.lists.specs.inside.Writes.{Wrote}
use Rattle.lists.proofs.Writes.{wrote_same}
use Rattle.appending.specs.Hexadecimal.{hex_of}
use Rattle.printing.proofs.Loops.{Passing, pass_length}

-- Two digits for each byte.
pub hex_length : (s : List ℕ) → length (hex_of s) ≡ 2 * length s
hex_length [] = refl
hex_length (x ∷ s) = omega (arith, hex_length s)

-- There is room for the digits of the next byte where there is room for all.
pub hex_room : {s now entry : List ℕ} {end i at : ℕ} → Passing hex_of s now end i entry at → i < length s
    → at + 2 * length s ≤ length entry → end + 2 ≤ length now
hex_room {s} {i = i} p h room =
    omega (arith, pass_length p, p.left.ends, hex_length s, hex_length (drop i s), length-drop i s)

-- Two digits, one behind the other.
pub hex_wrote : {now : List ℕ} {end d e : ℕ} (x : ℕ) → d ≡ hex_digit_ascii (x / 16) → e ≡ hex_digit_ascii (x % 16)
    → Wrote (hex_digit_ascii (x / 16) ∷ hex_digit_ascii (x % 16) ∷ []) now end (set (set now end d) (end + 1) e) (end + 2)
hex_wrote x p q =
    wrote_same (ap₂ (λ (k l : ℕ). k ∷ l ∷ []) p q) (record { ends = refl; holds = rw add-one })
