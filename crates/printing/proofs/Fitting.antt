-- Bytes that fit and bytes that do not; the digits of a number of 64 bits fit in 20 bytes. Assumes nothing.
use mathlib.Core.Path.{◌≡◌, ap, subst}
use mathlib.Core.List.{List}
use Prim.Native.Nat.{ℕ, ◌+◌, ◌^◌, ◌<◌, ◌≤◌}
use native.Mathlib.Omega.{arith}
use lib.ListN.{length}
use lib.Seq.{length-sets}
use Rattle.std.specs.Prelude.{Option}
use Rattle.lists.specs.inside.Writes.{Wrote}
use Rattle.numerals.specs.Decimals.{decimal}
use Rattle.numerals.proofs.Decimals.{decimal-length}
use Rattle.printing.specs.inside.Printing.{Put, Placed}

-- The same bytes by another name.
pub placed_same : {a b entry exit : List ℕ} {at : ℕ} {end : Option ℕ} → a ≡ b → Placed a entry at exit end
    → Placed b entry at exit end
placed_same {a} {b} {entry} {exit} {at} {end} e p = subst (λ (s : List ℕ). Placed s entry at exit end) e p

-- Behind bytes that were written: there is room where both fit.
pub put_behind : {a b s t u : List ℕ} {i j r : ℕ} → i + (length a + length b) ≤ length s → Wrote a s i t j
    → Put b t j u r → Wrote b t j u r
put_behind {a} {b} {s} {t} {u} {i} {j} {r} room w p =
    p.fits (omega (arith, w.ends, ap length w.holds, length-sets s i a))

-- Where there are 20 bytes, a number of 64 bits was written, and it ends within them.
pub decimal_wrote : {entry exit : List ℕ} {at end : ℕ} (n : ℕ) → n < 2 ^ 64 → at + 20 ≤ length entry
    → Put (decimal n) entry at exit end → Wrote (decimal n) entry at exit end × (end ≤ at + 20)
decimal_wrote n h room p =
    let w = p.fits (omega (arith, decimal-length n h)) in
    (w, omega (arith, w.ends, decimal-length n h))
