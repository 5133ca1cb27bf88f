-- Entries written and read back: what follows an offset of the bytes is what was written there, and bytes that are read
-- are what would be written. Assumes nothing.
use mathlib.Core.Path.{◌≡◌, refl, ◌∙◌, ap, ap₂}
use mathlib.Core.List.{List, [], ◌∷◌, ◌++◌}
use Prim.Native.Nat.{ℕ, zero, suc, ◌+◌, ◌-◌, ◌*◌, ◌<◌, ◌≤◌}
use native.Mathlib.Omega.{arith}
use lib.ListN.{length, drop}
use Rattle.fields.proofs.Numbers.{drop_on, two_read, two_written}
use Rattle.records.specs.Format.{Power, power, entries}
use Rattle.fields.specs.Fields.{Bytes, two_bytes, two_at}
use Rattle.records.specs.Reading.{entries_at}

-- The first of some entries, and the others.
pub entries_next : (s : List ℕ) (at k : ℕ) → 0 < k
    → entries_at s at k ≡ power (two_at s at) (two_at s (at + 2)) ∷ entries_at s (at + 4) (k - 1)
entries_next s at zero h = absurd (omega arith)
entries_next s at (suc k) h =
    let e : k ≡ suc k - 1 = omega arith in
    ap (λ (j : ℕ). power (two_at s at) (two_at s (at + 2)) ∷ entries_at s (at + 4) j) e

-- Entries that were written are read back.
pub entries_read : (ps : List Power) (s t : List ℕ) (at : ℕ) → drop at s ≡ entries ps ++ t
    → entries_at s at (length ps) ≡ ps
entries_read [] s t at h = refl
entries_read (power i e ∷ ps) s t at h =
    ap₂ (λ (x y : ℕ). power x y ∷ entries_at s (at + 4) (length ps))
    (two_read s (two_bytes e ++ (entries ps ++ t)) at i h)
    (two_read s (entries ps ++ t) (at + 2) e (drop_on s (entries (power i e ∷ ps) ++ t) at 2 (at + 2) h refl))
    ∙ ap (λ (qs : List Power). power i e ∷ qs)
    (entries_read ps s t (at + 4) (drop_on s (entries (power i e ∷ ps) ++ t) at 4 (at + 4) h refl))

pub entries_at_length : (s : List ℕ) (at k : ℕ) → length (entries_at s at k) ≡ k
entries_at_length s at zero = refl
entries_at_length s at (suc k) = ap suc (entries_at_length s (at + 4) k)

-- Entries that are read are written so.
pub entries_written : (s : List ℕ) (at k m : ℕ) → Bytes s → m ≡ at + 4 * k → m ≤ length s
    → drop at s ≡ entries (entries_at s at k) ++ drop m s
entries_written s at zero m bytes e h = let q : at ≡ m = omega arith in ap (λ (n : ℕ). drop n s) q
entries_written s at (suc k) m bytes e h =
    two_written s at (at + 2) bytes refl (omega arith)
    ∙ ap (λ (l : List ℕ). two_bytes (two_at s at) ++ l)
    (two_written s (at + 2) (at + 4) bytes (omega arith) (omega arith)
    ∙ ap (λ (l : List ℕ). two_bytes (two_at s (at + 2)) ++ l)
    (entries_written s (at + 4) k m bytes (omega arith) h))
