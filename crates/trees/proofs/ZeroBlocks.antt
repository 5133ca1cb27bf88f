-- Zeros of a table: how they become known, one by one and by the block. Assumes nothing.
use mathlib.Core.Path.{◌≡◌, ◌∙◌, refl, sym, ap}
use mathlib.Core.List.{List, [], ◌∷◌, ◌++◌}
use Prim.Native.Nat.{ℕ, zero, suc, ◌+◌, ◌-◌, ◌≤◌, ◌<◌}
use native.Mathlib.Omega.{arith}
use lib.Bits.{bit_or, or_add_and, and_le_l, and_le_r}
use lib.ListN.{length, take, drop, get_or, get_or-eq_default}
use lib.Seq.{drop-cons}
use Rattle.std.proofs.lemmas.List.{get_or-take, get_or-drop}
use Rattle.lists.specs.Entries.{total}
use Rattle.trees.specs.Building.{needed}
use Rattle.trees.specs.inside.Zeros.{KnownZeros, ZerosBefore}

-- Two numbers are 0 where no bit is set in either.
pub or_left : (a b : ℕ) → bit_or a b ≡ 0 → a ≡ 0
or_left a b h = omega (arith, or_add_and a b, and_le_r a b)

pub or_right : (a b : ℕ) → bit_or a b ≡ 0 → b ≡ 0
or_right a b h = omega (arith, or_add_and a b, and_le_l a b)

-- All entries are 0, also with one more behind.
abbrev pub Zeros : List ℕ → Type 0
Zeros e = (i : ℕ) → get_or e i 0 ≡ 0

pub zeros_push : (e : List ℕ) (x : ℕ) → x ≡ 0 → Zeros e → Zeros (e ++ (x ∷ []))
zeros_push [] x z h zero = z
zeros_push [] x z h (suc i) = refl
zeros_push (y ∷ e) x z h zero = h zero
zeros_push (y ∷ e) x z h (suc i) = zeros_push e x z (λ j. h (suc j)) i

-- A part of a table that is 0, and fewer entries.
pub zeros_known : (e : List ℕ) (from n : ℕ) → Zeros (take n (drop from e)) → KnownZeros e from n n
zeros_known e from n h = record { few = omega arith; zeros = λ i l m. at_place i l m }
  where
    at_place : (i : ℕ) → from ≤ i → i < from + n → get_or e i 0 ≡ 0
    at_place i l m =
        let back : from + (i - from) ≡ i = omega arith in
        ap (λ (j : ℕ). get_or e j 0) (sym back)
        ∙ sym (get_or-drop from e (i - from) 0)
        ∙ sym (get_or-take n (drop from e) (i - from) 0 (omega arith))
        ∙ h (i - from)

pub zeros_fewer : {e : List ℕ} {from most r : ℕ} → KnownZeros e from most r → (few s : ℕ) → s ≤ r → s ≤ few
    → KnownZeros e from few s
zeros_fewer k few s h l = record { few = l; zeros = λ i m n. k.zeros i m (omega arith) }

-- Behind the end of the table.
pub zeros_behind : (e : List ℕ) (from most : ℕ) → length e ≤ from → KnownZeros e from most most
zeros_behind e from most h =
    record { few = omega arith; zeros = λ i l m. get_or-eq_default e 0 {n = i} (omega arith) }

-- Zeros from j on, up to i, change neither the sum nor the carets needed.
pub record Passed (e : List ℕ) (j i : ℕ) : Type 0 where
  pub sums : total (drop j e) ≡ total (drop i e)
  pub carets : needed j (drop j e) ≡ needed i (drop i e)

pass_one : (e : List ℕ) (j : ℕ) → j < length e → get_or e j 0 ≡ 0 → drop j e ≡ 0 ∷ drop (suc j) e
pass_one e j h z = drop-cons e j 0 h ∙ ap (λ (x : ℕ). x ∷ drop (suc j) e) z

pub pass_zeros : (k : ℕ) (e : List ℕ) (j i : ℕ) → i ≡ j + k → i ≤ length e
    → ((l : ℕ) → j ≤ l → l < i → get_or e l 0 ≡ 0) → Passed e j i
pass_zeros zero e j i at h z =
    let same : j ≡ i = omega arith in
    record { sums = ap (λ (l : ℕ). total (drop l e)) same; carets = ap (λ (l : ℕ). needed l (drop l e)) same }
pass_zeros (suc k) e j i at h z =
    let rest = pass_zeros k e (suc j) i (omega arith) h (λ l m n. z l (omega arith) n) in
    let one = pass_one e j (omega arith) (z j (omega arith) (omega arith)) in
    record { sums = ap total one ∙ omega (arith, rest.sums); carets = ap (needed j) one ∙ rest.carets }

-- A block of them.
pub pass_block : {e : List ℕ} {i : ℕ} → ZerosBefore e i → i ≤ length e → (j : ℕ) → i ≡ j + 64 → Passed e j i
pass_block {e} {i} b h j at =
    pass_zeros 64 e j i at h (λ l m n. b.block.zeros l (omega (arith, b.room)) (omega (arith, b.room)))
