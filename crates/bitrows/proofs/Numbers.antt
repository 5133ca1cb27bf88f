-- The ones of a packed number are the carets among its nodes, and those below bit k the carets among its first k nodes.
-- Assumes nothing.
use mathlib.Core.Path.{◌≡◌, refl, ap, ap₂, ◌∙◌}
use mathlib.Core.List.{List, [], ◌∷◌}
use Prim.Native.Nat.{ℕ, zero, suc, ◌+◌, ◌*◌, ◌/◌, ◌%◌, ◌^◌, ◌<◌, ◌≤◌}
use native.Mathlib.Nat.{mod-one, zero-mod, pow-suc}
use native.Mathlib.Omega.{arith}
use lib.ListN.{take, drop}
use lib.Arith.{mod-mul}
use lib.Count.{ones, ones_step}
use lib.Dec.{lit<}
use lib.Pow.{pow_pos}
use lib.Seq.{take-take, take-add}
use Rattle.lists.specs.Entries.{total}
use Rattle.lists.proofs.Totals.{total-append}
use Rattle.bitrows.specs.Numbers.{pack_number_value, number_at}
use Rattle.bitrows.specs.inside.Nodes.{Nodes}

pub ones_pack : (s : List ℕ) → Nodes s → ones (pack_number_value s) ≡ total s
unfolding ones
ones_pack [] h = refl
ones_pack (b ∷ s) h =
    let l : b < 2 = h.0 in
    let m : (b + 2 * pack_number_value s) % 2 ≡ b = omega arith in
    let d : (b + 2 * pack_number_value s) / 2 ≡ pack_number_value s = omega arith in
    ones_step (b + 2 * pack_number_value s) ∙ ap₂ ◌+◌ m (ap ones d ∙ ones_pack s h.1)

pub pack_below : (k : ℕ) (s : List ℕ) → Nodes s → pack_number_value s % 2 ^ k ≡ pack_number_value (take k s)
pack_below zero s h = mod-one (pack_number_value s)
pack_below (suc k) [] h = zero-mod (2 ^ suc k)
pack_below (suc k) (b ∷ s) h =
    let l : b < 2 = h.0 in
    let m : (b + 2 * pack_number_value s) % 2 ≡ b = omega arith in
    let d : (b + 2 * pack_number_value s) / 2 ≡ pack_number_value s = omega arith in
    let e : pack_number_value s % 2 ^ k ≡ pack_number_value (take k s) = pack_below k s h.1 in
    ap (λ (n : ℕ). (b + 2 * pack_number_value s) % n) (pow-suc 2 k)
    ∙ mod-mul (b + 2 * pack_number_value s) (pow_pos k) (lit< tt) ∙ rw (m, d, e) (omega arith)

-- Parts of nodes are nodes.
pub take-nodes : (k : ℕ) (s : List ℕ) → Nodes s → Nodes (take k s)
take-nodes zero s h = tt
take-nodes (suc k) [] h = tt
take-nodes (suc k) (b ∷ s) h = (h.0, take-nodes k s h.1)

pub drop-nodes : (k : ℕ) (s : List ℕ) → Nodes s → Nodes (drop k s)
drop-nodes zero s h = h
drop-nodes (suc k) [] h = tt
drop-nodes (suc k) (b ∷ s) h = drop-nodes k s h.1

-- The carets of the first i + k are those of the first i, and of k behind them.
pub total-add : (i k : ℕ) (s : List ℕ) → total (take (i + k) s) ≡ total (take i s) + total (take k (drop i s))
total-add i k s = ap total (take-add i k s) ∙ total-append (take i s) (take k (drop i s))

-- The masked count of number j is the carets among the first k of its nodes.
pub ones_number : (s : List ℕ) (j k : ℕ) → Nodes s → k ≤ 64
    → ones (number_at s j % 2 ^ k) ≡ total (take k (drop (64 * j) s))
ones_number s j k h l =
    ap ones (pack_below k (take 64 (drop (64 * j) s)) n)
    ∙ ones_pack (take k (take 64 (drop (64 * j) s))) (take-nodes k (take 64 (drop (64 * j) s)) n)
    ∙ ap total (take-take k 64 (drop (64 * j) s) l)
  where
    n : Nodes (take 64 (drop (64 * j) s))
    n = take-nodes 64 (drop (64 * j) s) (drop-nodes (64 * j) s h)
