-- Looking for the node of a leaf in a packed shape.
--     held_room, held_few           its summary has an entry for each number, and none counts too much
--     holds_returned, holds_last    the number that holds the leaf: where the search stops
--     leaf_inside, leaf_there       the leaf is one of this number's, and found there
--     leaf_found                    its node
-- Assumes nothing.
use mathlib.Core.Path.{◌≡◌, sym, ap, subst}
use mathlib.Core.List.{List}
use Prim.Native.Nat.{ℕ, ◌+◌, ◌-◌, ◌*◌, ◌^◌, ◌<◌, ◌≤◌}
use native.Mathlib.Omega.{arith}
use native.Mathlib.Decide.{dec_lt}
use lib.Count.{ones}
use lib.ListN.{length, take, drop, get_or, length-take, take-append-drop}
use Rattle.std.proofs.Common.{rules, Option, Some, None, IsSome}
use Rattle.std.specs.Option.{unwrap_or}
use Rattle.lists.specs.Entries.{total}
use Rattle.lists.proofs.Totals.{total-append}
use Rattle.lists.proofs.Tables.{values_length}
use Rattle.bitrows.specs.Numbers.{number_at, numbers_of_value, bits_of}
use Rattle.bitrows.specs.inside.Growth.{LeafAt, FoundLeaf}
use Rattle.bitrows.proofs.Finding.{number_small, total_next, total_few, bits_leaf}
use Rattle.bitrows.proofs.Bits.{bits_length}
use Rattle.bitrows.proofs.Leaving.{bits_total}
use Rattle.packed.specs.Packing.{summary_at}
use Rattle.packed.specs.inside.Steps.{shape_of, Held}
use Rattle.growing.specs.inside.Steps.{HeldLeaf, HoldsLeaf, Few}
use Rattle.packed.proofs.Holding.{held-length, held-nodes, held_number, held_summary}

-- The summary has an entry for each number.
pub held_room : {numbers summary : List ℕ} {n : ℕ} → Held numbers summary n → numbers_of_value n ≤ length summary
held_room {numbers} {summary} {n} h =
    let s : List ℕ = shape_of numbers n in
    let m : ℕ = numbers_of_value (length s) in
    omega (
      arith,
      length-take m summary,
      ap length h.packs.holds_summary,
      values_length m (summary_at s),
      held-length h,
    )

-- No entry counts more carets than there are nodes before.
pub held_few : {numbers summary : List ℕ} {n : ℕ} → Held numbers summary n → Few summary (numbers_of_value n)
held_few {numbers} {summary} {n} h j l =
    omega (arith, held_summary h j l, total_few (64 * j) (shape_of numbers n) (held-nodes h))

-- What the search asks.
pub leaf_asks : {numbers summary : List ℕ} {n k m : ℕ} → HeldLeaf numbers summary n k → m ≡ numbers_of_value n
    → Few summary m × ((0 < m) × ((m ≤ length summary) × (m ≤ 4294967295)))
leaf_asks {numbers} {summary} {n} {k} {m} h e = (
  λ j l. held_few h.held j (omega (arith, e)),
  (
    omega (arith, e, h.has_leaf),
    (omega (arith, e, held_room h.held), omega (arith, e, h.held.within.small)),
  ),
)

-- The number that holds leaf k: the next begins behind it.
pub holds_returned : {summary : List ℕ} {n k j : ℕ} → j + 1 < n → 64 * j ≤ k + get_or summary j 0
    → get_or summary (j + 1) 0 ≤ 64 * (j + 1) → k < 64 * (j + 1) - get_or summary (j + 1) 0 → HoldsLeaf summary n k j
holds_returned h b f l = record { inside = omega arith; before = b; next = λ _. omega arith }

-- There is no next.
pub holds_last : {summary : List ℕ} {n k j : ℕ} → j < n → 64 * j ≤ k + get_or summary j 0 → n ≤ j + 1
    → HoldsLeaf summary n k j
holds_last h b l = record { inside = h; before = b; next = λ m. absurd (omega arith) }

-- The count of the numbers under another name.
pub holds_of : {summary : List ℕ} {k j m n : ℕ} → m ≡ n → HoldsLeaf summary m k j → HoldsLeaf summary n k j
holds_of {summary} {k} {j} e a = subst (λ (i : ℕ). HoldsLeaf summary i k j) e a

-- The carets of the first nodes are at most all.
total_front : (m : ℕ) (s : List ℕ) → total (take m s) ≤ total s
total_front m s = omega (arith, total-append (take m s) (drop m s), ap total (take-append-drop m s))

-- The carets up to the next number.
held_next : {numbers summary : List ℕ} {n : ℕ} → Held numbers summary n → (j : ℕ) → j < numbers_of_value n
    → total (take (64 * (j + 1)) (shape_of numbers n)) ≡ get_or summary j 0 + ones (get_or numbers j 0)
held_next {numbers} {summary} {n} h j l =
    omega (
      arith,
      total_next (shape_of numbers n) j (held-nodes h),
      held_summary h j l,
      ap ones (held_number h j l),
    )

-- The leaf is one of the number that holds it.
pub leaf_inside : {numbers summary : List ℕ} {n k j : ℕ} → HeldLeaf numbers summary n k
    → HoldsLeaf summary (numbers_of_value n) k j → k - (64 * j - get_or summary j 0) + ones (get_or numbers j 0) < 64
leaf_inside {numbers} {summary} {n} {k} {j} h a = go (dec_lt (j + 1) (numbers_of_value n))
  where
    s : List ℕ
    s = shape_of numbers n

    go : Dec (j + 1 < numbers_of_value n) → k - (64 * j - get_or summary j 0) + ones (get_or numbers j 0) < 64
    go (yes l) =
        omega (
          arith,
          a.before,
          a.next l,
          held_next h.held j a.inside,
          held_summary h.held (j + 1) l,
          held_few h.held j a.inside,
        )
    go (no l) =
        omega (
          arith,
          a.before,
          a.inside,
          h.has_leaf,
          held_next h.held j a.inside,
          total_front (64 * (j + 1)) s,
          held_few h.held j a.inside,
        )

-- So it is found there.
pub leaf_there : {numbers summary : List ℕ} {n k j : ℕ} (o : Option ℕ) → HeldLeaf numbers summary n k
    → HoldsLeaf summary (numbers_of_value n) k j
    → FoundLeaf (get_or numbers j 0) (k - (64 * j - get_or summary j 0)) (unwrap_or o 64) → IsSome o
leaf_there (Some v) h a f = search rules
leaf_there {numbers} {j = j} None h a f =
    absurd (omega (arith, (f.found (leaf_inside h a)).inside, bits_length 64 (get_or numbers j 0)))

-- Before a leaf of some bits stand at most its number of leaves and all carets.
leaf_low : (m x l v : ℕ) → x < 2 ^ m → LeafAt (bits_of m x) l v → v ≤ l + ones x
leaf_low m x l v h a = omega (arith, a.before, total_front v (bits_of m x), bits_total m x h)

-- The node of the leaf.
pub leaf_found : {numbers summary : List ℕ} {n k j v : ℕ} → HeldLeaf numbers summary n k
    → HoldsLeaf summary (numbers_of_value n) k j → FoundLeaf (get_or numbers j 0) (k - (64 * j - get_or summary j 0)) v
    → LeafAt (shape_of numbers n) k (64 * j + v)
leaf_found {numbers} {summary} {n} {k} {j} {v} h a f =
    bits_leaf s k l j v x (held-nodes h.held) same at
    (omega (arith, a.before, few, held_summary h.held j a.inside))
    (inside (leaf_low 64 x l v small at))
  where
    s : List ℕ
    s = shape_of numbers n

    x : ℕ
    x = get_or numbers j 0

    l : ℕ
    l = k - (64 * j - get_or summary j 0)

    few : get_or summary j 0 ≤ 64 * j
    few = held_few h.held j a.inside

    same : x ≡ number_at s j
    same = held_number h.held j a.inside

    small : x < 2 ^ 64
    small = subst (λ (y : ℕ). y < 2 ^ 64) (sym same) (number_small s j (held-nodes h.held))

    at : LeafAt (bits_of 64 x) l v
    at = f.found (leaf_inside h a)

    inside : v ≤ l + ones x → 64 * j + v < length s
    inside low =
        omega (
          arith,
          a.before,
          few,
          held_next h.held j a.inside,
          total_front (64 * (j + 1)) s,
          h.has_leaf,
          held-length h.held,
        )
