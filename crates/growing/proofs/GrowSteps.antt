-- A caret grown in packed numbers: in front of node v a caret and a leaf are put, number by number from that of node v.
--     grow-inserted       what is grown at a leaf is the shape with both put in front of its node
--     Grows e f n v …     amid this: the numbers and the summary entries below j are those of the grown shape
--     grows_start, grows_more, grows_done   where it begins, one number more, and what it leaves
-- Assumes nothing.
use mathlib.Core.Path.{◌≡◌, refl, sym, ap, ap₂, subst, ◌∙◌}
use mathlib.Core.Bool.{Bool, true, false, cond}
use mathlib.Core.List.{List, [], ◌∷◌, ◌++◌}
use Prim.Native.Nat.{ℕ, zero, suc, ◌+◌, ◌*◌, ◌/◌, ◌%◌, ◌^◌, ◌<◌, ◌≤◌}
use native.Mathlib.Omega.{arith}
use native.Mathlib.Decide.{dec_lt}
use borrow.Author.Tests.{lt-ltb, le-ltb}
use lib.Count.{ones, ones-le}
use lib.Dec.{ltb}
use lib.ListN.{length, take, drop, get_or, set, length-drop, length-set, take-append-drop}
use lib.Seq.{length-take-le, get_or-drop, get_or-set_same, get_or-set_other}
use Rattle.group.proofs.Limits.{limit_counts}
use Rattle.lists.proofs.Tables.{filled_by}
use Rattle.bitrows.specs.Numbers.{number_at, numbers_of_value}
use Rattle.bitrows.specs.inside.Nodes.{Nodes}
use Rattle.bitrows.specs.inside.Growth.{inserted, opened_number, carried_number, LeafAt, carry_into}
use Rattle.bitrows.proofs.Numbers.{take-nodes}
use Rattle.bitrows.proofs.Inserting.{inserted-nodes, number_before, number_opened, total_before}
use Rattle.bitrows.proofs.Carrying.{carry_first, carry_next, number_shifted}
use Rattle.bitrows.proofs.Finding.{number_small, number_behind, total_next, total_few}
use Rattle.packed.specs.Packing.{summary_at}
use Rattle.packed.specs.Growing.{grow_at}
use Rattle.packed.specs.inside.Steps.{shape_of}
use Rattle.growing.specs.inside.Steps.{Growable, GrewAt}
use Rattle.packed.proofs.Grown.{grow_past}
use Rattle.packed.proofs.Holding.{held-length, held-nodes, held_number, held_summary}

-- A shape that begins with a leaf.
grow_first : (s : List ℕ) → 0 < length s → get_or s 0 0 ≡ 0 → grow_at s 0 ≡ 1 ∷ 0 ∷ s
grow_first [] h e = absurd (omega arith)
grow_first (zero ∷ s) h e = refl
grow_first (suc b ∷ s) h e = absurd (omega arith)

-- What is grown at a leaf.
pub grow-inserted : (s : List ℕ) (k v : ℕ) → Nodes s → LeafAt s k v → grow_at s k ≡ inserted s v
grow-inserted s k v h a =
    let z : v + 0 ≡ v = omega arith in
    let first : get_or (drop v s) 0 0 ≡ 0 =
    get_or-drop v s 0 0 ∙ ap (λ (i : ℕ). get_or s i 0) z ∙ a.is_leaf in
    ap (λ (u : List ℕ). grow_at u k) (sym (take-append-drop v s))
    ∙ grow_past (take v s) (drop v s) k 0 (take-nodes v s h)
    (omega (arith, a.before, length-take-le v s (omega (arith, a.inside))))
    ∙ ap (λ (u : List ℕ). take v s ++ u) (grow_first (drop v s) (omega (arith, a.inside, length-drop v s)) first)

-- Amid growing: e and f are the lists at the start, and the numbers below j are done.
pub record Grows (e f : List ℕ) (n v : ℕ) (numbers summary : List ℕ) (j carry count : ℕ) : Type 0 where
  pub growable : Growable e f n v
  pub past : v / 64 < j
  pub within : j ≤ numbers_of_value (n + 2)
  pub long_numbers : length numbers ≡ length e
  pub long_summary : length summary ≡ length f
  pub numbers_done : (i : ℕ) → i < j → get_or numbers i 0 ≡ number_at (inserted (shape_of e n) v) i
  pub numbers_kept : (i : ℕ) → j ≤ i → get_or numbers i 0 ≡ get_or e i 0
  pub summary_done : (i : ℕ) → i < j → get_or summary i 0 ≡ summary_at (inserted (shape_of e n) v) i
  pub summary_kept : (i : ℕ) → j ≤ i → get_or summary i 0 ≡ get_or f i 0
  pub carry_is : carry ≡ carry_into (shape_of e n) v j
  pub count_is : count ≡ summary_at (inserted (shape_of e n) v) j

-- The nodes of the grown shape.
grown-nodes : {e f : List ℕ} {n v : ℕ} → Growable e f n v → Nodes (inserted (shape_of e n) v)
grown-nodes {e} {f} {n} {v} g = inserted-nodes (shape_of e n) v (held-nodes g.held)

-- The node is one of the shape.
node_near : {e f : List ℕ} {n v : ℕ} → Growable e f n v → v ≤ length (shape_of e n)
node_near {e} {f} {n} {v} g = omega (arith, g.inside, held-length g.held)

-- A number of the grown shape has 64 bits.
grown_small : {e f : List ℕ} {n v : ℕ} → Growable e f n v → (i : ℕ) → number_at (inserted (shape_of e n) v) i < 2 ^ 64
grown_small {e} {f} {n} {v} g i = number_small (inserted (shape_of e n) v) i (grown-nodes g)

-- The carets up to number i of the grown shape, and with those in it.
grown_next : {e f : List ℕ} {n v : ℕ} → Growable e f n v → (i : ℕ)
    → summary_at (inserted (shape_of e n) v) (i + 1)
    ≡ summary_at (inserted (shape_of e n) v) i + ones (number_at (inserted (shape_of e n) v) i)
grown_next {e} {f} {n} {v} g i = total_next (inserted (shape_of e n) v) i (grown-nodes g)

-- A count in the grown shape is small.
grown_few : {e f : List ℕ} {n v : ℕ} → Growable e f n v → (i : ℕ) → i ≤ numbers_of_value (n + 2)
    → summary_at (inserted (shape_of e n) v) i < 65536
grown_few {e} {f} {n} {v} g i h =
    omega (
      arith,
      g.held.within.small,
      total_few (64 * i) (inserted (shape_of e n) v) (grown-nodes g),
      limit_counts,
    )

-- The number of node v, opened.
opened_is : {e f : List ℕ} {n v x : ℕ} → Growable e f n v → x ≡ opened_number (get_or e (v / 64) 0) (v % 64)
    → x ≡ number_at (inserted (shape_of e n) v) (v / 64)
opened_is {e} {f} {n} {v} {x} g h =
    h ∙ ap (λ (y : ℕ). opened_number y (v % 64)) (held_number g.held (v / 64) (omega (arith, g.inside)))
    ∙ sym (number_opened (shape_of e n) v (held-nodes g.held) (node_near g))

-- An entry just stored, and those before it.
stored_at : (xs : List ℕ) (j x : ℕ) (value : ℕ → ℕ) → j < length xs → x ≡ value j
    → ((i : ℕ) → i < j → get_or xs i 0 ≡ value i) → (i : ℕ) → i < j + 1 → get_or (set xs j x) i 0 ≡ value i
stored_at xs j x value h e done i l = go (dec_lt i j)
  where
    go : Dec (i < j) → get_or (set xs j x) i 0 ≡ value i
    go (yes m) = get_or-set_other xs j i x 0 (λ d. absurd (omega arith)) ∙ done i m
    go (no m) =
        let d : i ≡ j = omega arith in
        ap (λ (k : ℕ). get_or (set xs j x) k 0) d ∙ get_or-set_same xs j x 0 h ∙ e ∙ ap value (sym d)

-- Those behind it.
stored-kept : (xs : List ℕ) (j x i : ℕ) → j + 1 ≤ i → get_or (set xs j x) i 0 ≡ get_or xs i 0
stored-kept xs j x i l = get_or-set_other xs j i x 0 (λ d. absurd (omega arith))

-- The ones of a number that is stored are at most 64.
stored_few : {e f : List ℕ} {n v : ℕ} → Growable e f n v → (i x : ℕ) → x ≡ number_at (inserted (shape_of e n) v) i
    → ones x ≤ 64
stored_few {e} {f} {n} {v} g i x h = ones-le 64 x (subst (λ (y : ℕ). y < 2 ^ 64) (sym h) (grown_small g i))

module _ {e f : List ℕ} {n v x : ℕ} (g : Growable e f n v) (h : x ≡ opened_number (get_or e (v / 64) 0) (v % 64)) where
  -- The number of node v is there.
  first-inside : v / 64 < length e
  first-inside = omega (arith, g.inside, g.held.within.there)

  -- Its ones are few.
  pub first_ones : ones x ≤ 64
  first_ones = stored_few g (v / 64) x (opened_is g h)

  -- The carets up to the next number.
  first_count : get_or f (v / 64) 0 + ones x ≡ summary_at (inserted (shape_of e n) v) (v / 64 + 1)
  first_count =
      omega (
        arith,
        held_summary g.held (v / 64) (omega (arith, g.inside)),
        total_before (shape_of e n) v (v / 64) (omega arith) (node_near g),
        ap ones (opened_is g h),
        grown_next g (v / 64),
      )

  -- They fit in 16 bits.
  pub first_fits : get_or f (v / 64) 0 + ones x < 65536
  first_fits = omega (arith, first_count, grown_few g (v / 64 + 1) (omega (arith, g.inside)))

  -- Where growing begins: the number of node v is opened.
  pub grows_start : {carry : ℕ} → carry ≡ carried_number (get_or e (v / 64) 0) (v % 64)
      → Grows e f n v (set e (v / 64) x) f (v / 64 + 1) carry (get_or f (v / 64) 0 + ones x)
  grows_start k =
      let s : List ℕ = shape_of e n in
      let near : v ≤ length s = node_near g in
      record {
        growable = g;
        past = omega arith;
        within = omega (arith, g.inside);
        long_numbers = length-set e (v / 64) x;
        long_summary = refl;
        numbers_done =
            stored_at e (v / 64) x (number_at (inserted s v)) first-inside (opened_is g h) (λ i l.
            held_number g.held i (omega (arith, g.inside)) ∙ sym (number_before s v i l near));
        numbers_kept = stored-kept e (v / 64) x;
        summary_done = λ i l. held_summary g.held i (omega (arith, g.inside))
            ∙ sym (total_before s v i (omega arith) near);
        summary_kept = λ i l. refl;
        carry_is =
            k
            ∙ ap (λ (y : ℕ). carried_number y (v % 64)) (held_number g.held (v / 64) (omega (arith, g.inside)))
            ∙ sym (carry_first s v (held-nodes g.held) near);
        count_is = first_count;
      }

module _ {e f : List ℕ} {n v : ℕ} {numbers summary : List ℕ} {j carry count : ℕ}
    (a : Grows e f n v numbers summary j carry count) where
  -- There is room for number j.
  pub grows_room : j < numbers_of_value (n + 2) → j < length numbers
  grows_room l = omega (arith, a.growable.room.in_numbers, a.long_numbers)

  -- There is room for its entry of the summary.
  pub grows_summary_room : j < numbers_of_value (n + 2) → j < length summary
  grows_summary_room l = omega (arith, a.growable.room.in_summary, a.long_summary)

  -- The numbers used are there.
  pub grows_used : numbers_of_value n ≤ length numbers
  grows_used = omega (arith, a.growable.room.in_numbers, a.long_numbers)

  -- What growing leaves.
  pub grows_done : numbers_of_value (n + 2) ≤ j → GrewAt e f n v numbers summary
  grows_done l =
      let s : List ℕ = shape_of e n in
      record {
        numbers_left =
            filled_by (numbers_of_value (n + 2)) (number_at (inserted s v)) e numbers a.growable.room.in_numbers
            a.long_numbers (λ i h. a.numbers_done i (omega arith))
            (λ i h. a.numbers_kept i (omega (arith, a.within)));
        summary_left =
            filled_by (numbers_of_value (n + 2)) (summary_at (inserted s v)) f summary a.growable.room.in_summary
            a.long_summary (λ i h. a.summary_done i (omega arith))
            (λ i h. a.summary_kept i (omega (arith, a.within)));
      }

  module _ {x used : ℕ} (u : used ≡ numbers_of_value n) (h : x ≡ cond (ltb j used) (get_or numbers j 0) 0) where
    -- The number that moves on.
    moved_is : x ≡ number_at (shape_of e n) j
    moved_is = go (dec_lt j used)
      where
        by : (b : Bool) → ltb j used ≡ b → x ≡ cond b (get_or numbers j 0) 0
        by b d = h ∙ ap (λ (c : Bool). cond c (get_or numbers j 0) 0) d

        go : Dec (j < used) → x ≡ number_at (shape_of e n) j
        go (yes l) =
            by true (lt-ltb j used l)
            ∙ a.numbers_kept j (omega arith)
            ∙ held_number a.growable.held j (omega arith)
        go (no l) =
            by false (le-ltb j used (omega arith))
            ∙ sym (number_behind (shape_of e n) j (omega (arith, held-length a.growable.held)))

    -- The number that is stored.
    shifted_is : carry + (x * 4) % 18446744073709551616 ≡ number_at (inserted (shape_of e n) v) j
    shifted_is =
        let m : x * 4 ≡ 4 * number_at (shape_of e n) j = omega (arith, moved_is) in
        ap₂ (λ (y k : ℕ). y + k % 18446744073709551616) a.carry_is m
        ∙ sym (number_shifted (shape_of e n) v j (held-nodes a.growable.held) (node_near a.growable) a.past)

    -- It has 64 bits.
    pub shifted_fits : carry + (x * 4) % 18446744073709551616 < 18446744073709551616
    shifted_fits =
        subst (λ (y : ℕ). y < 18446744073709551616) (sym shifted_is) (grown_small a.growable j)

    -- Its ones are few.
    pub shifted_ones : ones (carry + (x * 4) % 18446744073709551616) ≤ 64
    shifted_ones = stored_few a.growable j (carry + (x * 4) % 18446744073709551616) shifted_is

    module _ (l : j < numbers_of_value (n + 2)) where
      -- The carets up to the next number.
      shifted_count : count + ones (carry + (x * 4) % 18446744073709551616)
          ≡ summary_at (inserted (shape_of e n) v) (j + 1)
      shifted_count = omega (arith, a.count_is, ap ones shifted_is, grown_next a.growable j)

      -- They fit in 16 bits.
      pub shifted_count_fits : count + ones (carry + (x * 4) % 18446744073709551616) < 65536
      shifted_count_fits = omega (arith, shifted_count, grown_few a.growable (j + 1) (omega arith))

      -- One number more.
      pub grows_more : Grows e f n v (set numbers j (carry + (x * 4) % 18446744073709551616)) (set summary j count)
          (j + 1) (x / 4611686018427387904) (count + ones (carry + (x * 4) % 18446744073709551616))
      grows_more =
          let s : List ℕ = shape_of e n in
          record {
            growable = a.growable;
            past = omega (arith, a.past);
            within = omega arith;
            long_numbers = length-set numbers j _ ∙ a.long_numbers;
            long_summary = length-set summary j count ∙ a.long_summary;
            numbers_done =
                stored_at numbers j _ (number_at (inserted s v)) (grows_room l) shifted_is a.numbers_done;
            numbers_kept = λ i m. stored-kept numbers j _ i m ∙ a.numbers_kept i (omega arith);
            summary_done =
                stored_at summary j count (summary_at (inserted s v)) (grows_summary_room l) a.count_is
                a.summary_done;
            summary_kept = λ i m. stored-kept summary j count i m ∙ a.summary_kept i (omega arith);
            carry_is =
                ap (λ (y : ℕ). y / 4611686018427387904) moved_is
                ∙ sym (carry_next s v j (held-nodes a.growable.held) (node_near a.growable) a.past);
            count_is = shifted_count;
          }
