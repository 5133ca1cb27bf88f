-- The tests of a packed shape: unused bits and the summary.
--     numbers-are     numbers with clear unused bits are those of the nodes in them
--     summary_is      the ones of the numbers before each are the carets before it
--     packs_when, packs-then     the nodes are packed just when the tests pass
-- Assumes nothing.
use mathlib.Core.Path.{◌≡◌, refl, sym, ap, ap₂, subst, ◌∙◌}
use mathlib.Core.Bool.{Bool, true, false}
use mathlib.Core.List.{List, [], ◌∷◌, ◌++◌}
use Prim.Native.Nat.{ℕ, zero, suc, ◌+◌, ◌-◌, ◌*◌, ◌/◌, ◌%◌, ◌^◌, ◌<◌, ◌≤◌, min}
use native.Mathlib.Nat.{mod-eq_of_lt, mod-lt, div-eq_of_lt}
use native.Mathlib.Omega.{arith}
use native.Mathlib.Decide.{dec_le}
use borrow.Author.Tests.{eqb-true, eq-eqb}
use lib.Dec.{eqb}
use lib.ListN.{length, take, drop, get_or, length-take}
use lib.Pow.{pow_pos, split, shr-shr}
use lib.Seq.{length-take-le, take_all, take-take, take-append-add, ext_get_or, get_or-take}
use Rattle.lists.specs.Entries.{total}
use Rattle.lists.specs.Tables.{values}
use Rattle.lists.proofs.Tables.{values_length, values_at}
use Rattle.lists.proofs.Totals.{total-append}
use Rattle.bitrows.specs.Numbers.{pack_number_value, number_at, numbers_of_value, bits_of, nodes_in}
use Rattle.bitrows.proofs.Shifts.{drop-take}
use Rattle.bitrows.proofs.Bits.{bits_length, pack_bits}
use Rattle.bitrows.proofs.NodeLists.{nodes-length}
use Rattle.bitrows.proofs.Leaving.{bits_total, nodes_part}
use Rattle.packed.specs.Packing.{summary_at, Packs, packs}
use Rattle.packed.specs.inside.Steps.{shape_of, ones_in, Summed, Wide, Clear, Within}
use Rattle.packed.proofs.Reading.{packs_true, true_packs}

pub shape_of_length : (numbers : List ℕ) (n : ℕ) → n ≤ 64 * length numbers → length (shape_of numbers n) ≡ n
shape_of_length numbers n h = length-take-le n (nodes_in numbers) (omega (arith, nodes-length numbers))

-- The front of a front.
take_least : (k n : ℕ) (s : List ℕ) → take k (take n s) ≡ take (min n k) s
take_least k n s = go (dec_le k n)
  where
    go : Dec (k ≤ n) → take k (take n s) ≡ take (min n k) s
    go (yes h) = let e : k ≡ min n k = omega arith in take-take k n s h ∙ ap (λ (i : ℕ). take i s) e
    go (no h) =
        let e : n ≡ min n k = omega arith in
        take_all k (take n s) (omega (arith, length-take n s)) ∙ ap (λ (i : ℕ). take i s) e

-- Number j of the nodes in some numbers is number j, cut where the nodes end.
number_cut : (numbers : List ℕ) (n j : ℕ) → j < length numbers → 64 * j ≤ n
    → number_at (shape_of numbers n) j ≡ get_or numbers j 0 % 2 ^ min (n - 64 * j) 64
number_cut numbers n j h l =
    let k = min (n - 64 * j) 64 in
    let x = get_or numbers j 0 in
    let d : 64 * j / 64 ≡ j = omega arith in
    let m : 64 * j % 64 ≡ 0 = omega arith in
    let one : x / 2 ^ 0 ≡ x = omega arith in
    ap pack_number_value
    (ap (take 64) (drop-take (64 * j) (n - 64 * j) n (nodes_in numbers) (omega arith))
    ∙ take_least 64 (n - 64 * j) (drop (64 * j) (nodes_in numbers))
    ∙ nodes_part numbers (64 * j) k (omega arith) (omega arith)
    ∙ ap₂ (λ (y e : ℕ). bits_of k (y / 2 ^ e)) (ap (λ (i : ℕ). get_or numbers i 0) d) m
    ∙ ap (bits_of k) one)
    ∙ pack_bits k x

-- A number with no bit from k on, and back.
all_below : (x k : ℕ) → x / 2 ^ k ≡ 0 → x % 2 ^ k ≡ x
all_below x k h = omega (arith, split x k, ap (λ (m : ℕ). m * 2 ^ k) h)

none_above : (x k : ℕ) → x % 2 ^ k ≡ x → x / 2 ^ k ≡ 0
none_above x k h = div-eq_of_lt (subst (λ (m : ℕ). m < 2 ^ k) h (mod-lt x (pow_pos k)))

-- The numbers of the nodes, where the unused bits are clear.
number_is : (numbers : List ℕ) (n j : ℕ) → Within numbers n → Wide numbers → Clear numbers n → j < numbers_of_value n
    → get_or numbers j 0 ≡ number_at (shape_of numbers n) j
number_is numbers n j w h c l =
    sym (number_cut numbers n j (omega (arith, w.there)) (omega arith) ∙ go (dec_le (64 * j + 64) n))
  where
    x : ℕ
    x = get_or numbers j 0

    go : Dec (64 * j + 64 ≤ n) → x % 2 ^ min (n - 64 * j) 64 ≡ x
    go (yes f) =
        let e : min (n - 64 * j) 64 ≡ 64 = omega arith in
        ap (λ (k : ℕ). x % 2 ^ k) e ∙ mod-eq_of_lt (h j)
    go (no f) =
        let i : (n - 1) / 64 ≡ j = omega arith in
        let e : min (n - 64 * j) 64 ≡ (n - 1) % 64 + 1 = omega arith in
        ap (λ (k : ℕ). x % 2 ^ k) e
        ∙ all_below x ((n - 1) % 64 + 1) (subst (λ (k : ℕ). get_or numbers k 0 / 2 ^ ((n - 1) % 64 + 1) ≡ 0) i c)

-- The carets of the nodes in the first j numbers.
ones_before : (numbers : List ℕ) (j : ℕ) → Wide numbers → j ≤ length numbers
    → total (take (64 * j) (nodes_in numbers)) ≡ ones_in (take j numbers)
ones_before numbers zero h l = refl
ones_before [] (suc j) h l = absurd (omega arith)
ones_before (x ∷ numbers) (suc j) h l =
    let e : 64 * suc j ≡ length (bits_of 64 x) + 64 * j = sixty_four 64 x j refl in
    ap (λ (k : ℕ). total (take k (bits_of 64 x ++ nodes_in numbers))) e
    ∙ ap total (take-append-add (bits_of 64 x) (nodes_in numbers) (64 * j))
    ∙ total-append (bits_of 64 x) (take (64 * j) (nodes_in numbers))
    ∙ ap₂ (λ (m k : ℕ). m + k) (bits_total 64 x (h 0)) (ones_before numbers j (λ i. h (suc i)) (omega arith))
  where
    sixty_four : (k x j : ℕ) → k ≡ 64 → 64 * suc j ≡ length (bits_of k x) + 64 * j
    sixty_four k x j e = omega (arith, bits_length k x)

-- The summary of the nodes.
summary_is : (numbers : List ℕ) (n j : ℕ) → Within numbers n → Wide numbers → j < numbers_of_value n
    → ones_in (take j numbers) ≡ summary_at (shape_of numbers n) j
summary_is numbers n j w h l =
    sym
    (ap total (take-take (64 * j) n (nodes_in numbers) (omega arith))
    ∙ ones_before numbers j h (omega (arith, w.there)))

-- The first entries of a list are those of a function.
pub front_values : (m : ℕ) (f : ℕ → ℕ) (xs : List ℕ) → m ≤ length xs → ((j : ℕ) → j < m → get_or xs j 0 ≡ f j)
    → take m xs ≡ values m f
front_values m f xs l h =
    ext_get_or 0 (take m xs) (values m f) (length-take-le m xs l ∙ sym (values_length m f)) (λ j k.
    let lt : j < m = omega (arith, length-take-le m xs l) in
    get_or-take m xs j 0 lt ∙ h j lt ∙ sym (values_at m f j lt))

pub values_front : (m : ℕ) (f : ℕ → ℕ) (xs : List ℕ) → take m xs ≡ values m f → (j : ℕ) → j < m → get_or xs j 0 ≡ f j
values_front m f xs e j l =
    sym (get_or-take m xs j 0 l) ∙ ap (λ (u : List ℕ). get_or u j 0) e ∙ values_at m f j l

-- As many entries are there.
pub values_there : (m : ℕ) (f : ℕ → ℕ) (xs : List ℕ) → take m xs ≡ values m f → m ≤ length xs
values_there m f xs e = omega (arith, ap length e, values_length m f, length-take m xs)

-- The tests pass: the nodes are packed.
pub packs_when : (numbers summary : List ℕ) (n : ℕ) → Within numbers n → Wide numbers
    → numbers_of_value n ≤ length summary → Clear numbers n
    → Summed numbers summary (numbers_of_value n) → Packs (shape_of numbers n) numbers summary
packs_when numbers summary n w h l c p =
    let s = shape_of numbers n in
    let e : numbers_of_value (length s) ≡ numbers_of_value n =
    ap numbers_of_value (shape_of_length numbers n w.there) in
    record {
      holds_numbers =
          front_values (numbers_of_value (length s)) (number_at s) numbers (omega (arith, e, w.there))
          (λ j k. number_is numbers n j w h c (omega (arith, e)));
      holds_summary =
          front_values (numbers_of_value (length s)) (summary_at s) summary (omega (arith, e))
          (λ j k. p j (omega (arith, e)) ∙ summary_is numbers n j w h (omega (arith, e)));
    }

-- The nodes are packed: the tests pass.
pub record Passes (numbers summary : List ℕ) (n : ℕ) : Type 0 where
  pub enough : numbers_of_value n ≤ length summary
  pub clear : Clear numbers n
  pub summed : Summed numbers summary (numbers_of_value n)

pub packs-then : (numbers summary : List ℕ) (n : ℕ) → Within numbers n → Wide numbers
    → Packs (shape_of numbers n) numbers summary → Passes numbers summary n
packs-then numbers summary n w h p = record {
  enough = omega (arith, e, values_there (numbers_of_value (length s)) (summary_at s) summary p.holds_summary);
  clear = cleared;
  summed = λ j l. values_front (numbers_of_value (length s)) (summary_at s) summary p.holds_summary j (omega (arith, e))
      ∙ sym (summary_is numbers n j w h l);
}
  where
    s : List ℕ
    s = shape_of numbers n

    e : numbers_of_value (length s) ≡ numbers_of_value n
    e = ap numbers_of_value (shape_of_length numbers n w.there)

    j : ℕ
    j = (n - 1) / 64

    k : ℕ
    k = (n - 1) % 64 + 1

    cleared : get_or numbers j 0 / 2 ^ k ≡ 0
    cleared =
        let m : min (n - 64 * j) 64 ≡ k = omega (arith, w.some) in
        let inside : j < numbers_of_value (length s) = omega (arith, e, w.some) in
        let x = values_front (numbers_of_value (length s)) (number_at s) numbers p.holds_numbers j inside in
        none_above (get_or numbers j 0) k
        (sym (x ∙ number_cut numbers n j (omega (arith, w.there, w.some)) (omega arith)
        ∙ ap (λ (i : ℕ). get_or numbers j 0 % 2 ^ i) m))

-- What the code shifts out, bit k and then one more, is what stands from bit k + 1 on.
pub clear_shown : (x k : ℕ) → eqb (x / 2 ^ k / 2) 0 ≡ true → x / 2 ^ (k + 1) ≡ 0
clear_shown x k e = sym (shr-shr x k 1) ∙ eqb-true (x / 2 ^ k / 2) 0 e

pub clear_seen : (x k : ℕ) → x / 2 ^ (k + 1) ≡ 0 → eqb (x / 2 ^ k / 2) 0 ≡ true
clear_seen x k e = eq-eqb (x / 2 ^ k / 2) 0 (shr-shr x k 1 ∙ e)

-- The value of the test.
packs_false : {s numbers summary : List ℕ} → (Packs s numbers summary → ⊥) → false ≡ packs s numbers summary
packs_false {s} {numbers} {summary} h = go (packs s numbers summary) refl
  where
    go : (b : Bool) → packs s numbers summary ≡ b → false ≡ packs s numbers summary
    go true e = absurd (h (true_packs e))
    go false e = sym e

-- A summary that is too short.
pub packs_short : (numbers summary : List ℕ) (n : ℕ) → Within numbers n → length summary < numbers_of_value n
    → false ≡ packs (shape_of numbers n) numbers summary
packs_short numbers summary n w l =
    packs_false (λ p. omega (arith, shape_of_length numbers n w.there, held_there p))
  where
    held_there : Packs (shape_of numbers n) numbers summary
        → numbers_of_value (length (shape_of numbers n)) ≤ length summary
    held_there p = values_there _ (summary_at (shape_of numbers n)) summary p.holds_summary

-- Unused bits that are set.
pub packs_unclear : (numbers summary : List ℕ) (n : ℕ) → Within numbers n → Wide numbers → (b : Bool)
    → (Clear numbers n → b ≡ true) → b ≡ false → false ≡ packs (shape_of numbers n) numbers summary
packs_unclear numbers summary n w h b c f =
    packs_false (λ p.
    let e : ◌≡◌ {A = Bool} true false = sym (c (packs-then numbers summary n w h p).clear) ∙ f in
    let z : ◌≡◌ {A = ℕ} 0 1 = cc in omega arith)

-- The summary decides.
pub packs_summed : (numbers summary : List ℕ) (n m : ℕ) → m ≡ numbers_of_value n → Within numbers n → Wide numbers
    → m ≤ length summary → Clear numbers n → (b : Bool) → (b ≡ true → Summed numbers summary m)
    → (Summed numbers summary m → b ≡ true) → b ≡ packs (shape_of numbers n) numbers summary
packs_summed numbers summary n m e w h l c true f g =
    sym
    (packs_true (packs_when numbers summary n w h (omega arith) c (subst (Summed numbers summary) e (f refl))))
packs_summed numbers summary n m e w h l c false f g =
    packs_false (λ p.
    let d : ◌≡◌ {A = Bool} false true =
    g (subst (Summed numbers summary) (sym e) (packs-then numbers summary n w h p).summed) in
    let z : ◌≡◌ {A = ℕ} 0 1 = cc in omega arith)
