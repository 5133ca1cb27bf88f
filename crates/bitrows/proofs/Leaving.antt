-- A walk over nodes: what is to come behind them, put together from parts; and the bits of numbers that a walk reads.
--     leaves-append   one part behind another          leaves_past   a part that closes fewer than are to come
--     leaves_node     one node                         nodes_part    a part of the nodes in numbers, inside one number
--     bits_append, bits_cut, bits_total                parts of the bits of a number, and the carets among them
-- Assumes nothing.
use mathlib.Core.Path.{◌≡◌, refl, sym, ap, ap₂, subst, ◌∙◌}
use mathlib.Core.List.{List, [], ◌∷◌, ◌++◌, append_assoc}
use Prim.Native.Nat.{ℕ, zero, suc, ◌+◌, ◌-◌, ◌*◌, ◌/◌, ◌%◌, ◌^◌, ◌<◌, ◌≤◌}
use native.Mathlib.Nat.{zero-add, mod-eq_of_lt}
use native.Mathlib.Omega.{arith}
use lib.Count.{ones}
use lib.ListN.{length, take, drop, get_or, length-append, take-append-drop}
use lib.Pow.{mod-mod-pow, field}
use lib.Seq.{drop-append-le, drop-append-add, take-append-le}
use Rattle.lists.specs.Entries.{total}
use Rattle.trees.specs.Shapes.{span}
use Rattle.bitrows.specs.Closing.{closes}
use Rattle.bitrows.specs.Numbers.{bits_of, nodes_in}
use Rattle.bitrows.specs.inside.Nodes.{Nodes}
use Rattle.bitrows.specs.inside.Walking.{fall, Leaves}
use Rattle.bitrows.proofs.Bits.{bits_length, bits_nodes, bits_drop, bits_take, pack_bits}
use Rattle.bitrows.proofs.Numbers.{ones_pack}
use Rattle.bitrows.proofs.Walks.{span_past}

-- No node.
pub leaves_none : (p : ℕ) → Leaves [] p p
leaves_none p = record { closes_on = λ t. refl; spans_on = λ t. sym (zero-add (span t p)) }

-- One part behind another.
pub leaves-append : (xs ys : List ℕ) (p q r : ℕ) → Leaves xs p q → Leaves ys q r → Leaves (xs ++ ys) p r
leaves-append xs ys p q r a b = record {
  closes_on = λ t. ap (λ (s : List ℕ). closes s p) (append_assoc xs ys t) ∙ a.closes_on (ys ++ t) ∙ b.closes_on t;
  spans_on = λ t. ap (λ (s : List ℕ). span s p) (append_assoc xs ys t)
      ∙ omega (arith, a.spans_on (ys ++ t), b.spans_on t, length-append xs ys);
}

-- As `span_past`, for whether trees close.
closes_past : (xs s : List ℕ) (p q : ℕ) → Nodes xs → fall xs < p → q + length xs ≡ p + (total xs + total xs)
    → closes (xs ++ s) p ≡ closes s q
closes_past [] s p q h f e =
    let d : p ≡ q = omega arith in
    ap (closes s) d
closes_past (b ∷ xs) s zero q h f e = absurd (omega arith)
closes_past (zero ∷ xs) s (suc p) q h f e = closes_past xs s p q h.1 (omega arith) (omega arith)
closes_past (suc zero ∷ xs) s (suc p) q h f e = closes_past xs s (suc (suc p)) q h.1 (omega arith) (omega arith)
closes_past (suc (suc b) ∷ xs) s (suc p) q h f e = absurd (omega (arith, h.0))

-- Nodes that close fewer than are to come.
pub leaves_past : (xs : List ℕ) (p q : ℕ) → Nodes xs → fall xs < p → q + length xs ≡ p + (total xs + total xs)
    → Leaves xs p q
leaves_past xs p q h f e = record {
  closes_on = λ t. closes_past xs t p q h f e;
  spans_on = λ t. span_past xs t p q h f e;
}

-- A leaf ends one.
pub leaves_leaf : (p : ℕ) → Leaves (0 ∷ []) (suc p) p
leaves_leaf p = record { closes_on = λ t. refl; spans_on = λ t. omega arith }

-- A caret ends one and opens two.
pub leaves_caret : (p : ℕ) → Leaves (1 ∷ []) (suc p) (suc (suc p))
leaves_caret p = record { closes_on = λ t. refl; spans_on = λ t. omega arith }

-- One node.
pub leaves_node : (b p q : ℕ) → b < 2 → 0 < p → q + 1 ≡ p + (b + b) → Leaves (b ∷ []) p q
leaves_node b zero q h l e = absurd (omega arith)
leaves_node zero (suc p) q h l e =
    let d : p ≡ q = omega arith in
    subst (λ (n : ℕ). Leaves (0 ∷ []) (suc p) n) d (leaves_leaf p)
leaves_node (suc zero) (suc p) q h l e =
    let d : suc (suc p) ≡ q = omega arith in
    subst (λ (n : ℕ). Leaves (1 ∷ []) (suc p) n) d (leaves_caret p)
leaves_node (suc (suc b)) (suc p) q h l e = absurd (omega arith)

-- The first j bits, and the k behind them.
pub bits_append : (j k x : ℕ) → bits_of (j + k) x ≡ bits_of j x ++ bits_of k (x / 2 ^ j)
bits_append j k x =
    sym (take-append-drop j (bits_of (j + k) x))
    ∙ ap₂ ◌++◌ (bits_take j (j + k) x (omega arith)) (bits_drop j k (j + k) x refl)

-- Bits above the k lowest do not matter.
pub bits_cut : (k x : ℕ) → bits_of k (x % 2 ^ k) ≡ bits_of k x
bits_cut zero x = refl
bits_cut (suc k) x =
    let e : suc k ≡ k + 1 = omega arith in
    ap (λ (n : ℕ). bits_of (suc k) (x % 2 ^ n)) e
    ∙ ap₂ (λ (b : ℕ) (s : List ℕ). b ∷ s) (mod-mod-pow x k 1) (ap (bits_of k) (field x k 1) ∙ bits_cut k (x / 2))

pub bits_cut_byte : (x : ℕ) → bits_of 8 (x % 256) ≡ bits_of 8 x
bits_cut_byte x = bits_cut 8 x

-- The carets among the bits.
pub bits_total : (k x : ℕ) → x < 2 ^ k → total (bits_of k x) ≡ ones x
bits_total k x h =
    sym (ones_pack (bits_of k x) (bits_nodes k x)) ∙ ap ones (pack_bits k x ∙ mod-eq_of_lt h)

-- Nodes inside one number, by the number and the place in it.
part_at : (xs : List ℕ) (j p e : ℕ) → j < length xs → p + e ≤ 64
    → take e (drop (64 * j + p) (nodes_in xs)) ≡ bits_of e (get_or xs j 0 / 2 ^ p)
part_at [] j p e h l = absurd (omega arith)
part_at (x ∷ xs) zero p e h l =
    let z : 64 * 0 + p ≡ p = omega arith in
    let d : drop p (bits_of 64 x) ≡ bits_of (64 - p) (x / 2 ^ p) = bits_drop p (64 - p) 64 x (omega arith) in
    ap (λ (n : ℕ). take e (drop n (bits_of 64 x ++ nodes_in xs))) z
    ∙ ap (take e) (drop-append-le p (bits_of 64 x) (nodes_in xs) (omega (arith, bits_length 64 x)))
    ∙ ap (λ (s : List ℕ). take e (s ++ nodes_in xs)) d
    ∙ take-append-le e (bits_of (64 - p) (x / 2 ^ p)) (nodes_in xs) (omega (arith, bits_length (64 - p) (x / 2 ^ p)))
    ∙ bits_take e (64 - p) (x / 2 ^ p) (omega arith)
part_at (x ∷ xs) (suc j) p e h l =
    let z : 64 * suc j + p ≡ length (bits_of 64 x) + (64 * j + p) = omega (arith, bits_length 64 x) in
    ap (λ (n : ℕ). take e (drop n (bits_of 64 x ++ nodes_in xs))) z
    ∙ ap (take e) (drop-append-add (bits_of 64 x) (nodes_in xs) (64 * j + p))
    ∙ part_at xs j p e (omega arith) l

-- Nodes inside one number.
pub nodes_part : (xs : List ℕ) (at e : ℕ) → at / 64 < length xs → at % 64 + e ≤ 64
    → take e (drop at (nodes_in xs)) ≡ bits_of e (get_or xs (at / 64) 0 / 2 ^ (at % 64))
nodes_part xs at e h l =
    let d : at ≡ 64 * (at / 64) + at % 64 = omega arith in
    ap (λ (n : ℕ). take e (drop n (nodes_in xs))) d ∙ part_at xs (at / 64) (at % 64) e h l
