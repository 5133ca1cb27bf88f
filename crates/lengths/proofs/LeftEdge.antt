-- The carets in front of the first leaf of a shape: the left side. Assumes nothing.
use mathlib.Core.Path.{◌≡◌, refl, sym, ap, ◌∙◌, subst}
use mathlib.Core.List.{List, [], ◌∷◌}
use Prim.Native.Nat.{ℕ, zero, suc, ◌+◌, ◌-◌, ◌<◌, ◌≤◌}
use native.Mathlib.Omega.{arith}
use lib.Dec.{eqb}
use lib.ListN.{length, drop, set}
use Rattle.std.specs.List.{prefix_len}
use lib.Seq.{sets, drop-set-lt}
use Rattle.trees.specs.inside.ShapeReading.{Exact}
use Rattle.lengths.specs.Classes.{Class, on_left}
use Rattle.lengths.specs.inside.Reading.{side_classes, left_edge_classes, shape_classes}
use Rattle.lengths.specs.inside.Steps.{class_bytes, leaves_in, left_carets, Readable}
use Rattle.lengths.proofs.ReadSteps.{over_read}

-- They are the front of 1s, in a shape of a tree or more, and a leaf is behind them.
pub edge_count : (s : List ℕ) (n : ℕ) → Exact s (suc n)
    → (prefix_len (λ x. eqb x 1) s ≡ left_carets s) × (left_carets s < length s)
edge_count [] n x = absurd x
edge_count (zero ∷ s) n x = (refl, omega arith)
edge_count (suc zero ∷ s) n x =
    let r = edge_count s (suc n) x in
    (omega (arith, r.0), omega (arith, r.1))
edge_count (suc (suc b) ∷ s) n x = absurd x

-- Behind the first leaf, in a shape of n trees that has k carets in front of it.
edge_exact : (s : List ℕ) (n k : ℕ) → Exact s n → suc k ≡ left_carets s + n → Exact (drop (suc (left_carets s)) s) k
edge_exact [] zero k x e = absurd (omega arith)
edge_exact [] (suc n) k x e = absurd x
edge_exact (zero ∷ s) zero k x e = absurd x
edge_exact (zero ∷ s) (suc n) k x e =
    let same : n ≡ k = omega arith in
    subst (λ (j : ℕ). Exact s j) same x
edge_exact (suc zero ∷ s) zero k x e = absurd x
edge_exact (suc zero ∷ s) (suc n) k x e = edge_exact s (suc (suc n)) k x (omega arith)
edge_exact (suc (suc b) ∷ s) n k x e = absurd x

edge_leaves : (s : List ℕ) (n : ℕ) → 0 < n → Exact s n → leaves_in s ≡ suc (leaves_in (drop (suc (left_carets s)) s))
edge_leaves [] zero h x = absurd (omega arith)
edge_leaves [] (suc n) h x = absurd x
edge_leaves (zero ∷ s) n h x = refl
edge_leaves (suc zero ∷ s) zero h x = absurd x
edge_leaves (suc zero ∷ s) (suc n) h x = edge_leaves s (suc (suc n)) (omega arith) x
edge_leaves (suc (suc b) ∷ s) n h x = absurd x

-- The classes from the start: none in front of a leaf, else caret 0 and then from a side.
abbrev pub from_edge : List ℕ → ℕ → List Class
from_edge s zero = []
from_edge s (suc l) = on_left ∷ side_classes s l

edge_classes : (s : List ℕ) (n l k : ℕ) → 0 < n → Exact s n → k ≡ left_carets s + l
    → left_edge_classes s l ≡ from_edge (drop (suc (left_carets s)) s) k
edge_classes [] zero l k h x e = absurd (omega arith)
edge_classes [] (suc n) l k h x e = absurd x
edge_classes (zero ∷ s) n zero zero h x e = refl
edge_classes (zero ∷ s) n zero (suc k) h x e = absurd (omega arith)
edge_classes (zero ∷ s) n (suc l) zero h x e = absurd (omega arith)
edge_classes (zero ∷ s) n (suc l) (suc k) h x e =
    let same : l ≡ k = omega arith in
    ap (λ (j : ℕ). on_left ∷ side_classes s j) same
edge_classes (suc zero ∷ s) zero l k h x e = absurd x
edge_classes (suc zero ∷ s) (suc n) l k h x e = edge_classes s (suc (suc n)) (suc l) k (omega arith) x (omega arith)
edge_classes (suc (suc b) ∷ s) n l k h x e = absurd x

-- A tree with a caret: caret 0 has room, and the reading goes on from a side.
module _ {shape : List ℕ} (r : Readable shape 0 1 0) (lefts : ℕ) (is : lefts ≡ left_carets shape) where
  pub no_carets : lefts ≤ 0 → shape ≡ sets shape 0 (class_bytes (shape_classes shape))
  no_carets h =
      let none : 0 ≡ left_carets shape + 0 = omega arith in
      sym (ap (λ (cs : List Class). sets shape 0 (class_bytes cs)) (edge_classes shape 1 0 0 (omega arith) r.exact
      none))

  module _ (some : 0 < lefts) where
    behind : drop (lefts + 1) shape ≡ drop (suc (left_carets shape)) shape
    behind =
        let same : lefts + 1 ≡ suc (left_carets shape) = omega arith in
        ap (λ (j : ℕ). drop j shape) same

    leaves-behind : leaves_in shape ≡ suc (leaves_in (drop (lefts + 1) shape))
    leaves-behind = edge_leaves shape 1 (omega arith) r.exact ∙ sym (ap (λ (s : List ℕ). suc (leaves_in s)) behind)

    pub side_ready : Readable (set shape 0 0) (lefts + 1) (suc (lefts - 1)) 1
    side_ready =
        over_read 0 (record {
          exact =
              subst (λ (s : List ℕ). Exact s (suc (lefts - 1))) (sym behind)
              (edge_exact shape 1 (suc (lefts - 1)) r.exact (omega arith));
          behind = omega arith;
          small = omega (arith, leaves-behind, r.small);
        })

    pub side_written : {exit : List ℕ}
        → exit ≡ sets (set shape 0 0) 1 (class_bytes (side_classes (drop (lefts + 1) (set shape 0 0)) (lefts - 1)))
        → exit ≡ sets shape 0 (class_bytes (shape_classes shape))
    side_written {exit} e =
        let all : suc (lefts - 1) ≡ left_carets shape + 0 = omega arith in
        let same : drop (lefts + 1) (set shape 0 0) ≡ drop (suc (left_carets shape)) shape =
        drop-set-lt (lefts + 1) shape 0 0 (omega arith) ∙ behind in
        e
        ∙ ap (λ (s : List ℕ). sets shape 0 (class_bytes (on_left ∷ side_classes s (lefts - 1)))) same
        ∙ sym (ap (λ (cs : List Class). sets shape 0 (class_bytes cs))
        (edge_classes shape 1 0 (suc (lefts - 1)) (omega arith) r.exact all))
