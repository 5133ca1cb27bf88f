-- The field with a tag at a place, one condition after another. Assumes nothing.
use mathlib.Core.Path.{◌≡◌, refl, sym, ap, ◌∙◌}
use mathlib.Core.Bool.{Bool, true, false, cond}
use mathlib.Core.List.{List}
use Prim.Native.Nat.{ℕ, ◌+◌, ◌≤◌}
use native.Mathlib.Omega.{arith}
use lib.ListN.{length, get_or}
use lib.Dec.{eqb, ltb}
use borrow.Author.Tests.{ltb-false, eqb-true, le-ltb, eq-eqb}
use Rattle.std.specs.Prelude.{Some, None}
use Rattle.fields.specs.Fields.{two_at, head_size}
use Rattle.fields.specs.inside.Reading.{field_at}

-- The field with a tag that stands at a place, with a body of n bytes.
pub record Found (s : List ℕ) (at tag n : ℕ) : Type 0 where
  pub tagged : get_or s at 0 ≡ tag
  pub size : n ≡ two_at s (at + 1)
  pub within : at + head_size + n ≤ length s

pub field_found : (s : List ℕ) (at tag n : ℕ) → Found s at tag n → Some n ≡ field_at s at tag
field_found s at tag n h =
    ap Some h.size
    ∙ simp (
      le-ltb (length s) (at + head_size) (omega (arith, h.within)),
      eq-eqb (get_or s at 0) tag h.tagged,
      le-ltb (length s) (at + head_size + two_at s (at + 1)) (omega (arith, h.within, h.size)),
    )

pub field_opens : (s : List ℕ) (at tag n : ℕ) → field_at s at tag ≡ Some n → Found s at tag n
field_opens s at tag n e = go (ltb (length s) (at + head_size)) (eqb (get_or s at 0) tag)
    (ltb (length s) (at + head_size + two_at s (at + 1))) refl refl e
  where
    go : (p q r : Bool) → eqb (get_or s at 0) tag ≡ q → ltb (length s) (at + head_size + two_at s (at + 1)) ≡ r
        → cond p None (cond q (cond r None (Some (two_at s (at + 1)))) None) ≡ Some n → Found s at tag n
    go false true false t u h =
        let size : two_at s (at + 1) ≡ n = cc in
        record {
          tagged = eqb-true (get_or s at 0) tag t;
          size = sym size;
          within = omega (arith, size, ltb-false (length s) (at + head_size + two_at s (at + 1)) u);
        }
    go false true true t u h = let w : ◌≡◌ {A = ℕ} 0 1 = cc in absurd (omega arith)
    go false false r t u h = let w : ◌≡◌ {A = ℕ} 0 1 = cc in absurd (omega arith)
    go true q r t u h = let w : ◌≡◌ {A = ℕ} 0 1 = cc in absurd (omega arith)
