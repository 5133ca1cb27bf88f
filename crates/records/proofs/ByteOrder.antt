-- Byte order is strict and total, and two records with one pair of bodies, once either way round, are told apart by the
-- lengths of the bodies and then by the bodies. Assumes nothing.
use mathlib.Core.Path.{◌≡◌, refl, sym, ap, ap₂, ◌∙◌}
use mathlib.Core.Bool.{Bool, true, false, cond, true≢false}
use mathlib.Core.List.{List, [], ◌∷◌, ◌++◌}
use Prim.Native.Nat.{ℕ, ◌/◌, ◌%◌, ◌<◌}
use native.Mathlib.Decide.{dec_lt}
use native.Mathlib.Omega.{arith}
use lib.ListN.{length}
use lib.Dec.{eqb, ltb}
use borrow.Author.Tests.{lt-ltb, le-ltb, ltb-true, ltb-false, eqb-true, eqb-false}
use Rattle.std.specs.Prelude.{Some}
use Rattle.std.specs.Ordering.{partial_lt, nat_cmp, is_some_and, is_lt, partial_ordering_then}
use Rattle.std.specs.declared.cmp.Ordering.TheVariants.{Less, Equal, Greater}
use Rattle.std.specs.Cmp.Lexicographic.{slice_partial_cmp}
use Rattle.fields.specs.Fields.{field}
use Rattle.records.specs.Format.{a_tag}
use Rattle.records.specs.Exchange.{bytes_below}
use Rattle.records.proofs.Framing.{fields}

-- Bytes in front of others.
module _ (x y : ℕ) (s t : List ℕ) where
  pub below_less : x < y → bytes_below (x ∷ s) (y ∷ t) ≡ true
  unfolding bytes_below
  below_less h = simp (lt-ltb x y h)

  pub below_equal : x ≡ y → bytes_below (x ∷ s) (y ∷ t) ≡ bytes_below s t
  unfolding bytes_below
  below_equal h = simp (le-ltb x y (omega (arith, h)), le-ltb y x (omega (arith, h)))

-- The library's comparison of slices of bytes.
pub slice_below : (s t : List ℕ) → partial_lt (slice_partial_cmp (λ x y. Some (nat_cmp x y))) s t ≡ bytes_below s t
unfolding bytes_below
slice_below [] [] = refl
slice_below [] (y ∷ t) = refl
slice_below (x ∷ s) [] = refl
slice_below (x ∷ s) (y ∷ t) = go (ltb x y) (eqb x y) (ltb y x) refl refl refl (slice_below s t)
  where
    go : (p q r : Bool) → ltb x y ≡ p → eqb x y ≡ q → ltb y x ≡ r
        → partial_lt (slice_partial_cmp (λ i j. Some (nat_cmp i j))) s t ≡ bytes_below s t
        → is_some_and is_lt (partial_ordering_then (Some (cond p Less (cond q Equal Greater)))
        (slice_partial_cmp (λ i j. Some (nat_cmp i j)) s t))
        ≡ cond p true (cond r false (bytes_below s t))
    go true q r a b c h = refl
    go false true true a b c h = absurd (omega (arith, eqb-true x y b, ltb-true y x c))
    go false true false a b c h = h
    go false false true a b c h = refl
    go false false false a b c h = absurd (eqb-false x y b (omega (arith, ltb-false x y a, ltb-false y x c)))

-- Of two lists at most one comes before the other, and where neither does they are the same.
pub below_not : (s t : List ℕ) → bytes_below s t ≡ true → bytes_below t s ≡ false
unfolding bytes_below
below_not [] [] h = refl
below_not [] (y ∷ t) h = refl
below_not (x ∷ s) [] h = absurd (true≢false (sym h))
below_not (x ∷ s) (y ∷ t) h = go (λ q. below_not s t q) (ltb x y) (ltb y x) refl refl h
  where
    go : (bytes_below s t ≡ true → bytes_below t s ≡ false) → (p q : Bool) → ltb x y ≡ p → ltb y x ≡ q
        → cond p true (cond q false (bytes_below s t)) ≡ true → cond q true (cond p false (bytes_below t s)) ≡ false
    go rest true true a b k = absurd (omega (arith, ltb-true x y a, ltb-true y x b))
    go rest true false a b k = refl
    go rest false true a b k = absurd (true≢false (sym k))
    go rest false false a b k = rest k

pub below_same : (s t : List ℕ) → bytes_below s t ≡ false → bytes_below t s ≡ false → s ≡ t
unfolding bytes_below
below_same [] [] h g = refl
below_same [] (y ∷ t) h g = absurd (true≢false h)
below_same (x ∷ s) [] h g = absurd (true≢false g)
below_same (x ∷ s) (y ∷ t) h g = go (λ p q. below_same s t p q) (ltb x y) (ltb y x) refl refl h g
  where
    go : (bytes_below s t ≡ false → bytes_below t s ≡ false → s ≡ t) → (p q : Bool) → ltb x y ≡ p → ltb y x ≡ q
        → cond p true (cond q false (bytes_below s t)) ≡ false → cond q true (cond p false (bytes_below t s)) ≡ false
        → x ∷ s ≡ y ∷ t
    go rest true q a b k l = absurd (true≢false k)
    go rest false true a b k l = absurd (true≢false l)
    go rest false false a b k l =
        let e : x ≡ y = omega (arith, ltb-false x y a, ltb-false y x b) in
        ap₂ (λ (i : ℕ) (r : List ℕ). i ∷ r) e (rest k l)

pub below_self : (s : List ℕ) → bytes_below s s ≡ false
unfolding bytes_below
below_self [] = refl
below_self (x ∷ s) = below_equal x x s s refl ∙ below_self s

-- Lists of one length decide, unless they are the same and what follows them makes no difference.
below-behind : (s t u v : List ℕ) → length s ≡ length t → (s ≡ t → bytes_below u v ≡ false)
    → bytes_below (s ++ u) (t ++ v) ≡ bytes_below s t
unfolding bytes_below
below-behind [] [] u v n h = h refl
below-behind [] (y ∷ t) u v n h = absurd (omega (arith, n))
below-behind (x ∷ s) [] u v n h = absurd (omega (arith, n))
below-behind (x ∷ s) (y ∷ t) u v n h =
    go (λ e. below-behind s t u v (omega (arith, n)) (λ r. h (ap₂ (λ (i : ℕ) (l : List ℕ). i ∷ l) e r)))
    (ltb x y) (ltb y x) refl refl
  where
    go : (x ≡ y → bytes_below (s ++ u) (t ++ v) ≡ bytes_below s t) → (p q : Bool) → ltb x y ≡ p → ltb y x ≡ q
        → cond p true (cond q false (bytes_below (s ++ u) (t ++ v))) ≡ cond p true (cond q false (bytes_below s t))
    go rest true q a b = refl
    go rest false true a b = refl
    go rest false false a b = rest (omega (arith, ltb-false x y a, ltb-false y x b))

-- The records of two bodies, one way round and the other.
module _ (b a : List ℕ) where
  -- The one whose b side has more bytes is above the other.
  pub above_longer : length a < length b → bytes_below (fields a b) (fields b a) ≡ true
  above_longer h = below_equal 1 1 _ _ refl ∙ go (dec_lt (length a / 256) (length b / 256))
    where
      go : Dec (length a / 256 < length b / 256)
          → bytes_below ((length a / 256) ∷ ((length a % 256) ∷ (a ++ field a_tag b)))
          ((length b / 256) ∷ ((length b % 256) ∷ (b ++ field a_tag a))) ≡ true
      go (yes lt) = below_less _ _ _ _ lt
      go (no ge) =
          below_equal (length a / 256) (length b / 256) _ _ (omega (arith, h, ge))
          ∙ below_less (length a % 256) (length b % 256) _ _ (omega (arith, h, ge))

  -- With as many bytes on both sides, the bodies decide.
  pub above_even : length a ≡ length b → bytes_below (fields a b) (fields b a) ≡ bytes_below a b
  above_even h =
      below_equal 1 1 _ _ refl
      ∙ below_equal (length a / 256) (length b / 256) _ _ (ap (λ (n : ℕ). n / 256) h)
      ∙ below_equal (length a % 256) (length b % 256) _ _ (ap (λ (n : ℕ). n % 256) h)
      ∙ below-behind a b (field a_tag b) (field a_tag a) h (λ e.
      ap (λ (l : List ℕ). bytes_below (field a_tag b) (field a_tag l)) e ∙ below_self (field a_tag b))

-- The one whose b side has fewer is not.
pub above_shorter : (b a : List ℕ) → length b < length a → bytes_below (fields a b) (fields b a) ≡ false
above_shorter b a h = below_not (fields b a) (fields a b) (above_longer a b h)
