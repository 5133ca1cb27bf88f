-- A pair of trees with the exponents of a form has no redundant caret just when the form is reduced and no pair with
-- these exponents is smaller (000, definitions 2.4 and 2.5, for theorem 2.6). Assumes nothing.
use mathlib.Core.Path.{◌≡◌, refl, sym, ◌∙◌}
use mathlib.Core.Logic.{◌⊎◌, inl, inr, ◌↔◌}
use Prim.Native.Nat.{ℕ, zero, suc, ◌<◌, ◌≤◌}
use native.Mathlib.Omega.{arith}
use native.Mathlib.Decide.{dec_le}
use lib.ListN.{get_or}
use Rattle.lists.proofs.Totals.{entry_total}
use Rattle.group.specs.Forms.{Side, b_side, a_side, Form, exponent, exponents}
use Rattle.group.specs.Reducing.{Occurs, Reduced}
use Rattle.group.proofs.Exponents.{exponents_at}
use Rattle.trees.specs.Trees.{Tree, carets}
use Rattle.trees.specs.Exponents.{HasExponents}
use Rattle.trees.specs.Building.{needed}
use Rattle.trees.specs.Pairs.{carets_of, minus_tree, plus_tree, Pair, SmallestPair, Redundant}
use Rattle.trees.specs.Readings.{exponents_of}
use Rattle.trees.proofs.Exponents.{side_entries}
use Rattle.trees.proofs.Needed.{needed_same}
use Rattle.trees.proofs.Built.{tree_holds}
use Rattle.trees.proofs.Pairs.{a_needed, b_needed, both-needed, pair_carets, pair_of, pair_least}
use Rattle.trees.proofs.Pairs.{smallest_carets, carets_smallest}
use Rattle.trees.proofs.Exposed.{Exposure, inside, last, exposure_of}
use Rattle.trees.proofs.Exposing.{exposed_inside, exposed_last}

-- The leaf in front of the last has no exponent above 0.
not_last : (t : Tree) (i : ℕ) → carets t ≡ suc i → 0 < get_or (exponents_of t) i 0 → ⊥
not_last t i c p =
    omega (arith, p, c, tree_holds t (exponents_of t) (λ j. refl) i p, entry_total i (exponents_of t))

-- A side of a form, and a tree with its exponents: each entry, and the carets needed.
entry_is : (s : Side) (f : Form) (t : Tree) → HasExponents t (exponent s f) → (i : ℕ)
    → get_or (exponents_of t) i 0 ≡ exponent s f i
entry_is s f t h i = side_entries s f t h i ∙ exponents_at s f i

needed_is : (s : Side) (f : Form) (t : Tree) → HasExponents t (exponent s f)
    → needed 0 (exponents_of t) ≡ needed 0 (exponents s f)
needed_is s f t h = needed_same (exponents_of t) (exponents s f) (side_entries s f t h)

module _ (f : Form) (t s : Tree) (p : Pair f t s) where
  a_is : (i : ℕ) → get_or (exponents_of t) i 0 ≡ exponent a_side f i
  a_is = entry_is a_side f t p.a_exponents

  b_is : (i : ℕ) → get_or (exponents_of s) i 0 ≡ exponent b_side f i
  b_is = entry_is b_side f s p.b_exponents

  -- The smallest pair of a reduced form has no redundant caret.
  none_redundant : Reduced f → carets t ≡ carets_of f → Redundant t s → ⊥
  none_redundant r n c = go (exposure_of t i c.in_minus) (exposure_of s i c.in_plus)
    where
      i : ℕ
      i = c.number

      occurs : get_or (exponents_of t) (suc i) 0 ≡ 0 → get_or (exponents_of s) (suc i) 0 ≡ 0 → Occurs f (suc i) → ⊥
      occurs y w (inl o) = omega (arith, o, y, a_is (suc i))
      occurs y w (inr o) = omega (arith, o, w, b_is (suc i))

      go : Exposure t i → Exposure s i → ⊥
      go (inside x y) (inside z w) =
          occurs y w (r i (omega (arith, x, a_is i)) (omega (arith, z, b_is i)))
      go (inside x y) (last d k) = not_last t i (p.same_size ∙ d) x
      go (last d k) (inside x y) = not_last s i (sym p.same_size ∙ d) x
      go (last d k) (last g m) =
          omega (
            arith,
            n,
            d,
            both-needed f i
                (omega (arith, m, needed_is b_side f s p.b_exponents))
                (omega (arith, k, needed_is a_side f t p.a_exponents)),
          )

  -- A pair with no redundant caret has a reduced form.
  pair_reduced : (Redundant t s → ⊥) → Reduced f
  pair_reduced h i x y = go (exponent a_side f (suc i)) (exponent b_side f (suc i)) (a_is (suc i)) (b_is (suc i))
    where
      go : (m n : ℕ) → get_or (exponents_of t) (suc i) 0 ≡ m → get_or (exponents_of s) (suc i) 0 ≡ n → (0 < m) ⊎ (0 < n)
      go (suc m) n em en = inl (omega arith)
      go zero (suc n) em en = inr (omega arith)
      go zero zero em en =
          absurd (h (record {
            number = i;
            in_minus = exposed_inside t i (omega (arith, x, a_is i)) em;
            in_plus = exposed_inside s i (omega (arith, y, b_is i)) en;
          }))

  -- And it has N carets.
  pair_smallest : (Redundant t s → ⊥) → carets t ≡ carets_of f
  pair_smallest h = go (carets t) refl (dec_le (carets t) (carets_of f))
    where
      more : (n : ℕ) → carets t ≡ suc n → carets_of f ≤ n → Redundant t s
      more n e c = record {
        number = n;
        in_minus =
            exposed_last t (exponents a_side f) n e (side_entries a_side f t p.a_exponents)
            (omega (arith, c, a_needed f));
        in_plus =
            exposed_last s (exponents b_side f) n (sym p.same_size ∙ e) (side_entries b_side f s p.b_exponents)
            (omega (arith, c, b_needed f));
      }

      go : (n : ℕ) → carets t ≡ n → Dec (carets t ≤ carets_of f) → carets t ≡ carets_of f
      go n e (yes c) = omega (arith, c, pair_least f t s p)
      go zero e (no c) = absurd (omega arith)
      go (suc n) e (no c) = absurd (h (more n e (omega arith)))

-- No redundant caret just when the form is reduced and the pair is the smallest.
pub no_redundant : (f : Form) (t s : Tree) → Pair f t s
    → (Redundant t s → ⊥) ↔ (Reduced f × SmallestPair f t s)
no_redundant f t s p = (
  (λ h. (pair_reduced f t s p h, carets_smallest f t s p (pair_smallest f t s p h))),
  λ h. none_redundant f t s p h.0 (smallest_carets f t s h.1),
)

-- The pair of a reduced form has no redundant caret.
pub reduced_pair : (f : Form) → Reduced f → Redundant (minus_tree f) (plus_tree f) → ⊥
reduced_pair f r = none_redundant f (minus_tree f) (plus_tree f) (pair_of f) r (pair_carets f).0
