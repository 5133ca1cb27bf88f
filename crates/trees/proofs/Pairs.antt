-- The pair of trees of a form: it has the form's exponents, no such pair has fewer carets, it is the only one of its
-- size, and it has at most 2l + 1 carets for a form within the limit l (01, 'The tree pair and the length'; 000,
-- section 2.5.1). Assumes nothing.
use mathlib.Core.Path.{◌≡◌, refl, sym, ◌∙◌, ap, ◌≡⟨◌⟩◌, ◌∎}
use mathlib.Core.List.{List}
use Prim.Native.Nat.{ℕ, suc, ◌+◌, ◌*◌, ◌≤◌}
use native.Mathlib.Omega.{arith}
use lib.ListN.{length}
use Rattle.lists.specs.Entries.{total}
use Rattle.group.specs.Forms.{Side, b_side, a_side, Form, empty, level, exponents, levels, exponent_sum}
use Rattle.trees.specs.Trees.{Tree, leaf, carets}
use Rattle.trees.specs.Building.{needed, tree_of}
use Rattle.trees.specs.Pairs.{carets_of, minus_tree, plus_tree, Pair, SmallestPair}
use Rattle.trees.proofs.Exponents.{side_entries, side_exponents}
use Rattle.trees.proofs.Rows.{tree_unique}
use Rattle.trees.proofs.Needed.{needed_bound}
use Rattle.trees.proofs.Built.{tree_carets, tree_exponents, tree_least}

-- N is at least what each side needs, and at most what is enough for both.
pub a_needed : (f : Form) → needed 0 (exponents a_side f) ≤ carets_of f
a_needed f = omega arith

pub b_needed : (f : Form) → needed 0 (exponents b_side f) ≤ carets_of f
b_needed f = omega arith

pub both-needed : (f : Form) (n : ℕ) → needed 0 (exponents b_side f) ≤ n → needed 0 (exponents a_side f) ≤ n
    → carets_of f ≤ n
both-needed f n h k = omega arith

-- T− and T+ have N carets.
pub pair_carets : (f : Form) → (carets (minus_tree f) ≡ carets_of f) × (carets (plus_tree f) ≡ carets_of f)
pair_carets f = (
  tree_carets (carets_of f) (exponents a_side f) (a_needed f),
  tree_carets (carets_of f) (exponents b_side f) (b_needed f),
)

-- They are a pair with the form's exponents.
pub pair_of : (f : Form) → Pair f (minus_tree f) (plus_tree f)
pair_of f = record {
  same_size = (pair_carets f).0 ∙ sym (pair_carets f).1;
  a_exponents =
      side_exponents a_side f (minus_tree f) (tree_exponents (carets_of f) (exponents a_side f) (a_needed f));
  b_exponents = side_exponents b_side f (plus_tree f) (tree_exponents (carets_of f) (exponents b_side f) (b_needed f));
}

-- No pair has fewer carets.
pub pair_least : (f : Form) (t s : Tree) → Pair f t s → carets_of f ≤ carets t
pair_least f t s p =
    both-needed f (carets t)
    (omega (arith, p.same_size, tree_least s (exponents b_side f) (side_entries b_side f s p.b_exponents)))
    (tree_least t (exponents a_side f) (side_entries a_side f t p.a_exponents))

-- It is a smallest pair.
pub smallest_pair : (f : Form) → SmallestPair f (minus_tree f) (plus_tree f)
smallest_pair f = record {
  pair = pair_of f;
  smallest = λ t s p. omega (arith, (pair_carets f).0, pair_least f t s p);
}

-- A smallest pair has N carets.
pub smallest_carets : (f : Form) (t s : Tree) → SmallestPair f t s → carets t ≡ carets_of f
smallest_carets f t s p =
    omega (
      arith,
      pair_least f t s p.pair,
      p.smallest (minus_tree f) (plus_tree f) (pair_of f),
      (pair_carets f).0,
    )

-- A pair with N carets is a smallest pair.
pub carets_smallest : (f : Form) (t s : Tree) → Pair f t s → carets t ≡ carets_of f → SmallestPair f t s
carets_smallest f t s p e = record { pair = p; smallest = λ u v q. omega (arith, pair_least f u v q) }

-- It is the only one.
pub only_pair : (f : Form) (t s : Tree) → SmallestPair f t s → (t ≡ minus_tree f) × (s ≡ plus_tree f)
only_pair f t s p = (minus_is, plus_is)
  where
    size : carets t ≡ carets_of f
    size = smallest_carets f t s p

    minus_is : t ≡ minus_tree f
    minus_is =
        let es : List ℕ = exponents a_side f in
        t ≡⟨ tree_unique t es (side_entries a_side f t p.pair.a_exponents) ⟩
        tree_of (carets t) es ≡⟨ ap (λ (n : ℕ). tree_of n es) size ⟩
        minus_tree f ∎

    plus_is : s ≡ plus_tree f
    plus_is =
        let es : List ℕ = exponents b_side f in
        s ≡⟨ tree_unique s es (side_entries b_side f s p.pair.b_exponents) ⟩
        tree_of (carets s) es ≡⟨ ap (λ (n : ℕ). tree_of n es) (sym p.pair.same_size) ⟩
        tree_of (carets t) es ≡⟨ ap (λ (n : ℕ). tree_of n es) size ⟩
        plus_tree f ∎

-- The pair of the empty form is two leaves.
pub empty_pair : (minus_tree empty ≡ leaf) × (plus_tree empty ≡ leaf)
empty_pair = (refl, refl)

-- A side has one exponent for each level, and those of both sides sum to the form's.
side_length : (s : Side) (f : Form) → length (exponents s f) ≡ levels f
side_length s empty = refl
side_length s (level b a f) = ap suc (side_length s f)

pub sides_total : (f : Form) → total (exponents b_side f) + total (exponents a_side f) ≡ exponent_sum f
sides_total empty = refl
sides_total (level b a f) = omega (arith, sides_total f)

side_total : (s : Side) (f : Form) → total (exponents s f) ≤ exponent_sum f
side_total b_side f = omega (arith, sides_total f)
side_total a_side f = omega (arith, sides_total f)

-- At most 2l + 1 carets, where no index is above l and the exponents sum to at most l.
pub carets-limit : (l : ℕ) (f : Form) → levels f ≤ suc l → exponent_sum f ≤ l → carets_of f ≤ 2 * l + 1
carets-limit l f h k = both-needed f (2 * l + 1) (go b_side) (go a_side)
  where
    go : (s : Side) → needed 0 (exponents s f) ≤ 2 * l + 1
    go s = omega (arith, needed_bound (exponents s f), side_length s f, side_total s f)
