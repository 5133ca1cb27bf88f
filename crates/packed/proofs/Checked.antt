-- What the answer of `check` says: the tree whose numbers and summary these are, or that there is none.
--     Checked xs ys n      n nodes of the numbers xs are the shape of a tree, packed with the summary ys
--     checked_is           the check counted n nodes
--     Repacked answers: repacked_refused, repacked_filled
-- Assumes nothing.
use mathlib.Core.Path.{◌≡◌, sym, ap, subst, ◌∙◌}
use mathlib.Core.List.{List}
use Prim.Native.Nat.{ℕ, ◌≤◌}
use native.Mathlib.Omega.{arith}
use lib.ListN.{length, length-take}
use Rattle.std.specs.Prelude.{Result}
use Rattle.refusals.specs.declared.Refusal.{Refusal}
use Rattle.lists.specs.Tables.{filled}
use Rattle.refusals.specs.Outcomes.{Outcome, accepted, refused, after, valued, reply_of}
use Rattle.refusals.proofs.Outcomes.{valued_accepted}
use Rattle.trees.specs.Trees.{Tree, carets}
use Rattle.trees.specs.Pairs.{max_carets}
use Rattle.trees.specs.Shapes.{shape, shape_size}
use Rattle.trees.proofs.Shapes.{shape-length}
use Rattle.bitrows.specs.Numbers.{number_at, numbers_of_value, nodes_in}
use Rattle.bitrows.specs.inside.Nodes.{Nodes}
use Rattle.bitrows.proofs.NodeLists.{nodes-length}
use Rattle.packed.specs.Packing.{summary_at, Packs, packed_shape}
use Rattle.packed.specs.Promises.{Repacked}
use Rattle.packed.specs.inside.Steps.{shape_of, Held}
use Rattle.packed.proofs.Trees.{shape-nodes}
use Rattle.packed.proofs.Reading.{packed_tree, nodes_numbers}

-- The numbers and the summary are those of a tree within the bound, which has n nodes.
pub record Checked (numbers summary : List ℕ) (n : ℕ) : Type 0 where
  pub tree : Tree
  pub few : carets tree ≤ max_carets
  pub nodes : n ≡ shape_size (carets tree)
  pub is_shape : shape tree ≡ shape_of numbers n
  pub read : packed_shape numbers summary ≡ accepted (shape_of numbers n)
  pub held : Held numbers summary n

-- The check counted its nodes.
pub checked_is : (numbers summary : List ℕ) (n : ℕ) → accepted n ≡ valued length (packed_shape numbers summary)
    → Checked numbers summary n
checked_is numbers summary n e =
    let a = valued_accepted length (packed_shape numbers summary) n (sym e) in
    go a.0 a.1 a.2 (packed_tree numbers summary a.0 a.1)
  where
    go : (s : List ℕ) → packed_shape numbers summary ≡ accepted s → length s ≡ n
        → (t : Tree) × (carets t ≤ max_carets) × (shape t ≡ s) × Packs s numbers summary → Checked numbers summary n
    go s f l (t, few, q, p) =
        let same : s ≡ shape_of numbers n =
        sym (nodes_numbers s numbers (subst Nodes q (shape-nodes t)) p.holds_numbers) ∙ ap (shape_of numbers) l in
        let size : n ≡ shape_size (carets t) = sym l ∙ ap length (sym q) ∙ shape-length t in
        record {
          tree = t;
          few = few;
          nodes = size;
          is_shape = q ∙ same;
          read = f ∙ ap accepted same;
          held = record {
            within = record {
              some = omega (arith, size);
              there = omega (arith, l, ap length same, length-take n (nodes_in numbers), nodes-length numbers);
              small = omega (arith, size, few);
            };
            packs = subst (λ (u : List ℕ). Packs u numbers summary) same p;
          };
        }

-- The numbers that the answer counts, by the outcome.
abbrev counting : Outcome (List ℕ) → Outcome ℕ
counting o = valued (λ s. numbers_of_value (length s)) o

-- What is left of a table, by the outcome.
abbrev leaving : (List ℕ → ℕ → ℕ) → List ℕ → Outcome (List ℕ) → List ℕ
leaving f t o = after o t (λ s. filled (numbers_of_value (length s)) (f s) t)

module _ {o : Outcome (List ℕ)} {numbers summary : List ℕ} (r : Result ℕ Refusal) where
  -- A refusal, and nothing is written.
  pub repacked_refused : {n p : ℕ} → o ≡ refused n p → reply_of r ≡ refused n p
      → Repacked o numbers summary numbers summary r
  repacked_refused h e = record {
    result = e ∙ sym (ap counting h);
    numbers_left = sym (ap (leaving number_at numbers) h);
    summary_left = sym (ap (leaving summary_at summary) h);
  }

  -- A shape whose numbers and summary were put.
  pub repacked_filled : {s numbers' summary' : List ℕ} → o ≡ accepted s
      → reply_of r ≡ accepted (numbers_of_value (length s))
      → numbers' ≡ filled (numbers_of_value (length s)) (number_at s) numbers
      → summary' ≡ filled (numbers_of_value (length s)) (summary_at s) summary
      → Repacked o numbers summary numbers' summary' r
  repacked_filled h e f g = record {
    result = e ∙ sym (ap counting h);
    numbers_left = f ∙ sym (ap (leaving number_at numbers) h);
    summary_left = g ∙ sym (ap (leaving summary_at summary) h);
  }
