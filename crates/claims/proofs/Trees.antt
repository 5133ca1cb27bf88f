-- The claims of specs/Trees.antt, proved. Assumes nothing.
use mathlib.Core.Path.{◌≡◌, refl, sym, ap₂, ◌∙◌}
use mathlib.Core.List.{List}
use mathlib.Core.Logic.{◌↔◌}
use Prim.Native.Nat.{ℕ, suc, ◌<◌}
use native.Mathlib.Numerals.{add-one}
use native.Mathlib.Omega.{arith}
use native.Mathlib.Decide.{dec_lt}
use lib.ListN.{get_or, get_or-eq_default}
use Rattle.lists.specs.Entries.{At}
use Rattle.lists.specs.inside.Entries.{SameEntries}
use Rattle.lists.proofs.Entries.{at_same_list}
use Rattle.group.specs.Forms.{Side, b_side, a_side, on_side, exponent, exponents}
use Rattle.group.specs.Limits.{limit}
use Rattle.group.proofs.Exponents.{exponents_at}
use Rattle.group.specs.UpTo.{form_up_to}
use Rattle.group.proofs.UpTo.{up_to_below, up_to_behind}
use Rattle.trees.specs.Trees.{Tree, carets}
use Rattle.trees.specs.Readings.{exponents_of}
use Rattle.trees.proofs.Exponents.{exponents-length, side_exponents}
use Rattle.trees.proofs.Leaves.{leaves-length}
use Rattle.trees.proofs.Carets as Carets
use Rattle.trees.proofs.Pairs.{smallest_pair, pair_carets, only_pair, empty_pair, carets-limit}
use Rattle.trees.proofs.Redundant as Redundant
use Rattle.trees.proofs.Sending.{pair_sends, in_leaf}
use Rattle.trees.proofs.Shapes.{shape-length, shape_injective}
use Rattle.trees.proofs.Subtrees.{subtree_nodes}
use Rattle.trees.proofs.SubtreeEnds.{subtree_end_lem}
use Rattle.lengths.specs.Kinds.{Kind, IsKind, kinds}
use Rattle.lengths.specs.Weights.{weights}
use Rattle.lengths.proofs.CaretKinds.{kind_at, one_kind, first_kind}
use Rattle.lengths.proofs.ConstantTable.{table_symmetric}
use Rattle.lengths.proofs.Weights.{weight_symmetric}
use Rattle.claims.specs.Trees.{LeavesAndCarets, PairOfForm, NoRedundantCaret, PairIsMap, ShapesOfTrees}
use Rattle.claims.specs.Trees.{EveryPairIsForm, KindsOfCarets, SymmetricWeights, LengthIsSum}

pub leaves-and-carets : LeavesAndCarets
leaves-and-carets = record {
  leaves_numbered = leaves-length;
  carets_numbered = Carets.carets_numbered;
  between = Carets.caret_between;
}

pub pair_of_form : PairOfForm
pair_of_form = record {
  smallest = smallest_pair;
  number = pair_carets;
  only = only_pair;
  of_empty = empty_pair;
  most = λ f h k. carets-limit limit f (rw (sym (add-one limit)) h) k;
}

-- The entries of a tree with n carets are those of a side of the form that is made of them.
entries_side : (n : ℕ) (b a : ℕ → ℕ) (x : Side) (t : Tree) → carets t ≡ n
    → ((i : ℕ) → on_side x (b i) (a i) ≡ get_or (exponents_of t) i 0)
    → SameEntries (exponents_of t) (exponents x (form_up_to (suc n) b a))
entries_side n b a x t size h i = go (dec_lt i (suc n)) ∙ sym (exponents_at x (form_up_to (suc n) b a) i)
  where
    go : Dec (i < suc n) → get_or (exponents_of t) i 0 ≡ exponent x (form_up_to (suc n) b a) i
    go (yes p) = sym (up_to_below (suc n) b a x i p ∙ h i)
    go (no p) =
        get_or-eq_default (exponents_of t) 0 (omega (arith, exponents-length t))
        ∙ sym (up_to_behind (suc n) b a x i (omega arith))

pub every_pair_is_form : EveryPairIsForm
every_pair_is_form t s same =
    let b : ℕ → ℕ = λ i. get_or (exponents_of s) i 0 in
    let a : ℕ → ℕ = λ i. get_or (exponents_of t) i 0 in
    let f = form_up_to (suc (carets t)) b a in (
      f,
      record {
        same_size = same;
        a_exponents = side_exponents a_side f t (entries_side (carets t) b a a_side t refl (λ i. refl));
        b_exponents = side_exponents b_side f s (entries_side (carets t) b a b_side s (sym same) (λ i. refl));
      },
    )

pub no_redundant_caret : NoRedundantCaret
no_redundant_caret = Redundant.no_redundant

pub pair_is_map : PairIsMap
pair_is_map = record { sends = pair_sends; covers = in_leaf }

pub shapes_of_trees : ShapesOfTrees
shapes_of_trees = record {
  bytes = shape-length;
  determines = shape_injective;
  ends = λ t k u x n s j. rw (subtree_end_lem t k u x n s).0 (subtree_nodes t k u x n s j);
}

pub kinds_of_carets : KindsOfCarets
kinds_of_carets = record { one = one_kind; first = first_kind }

pub symmetric_weights : SymmetricWeights
symmetric_weights = record { of_first = refl; symmetric = weight_symmetric; constant = table_symmetric }

pub length_is_sum : LengthIsSum
length_is_sum t s xs ys hx hy =
    ap₂ weights (same t xs hx) (same s ys hy)
  where
    same : (u : Tree) (zs : List Kind) → ((k : ℕ) (x : Kind) → At zs k x ↔ IsKind u k x) → kinds u ≡ zs
    same u zs h =
        at_same_list (kinds u) zs
        (λ k x. ((λ a. (h k x).1 ((kind_at u k x).1 a)), λ a. (kind_at u k x).0 ((h k x).0 a)))
