-- The shapes of a tree pair, written from two tables of exponents (01, 'What the desk can be asked').
--     nodes_from es o   the nodes from a leaf on         table_carets   the outcome of `count_carets`
--     WrotePair        the contract of `write_pair`
-- Assumes nothing.
use Rattle.std.specs.Prelude.{◌≡◌, cond, List, [], ◌∷◌, ◌++◌, ℕ, zero, suc, ◌+◌, length, replicate, ltb}
use Rattle.std.proofs.lemmas.List.Edits.{sets}
use Rattle.std.specs.Prelude.{Result, Ok, Err}
use Rattle.refusals.specs.declared.Failure.{Failure}
use Rattle.refusals.specs.declared.Failure.TheVariants.{Refused, Unfit}
use Rattle.refusals.specs.Outcomes.{Outcome, accepted, refused, after, then, refusal}
use Rattle.trees.specs.Building.{tree_of}
use Rattle.trees.specs.Pairs.{carets_of_sides, max_carets}
use Rattle.trees.specs.Shapes.{shape, shape_size}

-- The nodes from a leaf on, by the exponents of the leaves but the last, with `o` interior subtrees still to come: the
-- caret of the right side that begins there, where none is to come; the carets that begin at the leaf; the leaf.
unfoldable pub nodes_from : List ℕ → (o : ℕ) → List ℕ
nodes_from [] zero = 0 ∷ []
nodes_from [] (suc o) = 0 ∷ nodes_from [] o
nodes_from (e ∷ es) zero = 1 ∷ (replicate e 1 ++ (0 ∷ nodes_from es e))
nodes_from (e ∷ es) (suc o) = replicate e 1 ++ (0 ∷ nodes_from es (o + e))

-- The outcome of each answer: 0 is no number of the paper, and no call of the paper meets it.
abbrev pub pairing_of : Result ℕ Failure → Outcome ℕ
pairing_of (Ok n) = accepted n
pairing_of (Err (Refused r)) = refusal r
pairing_of (Err Unfit) = refused 0 0

-- The number of carets of two tables, whose exponents behind the last entry are 0; tables with more than `max_carets`
-- entries, or with more carets than a form within the limits has, are unfit.
abbrev pub table_carets : (b a : List ℕ) → Outcome ℕ
table_carets b a =
    cond (ltb max_carets (length b)) (refused 0 0)
    (cond (ltb max_carets (length a)) (refused 0 0)
    (cond (ltb max_carets (carets_of_sides b a)) (refused 0 0) (accepted (carets_of_sides b a))))

-- The same beside buffers of the lengths m and p: then 7.
abbrev pub pair_carets : (b a : List ℕ) (m p : ℕ) → Outcome ℕ
pair_carets b a m p =
    then (table_carets b a) (λ n.
    cond (ltb m (shape_size n)) (refused 7 0) (cond (ltb p (shape_size n)) (refused 7 0) (accepted n)))

-- A buffer at exit: the shape of the tree with the exponents at its front, everything beyond unchanged.
abbrev pub shape_after : Outcome ℕ → (es buffer : List ℕ) → List ℕ
shape_after o es buffer = after o buffer (λ n. sets buffer 0 (shape (tree_of n es)))

-- The shapes of the pair were written: T− has the exponents a, T+ the exponents b.
pub record WrotePair (b a minus plus minus' plus' : List ℕ) (r : Result ℕ Failure) : Type 0 where
  pub result : pairing_of r ≡ pair_carets b a (length minus) (length plus)
  pub t_minus : minus' ≡ shape_after (pair_carets b a (length minus) (length plus)) a minus
  pub t_plus : plus' ≡ shape_after (pair_carets b a (length minus) (length plus)) b plus
