-- The contracts of the three calls on every input (01, 'What the desk can be asked', 'Who caused the refusal'; 02,
-- [5]): refusals 3, 4 and 5 of the record, then 7.
--     paired_in s m p   the form of the bytes s, beside buffers of the lengths m and p, or what is refused
--     Paired           the contract of `record_to_tree_pair`
--     label_sum f       the sum of 001, Table 1, of a form
--     Measured         the contract of `record_to_length`, with `form_length`, and of `record_to_label_length`, with
--                      `label_sum`
-- Assumes nothing.
use Rattle.std.specs.Prelude.{◌≡◌, cond, List, ℕ, length, ltb, Result}
use Rattle.std.proofs.lemmas.List.Edits.{sets}
use Rattle.refusals.specs.declared.Refusal.{Refusal}
use Rattle.group.specs.Forms.{Form}
use Rattle.refusals.specs.Outcomes.{Outcome, accepted, refused, after, then, valued, reply_of}
use Rattle.records.specs.Reading.{decode}
use Rattle.fields.specs.Fields.{Bytes}
use Rattle.trees.specs.Trees.{Tree}
use Rattle.trees.specs.Pairs.{carets_of, minus_tree, plus_tree}
use Rattle.trees.specs.Shapes.{shape, shape_size}
use Rattle.geodesics.specs.Table1.{label_length}

-- The form of a record, beside buffers of the lengths m and p: both need room for a shape of N carets.
abbrev pub paired_in : (s : List ℕ) (m p : ℕ) → Outcome Form
paired_in s m p =
    then (decode s) (λ f.
    cond (ltb m (shape_size (carets_of f))) (refused 7 0)
    (cond (ltb p (shape_size (carets_of f))) (refused 7 0) (accepted f)))

-- A buffer at exit: the shape of a tree of the pair at its front, everything beyond unchanged.
abbrev pub tree_after : (Form → Tree) → Outcome Form → List ℕ → List ℕ
tree_after tree o buffer = after o buffer (λ f. sets buffer 0 (shape (tree f)))

-- N, and the shapes of T− and T+ at the front of the first and the second buffer. What is lent as a record are bytes.
pub record Paired (s minus plus minus' plus' : List ℕ) (r : Result ℕ Refusal) : Type 0 where
  pub are_bytes : Bytes s
  pub result : reply_of r ≡ valued carets_of (paired_in s (length minus) (length plus))
  pub t_minus : minus' ≡ tree_after minus_tree (paired_in s (length minus) (length plus)) minus
  pub t_plus : plus' ≡ tree_after plus_tree (paired_in s (length minus) (length plus)) plus

-- The sum of Table 1 over the labels of the form's smallest pair.
abbrev pub label_sum : Form → ℕ
label_sum f = label_length (minus_tree f) (plus_tree f)

-- The count of the record's form, or its refusal. What is lent as a record are bytes.
pub record Measured (count : Form → ℕ) (s : List ℕ) (r : Result ℕ Refusal) : Type 0 where
  pub are_bytes : Bytes s
  pub result : reply_of r ≡ valued count (decode s)
