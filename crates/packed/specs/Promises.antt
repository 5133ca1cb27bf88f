-- The contracts of the calls on packed shapes (02, [6]). Refusal 15 comes before 7; both have place 0, and leave what
-- is lent as it was.
--     packing, growing      the shape whose numbers and summary a call leaves, or its refusal
--     unpacking             the bytes that are written, or the refusal; they are placed by `Placed` of refusals
--     asked xs ys k         the shape, where it is one and has a node k
--     Repacked o xs ys xs' ys' r   pack_shape and grow_caret        AnswersNode value xs ys k o   the two questions
-- Assumes nothing.
use Rattle.std.specs.Prelude.{◌≡◌, cond, List, ℕ, length, ltb, Result}
use Rattle.refusals.specs.declared.Refusal.{Refusal}
use Rattle.lists.specs.Tables.{filled}
use Rattle.refusals.specs.Outcomes.{Outcome, accepted, refused, after, valued, then, reply_of}
use Rattle.refusals.specs.Placing.{fitting}
use Rattle.bitrows.specs.Numbers.{number_at, numbers_of_value}
use Rattle.packed.specs.Packing.{summary_at, tree_shape, packed_shape}
use Rattle.packed.specs.Growing.{grown_shape}

-- Room for the numbers and for the summary of a shape, or refusal 7.
abbrev pub room_for : (s numbers summary : List ℕ) → Outcome (List ℕ)
room_for s numbers summary =
    then (fitting (numbers_of_value (length s)) s numbers) (λ s. fitting (numbers_of_value (length s)) s summary)

-- The shape that is packed.
abbrev pub packing : (shape numbers summary : List ℕ) → Outcome (List ℕ)
packing shape numbers summary = then (tree_shape shape) (λ s. room_for s numbers summary)

-- The shape that is unpacked.
abbrev pub unpacking : (numbers summary shape : List ℕ) → Outcome (List ℕ)
unpacking numbers summary shape = then (packed_shape numbers summary) (λ s. fitting (length s) s shape)

-- The shape with a caret grown at a leaf.
abbrev pub growing : (numbers summary : List ℕ) (leaf : ℕ) → Outcome (List ℕ)
growing numbers summary leaf =
    then (packed_shape numbers summary) (λ s. then (grown_shape s leaf) (λ g. room_for g numbers summary))

-- The shape that a node is asked of, which has this node.
abbrev pub asked : (numbers summary : List ℕ) (node : ℕ) → Outcome (List ℕ)
asked numbers summary node =
    then (packed_shape numbers summary) (λ s. cond (ltb node (length s)) (accepted s) (refused 15 0))

-- The numbers and the summary of the shape stand at the front of what was lent, and the numbers used are counted in the
-- answer; everything behind them is unchanged, and on a refusal everything is.
pub record Repacked (o : Outcome (List ℕ)) (numbers summary numbers' summary' : List ℕ)
    (r : Result ℕ Refusal) : Type 0 where
  pub result : reply_of r ≡ valued (λ s. numbers_of_value (length s)) o
  pub numbers_left : numbers' ≡ after o numbers (λ s. filled (numbers_of_value (length s)) (number_at s) numbers)
  pub summary_left : summary' ≡ after o summary (λ s. filled (numbers_of_value (length s)) (summary_at s) summary)

-- The answer to a question about a node is a number that the byte shape defines.
pub record AnswersNode (value : List ℕ → ℕ) (numbers summary : List ℕ) (node : ℕ) (o : Outcome ℕ) : Type 0 where
  pub result : o ≡ valued value (asked numbers summary node)
