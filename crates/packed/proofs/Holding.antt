-- What is known of a shape that is packed with its summary.
--     held-length, held-nodes      it has so many nodes
--     held_number, held_summary    its numbers and the entries of its summary, one by one
-- Assumes nothing.
use mathlib.Core.Path.{◌≡◌, sym, ap, ◌∙◌}
use mathlib.Core.List.{List}
use Prim.Native.Nat.{ℕ, ◌<◌}
use native.Mathlib.Omega.{arith}
use lib.ListN.{length, take, get_or}
use lib.Seq.{length-take-le, get_or-take}
use Rattle.lists.specs.Tables.{values}
use Rattle.lists.proofs.Tables.{values_at}
use Rattle.bitrows.specs.Numbers.{number_at, numbers_of_value, nodes_in}
use Rattle.bitrows.specs.inside.Nodes.{Nodes}
use Rattle.bitrows.proofs.Numbers.{take-nodes}
use Rattle.bitrows.proofs.NodeLists.{nodes-length, nodes-nodes}
use Rattle.packed.specs.Packing.{summary_at}
use Rattle.packed.specs.inside.Steps.{shape_of, Held}

-- So many nodes are there.
pub held-length : {numbers summary : List ℕ} {n : ℕ} → Held numbers summary n → length (shape_of numbers n) ≡ n
held-length {numbers} {summary} {n} h =
    length-take-le n (nodes_in numbers) (omega (arith, nodes-length numbers, h.within.there))

-- They are carets and leaves.
pub held-nodes : {numbers summary : List ℕ} {n : ℕ} → Held numbers summary n → Nodes (shape_of numbers n)
held-nodes {numbers} {summary} {n} h = take-nodes n (nodes_in numbers) (nodes-nodes numbers)

-- An entry of a table that begins with values.
entry_at : (m : ℕ) (f : ℕ → ℕ) (xs : List ℕ) (j : ℕ) → take m xs ≡ values m f → j < m → get_or xs j 0 ≡ f j
entry_at m f xs j e l =
    sym (get_or-take m xs j 0 l) ∙ ap (λ (ys : List ℕ). get_or ys j 0) e ∙ values_at m f j l

-- A number of the shape.
pub held_number : {numbers summary : List ℕ} {n : ℕ} → Held numbers summary n → (j : ℕ) → j < numbers_of_value n
    → get_or numbers j 0 ≡ number_at (shape_of numbers n) j
held_number {numbers} {summary} {n} h j l =
    entry_at (numbers_of_value (length (shape_of numbers n))) (number_at (shape_of numbers n)) numbers j
    h.packs.holds_numbers (omega (arith, held-length h))

-- An entry of its summary.
pub held_summary : {numbers summary : List ℕ} {n : ℕ} → Held numbers summary n → (j : ℕ) → j < numbers_of_value n
    → get_or summary j 0 ≡ summary_at (shape_of numbers n) j
held_summary {numbers} {summary} {n} h j l =
    entry_at (numbers_of_value (length (shape_of numbers n))) (summary_at (shape_of numbers n)) summary j
    h.packs.holds_summary (omega (arith, held-length h))
