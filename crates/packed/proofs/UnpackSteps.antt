-- The steps of unpacking: which node is read, how the nodes are written, and what was read of packed shapes.
--     nodes_at               a node of the numbers, by its number and its place there
--     Unpacking xs l₀ l i    i nodes of the numbers xs are written
--     Unpacked xs ys n       n nodes of the numbers xs are read
--     check-accepted, check_refused   what the answer of `check` says
-- Assumes nothing.
use mathlib.Core.Path.{◌≡◌, refl, sym, ap, ◌∙◌}
use mathlib.Core.List.{List, [], ◌∷◌}
use Prim.Native.Nat.{ℕ, suc, ◌+◌, ◌*◌, ◌/◌, ◌%◌, ◌^◌, ◌<◌}
use native.Mathlib.Nat.{add-zero}
use native.Mathlib.Omega.{arith}
use lib.ListN.{length, take, drop, get_or, set, length-take}
use lib.Seq.{sets, length-sets, take-suc, get_or-take, get_or-drop}
use Rattle.lists.specs.inside.Writes.{Wrote}
use Rattle.lists.proofs.Writes.{sets-append}
use Rattle.refusals.specs.Outcomes.{Outcome, refused, valued, then}
use Rattle.refusals.specs.Placing.{fitting}
use Rattle.refusals.proofs.Outcomes.{valued_refused}
use Rattle.trees.specs.Shapes.{shape}
use Rattle.bitrows.specs.Numbers.{nodes_in}
use Rattle.bitrows.proofs.NodeLists.{nodes-length}
use Rattle.bitrows.proofs.Leaving.{nodes_part}
use Rattle.packed.specs.Packing.{packed_shape}
use Rattle.packed.specs.Promises.{unpacking}
use Rattle.packed.specs.inside.Steps.{shape_of}
use Rattle.packed.proofs.Holding.{held-length}
use Rattle.packed.proofs.Checked.{Checked}

-- A node of the numbers.
pub nodes_at : (xs : List ℕ) (i : ℕ) → i < 64 * length xs
    → get_or xs (i / 64) 0 / 2 ^ (i % 64) % 2 ≡ get_or (nodes_in xs) i 0
nodes_at xs i h =
    let rest : List ℕ = drop i (nodes_in xs) in
    sym (ap (λ (l : List ℕ). get_or l 0 0) (nodes_part xs i 1 (omega arith) (omega arith)))
    ∙ get_or-take 1 rest 0 0 (omega arith)
    ∙ get_or-drop i (nodes_in xs) 0 0
    ∙ ap (λ (k : ℕ). get_or (nodes_in xs) k 0) (add-zero i)

-- Amid the writing of nodes.
pub record Unpacking (xs shape₀ shape : List ℕ) (i : ℕ) : Type 0 where
  pub holds : shape ≡ sets shape₀ 0 (shape_of xs i)
  pub same_length : length shape ≡ length shape₀

-- No node is written.
pub unpacking_start : (xs shape : List ℕ) → Unpacking xs shape shape 0
unpacking_start xs shape = record { holds = refl; same_length = refl }

-- One entry more of a list that is written.
sets_more : (l xs : List ℕ) (i : ℕ) → i < length xs
    → set (sets l 0 (take i xs)) i (get_or xs i 0) ≡ sets l 0 (take (i + 1) xs)
sets_more l xs i h =
    let at : i ≡ 0 + length (take i xs) = omega (arith, length-take i xs) in
    let next : suc i ≡ i + 1 = omega arith in
    ap (λ (k : ℕ). set (sets l 0 (take i xs)) k (get_or xs i 0)) at
    ∙ sets-append (take i xs) l 0 (get_or xs i 0 ∷ [])
    ∙ ap (sets l 0) (sym (take-suc xs i 0 h) ∙ ap (λ (k : ℕ). take k xs) next)

-- One node more.
pub unpacking_more : {xs shape₀ shape : List ℕ} {i : ℕ} (x : ℕ) → Unpacking xs shape₀ shape i → i < 64 * length xs
    → x ≡ get_or (nodes_in xs) i 0 → Unpacking xs shape₀ (set shape i x) (i + 1)
unpacking_more {xs} {shape₀} {shape} {i} x a h e =
    let left : set shape i x ≡ sets shape₀ 0 (shape_of xs (i + 1)) =
    ap (λ (l : List ℕ). set l i x) a.holds
    ∙ ap (set (sets shape₀ 0 (shape_of xs i)) i) e
    ∙ sets_more shape₀ (nodes_in xs) i (omega (arith, h, nodes-length xs)) in
    record { holds = left; same_length = ap length left ∙ length-sets shape₀ 0 (shape_of xs (i + 1)) }

-- All nodes are written.
pub unpacking_done : {xs shape₀ shape : List ℕ} {i n : ℕ} → Unpacking xs shape₀ shape i → i ≡ n
    → shape ≡ sets shape₀ 0 (shape_of xs n)
unpacking_done {xs} {shape₀} {shape} {i} {n} a e = a.holds ∙ ap (λ (k : ℕ). sets shape₀ 0 (shape_of xs k)) e

-- What is written, by what was read.
pub unpacked_fits : {numbers summary : List ℕ} {n : ℕ} (shape : List ℕ) → Checked numbers summary n
    → unpacking numbers summary shape ≡ fitting n (shape_of numbers n) shape
unpacked_fits {numbers} {summary} {n} shape a =
    ap (λ (o : Outcome (List ℕ)). then o (λ s. fitting (length s) s shape)) a.read
    ∙ ap (λ (k : ℕ). fitting k (shape_of numbers n) shape) (held-length a.held)

-- What was written.
pub unpacked_wrote : {numbers summary shape shape' : List ℕ} {n : ℕ} → Checked numbers summary n
    → shape' ≡ sets shape 0 (shape_of numbers n) → Wrote (shape_of numbers n) shape 0 shape' n
unpacked_wrote a e = record { ends = omega (arith, held-length a.held); holds = e }

-- A refusal of `check` stands.
pub check_refused : (numbers summary shape : List ℕ) (number place : ℕ)
    → refused number place ≡ valued length (packed_shape numbers summary)
    → unpacking numbers summary shape ≡ refused number place
check_refused numbers summary shape number place e =
    ap (λ (o : Outcome (List ℕ)). then o (λ s. fitting (length s) s shape))
    (valued_refused length (packed_shape numbers summary) number place (sym e))
