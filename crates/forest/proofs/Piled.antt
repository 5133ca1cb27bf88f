-- The row of a word, all its bushes on the stack: what the read-off starts with. Assumes nothing.
use mathlib.Core.Path.{◌≡◌}
use mathlib.Core.List.{List}
use Prim.Native.Nat.{ℕ, ◌≤◌}
use native.Mathlib.Omega.{arith}
use lib.ListN.{length}
use Rattle.forest.specs.declared.row.State.{State}
use Rattle.forest.specs.inside.Filling.{cells_for}
use Rattle.forest.specs.inside.Forest.{put_bush, Row, row, row_bushes, row_of_word}
use Rattle.forest.specs.inside.Cells.{StackStands, Pushed}
use Rattle.forest.specs.inside.Moves.{step_word, Held, Piled}
use Rattle.forest.proofs.Irreducible.{IrreducibleRow, row_irreducible}
use Rattle.forest.proofs.Counting.{tips_some}
use Rattle.forest.proofs.Stored.{stack_more, stack_height}
use Rattle.forest.proofs.Running.{step_length, Ended}

row_height : (last n : ℕ) (r : Row) (lefts rights stack : List ℕ) (s : State) → IrreducibleRow n r
    → Held last lefts rights stack s r → s.height ≤ n
row_height last n (row x y ts) lefts rights stack s i (h, k, t) =
    omega (arith, i.3, stack_height last lefts rights s.used ts stack s.height t, tips_some x, tips_some y)

pub low_height : {last : ℕ} {word lefts rights stack : List ℕ} {s : State} → Ended last word lefts rights stack s
    → s.height ≤ last
low_height {last} {word} {lefts} {rights} {stack} {s} e =
    let w = step_word word in
    omega (
      arith,
      row_height last (length w) (row_of_word w) lefts rights stack s (row_irreducible w) e.held,
      step_length word,
      e.scratch.word_length,
    )

row_piled : (last : ℕ) (r : Row) (lefts rights stack stack' stack'' : List ℕ) (s : State) (low height : ℕ)
    → s.used ≤ (cells_for last)
    → Held last lefts rights stack s r → Pushed stack s.height s.second stack' low
    → Pushed stack' low s.first stack'' height
    → StackStands last lefts rights (cells_for last) (row_bushes r) stack'' height
row_piled last (row x y ts) lefts rights stack stack' stack'' s low height u (h, k, t) p q =
    stack_more last lefts rights s.used (cells_for last) (put_bush x (put_bush y ts)) stack'' height u
    (q.puts last lefts rights s.used x (put_bush y ts) h (p.puts last lefts rights s.used y ts k t))

-- With the state's two bushes put onto it, the stack has the whole row.
pub ended_piled : {last : ℕ} {word lefts rights stack stack' stack'' : List ℕ} {s : State} {low height : ℕ}
    → Ended last word lefts rights stack s → length stack' ≡ length stack → length stack'' ≡ length stack'
    → Pushed stack s.height s.second stack' low → Pushed stack' low s.first stack'' height
    → Piled last word lefts rights stack'' height
ended_piled {last} {word} {lefts} {rights} {stack} {stack'} {stack''} {s} {low} {height} e f g p q = record {
  scratch = record {
    last_low = e.scratch.last_low;
    word_length = e.scratch.word_length;
    lefts_length = e.scratch.lefts_length;
    rights_length = e.scratch.rights_length;
    stack_length = omega (arith, e.scratch.stack_length);
  };
  stack_stands =
      row_piled last (row_of_word (step_word word)) lefts rights stack stack' stack'' s low height e.used_high
      e.held p q;
}
