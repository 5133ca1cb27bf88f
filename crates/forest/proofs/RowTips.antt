-- The tips of a row, read off: the tables get the exponents of the word's form, and all its levels are read.
-- Assumes nothing.
use mathlib.Core.Path.{◌≡◌, sym, ◌∙◌}
use mathlib.Core.List.{List}
use Prim.Native.Nat.{ℕ, suc, ◌+◌, ◌≤◌, ◌<◌}
use native.Mathlib.Omega.{arith}
use native.Mathlib.Decide.{dec_le}
use lib.ListN.{length}
use Rattle.lists.specs.Tables.{filled}
use Rattle.lists.proofs.Tables.{filled_same}
use Rattle.group.specs.Letters.{Word}
use Rattle.group.specs.Forms.{Side, exponent, levels}
use Rattle.group.specs.Products.{form_of}
use Rattle.group.proofs.Reduced.{form_trimmed}
use Rattle.group.proofs.Sizes.{form_index, trimmed_levels}
use Rattle.forest.specs.inside.Forest.{Bush, row_of_word, tip_at}
use Rattle.forest.specs.inside.Moves.{step_word, bushes_of, Piled}
use Rattle.forest.specs.inside.Leaves.{TipsReady}
use Rattle.forest.proofs.Irreducible.{row_irreducible, bushes_tips}
use Rattle.forest.proofs.ReadOff.{row_exponent}
use Rattle.forest.proofs.Running.{step_length}

-- What the read-off asks: the row has at most two tips more than the word has letters.
pub row_ready : {last : ℕ} {word lefts rights stack b a : List ℕ} {height : ℕ}
    → Piled last word lefts rights stack height
    → length word + 1 ≤ length b → length word + 1 ≤ length a
    → TipsReady last lefts rights stack height b a (length word + 1)
row_ready {last} {word} p f g =
    let w = step_word word in
    record {
      lefts_length = p.scratch.lefts_length;
      rights_length = p.scratch.rights_length;
      bushes = bushes_of word;
      stack_stands = p.stack_stands;
      few =
          omega (
            arith,
            bushes_tips (length w) (row_of_word w) (row_irreducible w),
            step_length word,
            p.scratch.word_length,
            p.scratch.stack_length,
          );
      b_long = f;
      a_long = g;
    }

-- A table filled by the row's tips is filled by the form's exponents.
pub row_table : (s : Side) (word t : List ℕ)
    → filled (length word + 1) (tip_at s (bushes_of word)) t
    ≡ filled (length word + 1) (exponent s (form_of (step_word word))) t
row_table s word t =
    filled_same (length word + 1) (tip_at s (bushes_of word)) (exponent s (form_of (step_word word))) t
    (λ i h. sym (row_exponent (step_word word) s i))

-- Where tips stand for the form of a word, those from n on up to `end` are zeros, and so is the form from `end` on: the
-- form has at most n levels.
pub tips-levels : (w : Word) (ts : List Bush) (n end : ℕ)
    → ((s : Side) (i : ℕ) → exponent s (form_of w) i ≡ tip_at s ts i)
    → ((s : Side) (i : ℕ) → n ≤ i → i < end → tip_at s ts i ≡ 0)
    → ((s : Side) (i : ℕ) → end ≤ i → exponent s (form_of w) i ≡ 0)
    → levels (form_of w) ≤ n
tips-levels w ts n end stand zeros beyond =
    trimmed_levels (form_of w) n (form_trimmed w) (λ s i h. go s i h (dec_le (suc i) end))
  where
    go : (s : Side) (i : ℕ) → n ≤ i → Dec (i < end) → exponent s (form_of w) i ≡ 0
    go s i h (yes c) = stand s i ∙ zeros s i h c
    go s i h (no c) = beyond s i (omega arith)

-- So it is of a word's row.
pub row_levels : (word : List ℕ) (n : ℕ)
    → ((s : Side) (i : ℕ) → n ≤ i → i < length word + 1 → tip_at s (bushes_of word) i ≡ 0)
    → levels (form_of (step_word word)) ≤ n
row_levels word n zeros =
    tips-levels (step_word word) (bushes_of word) n (length word + 1) (row_exponent (step_word word)) zeros
    (λ s i h. form_index (step_word word) s i (omega (arith, step_length word)))
