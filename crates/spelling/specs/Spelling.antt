-- The spelling of a form (01, 'What the desk can be asked'): "Write each x_k^e of the form, in order, through the
-- letters given above, then delete neighbouring inverse letters until none is left." The first part is `letters` of the
-- group's Forms, the second its FreeReduction.
--     Spells f w       w is such a word                      spelling f   the word; there is no other
--     runs f           the powers of index 1 and above, as runs
--     spelling_length f the number of letters of the word
-- Assumes nothing.
use Rattle.std.specs.Prelude.{List, ℕ}
use Rattle.group.specs.Letters.{Word}
use Rattle.group.specs.FreeReduction.{Deletions, FreelyReduced, freely}
use Rattle.group.specs.Forms.{b_side, a_side, Form, exponent, levels, letters}
use Rattle.spelling.specs.Runs.{Run, runs_up_to, letters_from}

-- The letters of the form's powers, in order; neighbouring inverse letters deleted; none left.
pub record Spells (f : Form) (w : Word) : Type 0 where
  pub deleted : Deletions (letters f) w
  pub none_left : FreelyReduced w

-- The spelling of a form.
abbrev pub spelling : Form → Word
spelling f = freely (letters f)

-- The powers of index 1 and above, in the form's order.
abbrev pub runs : Form → List Run
runs f = runs_up_to (levels f) (exponent b_side f) (exponent a_side f)

-- The number of its letters. With k_1, …, k_m the indices of the runs: their exponents, and |b_0 − (k_1 − 1)|, each
-- |k_j − k_(j+1)|, and |(k_m − 1) − a_0|; where there is no run, |b_0 − a_0|.
abbrev pub spelling_length : Form → ℕ
spelling_length f = letters_from (exponent b_side f 0) (runs f) (exponent a_side f 0)
