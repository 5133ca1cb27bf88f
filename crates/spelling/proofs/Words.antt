-- The spelling of a form is the only word that 01 can mean, and that of a reduced form is the word of its runs (01,
-- 'What the desk can be asked', record to word). Assumes nothing.
use mathlib.Core.Path.{◌≡◌, ◌∙◌, ap}
use lib.ListN.{length}
use Rattle.group.specs.Letters.{Word}
use Rattle.group.specs.Forms.{b_side, a_side, Form, exponent, letters}
use Rattle.group.specs.Reducing.{Reduced}
use Rattle.group.proofs.FreeWords.{freely_same}
use Rattle.group.proofs.Deletions.{no_pairs_reduced, freely_reduced, freely_deletions, freely_fixed, deletions_end}
use Rattle.spelling.specs.Spelling.{Spells, spelling, runs, spelling_length}
use Rattle.spelling.specs.inside.RunLetters.{run_spelling}
use Rattle.spelling.proofs.Lengths.{spelt-length}
use Rattle.spelling.proofs.Powers.{letters-runs}
use Rattle.spelling.proofs.Parted.{runs_parted}
use Rattle.spelling.proofs.NoPairs.{spelt_no_pairs}

-- Deletions lead from the letters of a form to its spelling, and none are left.
pub spells : (f : Form) → Spells f (spelling f)
spells f = record { deleted = freely_deletions (letters f); none_left = freely_reduced (letters f) }

-- There is no other such word.
pub spells_only : (f : Form) (w : Word) → Spells f w → w ≡ spelling f
spells_only f w s = deletions_end (letters f) w s.deleted s.none_left

-- The spelling of a reduced form, run by run.
pub spelling-runs : (f : Form) → Reduced f → spelling f ≡ run_spelling f
spelling-runs f r =
    freely_same (letters-runs f)
    ∙ freely_fixed (run_spelling f)
    (no_pairs_reduced (run_spelling f)
    (spelt_no_pairs (runs_parted f r) (exponent b_side f 0) (exponent a_side f 0)))

-- Its number of letters.
pub spelling-length : (f : Form) → Reduced f → length (spelling f) ≡ spelling_length f
spelling-length f r =
    ap length (spelling-runs f r) ∙ spelt-length (exponent b_side f 0) (runs f) (exponent a_side f 0)
