-- The sentences of 01, 'What the desk can be asked', on record to word, beside the demands: a claim each;
-- proofs/Spellings.antt has the proofs, under the same names in snake case. Names beside those that
-- Forms.antt and Given.antt explain:
--     Deletion u v       two neighbouring inverse letters of u are deleted, which leaves v
--     Deletions u w      such deletions, in any order, lead from u to w
--     FreelyReduced w    none is left to delete                                       all three: group, FreeReduction
--     spelling_length f  the sum in closed form                                                  spelling, Spelling
-- Assumes nothing.
use Rattle.std.specs.Prelude.{◌≡◌, ◌+◌, length}
use Rattle.group.specs.Letters.{Word}
use Rattle.group.specs.FreeReduction.{Deletion, Deletions, FreelyReduced}
use Rattle.group.specs.Chains.{Joined}
use Rattle.group.specs.Forms.{Form, letters}
use Rattle.group.specs.Reducing.{Reduced}
use Rattle.spelling.specs.Spelling.{Spells, spelling_length}

-- Deleting neighbouring inverse letters until none is left comes to an end, since each deletion takes two letters, and
-- leaves one word, in whatever order they are deleted.
pub record DeletingEnds : Type 0 where
  pub shorter : (u v : Word) → Deletion u v → length v + 2 ≡ length u
  pub ends : (u : Word) → (v : Word) × Deletions u v × FreelyReduced v
  pub one_end : (u v w : Word) → Deletions u v → FreelyReduced v → Deletions u w → FreelyReduced w → v ≡ w

-- Every form is spelled, by one word, which is joined to the form's letters.
pub record FormsAreSpelled : Type 0 where
  pub spelled : (f : Form) → (w : Word) × Spells f w
  pub one_word : (f : Form) (v w : Word) → Spells f v → Spells f w → v ≡ w
  pub joined : (f : Form) (w : Word) → Spells f w → Joined w (letters f)

-- With k_1, …, k_m the indices from 1 on of a reduced form, in its order, its spelling has as many letters as their
-- exponents, |b_0 − (k_1 − 1)|, every |k_j − k_(j+1)| and |(k_m − 1) − a_0| sum to; without such an index, |b_0 − a_0|.
abbrev pub SpellingHasLength : Type 0
SpellingHasLength = (f : Form) (w : Word) → Reduced f → Spells f w → length w ≡ spelling_length f
