-- The claims of specs/Spellings.antt, proved. Assumes nothing.
use mathlib.Core.Path.{sym, ap, ◌∙◌, subst}
use lib.ListN.{length}
use Rattle.group.specs.Letters.{Word}
use Rattle.group.specs.FreeReduction.{freely}
use Rattle.group.specs.Chains.{Joined}
use Rattle.group.specs.Forms.{letters}
use Rattle.group.proofs.Deletions.{freely_deletions, freely_reduced, deletion_shorter, deletions_end}
use Rattle.spelling.specs.Spelling.{spelling}
use Rattle.spelling.proofs.Words.{spells, spells_only, spelling-length}
use Rattle.claims.specs.Spellings.{DeletingEnds, FormsAreSpelled, SpellingHasLength}
use Rattle.claims.proofs.SpellingCalls.{spelling_joined}

-- Free reduction ends, in whatever order, in one word.
pub deleting_ends : DeletingEnds
deleting_ends = record {
  shorter = deletion_shorter;
  ends = λ u. (freely u, freely_deletions u, freely_reduced u);
  one_end = λ u v w d e f g. deletions_end u v d e ∙ sym (deletions_end u w f g);
}

pub forms_are_spelled : FormsAreSpelled
forms_are_spelled = record {
  spelled = λ f. (spelling f, spells f);
  one_word = λ f v w h k. spells_only f v h ∙ sym (spells_only f w k);
  joined = λ f w h. subst (λ (x : Word). Joined x (letters f)) (sym (spells_only f w h)) (spelling_joined f);
}

pub spelling_has_length : SpellingHasLength
spelling_has_length f w r h = ap length (spells_only f w h) ∙ spelling-length f r
