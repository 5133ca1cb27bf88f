-- The claims of specs/Forms.antt, proved. Assumes nothing.
use Rattle.group.proofs.Products.{form_joined}
use Rattle.group.proofs.Reduced.{form_reduced, form_trimmed}
use Rattle.group.proofs.Theorems.{form_map, forms↔joined, forms↔maps, unique_exponents, the_form, the_form_joined}
use Rattle.group.proofs.Sizes.{form_sum, form_index}
use Rattle.claims.specs.Forms.{FormKeepsMap, EqualFormsAreJoined, EqualFormsAreOneMap, ReducedFormIsUnique}
use Rattle.claims.specs.Forms.{TheFormOfWord, FormIsSmall}

pub form_keeps_map : FormKeepsMap
form_keeps_map =
    record { reduced = form_reduced; same_map = form_map; trimmed = form_trimmed; joined = form_joined }

pub equal_forms_are_joined : EqualFormsAreJoined
equal_forms_are_joined = forms↔joined

pub equal_forms_are_one_map : EqualFormsAreOneMap
equal_forms_are_one_map = forms↔maps

pub reduced_form_is_unique : ReducedFormIsUnique
reduced_form_is_unique = unique_exponents

pub the_form_of_word : TheFormOfWord
the_form_of_word = record { by_map = the_form; by_chain = the_form_joined }

pub form_is_small : FormIsSmall
form_is_small = record { at_most_n = form_sum; no_index_above = form_index }
