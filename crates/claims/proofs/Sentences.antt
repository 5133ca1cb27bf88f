-- The claims of specs/Sentences.antt, proved. Assumes nothing.
use Rattle.group.proofs.Congruence.{≈→joined}
use Rattle.group.proofs.Digits.{map_0, map_1, map_respects}
use Rattle.group.proofs.Generators.{conjugate_generator}
use Rattle.group.proofs.Presentations.{presentations_agree as agree}
use Rattle.group.proofs.Products.{times_letter_sound}
use Rattle.group.proofs.Theorems.{letter_undone, joined↔maps}
use Rattle.group.proofs.Reducing.{step_joined, step_map}
use Rattle.group.proofs.NoStep.{step_at, step_exists, reduced↔no_step}
use Rattle.group.proofs.ReducingEnds.{steps_bounded, steps_reach, steps_end as same_end}
use Rattle.group.proofs.Exchange.{form_inverse, behind_joined, form_behind, self_inverse}
use Rattle.claims.specs.Sentences.{InverseUndoes, EndsFixed, ZerosIgnored, GeneratorsConjugate}
use Rattle.claims.specs.Sentences.{PresentationsAgree, JoinedIsOneMap, StepKeepsElement, StepCanBeTaken}
use Rattle.claims.specs.Sentences.{ReducedIsNoStep, StepsEnd, LettersAtEnds, BehindIsInFront, InverseExchanges}
use Rattle.claims.specs.Sentences.{OnlyIdentityIsItsInverse}

pub inverse_undoes : InverseUndoes
inverse_undoes = letter_undone

pub ends_fixed : EndsFixed
ends_fixed = record { at_0 = map_0; at_1 = map_1 }

pub zeros_ignored : ZerosIgnored
zeros_ignored = map_respects

pub generators_conjugate : GeneratorsConjugate
generators_conjugate = conjugate_generator

pub presentations_agree : PresentationsAgree
presentations_agree = agree

pub joined_is_one_map : JoinedIsOneMap
joined_is_one_map = joined↔maps

pub step_keeps_element : StepKeepsElement
step_keeps_element i f g t = (step_joined i f g t, step_map i f g t)

pub step_can_be_taken : StepCanBeTaken
step_can_be_taken i f t = (step_at i f, step_exists i f t)

pub reduced_is_no_step : ReducedIsNoStep
reduced_is_no_step = reduced↔no_step

pub steps_end : StepsEnd
steps_end =
    record {
      bounded = λ n f g u. steps_bounded u;
      reaches = steps_reach;
      same_end = λ n f g u r. same_end u r;
    }

pub letters_at_ends : LettersAtEnds
letters_at_ends = record { in_front = λ x f. ≈→joined (times_letter_sound x f); behind = behind_joined }

pub behind_is_in_front : BehindIsInFront
behind_is_in_front = form_behind

pub inverse_exchanges : InverseExchanges
inverse_exchanges = form_inverse

pub only_identity_is_its_inverse : OnlyIdentityIsItsInverse
only_identity_is_its_inverse = self_inverse
