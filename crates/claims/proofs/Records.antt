-- The claims of specs/Records.antt, proved. Assumes nothing.
use mathlib.Core.Path.{◌≡◌, refl, sym, ◌∙◌}
use Rattle.group.specs.Forms.{Form}
use Rattle.refusals.specs.Outcomes.{Outcome, accepted, refused}
use Rattle.refusals.proofs.Outcomes.{accepted_same, accepted_refused}
use Rattle.records.specs.Format.{IsRecord}
use Rattle.records.specs.Reading.{decode}
use Rattle.records.proofs.Accepted.{record_decoded, decoded↔record}
use Rattle.claims.specs.Refusals.{RecordRefusal}
use Rattle.claims.specs.Answers.{None}
use Rattle.claims.specs.Records.{RecordsOfForms, RecordsAreRead, RecordHasOneForm, RecordsAreAccepted}
use Rattle.claims.proofs.Refusals.{decoded↔refusal}

pub records_of_forms : RecordsOfForms
records_of_forms = decoded↔record

pub records_are_read : RecordsAreRead
records_are_read = record_decoded

pub record_has_one_form : RecordHasOneForm
record_has_one_form s f g h k = accepted_same (sym (record_decoded s f h) ∙ record_decoded s g k)

pub records_are_accepted : RecordsAreAccepted
records_are_accepted s bytes = (go (decode s) refl, never)
  where
    go : (o : Outcome Form) → decode s ≡ o → None (RecordRefusal s) → (f : Form) × IsRecord s f
    go (accepted f) e none = (f, (decoded↔record s f bytes).0 e)
    go (refused number place) e none = absurd (none number place ((decoded↔refusal s bytes number place).0 e))

    never : (f : Form) × IsRecord s f → None (RecordRefusal s)
    never (f, h) number place r =
        accepted_refused (sym (record_decoded s f h) ∙ (decoded↔refusal s bytes number place).1 r)
