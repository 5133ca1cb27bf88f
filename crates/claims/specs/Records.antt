-- What a record is (01, 'The record'), a claim each; proofs/Records.antt has the proofs, under the same names in snake
-- case. What the claims speak of, and where it is defined:
--     IsRecord s f        s is the two fields of f's entries, f reduced and within the limits         records, Format
--     decode s            the form that the calls read in s, or what they refuse                      records, Reading
--     Bytes s             every element of s is a byte; what is lent to a call always is              records, Faults
--     RecordRefusal s number place, None    the conditions of 3, 4 and 5; none holds       claims, Refusals, Answers
-- Assumes nothing.
use Rattle.std.specs.Prelude.{◌≡◌, List, ◌↔◌, ℕ}
use Rattle.group.specs.Forms.{Form}
use Rattle.refusals.specs.Outcomes.{accepted}
use Rattle.records.specs.Format.{IsRecord}
use Rattle.records.specs.Reading.{decode}
use Rattle.fields.specs.Fields.{Bytes}
use Rattle.claims.specs.Refusals.{RecordRefusal}
use Rattle.claims.specs.Answers.{None}

-- Bytes are read as a form just when they are the record of that form.
abbrev pub RecordsOfForms : Type 0
RecordsOfForms = (s : List ℕ) (f : Form) → Bytes s → (decode s ≡ accepted f) ↔ IsRecord s f

-- The record of a form is read as that form; that it is bytes need not be said.
abbrev pub RecordsAreRead : Type 0
RecordsAreRead = (s : List ℕ) (f : Form) → IsRecord s f → decode s ≡ accepted f

-- A record is the record of one form.
abbrev pub RecordHasOneForm : Type 0
RecordHasOneForm = (s : List ℕ) (f g : Form) → IsRecord s f → IsRecord s g → f ≡ g

-- Bytes are a record just when none of the conditions of 3, 4 and 5 holds.
abbrev pub RecordsAreAccepted : Type 0
RecordsAreAccepted = (s : List ℕ) → Bytes s → None (RecordRefusal s) ↔ ((f : Form) × IsRecord s f)
