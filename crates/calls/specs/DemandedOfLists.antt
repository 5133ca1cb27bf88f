-- What 02, [4], demands of the list call, said of the function itself and of the export for C and Rust, as
-- Demanded.antt says it of the others. The paper compares the call with "one call a word", so that the contract of
-- `word_to_record`, which Calls.antt ties to that function, stands in what is given (`LineCall`); no other contract
-- does. proofs/DemandedOfLists.antt has the proofs.
-- Letters: `list` bytes lent as a list; m memory lent with it, b, a and e its parts; r an answer, o an outcome; a '
-- marks the same at exit.
-- The names used, what each is, and the crate and file of its specs that define it:
--     reply_of                the outcome of an answer                           refusals, Outcomes
--     outcome_of              what a caller reads in the numbers of an export    thompson, Codes
--     ListRefusal list m      the conditions of 6 and 7                          claims, Lists
--     lines_of list           the lines                                          lines, Lines
--     LineCall, lines_called  calls of `word_to_record`, and their lines         claims, Lists
--     CallsFrom               such calls, the tables handed on                   claims, Lists
--     SameAsCalls             the tables and the bytes are what they leave and give   claims, Lists
--     EntryBehind             an entry of the tables is that of the last accepted word that reaches it   claims, Lists
-- Assumes nothing.
use Rattle.std.specs.Prelude.{◌≡◌, List, ℕ}
use Rattle.lines.specs.Lines.{lines_of}
use Rattle.refusals.specs.Outcomes.{Outcome, accepted, reply_of}
use Rattle.refusals.specs.Memory.{Memory, memory}
use Rattle.thompson.specs.Codes.{outcome_of}
use Rattle.claims.specs.Answers.{Refuses, IsRefused}
use Rattle.claims.specs.Lists.{ListRefusal, LineCall, lines_called, CallsFrom, SameAsCalls, EntryBehind}
use Rattle.calls.specs.Always.{Always}
use Rattle.calls.specs.Functions.{list_to_records, Library, export}

-- Many words in one call: refused by 6 and 7 with nothing altered, and else as one call a word.
pub record ListToRecords (list : List ℕ) (m m' : Memory) (o : Outcome ℕ) : Type 0 where
  pub refuses : Refuses o (ListRefusal list m)
  pub unaltered : IsRefused o → m' ≡ m
  pub gives : (n : ℕ) → o ≡ accepted n → (cs : List LineCall) (b' a' : List ℕ) → lines_called cs ≡ lines_of list
      → CallsFrom cs m.b m.a b' a' → SameAsCalls m m' n cs b' a'
  pub fills : (n : ℕ) → o ≡ accepted n → (i : ℕ) → EntryBehind (lines_of list) m m' i

-- The function, then the export of L.
pub record DemandedOfLists (L : Library) : Type 2 where
  pub list_to_records_lem : Always list_to_records
      (λ κs l l' b b' a a' e e' r. ListToRecords l.now (memory b.now a.now e.now)
      (memory b'.now a'.now e'.now) (reply_of r))
  pub exported_list_to_records : Always (export L.list_to_records)
      (λ κs l l' b b' a a' e e' r. ListToRecords l.now (memory b.now a.now e.now)
      (memory b'.now a'.now e'.now) (outcome_of r))
