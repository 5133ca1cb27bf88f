-- What 02, [3] and [7], demand of the calls on a register, said of the functions themselves and of the exports for C
-- and Rust, with no contract in it, as Demanded.antt says it of the others; what a run of filings comes to is claimed
-- over the contract of `enter_word` (claims, Registers: `History`, `SameEntry`), which Calls.antt ties to the function.
-- proofs/DemandedOfRegisters.antt has the proofs.
-- Letters: u bytes lent as a word; m memory lent with it, b, a and e its parts; h a holder; s the register's bytes; r
-- an answer, o an outcome; a ' marks the same at exit.
-- The names used, what each is, and the crate and file of its specs that define it:
--     replied_of, entered_of      a filing's answer as accepted, or refused with number and place   updates, Entering
--     live_of, reply_in, outcome_of  the live count; what a caller reads in the numbers of an export  thompson, Codes
--     code_of_reply               the four numbers of a filing's reply                              thompson, Codes
--     RegisterRefusal, EnterRefusal   the conditions, one by one                                    claims, Registers
--     IsRegister s                the bytes are some register                                       claims, Registers
--     WellFormed s q              the bytes are the register q                                  registers, WellFormed
--     EnteredAs, OnlyNew, Charged     what a filing answers and leaves, writes, charges             claims, Registers
--     StoredSmaller               the record that a new entry stores, beside the word's own         claims, Registers
--     live h es                   how many of the entries are the holder's                         registers, Reading
-- Assumes nothing.
use Rattle.std.specs.Prelude.{◌≡◌, List, ◌↔◌, ℕ, length}
use Rattle.group.specs.Letters.{Word}
use Rattle.group.specs.Bytes.{bytes_of}
use Rattle.refusals.specs.Outcomes.{Outcome, accepted, valued, verdict_of}
use Rattle.refusals.specs.Memory.{Memory, memory}
use Rattle.records.specs.Format.{encode}
use Rattle.registers.specs.Format.{Register, register_bytes}
use Rattle.registers.specs.Reading.{live}
use Rattle.registers.specs.WellFormed.{WellFormed}
use Rattle.updates.specs.Entering.{Reply, new_entry, Answer, reply_number, stored_form, entered_of, replied_of}
use Rattle.thompson.specs.Codes.{outcome_of, live_of, reply_in, code_of_reply}
use Rattle.claims.specs.Answers.{Refuses, IsRefused}
use Rattle.claims.specs.Registers.{IsRegister, RegisterRefusal, EnterRefusal, EnteredAs, OnlyNew, StoredSmaller}
use Rattle.claims.specs.Registers.{Charged}
use Rattle.calls.specs.Always.{Always}
use Rattle.calls.specs.Functions.{check_register, enter_word, account_of, Library, export}

-- Register check; nothing is lent to write to.
pub record CheckRegister (s : List ℕ) (o : Outcome ℕ) : Type 0 where
  pub refuses : Refuses o (RegisterRefusal s)
  pub accepts : (o ≡ accepted 0) ↔ IsRegister s

-- A filing.
pub record EnterWord (u : List ℕ) (m m' : Memory) (h : ℕ) (s s' : List ℕ) (o : Outcome Reply) : Type 0 where
  pub refuses : Refuses (valued reply_number o) (EnterRefusal u m h s)
  pub unaltered : IsRefused (valued reply_number o) → (m' ≡ m) × (s' ≡ s)
  pub gives : (y : Reply) → o ≡ accepted y → EnteredAs u m m' h s s' y
  pub only_new : (k : ℕ) (w : Word) (q : Register) → o ≡ accepted (new_entry k) → u ≡ bytes_of w → WellFormed s q
      → OnlyNew s s' k h (length (register_bytes q)) (encode (stored_form w))
  pub stores : (k : ℕ) (w : Word) (q : Register) → o ≡ accepted (new_entry k) → u ≡ bytes_of w → WellFormed s q
      → StoredSmaller m m' s' (length (register_bytes q)) w

-- The live entries of a holder; nothing is lent to write to.
pub record LiveEntries (s : List ℕ) (h : ℕ) (o : Outcome ℕ) : Type 0 where
  pub refuses : Refuses o (RegisterRefusal s)
  pub gives : (n : ℕ) → o ≡ accepted n → (q : Register) × WellFormed s q × (n ≡ live h q.entries)

-- The functions, then the exports of L; the numbers of a filing are just those of the reply that is read in them.
pub record DemandedOfRegisters (L : Library) : Type 2 where
  pub check_register_lem : Always check_register
      (λ κs s s' r. CheckRegister s.now (verdict_of r))
  pub enter_word_lem : Always enter_word
      (λ κs u u' b b' a a' e e' h h' s s' r. EnterWord u.now (memory b.now a.now e.now)
      (memory b'.now a'.now e'.now) h s.now s'.now (replied_of r)
      × ((x : Answer) → entered_of r ≡ accepted x → Charged h s.now s'.now x))
  pub account_of_is : Always account_of
      (λ κs s s' h h' r. LiveEntries s.now h (live_of r))
  pub exported_check_register : Always (export L.check_register)
      (λ κs s s' r. CheckRegister s.now (outcome_of r))
  pub exported_enter_word : Always (export L.enter_word)
      (λ κs u u' b b' a a' e e' h h' s s' r. EnterWord u.now (memory b.now a.now e.now)
      (memory b'.now a'.now e'.now) h s.now s'.now (reply_in r) × (r ≡ code_of_reply (reply_in r)))
  pub exported_live_entries : Always (export L.live_entries)
      (λ κs s s' h h' r. LiveEntries s.now h (outcome_of r))
