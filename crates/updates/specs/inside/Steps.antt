-- The steps of a filing: what is decided before anything lent is written, and what is written then.
--     settled        the decision by numbers                     DecidedAs   what a decision says of a form and bytes
--     new_stored      the register with a new entry's bytes       Committed   the register and the answer by a decision
-- Inside: no claim reaches these definitions; a reader of the claims need not believe them. Assumes nothing.
use Rattle.std.specs.Prelude.{◌≡◌, true, cond, List, [], ◌∷◌, ℕ, suc, ◌+◌, ◌<◌, ◌≤◌, ◌^◌, length, ltb}
use Rattle.std.proofs.Math.Option.{none, some}
use Rattle.std.proofs.lemmas.List.Edits.{sets}
use Rattle.std.specs.Prelude.{Option, Some, None, Result, Ok, Err}
use Rattle.group.specs.Letters.{Word}
use Rattle.group.specs.Forms.{Form}
use Rattle.group.specs.Limits.{limit}
use Rattle.refusals.specs.declared.Refusal.{Refusal}
use Rattle.refusals.specs.declared.Refusal.TheVariants.{HolderFull, RegisterFull}
use Rattle.refusals.specs.Outcomes.{Outcome, accepted, then, refusal}
use Rattle.refusals.specs.Memory.{Memory}
use Rattle.fields.specs.Fields.{Bytes, four_bytes, head_size}
use Rattle.records.specs.Format.{encode, buffer_size}
use Rattle.records.specs.Reading.{frames}
use Rattle.words.specs.Recording.{encode_word, judged_record, judged_with}
use Rattle.registers.specs.Format.{Register, register_bytes, register_most, number_most, live_most}
use Rattle.registers.specs.Format.{entry_base, first_size, entry_field, end_mark}
use Rattle.registers.specs.Reading.{number_for, read_register}
use Rattle.updates.specs.declared.Account.{Account}
use Rattle.updates.specs.declared.Entered.{Entered}
use Rattle.updates.specs.declared.Entered.TheVariants as Answers
use Rattle.updates.specs.declared.deciding.Place.{Place}
use Rattle.updates.specs.declared.deciding.Decision.{Decision}
use Rattle.updates.specs.declared.deciding.Decision.TheVariants.{New, Present}
use Rattle.updates.specs.Accounts.{account_in, raised}
use Rattle.updates.specs.Entering.{Found, answered, entered, with_entry, stored_form}

-- The bytes of an entry with a record of n bytes.
abbrev pub entry_length : ℕ → ℕ
entry_length n = head_size + entry_base + n

-- A new entry with a record of n bytes behind `end`, in a buffer of m bytes, or 14.
abbrev pub roomed : Account → (last end n m : ℕ) → Result Decision Refusal
roomed a last end n m =
    cond (ltb last number_most)
    (cond (ltb m (end + entry_length n)) (Err RegisterFull)
    (Ok (New (record { number = suc last; end = end; account = a }))))
    (Err RegisterFull)

-- The entry that holds the element, else 13, else 14, else a new entry.
abbrev pub settled : Option ℕ → Account → (last end n m : ℕ) → Result Decision Refusal
settled (Some k) a last end n m = Ok (Present k a)
settled None a last end n m = cond (ltb a.live live_most) (roomed a last end n m) (Err HolderFull)

-- What a filing of a form comes to.
abbrev pub answered_form : List ℕ → (holder : ℕ) → Form → Outcome Found
answered_form s h f = then (read_register s) (λ q. answered (number_for f q.entries) q (length s) h f)

-- The form's entry in the register.
pub record IsPresent (f : Form) (h : ℕ) (s : List ℕ) (k : ℕ) (a : Account) : Type 0 where
  pub register : Register
  pub reads : read_register s ≡ accepted register
  pub has : number_for f register.entries ≡ some k
  pub account : a ≡ account_in h register

-- A place for the form's entry.
pub record IsNew (f : Form) (h : ℕ) (s : List ℕ) (p : Place) : Type 0 where
  pub register : Register
  pub reads : read_register s ≡ accepted register
  pub absent : number_for f register.entries ≡ none
  pub enters : entered register (length s) h (f ∷ []) ≡ accepted (with_entry register h f)
  pub number : p.number ≡ suc register.last
  pub end : p.end ≡ length (register_bytes register)
  pub account : p.account ≡ account_in h register

-- What a decision says of a form that is filed.
abbrev pub DecidedAs : (f : Form) (h : ℕ) (s : List ℕ) → Result Decision Refusal → Type 0
DecidedAs f h s (Ok (New p)) = IsNew f h s p
DecidedAs f h s (Ok (Present k a)) = IsPresent f h s k a
DecidedAs f h s (Err r) = answered_form s h f ≡ refusal r

-- The decision on a record's bytes.
pub record Judged (bytes : List ℕ) (h : ℕ) (s : List ℕ) (d : Result Decision Refusal) : Type 0 where
  pub are_bytes : Bytes s
  pub decides : (f : Form) → bytes ≡ encode f → DecidedAs f h s d

-- The decision on a word with tables and a buffer for its record, and one of n bytes for the record that is stored.
pub record DecidedWith (word : List ℕ) (m : Memory) (n : ℕ) (h : ℕ) (s : List ℕ)
    (d : Result Decision Refusal) : Type 0 where
  pub are_bytes : Bytes s
  pub decides : (w : Word) → judged_with word m ≡ accepted w → length (encode_word w) ≤ n
      → DecidedAs (stored_form w) h s d

-- The decision on a word, whatever is lent with it: it is judged beside tables and a buffer that are long enough.
pub record Decided (word : List ℕ) (h : ℕ) (s : List ℕ) (d : Result Decision Refusal) : Type 0 where
  pub are_bytes : Bytes s
  pub decides : (w : Word) → judged_record word (suc limit) (suc limit) (buffer_size limit) ≡ accepted w
      → DecidedAs (stored_form w) h s d

-- A buffer has room for the entry of a record, whose length two bytes can say; two fields frame it.
pub record Fitting (bytes out : List ℕ) : Type 0 where
  pub framed : frames bytes ≡ true
  pub room : entry_length (length bytes) ≤ length out
  pub says : entry_base + length bytes < 65536

-- So has a register at the place of a new entry.
pub record RoomFor (p : Place) (bytes s : List ℕ) : Type 0 where
  pub framed : frames bytes ≡ true
  pub room : p.end + entry_length (length bytes) ≤ length s
  pub behind : first_size ≤ p.end
  pub short : length s ≤ register_most
  pub number : p.number ≤ number_most
  pub live : p.account.live < live_most

-- The mark behind the last entry, at a place.
abbrev pub end_marked : ℕ → List ℕ → List ℕ
end_marked at s = sets s at (end_mark at (length s))

-- The register with the first field's number, the entry and the mark written.
abbrev pub new_stored : Place → (bytes s : List ℕ) → List ℕ
new_stored p bytes s =
    end_marked (p.end + entry_length (length bytes))
    (sets (sets s head_size (four_bytes p.number)) p.end (entry_field p.number p.account.holder bytes))

-- A new entry was written, and its holder charged by one.
pub record PutNew (p : Place) (bytes s s' : List ℕ) (r : Entered) : Type 0 where
  pub register : s' ≡ new_stored p bytes s
  pub answer : r ≡ Answers.New p.number (raised p.account 1)

-- What a decision asks of the register.
abbrev pub Committable : Decision → (bytes s : List ℕ) → Type 0
Committable (New p) bytes s = RoomFor p bytes s
Committable (Present k a) bytes s = a.live + 0 < 2 ^ 64

-- The register and the answer, by a decision.
abbrev pub Committed : Decision → (bytes s s' : List ℕ) → Entered → Type 0
Committed (New p) bytes s s' r = PutNew p bytes s s' r
Committed (Present k a) bytes s s' r = (s' ≡ s) × (r ≡ Answers.Present k (raised a 0))
