-- Runs of filings from a fresh register, and the plain list (02, [3] and [7]): each filing is handed the register's
-- bytes as the call before left them.
--     SameElement u v   the words are filed as one          Plain    the plain list: what was given, what is kept
--     Run cs s t        the calls of a run, from s to t      Listing  the same filings on the plain list
--     HistoryOf cs t    a run answers as the plain list, and the accounts sum to the new entries
-- Assumes nothing.
use Rattle.std.specs.Prelude.{◌≡◌, true, List, [], ◌∷◌, ◌++◌, ◌⊎◌, ℕ, suc, ◌+◌, ◌≤◌, length, Result}
use Rattle.lists.specs.Entries.{At, total}
use Rattle.lists.specs.Tables.{values}
use Rattle.group.specs.Letters.{Word, inverse}
use Rattle.group.specs.Bytes.{bytes_of}
use Rattle.group.specs.Chains.{Joined}
use Rattle.refusals.specs.declared.Refusal.{Refusal}
use Rattle.refusals.specs.Outcomes.{Outcome, accepted, refused}
use Rattle.refusals.specs.Memory.{Memory}
use Rattle.fields.specs.Fields.{four_bytes, field}
use Rattle.registers.specs.Format.{Register, register_most, last_tag}
use Rattle.registers.specs.Reading.{ends, live}
use Rattle.registers.specs.WellFormed.{WellFormed}
use Rattle.updates.specs.declared.Entered.{Entered}
use Rattle.updates.specs.Entering.{Reply, new_entry, present, Answer, entered_of, EnteredWord}

-- Two words are filed as one: "a chain joins one word to the other, or to the other's inverse".
abbrev pub SameElement : Word → Word → Type 0
SameElement u v = Joined u v ⊎ Joined u (inverse v)

-- A call of `enter_word`: the word's bytes, what is lent with it at entry and at exit, the holder, and the answer.
pub record Entering : Type 0 where
  pub word : List ℕ
  pub entry : Memory
  pub exit : Memory
  pub holder : ℕ
  pub answer : Result Entered Refusal

-- The call met its contract, and the register went from s to t.
abbrev pub EnteredBy : Entering → (s t : List ℕ) → Type 0
EnteredBy c s t = EnteredWord c.word c.entry c.exit c.holder s t c.answer

-- Each call is handed the register's bytes as the call before left them.
abbrev pub Run : List Entering → List ℕ → List ℕ → Type 0
Run [] s t = s ≡ t
Run (c ∷ cs) s t = (q : List ℕ) × EnteredBy c s q × Run cs q t

-- A fresh register: the first field with number 0, then the end of the buffer or a byte 00.
pub record Fresh (s : List ℕ) : Type 0 where
  pub behind : List ℕ
  pub bytes : s ≡ field last_tag (four_bytes 0) ++ behind
  pub ended : ends behind ≡ true
  pub short : length s ≤ register_most

-- A word that the plain list keeps, with its number; the list, and the last number that it gave.
pub record Kept : Type 0 where
  pub number : ℕ
  pub word : Word

pub record Plain : Type 0 where
  pub last : ℕ
  pub kept : List Kept

abbrev pub nothing : Plain
nothing = record { last = 0; kept = [] }

abbrev pub with_word : Plain → Word → Plain
with_word p w = record { last = suc p.last; kept = p.kept ++ (record { number = suc p.last; word = w } ∷ []) }

-- What the plain list makes of a filing, as it was answered: a refusal is no filing; an element that it keeps has its
-- number; any other gets the next one.
pub data Lists (p : Plain) (u : List ℕ) : Outcome Answer → Plain → Type 0 where
  refusal : (number place : ℕ) → Lists p u (refused number place) p
  again : (w : Word) (i : ℕ) (k : Kept) (x : Answer) → u ≡ bytes_of w → At p.kept i k → SameElement k.word w
      → x.reply ≡ present k.number → Lists p u (accepted x) p
  first : (w : Word) (x : Answer) → u ≡ bytes_of w
      → ((i : ℕ) (k : Kept) → At p.kept i k → SameElement k.word w → ⊥)
      → x.reply ≡ new_entry (suc p.last) → Lists p u (accepted x) (with_word p w)

-- The calls of a run on the plain list, one after another.
abbrev pub Listing : List Entering → Plain → Plain → Type 0
Listing [] p t = p ≡ t
Listing (c ∷ cs) p t = (q : Plain) × Lists p c.word (entered_of c.answer) q × Listing cs q t

-- How many filings were given a new entry.
abbrev pub new_reply : Reply → ℕ
new_reply (new_entry k) = 1
new_reply (present k) = 0

abbrev pub new_in : Outcome Answer → ℕ
new_in (accepted x) = new_reply x.reply
new_in (refused number place) = 0

abbrev pub new_entries : List Entering → ℕ
new_entries [] = 0
new_entries (c ∷ cs) = new_in (entered_of c.answer) + new_entries cs

-- The sum of the accounts' counts: over all numbers of two bytes, the live entries of that holder.
abbrev pub accounts_sum : Register → ℕ
accounts_sum r = total (values 65536 (λ h. live h r.entries))

-- A run answers each filing not refused as the plain list does, and leaves a well-formed register whose accounts sum
-- to the filings given a new entry.
pub record HistoryOf (cs : List Entering) (t : List ℕ) : Type 0 where
  pub plain : Plain
  pub listed : Listing cs nothing plain
  pub register : Register
  pub well_formed : WellFormed t register
  pub sum : accounts_sum register ≡ new_entries cs

-- The answer names entry n.
abbrev pub Names : Reply → ℕ → Type 0
Names (new_entry m) n = m ≡ n
Names (present m) n = m ≡ n

abbrev pub Meets : Outcome Answer → ℕ → Type 0
Meets (accepted x) n = Names x.reply n
Meets (refused number place) n = ⊥
