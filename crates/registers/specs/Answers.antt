-- The answers of the calls that read a register, and their contracts on every input (02, [3]): nothing is written.
--     RegisterChecked   `check_register`: accepted, or 12       Summarised   `summary`: last number, end, live entries
--     search_of          `find`, by what is found                heading_at    `entry_at`: the entry by its head
-- Assumes nothing.
use Rattle.std.specs.Prelude.{◌≡◌, cond, List, ℕ, ◌+◌, length, drop, ⊤, Option, Some, None, Result, Ok, Err}
use Rattle.std.proofs.Math.Option.{Option as Maybe, none, some}
use Rattle.refusals.specs.declared.Refusal.{Refusal}
use Rattle.refusals.specs.declared.Refusal.TheVariants.{BadRegister}
use Rattle.refusals.specs.Outcomes.{Outcome, accepted, then, drop_value, refusal, verdict_of}
use Rattle.fields.specs.Fields.{Bytes, head_size}
use Rattle.registers.specs.declared.Heading.{Heading}
use Rattle.registers.specs.declared.Overview.{Overview}
use Rattle.registers.specs.Format.{Register, register_bytes, entry_base}
use Rattle.registers.specs.Reading.{ends, entry_size, entry_stands, number_in, holder_in, live, read_register}

-- Accepted, with nothing to say, or 12. What is lent are bytes.
pub record RegisterChecked (s : List ℕ) (r : Result ⊤ Refusal) : Type 0 where
  pub are_bytes : Bytes s
  pub result : verdict_of r ≡ drop_value (read_register s)

-- The last number given, where the entries end, and the holder's live entries.
abbrev pub overview : (holder : ℕ) → Register → Overview
overview h r = record { last = r.last; end = length (register_bytes r); live = live h r.entries }

-- The same of the bytes of a buffer, or 12.
abbrev pub overview_in : List ℕ → (holder : ℕ) → Outcome Overview
overview_in s h = then (read_register s) (λ r. accepted (overview h r))

-- The outcome of a summary.
abbrev pub summary_of : Result Overview Refusal → Outcome Overview
summary_of (Ok o) = accepted o
summary_of (Err r) = refusal r

pub record Summarised (s : List ℕ) (holder : ℕ) (r : Result Overview Refusal) : Type 0 where
  pub are_bytes : Bytes s
  pub result : summary_of r ≡ overview_in s holder

-- The answer of a search.
abbrev pub search_of : Maybe ℕ → Option ℕ
search_of (some k) = Some k
search_of none = None

-- The head of the entry that stands at an offset, where `s` are the bytes from there on.
abbrev pub heading_of : (s : List ℕ) (at : ℕ) → Heading
heading_of s at =
    record { number = number_in s; holder = holder_in s; start = at + (head_size + entry_base); next = at + entry_size s }

-- The end of the list, the entry by its head, or 12.
abbrev pub heading_at : (s : List ℕ) (at : ℕ) → Result (Option Heading) Refusal
heading_at s at =
    cond (ends (drop at s)) (Ok None)
    (cond (entry_stands (drop at s)) (Ok (Some (heading_of (drop at s) at))) (Err BadRegister))
