-- The reading of a register (02, [3] and [7]): its entries, or refusal 12.
--     read_entries    the entries from a place on       sound last es   the rules on entries
--     read_register   the whole                         live h es       how many of the entries are the holder's
--     may_follow      the rule for one more entry       number_for f es  the number of the entry with a form
--     stored_in s     the form of a stored record
-- Assumes nothing.
use Rattle.std.specs.Prelude.{Bool, true, false, cond, List, [], ◌∷◌, ◌++◌, ℕ, zero, suc, ◌+◌, ◌-◌, length, get_or, take, drop, eqb, ltb}
use Rattle.std.proofs.Math.Option.{Option, none, some}
use Rattle.lists.specs.SameBytes.{same_bytes}
use Rattle.group.specs.Forms.{Form}
use Rattle.refusals.specs.Outcomes.{Outcome, accepted, refused, then}
use Rattle.fields.specs.Fields.{two_at, four_at_value, head_size}
use Rattle.clause.specs.Clause.{both}
use Rattle.records.specs.Format.{encode}
use Rattle.records.specs.Reading.{decode}
use Rattle.records.specs.Exchange.{is_above}
use Rattle.registers.specs.Format.{Entry, Register, last_tag, entry_tag, number_size, entry_base, first_size}
use Rattle.registers.specs.Format.{register_most, live_most}

-- "The buffer ends the list, or a byte 00 does".
abbrev pub ends : List ℕ → Bool
ends [] = true
ends (x ∷ s) = eqb x 0

-- The bytes of the entry at the front.
abbrev pub entry_size : List ℕ → ℕ
entry_size s = head_size + two_at s 1

-- An entry's field stands at the front, whole, with number and holder in it.
abbrev pub entry_stands : List ℕ → Bool
entry_stands s =
    both (eqb (get_or s 0 0) entry_tag)
    (cond (ltb (length s) (entry_size s)) false (cond (ltb (two_at s 1) entry_base) false true))

-- The parts of the entry at the front: its number, its holder, its record.
abbrev pub number_in : List ℕ → ℕ
number_in s = four_at_value s head_size

abbrev pub holder_in : List ℕ → ℕ
holder_in s = two_at s (head_size + number_size)

abbrev pub record_in : List ℕ → List ℕ
record_in s = take (two_at s 1 - entry_base) (drop (head_size + entry_base) s)

-- 12, place 0.
abbrev pub not_register : {A : Type 0} → Outcome A
not_register = refused 12 0

-- The form of a record that is stored: one above the record with its sides exchanged is not.
abbrev pub stored_in : List ℕ → Outcome Form
stored_in s = then (decode s) (λ f. cond (is_above s) not_register (accepted f))

-- The entry of a record's reading; a record that is refused makes it no register.
abbrev pub entry_of : (number holder : ℕ) → Outcome Form → Outcome Entry
entry_of number holder (accepted f) = accepted (record { number = number; holder = holder; form = f })
entry_of number holder (refused n p) = not_register

-- The entry at the front.
abbrev pub read_entry : List ℕ → Outcome Entry
read_entry s = cond (entry_stands s) (entry_of (number_in s) (holder_in s) (stored_in (record_in s))) not_register

-- The entries at the front, at most k: each takes bytes, so k is the number of bytes.
unfoldable pub read_entries : ℕ → List ℕ → Outcome (List Entry)
read_entries zero s = accepted []
read_entries (suc k) s =
    cond (ends s) (accepted [])
    (then (read_entry s) (λ e. then (read_entries k (drop (entry_size s) s)) (λ es. accepted (e ∷ es))))

-- Whether an entry has the form: the records are compared.
abbrev pub holds_form : Form → Entry → Bool
holds_form f e = same_bytes (encode e.form) (encode f)

abbrev pub any_holds : Form → List Entry → Bool
any_holds f [] = false
any_holds f (e ∷ es) = cond (holds_form f e) true (any_holds f es)

-- The number of the entry that holds a form.
abbrev pub number_for : Form → List Entry → Option ℕ
number_for f [] = none
number_for f (e ∷ es) = cond (holds_form f e) (some e.number) (number_for f es)

-- The entries of a holder.
abbrev pub live : ℕ → List Entry → ℕ
live h [] = 0
live h (e ∷ es) = cond (eqb e.holder h) (suc (live h es)) (live h es)

-- The number of the last entry; of none, n.
abbrev pub last_number : ℕ → List Entry → ℕ
last_number n [] = n
last_number n (e ∷ es) = last_number e.number es

-- Whether an entry may stand behind others: its number is above theirs and at least 1, none has its record, and its
-- holder has fewer than four of them.
abbrev pub may_follow : List Entry → Entry → Bool
may_follow before e =
    both (ltb (last_number 0 before) e.number)
    (cond (any_holds e.form before) false (ltb (live e.holder before) live_most))

-- Each of the entries may stand behind those before it.
abbrev pub follow : List Entry → List Entry → Bool
follow before [] = true
follow before (e ∷ es) = both (may_follow before e) (follow (before ++ (e ∷ [])) es)

-- The rules on entries: "entry numbers of at least 1, strictly rising, none above the last given, …, no record twice
-- and no holder above four".
abbrev pub sound : ℕ → List Entry → Bool
sound last es = cond (ltb last (last_number 0 es)) false (follow [] es)

-- The first field stands at the front, and the buffer is not too long.
abbrev pub first_stands : List ℕ → Bool
first_stands s =
    cond (ltb register_most (length s)) false
    (cond (ltb (length s) first_size) false (both (eqb (get_or s 0 0) last_tag) (eqb (two_at s 1) number_size)))

-- The register of these entries, if they follow the rules.
abbrev pub judged_entries : ℕ → List Entry → Outcome Register
judged_entries last es = cond (sound last es) (accepted (record { last = last; entries = es })) not_register

-- The register in a buffer, or 12.
abbrev pub read_register : List ℕ → Outcome Register
read_register s =
    cond (first_stands s)
    (then (read_entries (length s) (drop first_size s)) (λ es. judged_entries (four_at_value s head_size) es))
    not_register
