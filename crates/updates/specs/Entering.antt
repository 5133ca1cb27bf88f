-- Entering a word (02, [3] and [7]): a new entry, or the entry that already holds the element or its inverse, or a
-- refusal. A word's own refusals come first, then 12, the already-filed reply, 13, 14.
--     Reply              new or present, with the entry's number        entered_in       what a filing comes to
--     stored_form w       the form under which a word's element is kept  register_after   the buffer at exit
--     EnteredWord        the contract of `enter_word` on every input
-- Assumes nothing.
use Rattle.std.specs.Prelude.{◌≡◌, cond, List, [], ◌∷◌, ◌++◌, ℕ, suc, ◌+◌, ◌<◌, length, ltb, Result, Ok, Err}
use Rattle.std.proofs.Math.Option.{Option, none, some}
use Rattle.group.specs.Letters.{Word}
use Rattle.group.specs.Forms.{Form}
use Rattle.group.specs.Products.{form_of}
use Rattle.refusals.specs.declared.Refusal.{Refusal}
use Rattle.refusals.specs.Outcomes.{Outcome, accepted, refused, after, then, valued, refusal}
use Rattle.refusals.specs.Memory.{Memory}
use Rattle.fields.specs.Fields.{Bytes}
use Rattle.records.specs.Exchange.{smaller_form}
use Rattle.words.specs.Recording.{judged_with, Left}
use Rattle.words.specs.Recording.{beside}
use Rattle.registers.specs.Format.{Register, register_bytes, number_most, live_most, stored}
use Rattle.registers.specs.Reading.{live, number_for, read_register}
use Rattle.updates.specs.declared.Account.{Account}
use Rattle.updates.specs.declared.Entered.{Entered}
use Rattle.updates.specs.declared.Entered.TheVariants.{New, Present}
use Rattle.updates.specs.Accounts.{account_in}

-- The form under which the element of a word is kept: of its form and the form with the sides exchanged, which is that
-- of its inverse, the one with the smaller record.
abbrev pub stored_form : Word → Form
stored_form w = smaller_form (form_of w)

-- What a filing that is not refused answers: the number of a new entry, or of the one that holds the element.
pub data Reply : Type 0 where
  new_entry present : (number : ℕ) → Reply

-- The number that a reply names.
abbrev pub reply_number : Reply → ℕ
reply_number (new_entry k) = k
reply_number (present k) = k

-- The register with one more entry, numbered one above the last given.
abbrev pub with_entry : Register → (holder : ℕ) → Form → Register
with_entry r h f =
    record {
      last = suc r.last;
      entries = r.entries ++ (record { number = suc r.last; holder = h; form = f } ∷ []);
    }

-- The register with an entry for each form, in order.
abbrev pub with_entries : Register → (holder : ℕ) → List Form → Register
with_entries r h [] = r
with_entries r h (f ∷ fs) = with_entries (with_entry r h f) h fs

-- 14: the register, with its new entries, does not fit a buffer of n bytes, or its last number passes the highest.
abbrev pub no_room : Register → (n : ℕ) → Outcome Register
no_room r n =
    cond (ltb number_most r.last) (refused 14 0)
    (cond (ltb n (length (register_bytes r))) (refused 14 0) (accepted r))

-- The register with new entries, or 13, the holder would have more than four; then 14.
abbrev pub entered : Register → (n holder : ℕ) → List Form → Outcome Register
entered r n h fs =
    cond (ltb live_most (live h r.entries + length fs)) (refused 13 0) (no_room (with_entries r h fs) n)

-- What is found: the register at exit, and the answer.
pub record Found : Type 0 where
  pub register : Register
  pub answer : Reply

abbrev pub grown : Register → Found
grown r = record { register = r; answer = new_entry r.last }

abbrev pub kept : Register → ℕ → Found
kept r k = record { register = r; answer = present k }

-- The already-filed reply, then the new entry.
abbrev pub answered : Option ℕ → Register → (n holder : ℕ) → Form → Outcome Found
answered (some k) r n h f = accepted (kept r k)
answered none r n h f = then (entered r n h (f ∷ [])) (λ q. accepted (grown q))

-- An accepted word, filed into a buffer.
abbrev pub entered_word : List ℕ → (holder : ℕ) → Word → Outcome Found
entered_word s h w =
    then (read_register s) (λ r. answered (number_for (stored_form w) r.entries) r (length s) h (stored_form w))

-- The whole: the word and its memory first.
abbrev pub entered_in : (word : List ℕ) (m : Memory) (s : List ℕ) (holder : ℕ) → Outcome Found
entered_in word m s h = then (judged_with word m) (λ w. entered_word s h w)

-- The buffer at exit: unchanged but for a new entry.
abbrev pub left_by : List ℕ → Found → List ℕ
left_by s x = go x.answer
  where
    go : Reply → List ℕ
    go (new_entry k) = stored x.register s
    go (present k) = s

abbrev pub register_after : Outcome Found → List ℕ → List ℕ
register_after o s = after o s (λ x. left_by s x)

-- What a call answers: the reply, and the account then of the holder who files.
pub record Answer : Type 0 where
  pub reply : Reply
  pub account : Account

abbrev pub answer_of : (holder : ℕ) → Outcome Found → Outcome Answer
answer_of h o = then o (λ x. accepted (record { reply = x.answer; account = account_in h x.register }))

-- The outcome of each answer.
abbrev pub entered_of : Result Entered Refusal → Outcome Answer
entered_of (Ok (New k a)) = accepted (record { reply = new_entry k; account = a })
entered_of (Ok (Present k a)) = accepted (record { reply = present k; account = a })
entered_of (Err r) = refusal r

-- The same without the account, and with the entry's number alone.
abbrev pub replied_of : Result Entered Refusal → Outcome Reply
replied_of r = then (entered_of r) (λ x. accepted x.reply)

abbrev pub number_of_entered : Result Entered Refusal → Outcome ℕ
number_of_entered r = valued (λ x. reply_number x.reply) (entered_of r)

-- For every word, whatever is lent with it, every holder and every buffer: the answer with the holder's account in the
-- register at exit; tables and record buffer as word to record leaves them, and untouched on a refusal; the register.
-- A holder's number has two bytes, and what is lent are bytes.
pub record EnteredWord (word : List ℕ) (entry exit : Memory) (holder : ℕ) (s s' : List ℕ)
    (r : Result Entered Refusal) : Type 0 where
  pub result : entered_of r ≡ answer_of holder (entered_in word entry s holder)
  pub leaves : Left (beside (judged_with word entry) (entered_in word entry s holder)) entry exit
  pub register : s' ≡ register_after (entered_in word entry s holder) s
  pub two_bytes_is : holder < 65536
  pub are_bytes : Bytes s
