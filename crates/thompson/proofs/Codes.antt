-- The numbers of an answer are read back as what the answer says, and a refusal of the first word has the paper's own
-- number. Assumes nothing.
use mathlib.Core.Path.{◌≡◌, refl, sym, ap, ap₂, ◌∙◌}
use Prim.Native.Nat.{ℕ, zero, suc, ◌+◌, ◌*◌, ◌/◌, ◌%◌, ◌<◌}
use native.Mathlib.Omega.{arith}
use lib.Dec.{lit<}
use Rattle.std.specs.Prelude.{⊤, Result, Ok, Err}
use Rattle.refusals.specs.declared.NodeNumber.{NodeNumber}
use Rattle.updates.specs.declared.Account.{Account}
use Rattle.refusals.specs.declared.Refusal.{Refusal}
use Rattle.refusals.specs.declared.Refusal.TheVariants.{TooManyLetters, NotLetter, BadFrame, BadEntry}
use Rattle.refusals.specs.declared.Refusal.TheVariants.{NotReduced, ShortTable, ShortBuffer, LongSpelling}
use Rattle.refusals.specs.declared.Refusal.TheVariants.{Misspelled, LargeExponents, HighIndex}
use Rattle.refusals.specs.declared.Refusal.TheVariants.{BadRegister, HolderFull, RegisterFull, NotTree}
use Rattle.refusals.specs.Refusals.{number_of, place_of}
use Rattle.refusals.specs.Outcomes.{refused, refusal, verdict_of, reply_of}
use Rattle.comparisons.specs.declared.Comparison.{Comparison}
use Rattle.comparisons.specs.declared.Comparison.TheVariants.{Same, Inverse, Different}
use Rattle.comparisons.specs.declared.RefusedWord.{RefusedWord}
use Rattle.comparisons.specs.declared.RefusedWord.TheVariants.{First, Second}
use Rattle.comparisons.specs.Comparing.{refused_word, decision_of}
use Rattle.packed.specs.Answers.{node_end_of}
use Rattle.updates.specs.declared.Entered.{Entered}
use Rattle.updates.specs.declared.Entered.TheVariants as Answers
use Rattle.updates.specs.Entering.{replied_of}
use Rattle.thompson.specs.declared.Answer.{Answer}
use Rattle.thompson.specs.declared.Filing.{Filing}
use Rattle.thompson.specs.Codes.{code_of, code_of_decision, code_of_reply, live_of, read_reply, reply_in}
use Rattle.thompson.specs.Codes.{read_outcome, outcome_of, read_decision, decision_in}

-- The number of a refusal is neither 0 nor as large as 256.
number_some : (r : Refusal) → (0 < number_of r) × (number_of r < 256)
number_some TooManyLetters = (lit< tt, lit< tt)
number_some (NotLetter offset) = (lit< tt, lit< tt)
number_some BadFrame = (lit< tt, lit< tt)
number_some (BadEntry offset) = (lit< tt, lit< tt)
number_some (NotReduced i) = (lit< tt, lit< tt)
number_some ShortTable = (lit< tt, lit< tt)
number_some ShortBuffer = (lit< tt, lit< tt)
number_some LongSpelling = (lit< tt, lit< tt)
number_some (Misspelled offset) = (lit< tt, lit< tt)
number_some LargeExponents = (lit< tt, lit< tt)
number_some HighIndex = (lit< tt, lit< tt)
number_some BadRegister = (lit< tt, lit< tt)
number_some HolderFull = (lit< tt, lit< tt)
number_some RegisterFull = (lit< tt, lit< tt)
number_some NotTree = (lit< tt, lit< tt)

-- So it is read as a refusal, and the word beside it is parted from it.
read_number : (n place : ℕ) → 0 < n → read_outcome n place ≡ refused n place
read_number zero place h = absurd (omega arith)
read_number (suc n) place h = refl

read_word_lem : (word n place : ℕ) → 0 < n → n < 256 → read_decision (256 * word + n) place ≡ refused_word word n place
read_word_lem word n place some low = go (256 * word + n) refl
  where
    go : (k : ℕ) → k ≡ 256 * word + n → read_decision k place ≡ refused_word word n place
    go zero e = absurd (omega arith)
    go (suc k) e =
        let which : suc k / 256 ≡ word = omega arith in
        let number : suc k % 256 ≡ n = omega arith in
        ap₂ (λ (i j : ℕ). refused_word i j place) which number

refusal_read : (r : Refusal) → outcome_of (code_of (refusal r)) ≡ refusal r
refusal_read r = read_number (number_of r) (place_of r) (number_some r).0

-- What is read in the numbers of each answer.
pub verdict_read : (v : Result ⊤ Refusal) → outcome_of (code_of (verdict_of v)) ≡ verdict_of v
verdict_read (Ok tt) = refl
verdict_read (Err r) = refusal_read r

pub reply_read : (w : Result ℕ Refusal) → outcome_of (code_of (reply_of w)) ≡ reply_of w
reply_read (Ok n) = refl
reply_read (Err r) = refusal_read r

pub node_end_read : (e : Result NodeNumber Refusal) → outcome_of (code_of (node_end_of e)) ≡ node_end_of e
node_end_read (Ok n) = refl
node_end_read (Err r) = refusal_read r

comparison_read : (c : Result Comparison RefusedWord) → decision_in (code_of_decision (decision_of c)) ≡ decision_of c
comparison_read (Ok Same) = refl
comparison_read (Ok Inverse) = refl
comparison_read (Ok Different) = refl
comparison_read (Err (First r)) = read_word_lem 0 (number_of r) (place_of r) (number_some r).0 (number_some r).1
comparison_read (Err (Second r)) = read_word_lem 1 (number_of r) (place_of r) (number_some r).0 (number_some r).1

pub live_read : (a : Result Account Refusal) → outcome_of (code_of (live_of a)) ≡ live_of a
live_read (Ok x) = refl
live_read (Err r) = refusal_read r

-- What is read in the four numbers of a filing.
read_refused : (n place held : ℕ) → 0 < n → read_reply n place held ≡ refused n place
read_refused zero place held h = absurd (omega arith)
read_refused (suc n) place held h = refl

entered_read : (e : Result Entered Refusal) → reply_in (code_of_reply (replied_of e)) ≡ replied_of e
entered_read (Ok (Answers.New k a)) = refl
entered_read (Ok (Answers.Present k a)) = refl
entered_read (Err r) = read_refused (number_of r) (place_of r) 0 (number_some r).0

-- The numbers of a decision, and of a filing's reply, are just those of what is read in them.
pub comparison_exact : {a : Answer} (c : Result Comparison RefusedWord) → a ≡ code_of_decision (decision_of c)
    → (decision_in a ≡ decision_of c) × (a ≡ code_of_decision (decision_in a))
comparison_exact c e =
    let read = ap decision_in e ∙ comparison_read c in (read, e ∙ ap code_of_decision (sym read))

pub entered_exact : {a : Filing} (e : Result Entered Refusal) → a ≡ code_of_reply (replied_of e)
    → (reply_in a ≡ replied_of e) × (a ≡ code_of_reply (reply_in a))
entered_exact e h = let read = ap reply_in h ∙ entered_read e in (read, h ∙ ap code_of_reply (sym read))
