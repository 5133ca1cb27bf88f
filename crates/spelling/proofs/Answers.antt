-- The answers of record to word: a refusal of the reader is passed on; else the tables that it filled give the spelling
-- of the form, and its number of letters decides. Assumes nothing.
use mathlib.Core.Path.{◌≡◌, sym, refl, ap, ap₂, ◌∙◌}
use mathlib.Core.List.{List, ◌++◌}
use Prim.Native.Nat.{ℕ, ◌<◌, ◌≤◌}
use native.Mathlib.Omega.{arith}
use lib.ListN.{length}
use borrow.Author.Tests.{lt-ltb, le-ltb}
use Rattle.std.specs.Prelude.{⊤, Result, Ok, Err}
use Rattle.lists.specs.inside.Writes.{Wrote}
use Rattle.lists.proofs.Writes.{wrote_same}
use Rattle.group.specs.Bytes.{bytes_of}
use Rattle.group.specs.Forms.{b_side, a_side, Form, exponent}
use Rattle.group.specs.Limits.{limit}
use Rattle.group.proofs.Bytes.{bytes_length}
use Rattle.refusals.specs.Outcomes.{accepted, refused, refusal}
use Rattle.refusals.specs.declared.Refusal.{Refusal}
use Rattle.refusals.specs.declared.Refusal.TheVariants.{ShortBuffer, LongSpelling}
use Rattle.records.specs.Reading.{decode}
use Rattle.records.specs.inside.Contracts.{Decoded}
use Rattle.records.proofs.ClearedTables.{Cleared, Read, read_refused, read_accepted, within_levels, table_at}
use Rattle.spelling.specs.Runs.{Run}
use Rattle.spelling.specs.inside.RunLetters.{spelt}
use Rattle.spelling.specs.Spelling.{spelling, runs}
use Rattle.spelling.specs.inside.Steps.{read_exponent, rising_runs, falling_runs, table_spelling, table_letters}
use Rattle.spelling.specs.Promises.{spelled_in, Spelled}
use Rattle.spelling.proofs.Runs.{runs_up_to_lem}
use Rattle.spelling.proofs.Lengths.{spelt-length}
use Rattle.spelling.proofs.Words.{spelling-runs}

-- A refusal of the reader is passed on, and nothing was written.
module _ {n : ℕ} {s z b a : List ℕ} {v : Result ⊤ Refusal} {q : Refusal} (c : Cleared n z) (d : Decoded s z z b a v)
    (e : v ≡ Err q) where
  pub word_refused : {word : List ℕ} → Spelled s word word (Err q)
  word_refused =
      let refuses : decode s ≡ refusal q = read_refused c d e in
      record { are_bytes = d.are_bytes; result = rw refuses refl; bytes = rw refuses refl }

-- The word of the tables is the spelling of the form.
module _ {n : ℕ} {s z b a : List ℕ} {f : Form} (c : Cleared n z) (r : Read s z b a f) where
  -- The entries are the exponents, the limit is above the last level, and so the runs are those of the form.
  b_entries : (i : ℕ) → read_exponent b i ≡ exponent b_side f i
  b_entries i = ap (λ (t : List ℕ). read_exponent t i) r.b_holds ∙ table_at f r.within c b_side i

  a_entries : (i : ℕ) → read_exponent a i ≡ exponent a_side f i
  a_entries i = ap (λ (t : List ℕ). read_exponent t i) r.a_holds ∙ table_at f r.within c a_side i

  table_runs : rising_runs b ++ falling_runs a ≡ runs f
  unfolding rising_runs falling_runs
  table_runs =
      runs_up_to_lem f limit (read_exponent b) (read_exponent a) (within_levels f r.canonical r.within) b_entries
      a_entries

  table-spelling : table_spelling b a ≡ spelling f
  table-spelling =
      ap₂ (λ (m n : ℕ). spelt m (rising_runs b ++ falling_runs a) n) (b_entries 0) (a_entries 0)
      ∙ ap (λ (l : List Run). spelt (exponent b_side f 0) l (exponent a_side f 0)) table_runs
      ∙ sym (spelling-runs f r.canonical.reduced)

  table-letters : table_letters b a ≡ length (spelling f)
  table-letters =
      sym (spelt-length (read_exponent b 0) (rising_runs b ++ falling_runs a) (read_exponent a 0))
      ∙ ap length table-spelling

-- The tables of a record that is accepted, and the number k of letters of their word.
module _ {n : ℕ} {s z b a word : List ℕ} {v : Result ⊤ Refusal} (c : Cleared n z) (d : Decoded s z z b a v)
    (e : v ≡ (Ok tt))
    (k : ℕ) (counted : k ≡ table_letters b a) where
  -- 8 where the word has more letters than the limit.
  pub word_long : limit < k → Spelled s word word (Err LongSpelling)
  word_long h =
      let f = read_accepted c d e in
      let long : limit < length (spelling f.0) = omega (arith, table-letters c f.1) in
      let refuses : spelled_in s (length word) ≡ refused 8 0 = rw (f.1.decodes, lt-ltb _ _ long) refl in
      record { are_bytes = d.are_bytes; result = rw refuses refl; bytes = rw refuses refl }

  -- 7 where it has not, and the buffer is too short.
  pub word_short : k ≤ limit → length word < k → Spelled s word word (Err ShortBuffer)
  word_short h g =
      let f = read_accepted c d e in
      let few : length (spelling f.0) ≤ limit = omega (arith, table-letters c f.1) in
      let short : length word < length (spelling f.0) = omega (arith, table-letters c f.1) in
      let refuses : spelled_in s (length word) ≡ refused 7 0 =
      rw (f.1.decodes, le-ltb _ _ few, lt-ltb _ _ short) refl in
      record { are_bytes = d.are_bytes; result = rw refuses refl; bytes = rw refuses refl }

  -- Else the word is written.
  pub word_answer : {word' : List ℕ} {r : ℕ} → k ≤ limit → k ≤ length word
      → Wrote (bytes_of (table_spelling b a)) word 0 word' r → Spelled s word word' (Ok r)
  word_answer {word'} {r} h g w =
      let f = read_accepted c d e in
      let few : length (spelling f.0) ≤ limit = omega (arith, table-letters c f.1) in
      let fits : length (spelling f.0) ≤ length word = omega (arith, table-letters c f.1) in
      let accepts : spelled_in s (length word) ≡ accepted (spelling f.0) =
      rw (f.1.decodes, le-ltb _ _ few, le-ltb _ _ fits) refl in
      let wrote = wrote_same (ap bytes_of (table-spelling c f.1)) w in
      let long : r ≡ length (spelling f.0) = omega (arith, wrote.ends, bytes_length (spelling f.0)) in
      record { are_bytes = d.are_bytes; result = rw accepts (ap accepted long); bytes = rw accepts wrote.holds }
