-- What the functions that record a text's powers ask and promise one another. Assumes nothing.
use Rattle.std.specs.Prelude.{◌≡◌, List, ℕ, suc, ◌≤◌, length, Result, Ok}
use Rattle.std.proofs.lemmas.List.Edits.{sets}
use Rattle.group.specs.Forms.{b_side, a_side, levels}
use Rattle.group.specs.Limits.{limit}
use Rattle.group.specs.Powers.{SignedPower}
use Rattle.refusals.specs.declared.Refusal.{Refusal}
use Rattle.refusals.specs.Outcomes.{Outcome, accepted, refused, after, then, valued, drop_value, refusal, reply_of}
use Rattle.refusals.specs.Memory.{Memory}
use Rattle.records.specs.Format.{encode}
use Rattle.forest.specs.Filling.{product_form, tables_for, product_table}
use Rattle.notation.specs.Promises.{room_for}

-- The exponents of the powers' form were written into the two tables: 11, then 6. The number is of levels read: the
-- entries below it are all that a record of the form needs.
pub record FilledBy (ps : List SignedPower) (b a b' a' : List ℕ) (r : Result ℕ Refusal) : Type 0 where
  pub result : drop_value (reply_of r) ≡ drop_value (tables_for (length b) (length a) ps)
  pub b_table : b' ≡ product_table b_side (tables_for (length b) (length a) ps) b
  pub a_table : a' ≡ product_table a_side (tables_for (length b) (length a) ps) a
  pub levels_read : (n : ℕ) → r ≡ Ok n → tables_for (length b) (length a) ps ≡ accepted ps
      → (levels (product_form ps) ≤ n) × (n ≤ suc limit)

-- The refusal of powers beside tables of these lengths, where the buffer is too short.
abbrev pub ShortRoom : (ps : List SignedPower) (nb na : ℕ) → Refusal → Type 0
ShortRoom ps nb na r = ◌≡◌ {A = Outcome ℕ} (refusal r) (then (tables_for nb na ps) (λ qs. refused 7 0))

-- What is found of powers, beside the memory that is lent.
abbrev pub judged_product : List SignedPower → Memory → Outcome (List SignedPower)
judged_product ps m = room_for (length m.b) (length m.a) (length m.buffer) ps

-- The tables and the record of powers were written, or what is refused of them.
pub record ProductRecorded (ps : List SignedPower) (entry exit : Memory) (r : Result ℕ Refusal) : Type 0 where
  pub result : reply_of r ≡ valued (λ qs. length (encode (product_form qs))) (judged_product ps entry)
  pub b_table : exit.b ≡ product_table b_side (judged_product ps entry) entry.b
  pub a_table : exit.a ≡ product_table a_side (judged_product ps entry) entry.a
  pub bytes : exit.buffer
      ≡ after (judged_product ps entry) entry.buffer (λ qs. sets entry.buffer 0 (encode (product_form qs)))
