-- The receipt of a line from what word to record answers and leaves of it. Assumes nothing.
use mathlib.Core.Path.{◌≡◌, sym, ap, ap₂, ◌∙◌}
use mathlib.Core.List.{List}
use Prim.Native.Nat.{ℕ, ◌+◌, ◌≤◌}
use native.Mathlib.Omega.{arith}
use lib.ListN.{length, take}
use Rattle.std.specs.Prelude.{Result, Ok, Err}
use Rattle.lists.proofs.Writes.{sets_front}
use Rattle.lists.proofs.Tables.{filled_front}
use Rattle.group.specs.Letters.{Word}
use Rattle.group.specs.Forms.{Side, b_side, a_side, exponent}
use Rattle.group.specs.Products.{form_of}
use Rattle.group.specs.Limits.{limit}
use Rattle.group.proofs.Bytes.{read_length}
use Rattle.group.proofs.Sizes.{form_sum}
use Rattle.refusals.specs.Refusals.{number_of, place_of}
use Rattle.refusals.specs.Outcomes.{Outcome, accepted, refused, reply_of}
use Rattle.refusals.specs.declared.Refusal.{Refusal}
use Rattle.refusals.specs.Memory.{Memory}
use Rattle.refusals.proofs.Outcomes.{valued_refused, valued_accepted}
use Rattle.records.specs.Format.{encode, buffer_size}
use Rattle.records.proofs.Lengths.{encode_size}
use Rattle.trees.specs.Pairs.{carets_of}
use Rattle.lengths.specs.Weights.{form_length}
use Rattle.forest.specs.Filling.{table_after}
use Rattle.words.specs.Recording.{encode_word, buffer_after, judged_with, Recorded}
use Rattle.words.proofs.Judged.{RecordFit, accepted_record}
use Rattle.rows.specs.Receipts.{refusal_receipt, receipt_by, receipt_of}
use Rattle.letters.specs.Judging.{line_read}
use Rattle.words.specs.inside.Lending.{LineRoom}
use Rattle.words.proofs.LineReads.{line_judged}
use Rattle.rows.specs.inside.Steps.{value_in, record_row, tables_row, Measured}
use Rattle.rows.proofs.WordTables.{side_table, table-carets, table-length}

module _ {line : List ℕ} {m m' : Memory} {r : Result ℕ Refusal} (h : LineRoom line m) (c : Recorded line m m' r) where
  -- What the call judges is what the line is read as.
  judged_line : judged_with line m ≡ line_read line
  judged_line = line_judged h

  -- The line is refused.
  pub receipt_refused : (q : Refusal) (number : ℕ) → r ≡ Err q
      → refusal_receipt number (number_of q) (place_of q) ≡ receipt_of number line
  receipt_refused q number e =
      let so : judged_with line m ≡ refused (number_of q) (place_of q) =
      valued_refused (λ w. length (encode_word w)) (judged_with line m) (number_of q) (place_of q)
      (sym c.result ∙ ap reply_of e) in
      ap (receipt_by number) (sym so ∙ judged_line)

  -- The line is a word.
  module _ (n : ℕ) (e : r ≡ Ok n) where
    -- The word, and the number of bytes of its record.
    found : (w : Word) × (judged_with line m ≡ accepted w) × (length (encode_word w) ≡ n)
    found =
        valued_accepted (λ w. length (encode_word w)) (judged_with line m) n (sym c.result ∙ ap reply_of e)

    fit : RecordFit line (length m.b) (length m.a) (length m.buffer) found.0
    fit = accepted_record line (length m.b) (length m.a) (length m.buffer) found.0 found.1

    -- It has at most as many letters as the limit.
    pub letters_within : length line ≤ limit
    letters_within = fit.fit.short

    same_length : length line ≡ length found.0
    same_length = read_length line found.0 fit.fit.reads

    -- Its record is no longer than its number of letters asks for.
    pub record_within : n ≤ buffer_size (length line)
    record_within =
        omega (arith, found.2, encode_size (form_of found.0), form_sum found.0, same_length)

    -- The front of a table at exit.
    table_front : (s : Side) (t t' : List ℕ) → t' ≡ table_after s (judged_with line m) t
        → take (length line + 1) t' ≡ side_table found.0 s
    table_front s t t' x =
        let entries : length line + 1 ≡ length found.0 + 1 = ap (λ (k : ℕ). k + 1) same_length in
        ap (take (length line + 1)) (x ∙ ap (λ (o : Outcome Word). table_after s o t) found.1)
        ∙ ap (λ (k : ℕ). take k (table_after s (accepted found.0) t)) entries
        ∙ filled_front (length found.0 + 1) (length found.0 + 1) (exponent s (form_of found.0)) t (omega arith)

    -- The front of the buffer at exit.
    record_front : take n m'.buffer ≡ encode (form_of found.0)
    record_front =
        ap (take n) (c.leaves.bytes ∙ ap (λ (o : Outcome Word). buffer_after o m.buffer) found.1)
        ∙ sets_front (encode (form_of found.0)) m.buffer n found.2 (omega (arith, record_within, fit.roomy))

    -- The tables that the call left have carets and a length.
    pub row_measured : Measured (take (length line + 1) m'.b) (take (length line + 1) m'.a)
    row_measured =
        let within : length found.0 ≤ limit = omega (arith, same_length, letters_within) in
        rw (table_front b_side m.b m'.b c.leaves.b_table, table_front a_side m.a m'.a c.leaves.a_table)
        (record {
          carets = carets_of (form_of found.0);
          least = form_length (form_of found.0);
          carets_found = table-carets found.0 within;
          length_found = table-length found.0 within;
        })

    -- The row of what the call left is the receipt.
    pub receipt_row : (number : ℕ)
        → tables_row number (length line) (take (length line + 1) m'.b) (take (length line + 1) m'.a)
        (take n m'.buffer)
        ≡ receipt_of number line
    receipt_row number =
        let w = found.0 in
        let f = form_of found.0 in
        let bytes = encode (form_of found.0) in
        let within : length w ≤ limit = omega (arith, same_length, letters_within) in
        ap₂ (λ (b a : List ℕ). tables_row number (length line) b a (take n m'.buffer))
        (table_front b_side m.b m'.b c.leaves.b_table)
        (table_front a_side m.a m'.a c.leaves.a_table)
        ∙ ap
        (λ (s : List ℕ). tables_row number (length line) (side_table w b_side) (side_table w a_side) s)
        record_front
        ∙ ap₂ (λ (k l : ℕ). record_row number (length line) k l bytes)
        (ap value_in (table-carets w within))
        (ap value_in (table-length w within))
        ∙ ap (λ (k : ℕ). record_row number k (carets_of f) (form_length f) bytes) same_length
        ∙ ap (receipt_by number) (sym found.1 ∙ judged_line)
