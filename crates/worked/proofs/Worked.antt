-- The rows of specs/Worked.antt, by computation; a record of a word is read as the word's form. That the unreduced form
-- has the map of b is one free reduction of its letters. Assumes nothing.
use mathlib.Core.Path.{◌≡◌, refl, sym, ap, ◌∙◌, subst}
use mathlib.Core.List.{List, [], ◌∷◌, ◌++◌}
use Prim.Native.Nat.{ℕ, zero, suc, ◌<◌, ◌≤◌}
use native.Mathlib.Omega.{arith}
use lib.ListN.{length, replicate}
use Rattle.lists.specs.SameBytes.{same_bytes}
use Rattle.lines.specs.Lines.{lines_from}
use Rattle.group.specs.Letters.{'b, Word}
use Rattle.group.specs.Bytes.{read_word}
use Rattle.group.specs.Maps.{SameMap}
use Rattle.group.specs.Forms.{Side, b_side, a_side, Form, exponent, letters}
use Rattle.group.specs.Limits.{limit}
use Rattle.group.specs.Reducing.{Applies}
use Rattle.group.specs.Products.{form_of}
use Rattle.group.specs.Powers.{form_powers}
use Rattle.group.proofs.Congruence.{≈→joined}
use Rattle.group.proofs.Inverses.{eight_pairs}
use Rattle.group.proofs.FreeReduction.{word, free}
use Rattle.group.proofs.Reduced.{form_canonical, form_reduced}
use Rattle.group.proofs.Powers.{powers_again}
use Rattle.group.proofs.Theorems.{joined_map}
use Rattle.group.proofs.NoStep.{reduced_no_step}
use Rattle.refusals.specs.Outcomes.{Outcome, accepted, refused, valued, then}
use Rattle.refusals.specs.Placing.{fitting}
use Rattle.refusals.proofs.Placing.{fit_long}
use Rattle.records.specs.Format.{encode}
use Rattle.records.specs.Reading.{reduced_form, decode}
use Rattle.records.specs.Exchange.{bytes_below}
use Rattle.clause.specs.Clause.{find_break}
use Rattle.records.specs.Faults.{form_read}
use Rattle.records.proofs.ReadBack.{form_encode}
use Rattle.records.proofs.Accepted.{decode-encode}
use Rattle.records.proofs.WordForms.{form_within}
use Rattle.trees.specs.Pairs.{carets_of}
use Rattle.lengths.specs.Weights.{form_length}
use Rattle.spelling.specs.Spelling.{spelling}
use Rattle.spelling.specs.Promises.{word_in}
use Rattle.words.specs.Recording.{encode_word}
use Rattle.comparisons.specs.Comparing.{same, inverse, different}
use Rattle.tokens.specs.Texts.{text_of}
use Rattle.notation.specs.Promises.{form_text}
use Rattle.numerals.specs.Decimals.{ascii, decimal_within}
use Rattle.rows.specs.Receipts.{output_of}
use Rattle.registers.specs.Format.{Register}
use Rattle.registers.specs.Reading.{read_entries, read_register, number_for}
use Rattle.registers.proofs.ReadBack.{register_front}
use Rattle.updates.specs.Entering.{new_entry, present, stored_form, Found, answered, register_after}
use Rattle.updates.proofs.StoredForms.{stored_read}
use Rattle.worked.specs.Worked.{unreduced, unreduced_record, dead_end, dead_end_record, Measures, IsSpelled}
use Rattle.worked.specs.Worked.{IsPhrased, IsEntered, fresh26, fresh30, fresh33, filed_a, fileda_b, filedBAbab}
use Rattle.worked.specs.Worked.{HasVerdict, Worked, WorkedForms, WorkedRegisters, WorkedVerdicts}

-- The clause is broken at index 0.
applies_0 : Applies 0 unreduced
applies_0 = record { here = occurs; next = absent }
  where
    occurs : (s : Side) → 0 < exponent s unreduced 0
    occurs b_side = omega arith
    occurs a_side = omega arith

    absent : (s : Side) → exponent s unreduced 1 ≡ 0
    absent b_side = refl
    absent a_side = refl

-- The record that is not reduced is read as that form, and the clause breaks at index 0.
record_unreduced_form : form_read unreduced_record ≡ unreduced
record_unreduced_form = form_encode unreduced (omega arith) (record { indices = low; sum = omega arith })
  where
    low : (s : Side) (i : ℕ) → 0 < exponent s unreduced i → i ≤ limit
    low s zero h = omega arith
    low s (suc zero) h = omega arith
    low s (suc (suc zero)) h = omega arith
    low s (suc (suc (suc i))) h = absurd (omega arith)

first-unreduced : find_break unreduced 0 (suc limit) ≡ refused 5 0
unfolding find_break
first-unreduced = refl

record_unreduced : decode unreduced_record ≡ refused 5 0
record_unreduced =
    let entries : decode unreduced_record ≡ reduced_form unreduced_record = refl in
    entries ∙ ap (λ (f : Form). find_break f 0 (suc limit)) record_unreduced_form ∙ first-unreduced

-- The letters of that form are b, freely reduced.
unreduced-map : SameMap (letters unreduced) ('b ∷ [])
unreduced-map =
    joined_map (letters unreduced) ('b ∷ []) (≈→joined (free eight_pairs (letters unreduced) ('b ∷ []) refl))

-- The record of a word within the limit is read as the form of the word.
read_record : (w : Word) → length w ≤ limit → decode (encode_word w) ≡ accepted (form_of w)
read_record w short = decode-encode (form_of w) (form_canonical w) (form_within w short)

-- N and the length of the record are computed from the word's form.
measured : (w : Word) (n l : ℕ) → length w ≤ limit → carets_of (form_of w) ≡ n → form_length (form_of w) ≡ l
    → Measures (encode_word w) n l
measured w n l short en el =
    let read = read_record w short in
    record {
      number = ap (valued carets_of) read ∙ ap accepted en;
      measure = ap (valued form_length) read ∙ ap accepted el;
    }

-- The dead end is the form of its spelling.
read_dead_end : decode dead_end_record ≡ accepted dead_end
read_dead_end = read_record (word "aabAAAAAbaaaB") (omega arith)

spelled_dead_end : IsSpelled dead_end_record "aabAAAAAbaaaB"
spelled_dead_end = record {
  word = spelling dead_end;
  text = refl;
  spelled = ap (λ (o : Outcome Form). then o (λ f. word_in 13 (spelling f))) read_dead_end;
}

-- The text of its powers.
abbrev dead_end_text : List ℕ
dead_end_text = ascii "x0^2 x1 x6 x3^-1 x0^-2"

text_dead_end : dead_end_text ≡ text_of (form_powers dead_end)
unfolding decimal_within
text_dead_end = refl

phrased_dead_end : IsPhrased dead_end_record "x0^2 x1 x6 x3^-1 x0^-2"
phrased_dead_end = record {
  powers = form_powers dead_end;
  text = text_dead_end;
  recorded = ap encode (powers_again dead_end (form_canonical (word "aabAAAAAbaaaB")));
  phrased =
      ap (λ (o : Outcome Form). then o (λ f. fitting (length (form_text f)) (form_text f) dead_end_text)) read_dead_end
      ∙ fit_long (length (form_text dead_end)) (form_text dead_end) dead_end_text
      (omega (arith, ap length text_dead_end))
      ∙ ap accepted (sym text_dead_end);
}

-- The receipts of the three lines.
printed : output_of (ascii "abA\naA\naxb\n") ≡ ascii "line letters carets length record\n"
    ++ ascii "1 3 3 3 010008000000010001000102000400000001\n"
    ++ ascii "2 2 0 0 010000020000\n"
    ++ ascii "3 refused 2 1\n"
unfolding decimal_within lines_from read_word
printed = refl

pub worked : Worked
worked = record {
  record_empty = refl;
  record_aBbA = refl;
  record_aBAbabAABa = refl;
  record_b = refl;
  pair_b = measured (word "b") 3 1 (omega arith) refl refl;
  record_Aba = refl;
  pair_Aba = measured (word "Aba") 4 3 (omega arith) refl refl;
  record_BAbab = refl;
  record_AAbaa = refl;
  record_ba = refl;
  record_ab = refl;
  refused_unreduced = record_unreduced;
  map_unreduced = subst (λ (f : Form). SameMap (letters f) ('b ∷ [])) (sym record_unreduced_form) unreduced-map;
  read_dead_end = read_dead_end;
  pair_dead_end = measured (word "aabAAAAAbaaaB") 8 11 (omega arith) refl refl;
  spelled_dead_end = spelled_dead_end;
  phrased_dead_end = phrased_dead_end;
  limit_printed = refl;
  relator1_printed = refl;
  relator2_printed = refl;
  weights_R0 = refl;
  weights_RN = refl;
  weights_RI = refl;
  weights_LL = refl;
  weights_I0 = refl;
  weights_IR = refl;
  receipt_printed = printed;
}

pub worked_forms : WorkedForms
worked_forms = record {
  form_empty = refl;
  form_aBbA = refl;
  form_aBAbabAABa = refl;
  form_b = refl;
  form_Aba = refl;
  form_BAbab = refl;
  form_AAbaa = refl;
  form_ba = refl;
  form_ab = refl;
  form_unreduced = record_unreduced_form;
  unreduced_place = applies_0;
  not_reduced = λ r. reduced_no_step unreduced r 0 applies_0;
  dead_end_reduced = form_reduced (word "aabAAAAAbaaaB");
  dead_end_word = refl;
  dead_end_record_is = refl;
  dead_end_spelling = refl;
  dead_end_minus = refl;
  dead_end_plus = refl;
  dead_end_minus_labels = refl;
  dead_end_plus_labels = refl;
}

-- Filings: into fresh registers by computation.
entered_a : IsEntered "a" 0 fresh26 (new_entry 1) filed_a
unfolding read_entries bytes_below
entered_a = record { word = word "a"; text = refl; answer = refl; left = refl }

entered_BAbab : IsEntered "BAbab" 0 fresh33 (new_entry 1) filedBAbab
unfolding read_entries bytes_below
entered_BAbab = record { word = word "BAbab"; text = refl; answer = refl; left = refl }

entered_aB : IsEntered "aB" 0 fresh30 (new_entry 1) fileda_b
unfolding read_entries bytes_below
entered_aB = record { word = word "aB"; text = refl; answer = refl; left = refl }

entered_bA : IsEntered "bA" 0 fresh30 (new_entry 1) fileda_b
unfolding read_entries bytes_below
entered_bA = record { word = word "bA"; text = refl; answer = refl; left = refl }

-- What `BAbab` left is read as one entry.
abbrev one_entry : Register
one_entry = record {
  last = 1;
  entries = record { number = 1; holder = 0; form = stored_form (word "BAbab") } ∷ [];
}

read_BAbab : read_register filedBAbab ≡ accepted one_entry
unfolding bytes_below
read_BAbab =
    register_front one_entry (0 ∷ replicate 6 255) (stored_read (word "BAbab") (omega arith), tt) refl refl
    (omega arith)

entered_AAbaa : IsEntered "AAbaa" 7 filedBAbab (present 1) filedBAbab
unfolding same_bytes bytes_below
entered_AAbaa =
    let f : Form = stored_form (word "AAbaa") in
    let then-filed : Outcome Register → Outcome Found =
    λ o. then o (λ r. answered (number_for f r.entries) r 33 7 f) in
    record {
      word = word "AAbaa";
      text = refl;
      answer = ap (λ (o : Outcome Register). then (then-filed o) (λ x. accepted x.answer)) read_BAbab;
      left = ap (λ (o : Outcome Register). register_after (then-filed o) filedBAbab) read_BAbab;
    }

pub worked_registers : WorkedRegisters
worked_registers = record {
  entered_a = entered_a;
  entered_BAbab = entered_BAbab;
  entered_AAbaa = entered_AAbaa;
  entered_aB = entered_aB;
  entered_bA = entered_bA;
}

-- Verdicts, by computation.
verdict_a_A : HasVerdict "a" "A" inverse
unfolding same_bytes
verdict_a_A = record { first = word "a"; second = word "A"; texts = (refl, refl); verdict = refl }

verdict_ab_BA : HasVerdict "ab" "BA" inverse
unfolding same_bytes
verdict_ab_BA = record { first = word "ab"; second = word "BA"; texts = (refl, refl); verdict = refl }

verdict_empty_aA : HasVerdict "" "aA" same
unfolding same_bytes
verdict_empty_aA = record { first = []; second = word "aA"; texts = (refl, refl); verdict = refl }

verdict_ab_ba : HasVerdict "ab" "ba" different
unfolding same_bytes
verdict_ab_ba = record { first = word "ab"; second = word "ba"; texts = (refl, refl); verdict = refl }

pub worked_verdicts : WorkedVerdicts
worked_verdicts = record {
  verdict_a_A = verdict_a_A;
  verdict_ab_BA = verdict_ab_BA;
  verdict_empty_aA = verdict_empty_aA;
  verdict_ab_ba = verdict_ab_ba;
}
