-- A line that is kept up to a size above all that can be accepted is answered as the whole line (the manual,
-- 'thompsonf'; 01, 'The receipt program', for the cut): a line of `list`, of `same` and of `record`, and one in
-- hexadecimal that comes in parts. Assumes nothing.
use mathlib.Core.Path.{◌≡◌, refl, sym, ap, subst, ◌∙◌}
use mathlib.Core.Bool.{Bool, true, false, cond, true≢false}
use mathlib.Core.List.{List, [], ◌∷◌}
use mathlib.Core.Logic.Iff
use mathlib.Core.Logic.{◌↔◌}
use Prim.Native.Nat.{ℕ, zero, suc, ◌+◌, ◌-◌, ◌<◌, ◌≤◌, min}
use native.Mathlib.Decide.{dec_lt, dec_le}
use native.Mathlib.Omega.{arith}
use borrow.Author.Tests.{lt-ltb}
use lib.Dec.{eqb}
use lib.ListN.{length, take, drop, length-take}
use lib.Seq.{take_all, take-nil, take-take}
use Rattle.lines.specs.Lines.{whole_of}
use Rattle.group.specs.Letters.{Word}
use Rattle.group.specs.Limits.{limit}
use Rattle.refusals.specs.Outcomes.{Outcome, refused}
use Rattle.records.specs.Reading.{decode}
use Rattle.letters.specs.Judging.{line_read}
use Rattle.tokens.specs.Tokens.{space}
use Rattle.comparisons.specs.Comparing.{decided}
use Rattle.hexadecimal.specs.Hexadecimal.{HexRead, hex_bytes, stray_at, hex_read}
use Rattle.hexadecimal.specs.Taking.{cut_read}
use Rattle.hexadecimal.proofs.Parts.{read_bytes, hex_in_parts as read-in-parts}
use Rattle.commands.specs.declared.Question.{Question}
use Rattle.commands.specs.declared.Question.TheVariants.{Check, Word as AsWord, Text, Length, LabelLength, Pair}
use Rattle.commands.specs.Answers.{Said, denying, refusal_text}
use Rattle.commands.specs.Records.{record_said, hex_said}
use Rattle.commands.specs.Words.{is_text_value, word_record, LineRecord, of_word, of_text, text_most, is_long_value}
use Rattle.commands.specs.Words.{RecordSaid}
use Rattle.commands.specs.Words.{long, read, item_by, decision_said, blank_at, same_line_said}
use Rattle.commands.specs.Parts.{CutKeepsItem, CutKeepsTwoWords, CutKeepsRecord, HexInParts}
use Rattle.commands.proofs.TwoWords.{single_long, line_two, line_single}
use Rattle.commands.proofs.LongRecords.{decode_cut}

-- A line longer than the limit is refused, whatever it is.
read_long : (line : List ℕ) → limit < length line → line_read line ≡ refused 1 limit
read_long line far = simp (lt-ltb limit (length line) far)

-- A line that is cut behind more bytes than the limit is read as the whole line.
pub read_cut : (k : ℕ) (line : List ℕ) → limit < k → line_read (take k line) ≡ line_read line
read_cut k line large = go (dec_le (length line) k)
  where
    go : Dec (length line ≤ k) → line_read (take k line) ≡ line_read line
    go (yes short) = ap line_read (take_all k line short)
    go (no far) = read_long (take k line) (omega (arith, length-take k line)) ∙ sym (read_long line (omega arith))

-- So it has its item.
pub cut_keeps_item : CutKeepsItem
cut_keeps_item k line large = ap item_by (read_cut k line large)

-- The first blank of a line that is cut: that of the line, or the end of what is kept.
blank_cut : (k : ℕ) (line : List ℕ) → blank_at (take k line) ≡ min k (blank_at line)
unfolding blank_at
blank_cut zero line = omega arith
blank_cut (suc k) [] = omega arith
blank_cut (suc k) (x ∷ s) = go (eqb x space) (blank_cut k s)
  where
    go : (b : Bool) → blank_at (take k s) ≡ min k (blank_at s)
        → cond b 0 (suc (blank_at (take k s))) ≡ min (suc k) (cond b 0 (suc (blank_at s)))
    go true e = omega arith
    go false e = omega (arith, e)

-- No more bytes stand in front of it than the line has.
blank_within : (line : List ℕ) → blank_at line ≤ length line
unfolding blank_at
blank_within [] = omega arith
blank_within (x ∷ s) = go (eqb x space) (blank_within s)
  where
    go : (b : Bool) → blank_at s ≤ length s → cond b 0 (suc (blank_at s)) ≤ suc (length s)
    go true h = omega arith
    go false h = omega (arith, h)

-- What is kept behind the first m bytes.
drop_cut : (m k j : ℕ) (l : List ℕ) → k ≡ m + j → drop m (take k l) ≡ take j (drop m l)
drop_cut zero k j l e = let same : k ≡ j = omega (arith, e) in ap (λ (n : ℕ). take n l) same
drop_cut (suc m) zero j l e = absurd (omega (arith, e))
drop_cut (suc m) (suc k) j [] e = sym (take-nil j)
drop_cut (suc m) (suc k) j (x ∷ l) e = drop_cut m k j l (omega (arith, e))

-- A first word that is too long is refused, whatever follows it.
first_long : (line : List ℕ) → limit < blank_at line → same_line_said line ≡ denying (refusal_text 1 limit)
first_long line far = go (dec_lt n (length line))
  where
    n : ℕ
    n = blank_at line

    go : Dec (n < length line) → same_line_said line ≡ denying (refusal_text 1 limit)
    go (yes inside) =
        sym (line_two line {k = n} {u = take n line} {v = drop (n + 1) line} refl inside refl refl)
        ∙ ap (λ (o : Outcome Word). decision_said (decided o (line_read (drop (n + 1) line))))
        (read_long (take n line) (omega (arith, far, inside, length-take n line)))
    go (no behind) =
        sym (line_single line {k = n} refl (omega arith))
        ∙ sym (single_long line (omega (arith, far, blank_within line)))

-- Else its blank is kept, and of the second word more bytes than the limit; or the line is not cut.
pub cut_keeps_two_words : CutKeepsTwoWords
cut_keeps_two_words k line large = go (dec_le n limit) (dec_lt n (length line))
  where
    n : ℕ
    n = blank_at line

    go : Dec (n ≤ limit) → Dec (n < length line) → same_line_said (take k line) ≡ same_line_said line
    go (yes near) (yes inside) =
        let j = k - (n + 1) in
        sym (line_two (take k line) {k = n} {u = take n line} {v = take j (drop (n + 1) line)}
        (omega (arith, near, large, blank_cut k line)) (omega (arith, near, large, inside, length-take k line))
        (sym (take-take n k line (omega (arith, near, large))))
        (sym (drop_cut (n + 1) k j line (omega (arith, near, large)))))
        ∙ ap (λ (o : Outcome Word). decision_said (decided (line_read (take n line)) o))
        (read_cut j (drop (n + 1) line) (omega (arith, near, large)))
        ∙ line_two line refl inside refl refl
    go (yes near) (no behind) = ap same_line_said (take_all k line (omega (arith, near, behind, large)))
    go (no far) inside =
        first_long (take k line) (omega (arith, far, large, blank_cut k line)) ∙ sym (first_long line (omega arith))

-- A line that is cut begins as the whole line.
text_cut : (k : ℕ) (line : List ℕ) → 0 < k → is_text_value (take k line) ≡ is_text_value line
text_cut zero line large = absurd (omega arith)
text_cut (suc k) [] large = refl
text_cut (suc k) (x ∷ s) large = refl

-- A line with more bytes than a text that is read is too long just where it is a text.
far_long : (line : List ℕ) → text_most < length line → is_long_value line ≡ is_text_value line
far_long line far = simp (lt-ltb text_most (length line) far) (go (is_text_value line))
  where
    go : (b : Bool) → cond b true false ≡ b
    go true = refl
    go false = refl

-- Two such lines that begin alike.
module _ (l l' : List ℕ) (far : text_most < length l) (far' : text_most < length l')
    (alike : is_text_value l ≡ is_text_value l') where
  -- Both are too long, or neither is.
  far_same : is_long_value l' ≡ is_long_value l
  far_same = far_long l' far' ∙ sym alike ∙ sym (far_long l far)

  -- As words they are refused alike.
  far_found : (o : Outcome (List ℕ)) → is_long_value l ≡ false → LineRecord l o → LineRecord l' o
  far_found o e (of_word w) =
      let same : line_read l' ≡ line_read l =
      read_long l' (omega (arith, far')) ∙ sym (read_long l (omega (arith, far))) in
      subst (λ (x : Outcome Word). LineRecord l' (word_record x)) same (of_word (sym alike ∙ w))
  far_found o e (of_text t p x) = absurd (true≢false (sym t ∙ sym (far_long l far) ∙ e))

  -- What is said of one is said of the other.
  far_said : (s : Said) → RecordSaid l s → RecordSaid l' s
  far_said s (long e) = long (far_same ∙ e)
  far_said s (read e o r) = read (far_same ∙ e) o (far_found o e r)

-- A line that is longer than what is kept, and its first bytes, are two such lines; any other line is not cut.
pub cut_keeps_record : CutKeepsRecord
cut_keeps_record k line large s = go (dec_le (length line) k)
  where
    go : Dec (length line ≤ k) → RecordSaid (take k line) s ↔ RecordSaid line s
    go (yes short) = rw (take_all k line short) Iff.rfl
    go (no over) =
        let kept : text_most < length (take k line) = omega (arith, length-take k line) in
        let far : text_most < length line = omega arith in
        let alike : is_text_value (take k line) ≡ is_text_value line = text_cut k line (omega arith) in
        (far_said (take k line) line kept far alike s, far_said line (take k line) far kept (sym alike) s)

-- The answer to each question is given by what the bytes are decoded to.
record_by : (q : Question) (s t : List ℕ) → decode s ≡ decode t → record_said q s ≡ record_said q t
record_by Check s t e = rw e
record_by AsWord s t e = rw e
record_by Text s t e = rw e
record_by Length s t e = rw e
record_by LabelLength s t e = rw e
record_by Pair s t e = rw e

-- However the line is parted: its bytes, cut behind all that two fields can be, are decoded as the whole.
pub hex_in_parts : HexInParts
hex_in_parts q parts bytes large small =
    ap (hex_said q) (read-in-parts parts bytes small) ∙ go (hex_read line) refl
  where
    line : List ℕ
    line = whole_of parts

    go : (r : HexRead) → hex_read line ≡ r → hex_said q (cut_read (length bytes) r) ≡ hex_said q r
    go (hex_bytes s) e =
        record_by q (take (length bytes) s) s (decode_cut (length bytes) s (read_bytes line s e) large)
    go (stray_at offset) e = refl
