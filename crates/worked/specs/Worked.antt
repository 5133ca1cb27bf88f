-- The lines of 01, 'Worked at the desk', that are marked P, as the rows of one claim, over the definitions that the
-- calls' contracts cite, with what 01 prints elsewhere. A comment gives the line of each row. Pairs (i, e) are an index
-- and its exponent, as in 01: a record is written by its two sides, or byte by byte where 01 prints its bytes; a form
-- by its levels, `level b_0 a_0 (level b_1 a_1 …)`. N and the length of a word are those of its record.
--     Worked        01's lines marked P, the limit, the printed table of weights, the relators, and a whole receipt
--     WorkedForms   the same lines of forms, 000's Table 4, and the labels of 02, [5], for its carets
--     WorkedRegisters   filings of 02, [3] and [7], with every byte of the register
--     WorkedVerdicts    verdicts on two words, of 02, [7]
--     HasForm t f, HasRecord t s   the text t is a word, with the form f, with the record s
--     Measures s n l               the record s is read, N is n and the length is l
--     IsSpelled s t                the record s is read, and spelled as the text t
--     IsPhrased s t                the record s is that of the text t in subscript notation, and is written as t
--     IsEntered t h s y s'         the text t, filed under holder h into the register s, is answered y and leaves s'
--     HasVerdict t u d             the texts t and u are words, and d is the verdict on their records
-- Assumes nothing.
use Rattle.std.specs.Prelude.{◌≡◌, List, [], ◌∷◌, ◌++◌, ℕ, length, replicate}
use Rattle.std.proofs.Math.Option.{some, map}
use Prim.Native.String.{String}
use Rattle.group.specs.Letters.{'b, Word}
use Rattle.group.specs.Chains.{relator1, relator2}
use Rattle.group.specs.Maps.{SameMap}
use Rattle.group.specs.Forms.{Form, empty, level, letters}
use Rattle.group.specs.Reducing.{Reduced, Applies}
use Rattle.group.specs.Products.{form_of}
use Rattle.group.specs.Texts.{word_of}
use Rattle.group.specs.Limits.{limit}
use Rattle.group.specs.Powers.{SignedPower}
use Rattle.refusals.specs.Outcomes.{accepted, refused, valued, then}
use Rattle.records.specs.Format.{Power, power, entries, b_tag, a_tag, encode}
use Rattle.fields.specs.Fields.{field}
use Rattle.records.specs.Reading.{decode}
use Rattle.records.specs.Faults.{form_read}
use Rattle.trees.specs.Pairs.{carets_of, minus_tree, plus_tree}
use Rattle.lengths.specs.Kinds.{Kind, L0, LL, RI, RN, R0, I0, IR, kinds}
use Rattle.lengths.specs.Labels.{'I, 'L, 'R, 'X, labels}
use Rattle.lengths.specs.Weights.{weight, form_length}
use Rattle.spelling.specs.Spelling.{spelling}
use Rattle.spelling.specs.Promises.{spelled_in}
use Rattle.tokens.specs.Texts.{text_of}
use Rattle.forest.specs.Filling.{product_form}
use Rattle.notation.specs.Promises.{text_in}
use Rattle.words.specs.Recording.{encode_word}
use Rattle.comparisons.specs.Comparing.{Decision, same, inverse, different, verdict_on}
use Rattle.numerals.specs.Decimals.{ascii}
use Rattle.rows.specs.Receipts.{output_of}
use Rattle.updates.specs.Entering.{Reply, new_entry, present, entered_word, register_after}

-- The text is a word, and f is the form of that word.
abbrev pub HasForm : String → Form → Type 0
HasForm t f = map form_of (word_of t) ≡ some f

-- The text is a word, and the bytes are the record that is written for it.
abbrev pub HasRecord : String → List ℕ → Type 0
HasRecord t s = map encode_word (word_of t) ≡ some s

-- The record with the powers of the b side and of the a side.
abbrev pub sides : List Power → List Power → List ℕ
sides b a = field b_tag (entries b) ++ field a_tag (entries a)

-- What record to tree pair and record to length answer.
pub record Measures (s : List ℕ) (n l : ℕ) : Type 0 where
  pub number : valued carets_of (decode s) ≡ accepted n
  pub measure : valued form_length (decode s) ≡ accepted l

-- What record to word writes, into a buffer of exactly as many bytes.
pub record IsSpelled (s : List ℕ) (t : String) : Type 0 where
  pub word : Word
  pub text : word_of t ≡ some word
  pub spelled : spelled_in s (length word) ≡ accepted word

-- What text to record writes, and what record to text writes, into a buffer of exactly as many bytes.
pub record IsPhrased (s : List ℕ) (t : String) : Type 0 where
  pub powers : List SignedPower
  pub text : ascii t ≡ text_of powers
  pub recorded : encode (product_form powers) ≡ s
  pub phrased : text_in s (ascii t) ≡ accepted (ascii t)

-- What a filing answers, and the register that it leaves.
pub record IsEntered (t : String) (h : ℕ) (s : List ℕ) (y : Reply) (s' : List ℕ) : Type 0 where
  pub word : Word
  pub text : word_of t ≡ some word
  pub answer : then (entered_word s h word) (λ x. accepted x.answer) ≡ accepted y
  pub left : register_after (entered_word s h word) s ≡ s'

-- The verdict on two words, by their records.
pub record HasVerdict (t u : String) (d : Decision) : Type 0 where
  pub first : Word
  pub second : Word
  pub texts : (word_of t ≡ some first) × (word_of u ≡ some second)
  pub verdict : verdict_on (encode_word first) (encode_word second) ≡ d

-- 010000020000 and 01000400010001020000, byte by byte.
abbrev pub empty_record : List ℕ
empty_record = 1 ∷ 0 ∷ 0 ∷ 2 ∷ 0 ∷ 0 ∷ []

abbrev pub record_of_b : List ℕ
record_of_b = 1 ∷ 0 ∷ 4 ∷ 0 ∷ 1 ∷ 0 ∷ 1 ∷ 2 ∷ 0 ∷ 0 ∷ []

-- b side (0,1), (2,1) and a side (0,1), as a record and as a form.
abbrev pub unreduced_record : List ℕ
unreduced_record = sides (power 0 1 ∷ power 2 1 ∷ []) (power 0 1 ∷ [])

abbrev pub unreduced : Form
unreduced = level 1 1 (level 0 0 (level 1 0 empty))

-- b side (0,2), (1,1), (6,1), a side (0,2), (3,1), a dead end in 000, as a record and as a form.
abbrev pub dead_end_record : List ℕ
dead_end_record = sides (power 0 2 ∷ power 1 1 ∷ power 6 1 ∷ []) (power 0 2 ∷ power 3 1 ∷ [])

abbrev pub dead_end : Form
dead_end = level 2 2 (level 1 0 (level 0 0 (level 0 1 (level 0 0 (level 0 0 (level 1 0 empty))))))

-- x_1, x_2 and x_3: (1,1), (2,1), (3,1) on the b side.
abbrev pub x1 : Form
x1 = level 0 0 (level 1 0 empty)

abbrev pub x2 : Form
x2 = level 0 0 x1

abbrev pub x3 : Form
x3 = level 0 0 x2

-- Fresh registers: 10000400000000, then bytes 00, 26 and 30 bytes in all; the same, one byte 00 and 25 bytes FF.
abbrev pub fresh26 : List ℕ
fresh26 = 16 ∷ 0 ∷ 4 ∷ 0 ∷ 0 ∷ 0 ∷ 0 ∷ replicate 19 0

abbrev pub fresh30 : List ℕ
fresh30 = 16 ∷ 0 ∷ 4 ∷ 0 ∷ 0 ∷ 0 ∷ 0 ∷ replicate 23 0

abbrev pub fresh33 : List ℕ
fresh33 = 16 ∷ 0 ∷ 4 ∷ 0 ∷ 0 ∷ 0 ∷ 0 ∷ 0 ∷ replicate 25 255

-- 10000400000001 and the entry 110010 00000001 0000 01000002000400000001: number 1, holder 0, the record of `A`, which
-- is the smaller of that of `a` and its exchange.
abbrev pub filed_a : List ℕ
filed_a =
    16 ∷ 0 ∷ 4 ∷ 0 ∷ 0 ∷ 0 ∷ 1
    ∷ 17 ∷ 0 ∷ 16 ∷ 0 ∷ 0 ∷ 0 ∷ 1 ∷ 0 ∷ 0
    ∷ 1 ∷ 0 ∷ 0 ∷ 2 ∷ 0 ∷ 4 ∷ 0 ∷ 0 ∷ 0 ∷ 1 ∷ []

-- The same with the record 0100040000000102000400010001 of `aB`, which `bA` has for its exchange: both have as many
-- bytes on either side, and the index decides.
abbrev pub fileda_b : List ℕ
fileda_b =
    16 ∷ 0 ∷ 4 ∷ 0 ∷ 0 ∷ 0 ∷ 1
    ∷ 17 ∷ 0 ∷ 20 ∷ 0 ∷ 0 ∷ 0 ∷ 1 ∷ 0 ∷ 0
    ∷ 1 ∷ 0 ∷ 4 ∷ 0 ∷ 0 ∷ 0 ∷ 1 ∷ 2 ∷ 0 ∷ 4 ∷ 0 ∷ 1 ∷ 0 ∷ 1 ∷ []

-- The same with the record 01000002000400030001, whose exchange `BAbab` has, then one byte 00, and the last 6 bytes as
-- they were.
abbrev pub filedBAbab : List ℕ
filedBAbab =
    16 ∷ 0 ∷ 4 ∷ 0 ∷ 0 ∷ 0 ∷ 1
    ∷ 17 ∷ 0 ∷ 16 ∷ 0 ∷ 0 ∷ 0 ∷ 1 ∷ 0 ∷ 0
    ∷ 1 ∷ 0 ∷ 0 ∷ 2 ∷ 0 ∷ 4 ∷ 0 ∷ 3 ∷ 0 ∷ 1
    ∷ 0 ∷ replicate 6 255

-- The row of a kind in the table of weights, in 01's order.
abbrev pub weight_row : Kind → List ℕ
weight_row x = weight x R0 ∷ weight x RN ∷ weight x RI ∷ weight x LL ∷ weight x I0 ∷ weight x IR ∷ []

-- The rows.
pub record Worked : Type 0 where
  -- P empty word: 010000020000. P `aBbA`, P `aBAbabAABa`: the same.
  pub record_empty : HasRecord "" empty_record
  pub record_aBbA : HasRecord "aBbA" empty_record
  pub record_aBAbabAABa : HasRecord "aBAbabAABa" empty_record
  -- P `b`: 0100040001 0001 020000 without the spaces; N 3, length 1.
  pub record_b : HasRecord "b" record_of_b
  pub pair_b : Measures record_of_b 3 1
  -- P `Aba`: index 2, exponent 1; N 4, length 3.
  pub record_Aba : HasRecord "Aba" (sides (power 2 1 ∷ []) [])
  pub pair_Aba : Measures (sides (power 2 1 ∷ []) []) 4 3
  -- P `BAbab` and P `AAbaa`: both index 3, exponent 1.
  pub record_BAbab : HasRecord "BAbab" (sides (power 3 1 ∷ []) [])
  pub record_AAbaa : HasRecord "AAbaa" (sides (power 3 1 ∷ []) [])
  -- P `ba`: b side (0,1), (2,1). P `ab`: b side (0,1), (1,1).
  pub record_ba : HasRecord "ba" (sides (power 0 1 ∷ power 2 1 ∷ []) [])
  pub record_ab : HasRecord "ab" (sides (power 0 1 ∷ power 1 1 ∷ []) [])
  -- P record with b side (0,1), (2,1) and a side (0,1): refusal 5, place 0. Its map is that of `b`.
  pub refused_unreduced : decode unreduced_record ≡ refused 5 0
  pub map_unreduced : SameMap (letters (form_read unreduced_record)) ('b ∷ [])
  -- P record b side (0,2), (1,1), (6,1), a side (0,2), (3,1): N 8, length 11, spelled `aabAAAAAbaaaB`.
  pub read_dead_end : decode dead_end_record ≡ accepted dead_end
  pub pair_dead_end : Measures dead_end_record 8 11
  pub spelled_dead_end : IsSpelled dead_end_record "aabAAAAAbaaaB"
  -- 02, [1]: the same in subscript notation.
  pub phrased_dead_end : IsPhrased dead_end_record "x0^2 x1 x6 x3^-1 x0^-2"
  -- 01, 'Letters and maps': a word has at most 4,096 letters; the relators.
  pub limit_printed : limit ≡ 4096
  pub relator1_printed : word_of "aBAbabAABa" ≡ some relator1
  pub relator2_printed : word_of "aBAAbaabAAABaa" ≡ some relator2
  -- 01, 'The tree pair and the length': the table of weights, its columns R0, RN, RI, LL, I0, IR.
  pub weights_R0 : weight_row R0 ≡ 0 ∷ 2 ∷ 2 ∷ 1 ∷ 1 ∷ 3 ∷ []
  pub weights_RN : weight_row RN ≡ 2 ∷ 2 ∷ 2 ∷ 1 ∷ 1 ∷ 3 ∷ []
  pub weights_RI : weight_row RI ≡ 2 ∷ 2 ∷ 2 ∷ 1 ∷ 3 ∷ 3 ∷ []
  pub weights_LL : weight_row LL ≡ 1 ∷ 1 ∷ 1 ∷ 2 ∷ 2 ∷ 2 ∷ []
  pub weights_I0 : weight_row I0 ≡ 1 ∷ 1 ∷ 3 ∷ 2 ∷ 2 ∷ 4 ∷ []
  pub weights_IR : weight_row IR ≡ 3 ∷ 3 ∷ 3 ∷ 2 ∷ 4 ∷ 4 ∷ []
  -- 01, 'The receipt program': what is written for the lines `abA`, `aA`, `axb`, byte for byte.
  pub receipt_printed : output_of (ascii "abA\naA\naxb\n") ≡ ascii "line letters carets length record\n"
      ++ ascii "1 3 3 3 010008000000010001000102000400000001\n"
      ++ ascii "2 2 0 0 010000020000\n"
      ++ ascii "3 refused 2 1\n"

-- The same of forms.
pub record WorkedForms : Type 0 where
  -- Of the words.
  pub form_empty : HasForm "" empty
  pub form_aBbA : HasForm "aBbA" empty
  pub form_aBAbabAABa : HasForm "aBAbabAABa" empty
  pub form_b : HasForm "b" x1
  pub form_Aba : HasForm "Aba" x2
  pub form_BAbab : HasForm "BAbab" x3
  pub form_AAbaa : HasForm "AAbaa" x3
  pub form_ba : HasForm "ba" (level 1 0 (level 0 0 (level 1 0 empty)))
  pub form_ab : HasForm "ab" (level 1 0 (level 1 0 empty))
  -- Of the record that is not reduced: the clause is broken at index 0.
  pub form_unreduced : form_read unreduced_record ≡ unreduced
  pub unreduced_place : Applies 0 unreduced
  pub not_reduced : Reduced unreduced → ⊥
  -- Of the dead end: it is reduced, the form of its spelling, and its carets are of the kinds of 000, Table 4.
  pub dead_end_reduced : Reduced dead_end
  pub dead_end_word : HasForm "aabAAAAAbaaaB" dead_end
  pub dead_end_record_is : encode dead_end ≡ dead_end_record
  pub dead_end_spelling : word_of "aabAAAAAbaaaB" ≡ some (spelling dead_end)
  pub dead_end_minus : kinds (minus_tree dead_end) ≡ L0 ∷ LL ∷ LL ∷ I0 ∷ R0 ∷ R0 ∷ R0 ∷ R0 ∷ []
  pub dead_end_plus : kinds (plus_tree dead_end) ≡ L0 ∷ I0 ∷ LL ∷ LL ∷ RN ∷ RI ∷ I0 ∷ R0 ∷ []
  -- 02, [5]: the labels of the same carets, from caret 1 on.
  pub dead_end_minus_labels : labels (minus_tree dead_end) ≡ 'L ∷ 'L ∷ 'I ∷ 'R ∷ 'R ∷ 'R ∷ 'R ∷ []
  pub dead_end_plus_labels : labels (plus_tree dead_end) ≡ 'I ∷ 'L ∷ 'L ∷ 'R ∷ 'X ∷ 'I ∷ 'R ∷ []

-- Filings of 02, [3] and [7].
pub record WorkedRegisters : Type 0 where
  -- `a`, holder 0, into a fresh register that it fills: a new entry with number 1.
  pub entered_a : IsEntered "a" 0 fresh26 (new_entry 1) filed_a
  -- `BAbab`, holder 0, into a fresh register with 7 bytes more: a new entry with number 1.
  pub entered_BAbab : IsEntered "BAbab" 0 fresh33 (new_entry 1) filedBAbab
  -- `AAbaa`, the same element, holder 7, into what that left: entry 1 is there already, and nothing is changed.
  pub entered_AAbaa : IsEntered "AAbaa" 7 filedBAbab (present 1) filedBAbab
  -- `aB`, and its inverse `bA`, holder 0, each into a fresh register that it fills: the same record is stored.
  pub entered_aB : IsEntered "aB" 0 fresh30 (new_entry 1) fileda_b
  pub entered_bA : IsEntered "bA" 0 fresh30 (new_entry 1) fileda_b

-- Verdicts of 02, [7].
pub record WorkedVerdicts : Type 0 where
  pub verdict_a_A : HasVerdict "a" "A" inverse
  pub verdict_ab_BA : HasVerdict "ab" "BA" inverse
  pub verdict_empty_aA : HasVerdict "" "aA" same
  pub verdict_ab_ba : HasVerdict "ab" "ba" different
