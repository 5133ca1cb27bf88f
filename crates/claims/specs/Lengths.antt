-- Fordham's length is the least number of letters (000, section 3.1, lemma 3.1 and theorem 3.2; 01, 'The tree pair and
-- the length'), 16 bits hold it (02, [2]), and the sum of Table 1 over five labels is the same number (001, section 2;
-- 02, [5]): a claim each; proofs/Lengths.antt has the proofs, under the same names in snake case. What
-- the claims speak of, and where it is defined:
--     LengthCall s       an accepted call of record_to_length on the record s; its answer is `count`   claims, Calls
--     WordCall w         an accepted call of word_to_record on the bytes of w                          claims, Calls
--     IsRecord s f       s is the record of the form f                                                records, Format
--     form_of w          the reduced form of a word                                                   group, Products
--     letters f          the form f written out in letters                                            group, Forms
--     Joined, SameMap    a chain joins two words; they move every dyadic point alike                  group
--     pair_length t s    the sum of the weights of a pair of trees                                    lengths, Weights
--     form_length f      the same of the form's smallest pair                                         lengths, Weights
--     carets_of f        N of the form, the carets of each tree                                       trees, Pairs
--     max_carets         2 · limit + 1, the largest N within the limits                               trees, Pairs
--     classes t          the one reading of a tree, from which kinds and labels are worked out        lengths, Classes
--     exponents_of t     the exponents of the leaves of a tree                                        trees, Readings
--     row_classes, from_one  the classes of carets by two counters, from the exponents alone          geodesics, Rows
--     IsLabel t k x      caret k has the label x, by the request's sentences                          lengths, Labels
--     labels t           the labels of the carets 1, 2, … as they are worked out                      lengths, Labels
--     At xs k x          entry k of the list xs is x                                                  lists, Entries
--     table1 x y         001, Table 1: the weight of the label x over y                               geodesics, Table1
--     table_sum xs ys    its sum over columns, the trailing columns R over R dropped                  geodesics, Table1
--     label_length       the same over the labels of a pair of trees                                  geodesics, Table1
--     label_entry i j    the constant of the code, its rows and columns numbered by number_of         scans, Table
--     label_sum f        the same of the form's smallest pair                                         pairs, Promises
--     decode s           the form of the record s, or its refusal                                     records, Reading
--     valued count o     what is counted of a form, or the refusal as it is                        refusals, Outcomes
-- Assumes nothing.
use Rattle.std.specs.Prelude.{◌≡◌, List, [], ◌∷◌, ◌++◌, ◌⊎◌, ◌↔◌, ℕ, suc, ◌+◌, ◌*◌, ◌<◌, ◌≤◌, length}
use Rattle.lists.specs.Entries.{At}
use Rattle.group.specs.Letters.{Letter, Word}
use Rattle.group.specs.Chains.{Joined}
use Rattle.group.specs.Maps.{SameMap}
use Rattle.group.specs.Forms.{Form, levels, exponent_sum, letters}
use Rattle.group.specs.Limits.{limit}
use Rattle.group.specs.Products.{form_of}
use Rattle.refusals.specs.Outcomes.{valued}
use Rattle.records.specs.Format.{IsRecord}
use Rattle.records.specs.Reading.{decode}
use Rattle.trees.specs.Trees.{Tree, carets}
use Rattle.trees.specs.Pairs.{carets_of, max_carets, minus_tree, plus_tree}
use Rattle.trees.specs.Readings.{exponents_of}
use Rattle.lengths.specs.Classes.{on_left, classes}
use Rattle.lengths.specs.Labels.{Label, 'I, 'N, 'L, 'R, 'X, IsLabel, labels}
use Rattle.lengths.specs.Weights.{pair_length, form_length}
use Rattle.geodesics.specs.Rows.{row_classes, from_one}
use Rattle.geodesics.specs.Table1.{table1, table_sum, label_length}
use Rattle.scans.specs.Table.{number_of, label_entry}
use Rattle.pairs.specs.Promises.{label_sum}
use Rattle.claims.specs.Calls.{CallOn, record_by, LengthCall}

-- The call's answer is the least number of letters: some word of the record's element has so many, none has fewer, also
-- among the words of the same map, of any length; so no word is shorter than the length of its own record.
pub record LengthIsLeast : Type 0 where
  pub reached : (s : List ℕ) (c : LengthCall s) (f : Form) → IsRecord s f
      → (w : Word) × Joined w (letters f) × (length w ≡ c.count)
  pub least : (s : List ℕ) (c : LengthCall s) (f : Form) → IsRecord s f
      → (w : Word) → Joined w (letters f) → c.count ≤ length w
  pub least_of_map : (s : List ℕ) (c : LengthCall s) (f : Form) → IsRecord s f
      → (w : Word) → SameMap w (letters f) → c.count ≤ length w
  pub of_word : (w : Word) (f : CallOn w) (c : LengthCall (record_by f)) → c.count ≤ length w

-- Lemma 3.1, property 3: a letter put behind a word changes the length of its element by exactly one.
abbrev pub LetterChangesByOne : Type 0
LetterChangesByOne =
    (w : Word) (x : Letter)
    → (form_length (form_of (w ++ (x ∷ []))) ≡ suc (form_length (form_of w)))
    ⊎ (form_length (form_of w) ≡ suc (form_length (form_of (w ++ (x ∷ [])))))

-- Property 4: unless the length is 0, some letter put behind lowers it by one.
abbrev pub SomeLetterLowers : Type 0
SomeLetterLowers =
    (w : Word)
    → (form_length (form_of w) ≡ 0)
    ⊎ ((x : Letter) × (form_length (form_of w) ≡ suc (form_length (form_of (w ++ (x ∷ []))))))

-- Properties 1 and 2: length 0 is the identity alone.
abbrev pub ZeroIsIdentity : Type 0
ZeroIsIdentity = (w : Word) → (form_length (form_of w) ≡ 0) ↔ Joined w []

-- Theorem 3.2: every element has a word of as many letters as its length.
abbrev pub LengthIsReached : Type 0
LengthIsReached = (w : Word) → (u : Word) × Joined u w × (length u ≡ form_length (form_of w))

-- Theorem 3.2: no word of the element has fewer letters.
abbrev pub NoShorterWord : Type 0
NoShorterWord = (u w : Word) → Joined u w → form_length (form_of w) ≤ length u

-- The trees of an element have at most two carets more than its length.
abbrev pub FewCarets : Type 0
FewCarets = (w : Word) → carets_of (form_of w) ≤ form_length (form_of w) + 2

-- 001, section 2: the sum of Table 1 over the labels is Fordham's length.
abbrev pub LabelsGiveLength : Type 0
LabelsGiveLength = (f : Form) → label_length (minus_tree f) (plus_tree f) ≡ form_length f

-- 02, [2]: no two trees of one size at the limits have a length above 8 · limit − 2, which 16 bits hold; no form at the
-- limits has one above 5 · limit, and no call answers more. `literal` is the request's own number, for the limit 4,096.
pub record NarrowSum : Type 0 where
  pub pairs : (t s : Tree) → carets t ≡ carets s → carets t ≤ max_carets → pair_length t s + 2 ≤ 8 * limit
  pub fits : 8 * limit < 65536 + 2
  pub forms : (f : Form) → levels f ≤ limit + 1 → exponent_sum f ≤ limit → form_length f ≤ 5 * limit
  pub answers : (s : List ℕ) (c : LengthCall s) → c.count ≤ 5 * limit
  pub literal : (t s : Tree) → carets t ≡ carets s → carets t ≤ max_carets → pair_length t s ≤ 32772

-- 02, [5]: the five labels and the seven kinds share one reading of the tree; what a scan of the exponents reads, by
-- two counters, is that reading.
abbrev pub OneReading : Type 0
OneReading =
    (t : Tree) (n : ℕ) → carets t ≡ suc n → classes t ≡ on_left ∷ row_classes n (from_one (exponents_of t))

-- 02, [5]: each caret from caret 1 on has exactly one label, and the labels that are worked out are these.
pub record LabelsOfCarets : Type 0 where
  pub one : (t : Tree) (k : ℕ) → 0 < k → k < carets t
      → (x : Label) × IsLabel t k x × ((y : Label) → IsLabel t k y → y ≡ x)
  pub listed : (t : Tree) (k : ℕ) (x : Label) → IsLabel t (suc k) x ↔ At (labels t) k x

-- A row of Table 1, its columns in the order I, N, L, R, X.
abbrev pub table_row : Label → List ℕ
table_row x = table1 x 'I ∷ table1 x 'N ∷ table1 x 'L ∷ table1 x 'R ∷ table1 x 'X ∷ []

-- 001, section 2: Table 1 as it is printed; it is symmetric, and the constant of the code is the same table.
pub record TableOne : Type 0 where
  pub row_I : table_row 'I ≡ 2 ∷ 4 ∷ 2 ∷ 1 ∷ 3 ∷ []
  pub row_N : table_row 'N ≡ 4 ∷ 4 ∷ 2 ∷ 3 ∷ 3 ∷ []
  pub row_L : table_row 'L ≡ 2 ∷ 2 ∷ 2 ∷ 1 ∷ 1 ∷ []
  pub row_R : table_row 'R ≡ 1 ∷ 3 ∷ 1 ∷ 2 ∷ 2 ∷ []
  pub row_X : table_row 'X ≡ 3 ∷ 3 ∷ 1 ∷ 2 ∷ 2 ∷ []
  pub symmetric : (x y : Label) → table1 x y ≡ table1 y x
  pub constant : (x y : Label) → label_entry (number_of x) (number_of y) ≡ table1 x y

-- 02, [5]: over the carets from 1 upward, for the lists of their labels from left to right, the trailing columns that
-- are R over R dropped, the sum of Table 1 is that of the pair.
abbrev pub LabelLengthIsSum : Type 0
LabelLengthIsSum =
    (t s : Tree) (xs ys : List Label)
    → ((k : ℕ) (x : Label) → At xs k x ↔ IsLabel t (suc k) x) → ((k : ℕ) (y : Label) → At ys k y ↔ IsLabel s (suc k) y)
    → label_length t s ≡ table_sum xs ys

-- 02, [5]: record_to_length and record_to_label_length answer alike on every input.
abbrev pub SecondEngine : Type 0
SecondEngine = (s : List ℕ) → valued label_sum (decode s) ≡ valued form_length (decode s)
