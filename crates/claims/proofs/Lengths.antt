-- The claims of specs/Lengths.antt, proved. Assumes nothing.
use mathlib.Core.Path.{◌≡◌, refl, sym, ap, ap₂, ◌∙◌}
use mathlib.Core.List.{List}
use mathlib.Core.Logic.{◌↔◌}
use Prim.Native.Nat.{ℕ, suc, ◌≤◌}
use native.Mathlib.Omega.{arith}
use lib.ListN.{length}
use Rattle.lists.specs.Entries.{At}
use Rattle.lists.proofs.Entries.{at_same_list}
use Rattle.group.specs.Letters.{Word}
use Rattle.group.specs.Chains.{Joined}
use Rattle.group.specs.Forms.{Form, letters}
use Rattle.group.specs.Limits.{limit}
use Rattle.group.specs.Products.{form_of}
use Rattle.group.proofs.Congruence.{joined_sym}
use Rattle.group.proofs.Products.{form_joined}
use Rattle.group.proofs.Theorems.{the_form_joined, forms↔joined, joined↔maps}
use Rattle.refusals.specs.Outcomes.{Outcome, accepted, refused, valued}
use Rattle.refusals.proofs.Outcomes.{accepted_same, valued_accepted}
use Rattle.records.specs.Format.{IsRecord}
use Rattle.records.specs.Reading.{decode}
use Rattle.records.proofs.Accepted.{decode_form, record_decoded}
use Rattle.records.proofs.ClearedTables.{within_levels}
use Rattle.trees.specs.Trees.{Tree}
use Rattle.lengths.specs.Labels.{Label, IsLabel, labels}
use Rattle.lengths.specs.Weights.{form_length}
use Rattle.lengths.proofs.CaretLabels.{label_at_lem, one_label}
use Rattle.lengths.proofs.PairBounds.{pair_narrow}
use Rattle.lengths.proofs.FormBounds.{form_most}
use Rattle.geodesics.specs.Table1.{table_sum}
use Rattle.geodesics.proofs.TreeRows.{tree_row}
use Rattle.geodesics.proofs.LabelSums.{form_labels}
use Rattle.geodesics.proofs.CaretBound.{form_carets}
use Rattle.geodesics.proofs.WordLengths.{behind_by_one, behind_lowers, zero_length}
use Rattle.geodesics.proofs.ShortestWords.{shortest_word, shortest_least}
use Rattle.scans.specs.Table.{number_of}
use Rattle.scans.proofs.Constant.{number_lt, entry_label, entry_symmetric}
use Rattle.pairs.specs.Promises.{label_sum}
use Rattle.claims.specs.Calls.{LengthCall, record_by}
use Rattle.claims.specs.Lengths.{LengthIsLeast, LetterChangesByOne, SomeLetterLowers, ZeroIsIdentity}
use Rattle.claims.specs.Lengths.{LengthIsReached, NoShorterWord, FewCarets, LabelsGiveLength, NarrowSum}
use Rattle.claims.specs.Lengths.{OneReading, LabelsOfCarets, TableOne, LabelLengthIsSum, SecondEngine}
use Rattle.claims.proofs.Written.{listed_record}
use Rattle.claims.proofs.TextCalls.{call_listed}

pub letter_changes_by_one : LetterChangesByOne
letter_changes_by_one = behind_by_one

pub some_letter_lowers : SomeLetterLowers
some_letter_lowers = behind_lowers

pub zero_is_identity : ZeroIsIdentity
zero_is_identity = zero_length

pub length_is_reached : LengthIsReached
length_is_reached = shortest_word

pub no_shorter_word : NoShorterWord
no_shorter_word = shortest_least

pub few_carets : FewCarets
few_carets w = form_carets (form_of w)

pub labels_give_length : LabelsGiveLength
labels_give_length = form_labels

-- The form of a record that the call accepts: the answer is its length.
accepted_form : (s : List ℕ) (c : LengthCall s) → (f : Form) × (decode s ≡ accepted f) × (form_length f ≡ c.count)
accepted_form s c = valued_accepted form_length (decode s) c.count (sym c.contract.result ∙ c.taken)

pub narrow_sum : NarrowSum
narrow_sum = record {
  pairs = λ t s same few. omega (arith, pair_narrow t s same few);
  fits = omega arith;
  forms = λ f h k. omega (arith, form_most limit f (omega arith) k);
  answers = λ s c.
      let x = accepted_form s c in
      let g = decode_form s x.0 x.1 in
      omega (arith, x.2, form_most limit x.0 (within_levels x.0 g.0 g.1) g.1.sum);
  literal = λ t s same few. omega (arith, pair_narrow t s same few);
}

-- The answer of a call on the record of a form is the length of the word that the form writes out.
answer-length : (s : List ℕ) (c : LengthCall s) (f : Form) → IsRecord s f
    → c.count ≡ form_length (form_of (letters f))
answer-length s c f h =
    let x = accepted_form s c in
    let same : x.0 ≡ f = accepted_same (sym x.1 ∙ record_decoded s f h) in
    let own : f ≡ form_of (letters f) =
    the_form_joined (letters f) f h.reduced h.trimmed ((forms↔joined (letters f) (letters f)).0 refl) in
    sym x.2 ∙ ap form_length (same ∙ own)

least : (s : List ℕ) (c : LengthCall s) (f : Form) → IsRecord s f → (w : Word) → Joined w (letters f)
    → c.count ≤ length w
least s c f h w j = omega (arith, answer-length s c f h, shortest_least w (letters f) j)

pub length_is_least : LengthIsLeast
length_is_least = record {
  reached = λ s c f h.
      let u = shortest_word (letters f) in (u.0, u.1, u.2 ∙ sym (answer-length s c f h));
  least = least;
  least_of_map = λ s c f h w m. least s c f h w ((joined↔maps w (letters f)).1 m);
  of_word = λ w g c.
      least (record_by g) c (form_of w) (listed_record w (call_listed w g)) w (joined_sym (form_joined w));
}

pub one_reading : OneReading
one_reading t n h = sym (tree_row t n h)

pub labels_of_carets : LabelsOfCarets
labels_of_carets = record { one = one_label; listed = label_at_lem }

pub table_one : TableOne
table_one = record {
  row_I = refl;
  row_N = refl;
  row_L = refl;
  row_R = refl;
  row_X = refl;
  symmetric = λ x y.
      let entries = entry_symmetric (number_of x) (number_of y) (number_lt x) (number_lt y) in
      sym (entry_label x y) ∙ entries ∙ entry_label y x;
  constant = entry_label;
}

pub label_length_is_sum : LabelLengthIsSum
label_length_is_sum t s xs ys hx hy = ap₂ table_sum (same t xs hx) (same s ys hy)
  where
    same : (u : Tree) (zs : List Label) → ((k : ℕ) (x : Label) → At zs k x ↔ IsLabel u (suc k) x) → labels u ≡ zs
    same u zs h =
        at_same_list (labels u) zs (λ k x. (
          (λ a. (h k x).1 ((label_at_lem u k x).1 a)),
          λ a. (label_at_lem u k x).0 ((h k x).0 a),
        ))

pub second_engine : SecondEngine
second_engine s = go (decode s)
  where
    go : (o : Outcome Form) → valued label_sum o ≡ valued form_length o
    go (accepted f) = ap accepted (form_labels f)
    go (refused n q) = refl
