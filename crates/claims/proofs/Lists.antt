-- The claims of specs/Lists.antt, proved. Assumes nothing.
use mathlib.Core.Path.{◌≡◌, refl, sym, ap, subst, ◌∙◌}
use mathlib.Core.List.{List, ◌∷◌, ◌++◌, append_assoc}
use Prim.Native.Nat.{ℕ, ◌+◌, ◌<◌, ◌≤◌}
use native.Mathlib.Omega.{arith}
use lib.ListN.{length, take, drop, get_or, take-append-drop}
use lib.Seq.{sets, take_at, drop_at}
use Rattle.std.specs.Prelude.{Result}
use Rattle.refusals.specs.declared.Refusal.{Refusal}
use Rattle.lists.specs.Entries.{At}
use Rattle.lists.proofs.Writes.{sets_front, sets-beyond}
use Rattle.lines.specs.Lines.{lines_of}
use Rattle.group.specs.Letters.{Word}
use Rattle.group.specs.Bytes.{bytes_of}
use Rattle.group.specs.Forms.{Side, b_side, a_side, exponent}
use Rattle.group.specs.Products.{form_of}
use Rattle.group.specs.Limits.{limit}
use Rattle.group.proofs.Bytes.{word_read}
use Rattle.refusals.specs.Outcomes.{Outcome, accepted, after, valued, reply_of}
use Rattle.refusals.specs.Memory.{Memory}
use Rattle.refusals.proofs.Outcomes.{accepted_same, accepted_refused}
use Rattle.letters.specs.Judging.{line_read}
use Rattle.letters.proofs.Judged.{accepted_fit}
use Rattle.wordlists.specs.Items.{item, items, tables_then}
use Rattle.wordlists.specs.Listing.{list_judged_with, table_behind, items_in, Listed}
use Rattle.wordlists.proofs.Lines.{read_bytes}
use Rattle.wordlists.proofs.Items.{items-append, item_word}
use Rattle.wordlists.proofs.Sizes.{items_size, read_letters}
use Rattle.wordlists.proofs.Tables.{NoLineReaches, tables_kept, tables_last}
use Rattle.claims.specs.Calls.{MemoryCall}
use Rattle.claims.specs.Lists.{item_at, ListIsCalls, SomeCalls, NoneReaches, LastWordFills, ListRecordsJoined}
use Rattle.claims.proofs.TextRefusals.{b_full, a_full}
use Rattle.claims.proofs.WordCalls.{records↔joined}
use Rattle.claims.proofs.ListRefusals.{ListJudged, refuses, accepts, judge_list}
use Rattle.claims.proofs.LineCalls.{calls_ran, calls_exist}

-- What an accepted list call was lent and leaves.
record ListWritten (list : List ℕ) (m m' : Memory) (n : ℕ) : Type 0 where
  b_long : limit < length m.b
  a_long : limit < length m.a
  b_table : m'.b ≡ tables_then b_side (lines_of list) m.b
  a_table : m'.a ≡ tables_then a_side (lines_of list) m.a
  count : n ≡ length (items (lines_of list))
  front : take n m'.buffer ≡ items (lines_of list)
  beyond : drop n m'.buffer ≡ drop n m.buffer

-- By what is judged of the list.
list_written : {list : List ℕ} {m m' : Memory} {r : Result ℕ Refusal} {n : ℕ} → Listed list m m' r
    → reply_of r ≡ accepted n
    → ListWritten list m m' n
list_written {list} {m} {m'} {r} {n} h e = go (judge_list list m)
  where
    counted : (o : Outcome (List (List ℕ))) → list_judged_with list m ≡ o → accepted n ≡ valued length (items_in o)
    counted o so = sym e ∙ h.output.result ∙ ap (λ (q : Outcome (List (List ℕ))). valued length (items_in q)) so

    go : ListJudged list m → ListWritten list m m' n
    go (refuses k p c so) = absurd (accepted_refused (counted _ so))
    go (accepts full long so) =
        let size : n ≡ length (items (lines_of list)) = accepted_same (counted _ so) in
        let fits : n ≤ length m.buffer = omega (arith, size, items_size (lines_of list), long) in
        let bytes =
        h.output.bytes
        ∙ ap (λ (q : Outcome (List (List ℕ))). after (items_in q) m.buffer (λ l. sets m.buffer 0 l)) so in
        record {
          b_long = b_full m full;
          a_long = a_full m full;
          b_table = h.b_table ∙ ap (λ (q : Outcome (List (List ℕ))). table_behind b_side q m.b) so;
          a_table = h.a_table ∙ ap (λ (q : Outcome (List (List ℕ))). table_behind a_side q m.a) so;
          count = size;
          front = ap (take n) bytes ∙ sets_front (items (lines_of list)) m.buffer n (sym size) fits;
          beyond = ap (drop n) bytes ∙ sets-beyond (items (lines_of list)) m.buffer n (sym size) fits;
        }

pub list_is_calls : ListIsCalls
list_is_calls list m m' r n h e cs b' a' same from =
    let w = list_written h e in
    let ran = calls_ran cs m.b m.a b' a' w.b_long w.a_long from in
    let bytes = ap items (sym same) ∙ sym ran.bytes in
    record {
      b_table =
          w.b_table ∙ ap (λ (ls : List (List ℕ)). tables_then b_side ls m.b) (sym same) ∙ sym ran.b_table;
      a_table =
          w.a_table ∙ ap (λ (ls : List (List ℕ)). tables_then a_side ls m.a) (sym same) ∙ sym ran.a_table;
      count = w.count ∙ ap length bytes;
      bytes = w.front ∙ bytes;
      beyond = w.beyond;
      only_words = ran.only_words;
    }

pub some_calls : SomeCalls
some_calls = calls_exist

-- Said of what the lines are read as: an accepted line is the bytes of its word, which is within the limit.
no_line_reaches : (i : ℕ) (ls : List (List ℕ)) → NoneReaches i ls → NoLineReaches i ls
no_line_reaches i ls none k l w at e =
    let fit = accepted_fit l (length l + 1) (length l + 1) w e in
    none k w (subst (At ls k) (word_read l w fit.reads) at) (omega (arith, fit.short, read_letters l w e))

-- A table behind the lines: the last word that reaches entry i gives it, and lines that do not reach it leave it.
module _ (s : Side) (ls : List (List ℕ)) (t : List ℕ) {t' : List ℕ} (so : t' ≡ tables_then s ls t) (i : ℕ) where
  entry_last : (before behind : List (List ℕ)) (w : Word) → ls ≡ before ++ (bytes_of w ∷ behind) → length w ≤ limit
      → i ≤ length w → NoneReaches i behind → get_or t' i 0 ≡ exponent s (form_of w) i
  entry_last before behind w same few reached none =
      ap (λ (u : List ℕ). get_or u i 0) (so ∙ ap (λ (ks : List (List ℕ)). tables_then s ks t) same)
      ∙ tables_last s i before behind (bytes_of w) w t (read_bytes w few) reached (no_line_reaches i behind none)

  entry_kept : NoneReaches i ls → get_or t' i 0 ≡ get_or t i 0
  entry_kept none = ap (λ (u : List ℕ). get_or u i 0) so ∙ tables_kept s i ls t (no_line_reaches i ls none)

pub last_word_fills : LastWordFills
last_word_fills list m m' r n h e i =
    let w = list_written h e in
    let ls = lines_of list in
    record {
      last_word = λ before behind x same few reached none. (
        entry_last b_side ls m.b w.b_table i before behind x same few reached none,
        entry_last a_side ls m.a w.a_table i before behind x same few reached none,
      );
      no_word = λ none. (
        entry_kept b_side ls m.b w.b_table i none,
        entry_kept a_side ls m.a w.a_table i none,
      );
    }

-- A part of bytes, at its place.
part_at : (x y z rest out : List ℕ) → out ≡ (x ++ (y ++ z)) ++ rest → take (length y) (drop (length x) out) ≡ y
part_at x y z rest out e =
    ap (λ (s : List ℕ). take (length y) (drop (length x) s)) (e ∙ append_assoc x (y ++ z) rest)
    ∙ ap (take (length y)) (drop_at x ((y ++ z) ++ rest) (length x) refl ∙ append_assoc y z rest)
    ∙ take_at y (z ++ rest) (length y) refl

-- The item of a line stands at its place.
item_stands : {list : List ℕ} (c : MemoryCall (Listed list)) (before behind : List (List ℕ)) (l : List ℕ)
    → lines_of list ≡ before ++ (l ∷ behind) → item_at before l c.left.buffer ≡ item (line_read l)
item_stands c before behind l e =
    let n = c.count in
    let out = c.left.buffer in
    part_at (items before) (item (line_read l)) (items behind) (drop n out) out
    (sym (take-append-drop n out)
    ∙ ap (λ (s : List ℕ). s ++ drop n out)
    ((list_written c.contract c.taken).front ∙ ap items e ∙ items-append before (l ∷ behind)))

pub list_records_joined : ListRecordsJoined
list_records_joined list list₂ c d w x few few₂ before behind before₂ behind₂ e e₂ =
    let one = item_stands c before behind (bytes_of w) e ∙ item_word w few in
    let two = item_stands d before₂ behind₂ (bytes_of x) e₂ ∙ item_word x few₂ in
    let just = records↔joined w x few few₂ in
    ((λ same. just.0 (sym one ∙ same ∙ two)), λ j. one ∙ just.1 j ∙ sym two)
