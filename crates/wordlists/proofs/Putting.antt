-- The items of lines, put one behind another: one line's item, and the loop over the lines, in which what is left gives
-- the whole. Assumes nothing.
use mathlib.Core.Path.{◌≡◌, refl, sym, ap, subst, ◌∙◌}
use mathlib.Core.List.{List, ◌∷◌, ◌++◌}
use Prim.Native.Nat.{ℕ, ◌+◌, ◌-◌, ◌≤◌, ◌<◌}
use native.Mathlib.Omega.{arith}
use lib.ListN.{length, take, drop, length-take, length-drop, length-append}
use Rattle.std.specs.Prelude.{Result, Ok, Err}
use Rattle.lists.specs.inside.Writes.{Wrote, Writing}
use Rattle.lists.proofs.Writes.{wrote_same, write_part, write_start, write_more, writing_same}
use Rattle.lists.proofs.Writes.{write_done}
use Rattle.lines.specs.Lines.{lines_of}
use Rattle.lines.specs.LineEnds.{line_end_value}
use Rattle.lines.proofs.LineEnds.{lines_cut, lines_over}
use Rattle.group.specs.Letters.{Word}
use Rattle.group.specs.Forms.{Side, b_side, a_side}
use Rattle.group.specs.Limits.{limit}
use Rattle.refusals.specs.declared.Refusal.{Refusal}
use Rattle.refusals.specs.Refusals.{number_of, place_of}
use Rattle.refusals.specs.Outcomes.{Outcome, refused, reply_of}
use Rattle.refusals.specs.Memory.{Memory, memory}
use Rattle.refusals.proofs.Outcomes.{valued_refused, valued_accepted}
use Rattle.fields.specs.Fields.{two_bytes, field}
use Rattle.letters.specs.Judging.{line_read}
use Rattle.forest.specs.Filling.{table_after}
use Rattle.words.specs.Recording.{encode_word, count_record, buffer_after, judged_with, Left, Recorded}
use Rattle.wordlists.specs.Items.{refused_tag, item, items, list_size, tables_then}
use Rattle.wordlists.specs.inside.Steps.{item_size, LongTables, ItemRoom, ItemPut, ListRoom, ItemsPut}
use Rattle.wordlists.proofs.Lines.{judged_line, read_refused}
use Rattle.wordlists.proofs.Sizes.{item_size_lem}
use Rattle.wordlists.proofs.Tables.{line_table-length}

-- The part of a list from a place on, as it is lent.
abbrev pub part_from : ℕ → List ℕ → List ℕ
part_from at s = take (length s - at) (drop at s)

part_length : (at : ℕ) (s : List ℕ) → length (part_from at s) ≡ length s - at
part_length at s = omega (arith, length-take (length s - at) (drop at s), length-drop at s)

-- The whole, when a part that was lent came back.
abbrev pub back : ℕ → (s part : List ℕ) → List ℕ
back at s part = take at s ++ (part ++ drop (length s - at) (drop at s))

back_length : (at : ℕ) (s part : List ℕ) → at ≤ length s → length part ≡ length (part_from at s)
    → length (back at s part) ≡ length s
back_length at s part le e =
    omega (
      arith,
      e,
      part_length at s,
      length-append (take at s) (part ++ drop (length s - at) (drop at s)),
      length-append part (drop (length s - at) (drop at s)),
      length-take at s,
      length-drop (length s - at) (drop at s),
      length-drop at s,
    )

-- The call on the word of a line.
module _ {line b a out : List ℕ} (room : ItemRoom line (memory b a out)) {b' a' out' : List ℕ} {q : Result ℕ Refusal}
    (called : Recorded line (memory b a out) (memory b' a' out') q) where
  read : judged_with line (memory b a out) ≡ line_read line
  read = judged_line line (memory b a out) room.tables.b_long room.tables.a_long room.roomy

  answered : reply_of q ≡ count_record (line_read line)
  answered = called.result ∙ ap (λ (o : Outcome Word). count_record o) read

  left : Left (line_read line) (memory b a out) (memory b' a' out')
  left = subst (λ (o : Outcome Word). Left o (memory b a out) (memory b' a' out')) read called.leaves

  -- A record was written, of n bytes.
  pub item_written : {n : ℕ} → q ≡ Ok n → ItemPut line (memory b a out) (memory b' a' out') n
  item_written {n} e =
      let (w, o, c) = valued_accepted _ (line_read line) n (sym answered ∙ ap reply_of e) in
      let inside : Wrote (encode_word w) out 0 out' n = record {
        ends = omega (arith, c);
        holds = left.bytes ∙ ap (λ (p : Outcome Word). buffer_after p out) o;
      } in
      record { b_table = left.b_table; a_table = left.a_table; bytes = wrote_same (sym (ap item o)) inside }

  -- The word was refused, and nothing was written.
  module _ (x : Refusal) (e : q ≡ Err x) where
    refused_so : line_read line ≡ refused (number_of x) (place_of x)
    refused_so = valued_refused _ (line_read line) (number_of x) (place_of x) (sym answered ∙ ap reply_of e)

    pub refusal-place : place_of x < 65536
    refusal-place = omega (arith, (read_refused line (number_of x) (place_of x) refused_so).1)

    unwritten : out' ≡ out
    unwritten = left.bytes ∙ ap (λ (p : Outcome Word). buffer_after p out) refused_so

    -- There is room for its item.
    pub refusal_room : item_size ≤ length out'
    refusal_room = omega (arith, ap length unwritten, room.roomy)

    -- Its item was put in its place.
    pub item_refused : {out'' : List ℕ} {end : ℕ}
        → Wrote (field refused_tag (number_of x ∷ two_bytes (place_of x))) out' 0 out'' end
        → ItemPut line (memory b a out) (memory b' a' out'') end
    item_refused {out''} {end} w = record {
      b_table = left.b_table;
      a_table = left.a_table;
      bytes =
          wrote_same (sym (ap item refused_so))
          (subst (λ (s : List ℕ). Wrote (field refused_tag (number_of x ∷ two_bytes (place_of x))) s 0 out'' end)
          unwritten
          w);
    }

-- The loop at its test: the lines from `at` on are left.
pub record Putting (list : List ℕ) (entry now : Memory) (at written : ℕ) : Type 0 where
  pub tables : LongTables entry
  pub b_same : length now.b ≡ length entry.b
  pub a_same : length now.a ≡ length entry.a
  pub out_same : length now.buffer ≡ length entry.buffer
  pub b_left : tables_then b_side (lines_of (drop at list)) now.b ≡ tables_then b_side (lines_of list) entry.b
  pub a_left : tables_then a_side (lines_of (drop at list)) now.a ≡ tables_then a_side (lines_of list) entry.a
  pub roomy : written + list_size (lines_of (drop at list)) ≤ length now.buffer
  pub bytes : Writing (items (lines_of (drop at list))) now.buffer written (items (lines_of list)) entry.buffer 0

-- At the start all lines are left.
pub putting_starts : {list : List ℕ} {m : Memory} → ListRoom list m → Putting list m m 0 0
putting_starts {list} {m} r = record {
  tables = r.tables;
  b_same = refl;
  a_same = refl;
  out_same = refl;
  b_left = refl;
  a_left = refl;
  roomy = omega (arith, r.roomy);
  bytes = write_start (items (lines_of list)) m.buffer 0;
}

module _ {list : List ℕ} {entry m : Memory} {at written : ℕ} (p : Putting list entry m at written) where
  -- A turn: the line from `at` to its end.
  module _ (more : at < length list) (end : ℕ) (here : end ≡ line_end_value list at) where
    abbrev line : List ℕ
    line = take (end - at) (drop at list)

    abbrev rest : List (List ℕ)
    rest = lines_of (drop (end + 1) list)

    cut : lines_of (drop at list) ≡ line ∷ rest
    cut =
        lines_cut list at more
        ∙ ap (λ (e : ℕ). take (e - at) (drop at list) ∷ lines_of (drop (e + 1) list)) (sym here)

    -- What is lent with the line: the output from the place on that is reached.
    abbrev lent : Memory
    lent = memory m.b m.a (part_from written m.buffer)

    pub putting_room : ItemRoom line lent
    putting_room = record {
      tables = record {
        b_long = omega (arith, p.tables.b_long, p.b_same);
        a_long = omega (arith, p.tables.a_long, p.a_same);
      };
      roomy = omega (arith, p.roomy, ap list_size cut, part_length written m.buffer);
    }

    -- The tables behind the line are as long.
    long : (s : Side) (t : List ℕ) {t' : List ℕ} → limit < length t → t' ≡ table_after s (line_read line) t
        → length t' ≡ length t
    long s t h e = ap length e ∙ line_table-length s line t h

    -- Its bytes, in the whole output.
    whole : {exit : Memory} {n : ℕ} → ItemPut line lent exit n
        → Wrote (item (line_read line)) m.buffer written (back written m.buffer exit.buffer) (written + n)
    whole {exit} {n} i =
        write_part written (item (line_read line)) m.buffer exit.buffer n (omega (arith, p.roomy)) i.bytes

    -- It ends inside the output.
    pub putting_within : {exit : Memory} {n : ℕ} → ItemPut line lent exit n → written + n ≤ length m.buffer
    putting_within i = omega (arith, i.bytes.ends, item_size_lem line, p.roomy, ap list_size cut)

    pub putting_more : {exit : Memory} {n : ℕ} → length exit.buffer ≡ length lent.buffer → ItemPut line lent exit n
        → Putting list entry (memory exit.b exit.a (back written m.buffer exit.buffer)) (end + 1) (written + n)
    putting_more {exit} {n} e i = record {
      tables = p.tables;
      b_same = long b_side m.b putting_room.tables.b_long i.b_table ∙ p.b_same;
      a_same = long a_side m.a putting_room.tables.a_long i.a_table ∙ p.a_same;
      out_same = back_length written m.buffer exit.buffer (omega (arith, p.roomy)) e ∙ p.out_same;
      b_left =
          ap (tables_then b_side rest) i.b_table
          ∙ sym (ap (λ (ls : List (List ℕ)). tables_then b_side ls m.b) cut)
          ∙ p.b_left;
      a_left =
          ap (tables_then a_side rest) i.a_table
          ∙ sym (ap (λ (ls : List (List ℕ)). tables_then a_side ls m.a) cut)
          ∙ p.a_left;
      roomy =
          omega (
            arith,
            p.roomy,
            ap list_size cut,
            i.bytes.ends,
            item_size_lem line,
            back_length written m.buffer exit.buffer (omega (arith, p.roomy)) e,
          );
      bytes = write_more (whole i) (writing_same (ap items cut) p.bytes);
    }

  -- No line is left.
  pub putting_ends : length list ≤ at → ItemsPut list entry m written
  putting_ends done =
      let none = lines_over list at done in
      record {
        b_table = sym (ap (λ (ls : List (List ℕ)). tables_then b_side ls m.b) none) ∙ p.b_left;
        a_table = sym (ap (λ (ls : List (List ℕ)). tables_then a_side ls m.a) none) ∙ p.a_left;
        bytes = write_done (writing_same (ap items none) p.bytes);
      }
