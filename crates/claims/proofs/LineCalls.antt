-- Calls of word to record on lines, one after another, with tables above the limit: what each gives and leaves is what
-- its line is read as. Assumes nothing.
use mathlib.Core.Path.{◌≡◌, refl, sym, ap, ap₂, ◌∙◌}
use mathlib.Core.List.{List, [], ◌∷◌, ◌++◌}
use mathlib.Core.Logic.{◌⊎◌}
use Prim.Native.Nat.{ℕ, zero, suc, ◌<◌}
use native.Mathlib.Omega.{arith}
use lib.ListN.{length, take, replicate, length-replicate}
use Rattle.std.specs.Prelude.{Result, Ok, Err}
use Rattle.lists.specs.Entries.{At}
use Rattle.lists.proofs.Writes.{sets_front}
use Rattle.group.specs.Letters.{Word}
use Rattle.group.specs.Forms.{b_side, a_side}
use Rattle.group.specs.Limits.{limit}
use Rattle.refusals.specs.Outcomes.{Outcome, accepted, refused, reply_of}
use Rattle.refusals.specs.declared.Refusal.{Refusal}
use Rattle.refusals.specs.declared.Refusal.TheVariants.{TooManyLetters, NotLetter, ShortTable, ShortBuffer}
use Rattle.refusals.specs.Refusals.{number_of, place_of}
use Rattle.refusals.specs.Memory.{Memory, memory}
use Rattle.refusals.proofs.Outcomes.{valued_refused}
use Rattle.records.specs.Format.{buffer_size}
use Rattle.letters.specs.Judging.{line_read}
use Rattle.forest.specs.Filling.{table_after}
use Rattle.words.specs.Recording.{judged_with, encode_word, count_record, buffer_after}
use Rattle.wordlists.specs.Items.{item, items, tables_then}
use Rattle.wordlists.proofs.Lines.{judged_line, read_refused}
use Rattle.wordlists.proofs.Sizes.{item_size_lem}
use Rattle.wordlists.proofs.Tables.{line_table-length}
use Rattle.claims.specs.Refusals.{WordRefusal, long, unlettered, short_table, short_buffer}
use Rattle.claims.specs.Lists.{LineCall, lines_called, bytes_of_answer, gave, bytes_given, CallsFrom}
use Rattle.claims.proofs.Refusals.{Judged, refuses, accepts, judge_word}

-- One call, whose tables are above the limit.
module _ (c : LineCall) (b_long : limit < length c.lent.b) (a_long : limit < length c.lent.a) where
  judged_so : judged_with c.line c.lent ≡ line_read c.line
  judged_so = judged_line c.line c.lent b_long a_long c.roomy

  b_left : c.left.b ≡ table_after b_side (line_read c.line) c.lent.b
  b_left = c.called.leaves.b_table ∙ ap (λ (o : Outcome Word). table_after b_side o c.lent.b) judged_so

  a_left : c.left.a ≡ table_after a_side (line_read c.line) c.lent.a
  a_left = c.called.leaves.a_table ∙ ap (λ (o : Outcome Word). table_after a_side o c.lent.a) judged_so

  answer_so : reply_of c.answer ≡ count_record (line_read c.line)
  answer_so = c.called.result ∙ ap (λ (o : Outcome Word). count_record o) judged_so

  -- It gives the item of its line.
  gave-item : gave c ≡ item (line_read c.line)
  gave-item =
      ap (λ (o : Outcome ℕ). bytes_of_answer o c.left.buffer) answer_so ∙ go (line_read c.line) refl
    where
      go : (o : Outcome Word) → line_read c.line ≡ o → bytes_of_answer (count_record o) c.left.buffer ≡ item o
      go (refused n p) e = refl
      go (accepted w) e =
          let size : length (encode_word w) ≡ length (item (line_read c.line)) =
          sym (ap (λ (o : Outcome Word). length (item o)) e) in
          ap (take (length (encode_word w)))
          (c.called.leaves.bytes ∙ ap (λ (o : Outcome Word). buffer_after o c.lent.buffer) (judged_so ∙ e))
          ∙ sets_front (encode_word w) c.lent.buffer (length (encode_word w)) refl
          (omega (arith, size, item_size_lem c.line, c.roomy))

  -- It refuses by 1 or 2 only.
  refused_so : (n p : ℕ) → reply_of c.answer ≡ refused n p → (n ≡ 1) ⊎ (n ≡ 2)
  refused_so n p e =
      let read = valued_refused (λ w. length (encode_word w)) (line_read c.line) n p (sym answer_so ∙ e) in
      (read_refused c.line n p read).0

-- What calls one after another give and leave.
pub record Ran (cs : List LineCall) (b a b' a' : List ℕ) : Type 0 where
  pub b_table : b' ≡ tables_then b_side (lines_called cs) b
  pub a_table : a' ≡ tables_then a_side (lines_called cs) a
  pub bytes : bytes_given cs ≡ items (lines_called cs)
  pub only_words : (i : ℕ) (c : LineCall) (n p : ℕ) → At cs i c → reply_of c.answer ≡ refused n p
      → (n ≡ 1) ⊎ (n ≡ 2)

-- By the first call, then the others.
pub calls_ran : (cs : List LineCall) (b a b' a' : List ℕ) → limit < length b → limit < length a
    → CallsFrom cs b a b' a' → Ran cs b a b' a'
calls_ran [] b a b' a' b_long a_long (eb, ea) =
    record { b_table = eb; a_table = ea; bytes = refl; only_words = λ i c n p h e. absurd h }
calls_ran (c ∷ cs) b a b' a' b_long a_long (eb, ea, from) =
    let bl : limit < length c.lent.b = omega (arith, b_long, ap length eb) in
    let al : limit < length c.lent.a = omega (arith, a_long, ap length ea) in
    let b_then = b_left c bl al ∙ ap (λ (t : List ℕ). table_after b_side (line_read c.line) t) eb in
    let a-then = a_left c bl al ∙ ap (λ (t : List ℕ). table_after a_side (line_read c.line) t) ea in
    let rest =
    calls_ran cs c.left.b c.left.a b' a'
    (omega (arith, b_long, ap length b_then, line_table-length b_side c.line b b_long))
    (omega (arith, a_long, ap length a-then, line_table-length a_side c.line a a_long))
    from in
    record {
      b_table = rest.b_table ∙ ap (λ (t : List ℕ). tables_then b_side (lines_called cs) t) b_then;
      a_table = rest.a_table ∙ ap (λ (t : List ℕ). tables_then a_side (lines_called cs) t) a-then;
      bytes = ap₂ (λ (x y : List ℕ). x ++ y) (gave-item c bl al) rest.bytes;
      only_words = at bl al rest;
    }
  where
    at : limit < length c.lent.b → limit < length c.lent.a → Ran cs c.left.b c.left.a b' a'
        → (i : ℕ) (d : LineCall) (n p : ℕ) → At (c ∷ cs) i d → reply_of d.answer ≡ refused n p → (n ≡ 1) ⊎ (n ≡ 2)
    at bl al rest zero d n p h e = refused_so c bl al n p (ap (λ (x : LineCall). reply_of x.answer) h ∙ e)
    at bl al rest (suc i) d n p h e = rest.only_words i d n p h e

-- An answer to every word and whatever is lent with it.
some_reply : (u : List ℕ) (m : Memory) → (r : Result ℕ Refusal) × (reply_of r ≡ count_record (judged_with u m))
some_reply u m = go (judge_word u m)
  where
    refusal : (x : Refusal) (n p : ℕ) → n ≡ number_of x → p ≡ place_of x → judged_with u m ≡ refused n p
        → (r : Result ℕ Refusal) × (reply_of r ≡ count_record (judged_with u m))
    refusal x n p en ep e =
        (Err x, sym (ap (λ (o : Outcome Word). count_record o) e ∙ ap₂ refused en ep))

    by : (n p : ℕ) → WordRefusal u m n p → judged_with u m ≡ refused n p
        → (r : Result ℕ Refusal) × (reply_of r ≡ count_record (judged_with u m))
    by n p (long en ep l) e = refusal TooManyLetters n p en ep e
    by n p (unlettered en l f) e = refusal (NotLetter p) n p en refl e
    by n p (short_table en ep l f t) e = refusal ShortTable n p en ep e
    by n p (short_buffer en ep l f t b) e = refusal ShortBuffer n p en ep e

    go : Judged u m → (r : Result ℕ Refusal) × (reply_of r ≡ count_record (judged_with u m))
    go (refuses n p c e) = by n p c e
    go (accepts w b c e) = (Ok (length (encode_word w)), sym (ap (λ (o : Outcome Word). count_record o) e))

-- A call on a line from any tables, with a buffer of zeros.
module _ (l b a : List ℕ) where
  abbrev some_memory : Memory
  some_memory = memory b a (replicate (buffer_size (length l)) 0)

  abbrev some_call : LineCall
  some_call =
      let o = judged_with l some_memory in
      record {
        line = l;
        lent = some_memory;
        left = memory (table_after b_side o b) (table_after a_side o a) (buffer_after o some_memory.buffer);
        answer = (some_reply l some_memory).0;
        called = record {
          result = (some_reply l some_memory).1;
          leaves = record { b_table = refl; a_table = refl; bytes = refl };
        };
        roomy = omega (arith, length-replicate {A = ℕ} (buffer_size (length l)) 0);
      }

-- Such calls, one after another.
pub calls_exist : (ls : List (List ℕ)) (b a : List ℕ)
    → (cs : List LineCall) × (b' a' : List ℕ) × (lines_called cs ≡ ls) × CallsFrom cs b a b' a'
calls_exist [] b a = ([], b, a, refl, (refl, refl))
calls_exist (l ∷ ls) b a =
    let c = some_call l b a in
    more (calls_exist ls c.left.b c.left.a)
  where
    more : (cs : List LineCall) × (b' a' : List ℕ) × (lines_called cs ≡ ls)
        × CallsFrom cs (some_call l b a).left.b (some_call l b a).left.a b' a'
        → (cs : List LineCall) × (b' a' : List ℕ) × (lines_called cs ≡ l ∷ ls) × CallsFrom cs b a b' a'
    more (cs, b', a', e, from) =
        (some_call l b a ∷ cs, b', a', ap (λ (ks : List (List ℕ)). l ∷ ks) e, (refl, refl, from))
