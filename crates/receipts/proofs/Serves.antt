-- The steps of `serve_lines`: one call of `feed`, and the receipt of a line that ended. Assumes nothing.
use Rattle.std.proofs.Common.{◌≡◌, ℕ, ◌+◌, ◌-◌, ◌^◌, ◌<◌, ◌≤◌, true, false, List, [], length, take, drop, sym, refl, ap}
use Rattle.std.proofs.Common.{◌∙◌, subst, ap₂, arith, length-drop, drop_of_length-le, length-take, drop-drop}
use Rattle.lists.specs.inside.Writes.{Wrote, Writing}
use Rattle.lists.proofs.Writes.{write_start, write_more, write_done, writing_length}
use Rattle.lines.specs.inside.Taking.{TookLine}
use Rattle.lines.specs.declared.Fed.{Fed}
use Rattle.rows.specs.Receipts.{receipt_of, receipt_size}
use Rattle.receipts.specs.Serving.{Amid, line_size, next_number, receipt_then, served, part_size}
use Rattle.receipts.specs.inside.Taking.{PartTaken}
use Rattle.receipts.proofs.Turns.{Ends, RunsOut, turn-ends, turn-runs_out}
use Rattle.rows.proofs.Sizes.{receipt_length}
use Rattle.receipts.proofs.Bounds.{room}

-- What is left to take gives, from here, what the whole gives: the receipts are written up to here.
pub record Left (m : Amid) (out : List ℕ) (written : ℕ) (whole : Amid) (out₀ : List ℕ) : Type 0 where
  pub number : m.number ≡ whole.number
  pub line : m.line ≡ whole.line
  pub held : m.held ≡ whole.held
  pub writing : Writing m.receipts out written whole.receipts out₀ 0

-- Amid the loop: `whole` is what the part gives, and there is room for what is left.
pub record Serves (part out₀ : List ℕ) (whole : Amid) (line out : List ℕ) (at k h written : ℕ) : Type 0 where
  pub numbered : k < 2 ^ 64
  pub roomy : length line ≡ line_size → written + room (length part - at) (length (take h line)) ≤ length out
  pub left : Left (served (drop at part) k line h) out written whole out₀

-- The start.
pub serve_start : (part : List ℕ) (k : ℕ) (line : List ℕ) (h : ℕ) (out : List ℕ) → k < 2 ^ 64
    → part_size (length part) ≤ length out → Serves part out (served part k line h) line out 0 k h 0
serve_start part k line h out few enough = record {
  numbered = few;
  roomy = λ e. omega (arith, e, enough, length-take h line);
  left =
      record { number = refl; line = refl; held = refl; writing = write_start (served part k line h).receipts out 0 };
}

-- No byte is left.
served_none : (k : ℕ) (line : List ℕ) (h : ℕ)
    → served [] k line h ≡ record { receipts = []; number = k; line = line; held = h }
unfolding served
served_none k line h = refl

-- Another name for what is left.
left_same : {m m' : Amid} {out : List ℕ} {written : ℕ} {whole : Amid} {out₀ : List ℕ} → m ≡ m'
    → Left m out written whole out₀ → Left m' out written whole out₀
left_same {m} {m'} {out} {written} {whole} {out₀} e l = subst (λ (x : Amid). Left x out written whole out₀) e l

-- A receipt was written.
left_more : {r : List ℕ} {m : Amid} {out out' : List ℕ} {written end : ℕ} {whole : Amid} {out₀ : List ℕ}
    → Left (receipt_then r m) out written whole out₀ → Wrote r out written out' end → Left m out' end whole out₀
left_more l w = record { number = l.number; line = l.line; held = l.held; writing = write_more w l.writing }

module _ {part out₀ : List ℕ} {whole : Amid} {line out : List ℕ} {at k h written : ℕ} {line' : List ℕ} {fed : Fed}
    (i : Serves part out₀ whole line out at k h written) (f : TookLine (drop at part) at line h line' fed) where
  module _ (e : fed.ended ≡ true) where
    -- What was taken of the part.
    ends : Ends (drop at part) at k line h (record { line = line'; fed = fed })
    ends = turn-ends k f e

    -- The bytes taken are some.
    pub serve_less : at < length part → length part - fed.next < length part - at
    serve_less lt = omega (arith, ends.place, ends.some, lt)

    -- There is room for the receipt.
    pub serve_room : length line ≡ line_size
        → written + receipt_size (length (take fed.held line')) ≤ length out
    serve_room size = omega (arith, i.roomy size, ends.some, ends.most, ends.few, length-drop at part)

    -- The receipt was written, and the next line begins.
    pub serve_next : {out' : List ℕ} {end k' : ℕ} → Wrote (receipt_of k (take fed.held line')) out written out' end
        → k' ≡ next_number k → Serves part out₀ whole line' out' fed.next k' 0 end
    serve_next {out'} {end} {k'} w n =
        let place : fed.next ≡ at + ends.count = ends.place in
        let rest : drop ends.count (drop at part) ≡ drop fed.next part =
        drop-drop ends.count at part ∙ ap (λ (j : ℕ). drop j part) (sym place) in
        let gives : served (drop at part) k line h
        ≡ receipt_then (receipt_of k (take fed.held line')) (served (drop fed.next part) k' line' 0) =
        ends.gives
        ∙ ap (λ (s : List ℕ). receipt_then (receipt_of k (take fed.held line')) (served s (next_number k) line' 0)) rest
        ∙ ap (λ (j : ℕ). receipt_then (receipt_of k (take fed.held line')) (served (drop fed.next part) j line' 0))
        (sym n) in
        let next = left_more (left_same gives i.left) w in
        record {
          numbered = omega (arith, n);
          roomy = λ size.
              omega (
                arith,
                i.roomy (sym ends.size ∙ size),
                place,
                ends.some,
                ends.most,
                ends.few,
                length-drop at part,
                w.ends,
                receipt_length k (take fed.held line') i.numbered,
                writing_length i.left.writing,
                writing_length next.writing,
              );
          left = next;
        }

  module _ (e : fed.ended ≡ false) where
    -- All that is left of the part was taken.
    runs_out : RunsOut (drop at part) at k line h (record { line = line'; fed = fed })
    runs_out = turn-runs_out k f e

    -- The bytes taken are some.
    pub serve_out_less : at < length part → length part - fed.next < length part - at
    serve_out_less lt = omega (arith, runs_out.place, length-drop at part, lt)

    -- Nothing is left of the part.
    pub serve_out : Serves part out₀ whole line' out fed.next k fed.held written
    serve_out =
        let place : fed.next ≡ at + length (drop at part) = runs_out.place in
        let all : length part ≤ fed.next = omega (arith, place, length-drop at part) in
        let none : drop fed.next part ≡ [] = drop_of_length-le part all in
        record {
          numbered = i.numbered;
          roomy = λ size.
              omega (arith, i.roomy (sym runs_out.size ∙ size), place, runs_out.few, length-drop at part);
          left =
              left_same
              (runs_out.gives ∙ sym (served_none k line' fed.held)
              ∙ ap (λ (s : List ℕ). served s k line' fed.held) (sym none))
              i.left;
        }

-- The end.
pub serve_done : {part out₀ : List ℕ} {whole : Amid} {line out : List ℕ} {at k h written : ℕ}
    → Serves part out₀ whole line out at k h written → length part ≤ at
    → PartTaken whole out₀ line out (record { number = k; held = h; written = written })
serve_done {part} {out₀} {whole} {line} {out} {at} {k} {h} {written} i le =
    let none : served (drop at part) k line h ≡ record { receipts = []; number = k; line = line; held = h } =
    ap (λ (s : List ℕ). served s k line h) (drop_of_length-le part le) ∙ served_none k line h in
    let last : Left (record { receipts = []; number = k; line = line; held = h }) out written whole out₀ =
    left_same none i.left in
    let wrote = write_done last.writing in
    record {
      result =
          ap₂ (λ (n m : ℕ). record { number = n; held = m; written = written }) last.number last.held
          ∙ ap (λ (n : ℕ). record { number = whole.number; held = whole.held; written = n })
          (omega (arith, wrote.ends));
      leaves_line = last.line;
      leaves_out = wrote.holds;
    }
