-- The claims of specs/Receipts.antt, proved. Assumes nothing.
use mathlib.Core.Path.{◌≡◌, sym, ap, ap₂, ◌∙◌, subst}
use mathlib.Core.List.{List, [], ◌∷◌, ◌++◌}
use mathlib.Core.Logic.{◌⊎◌, inl, inr}
use Prim.Native.Nat.{ℕ, ◌^◌, ◌<◌}
use native.Mathlib.Omega.{arith}
use lib.ListN.{length}
use Rattle.lines.specs.Lines.{line_feed, lines_of, join_lines, whole_of}
use Rattle.lines.proofs.Lines.{Unended, lines_no_feed, lines_join}
use Rattle.lines.proofs.Meeting.{meet_lines_lem}
use Rattle.receipts.specs.Serving.{Amid, line_size, served}
use Rattle.receipts.specs.declared.Served.{Served}
use Rattle.receipts.proofs.Parts.{served-append}
use Rattle.receipts.proofs.Meets.{serve_same_line, serve_met_lines}
use Rattle.receipts.proofs.Lines.{receipt_cut, closed, closed_then, served_lines}
use Rattle.receipts.proofs.Bounds.{served_bounds}
use Rattle.refusals.proofs.Placing.{placed_front}
use Rattle.receipts.proofs.Calls.{finish_front, serve_front}
use Rattle.claims.specs.Receipts.{LinesOfBytes, LinesInParts, ServesMetLines, CutKeepsReceipt}
use Rattle.claims.specs.Receipts.{ServeCall, CallsOfRun, ReceiptsOfInput}

-- The two parts of the claim on lines.
pub lines_of_bytes : LinesOfBytes
lines_of_bytes = record {
  no_line_feed = λ s l k. lines_no_feed s [] (λ i r. r) k l;
  joined = λ s. go s (lines_join s);
}
  where
    go : (s : List ℕ) → (join_lines (lines_of s) ≡ s) ⊎ (Unended s × (join_lines (lines_of s) ≡ s ++ (line_feed ∷ [])))
        → (join_lines (lines_of s) ≡ s)
        ⊎ ((x : ℕ) × (r : List ℕ) × (x ≡ line_feed → ⊥) × (s ≡ r ++ (x ∷ []))
        × (join_lines (lines_of s) ≡ s ++ (line_feed ∷ [])))
    go s (inl e) = inl e
    go s (inr h) = inr (h.0.last, h.0.front, h.0.other, h.0.same, h.1)

-- By what a line is read as.
pub lines_in_parts : LinesInParts
lines_in_parts = meet_lines_lem

pub serves_met_lines : ServesMetLines
serves_met_lines = record {
  receipts = serve_met_lines;
  leaves = λ s k line held. ((serve_same_line s k line held).line, (serve_same_line s k line held).held);
}

pub cut_keeps_receipt : CutKeepsReceipt
cut_keeps_receipt = receipt_cut

-- A part, and what the calls behind it write.
part_closed : {part : List ℕ} {k held : ℕ} {line line' : List ℕ} {s : Served} (first rest whole : List ℕ)
    → ServeCall part k held line s line' first → k < 2 ^ 64 → length line ≡ line_size
    → rest ≡ closed (served whole s.number line' s.held)
    → first ++ rest ≡ closed (served (part ++ whole) k line held)
part_closed {part} {k} {held} {line} {line'} {s} first rest whole c few size e =
    let m : Amid = served part k line held in
    let cut = serve_front c.contract few size c.taken in
    let behind : Amid = served whole m.number m.line m.held in
    let from : Served → List ℕ → List ℕ = λ x l. closed (served whole x.number l x.held) in
    ap₂ (λ (a b : List ℕ). a ++ b) (c.wrote ∙ cut.front)
    (e ∙ ap₂ from cut.answers cut.leaves_line)
    ∙ sym (closed_then m.receipts behind)
    ∙ sym (ap closed (served-append part whole k line held))

-- What the calls of a run write.
run_closed : (parts : List (List ℕ)) (k held : ℕ) (line bytes : List ℕ) → k < 2 ^ 64 → length line ≡ line_size
    → CallsOfRun parts k held line bytes → bytes ≡ closed (served (whole_of parts) k line held)
unfolding served
run_closed [] k held line bytes few size h = h.wrote ∙ finish_front k held line h.contract few size h.taken
run_closed (part ∷ parts) k held line bytes few size (s, line', first, rest, c, run, e) =
    let cut = serve_front c.contract few size c.taken in
    let bounds = served_bounds part k line held few in
    let few' : s.number < 2 ^ 64 =
    subst (λ (x : Served). x.number < 2 ^ 64) (sym cut.answers) bounds.numbered in
    let size' : length line' ≡ line_size = ap length cut.leaves_line ∙ bounds.size ∙ size in
    e
    ∙ part_closed first rest (whole_of parts) c few size
    (run_closed parts s.number s.held line' rest few' size' run)

-- The header, then the receipts of all lines.
pub receipts_of_input : ReceiptsOfInput
receipts_of_input parts line out out' bytes r n size few begun e run =
    ap₂ (λ (s t : List ℕ). s ++ t) (placed_front begun (omega arith) e)
    (run_closed parts 1 0 line bytes (omega arith) size run
    ∙ served_lines (whole_of parts) 1 line size (omega (arith, few)))
