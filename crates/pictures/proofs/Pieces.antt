-- A loop that appends a text in pieces: what is left of the text, once it is appended, gives the whole.
-- Assumes nothing.
use mathlib.Core.Path.{◌≡◌, refl, sym, ◌∙◌}
use mathlib.Core.List.{List, ◌++◌}
use Prim.Native.Nat.{ℕ}
use lib.ListN.{length}
use Rattle.appending.specs.inside.Appending.{Appended}
use Rattle.appending.proofs.Appending.{append-then, append_same}

-- Amid a text: what is left, once it is appended here, gives the whole from the start.
pub record Left (rest now : List ℕ) (end : ℕ) (whole entry : List ℕ) (at : ℕ) : Type 0 where
  pub size : length now ≡ length entry
  pub gives : (exit : List ℕ) (r : ℕ) → Appended rest now end exit r → Appended whole entry at exit r

-- Before the first piece.
pub left_start : (whole entry : List ℕ) (at : ℕ) → Left whole entry at whole entry at
left_start whole entry at = record { size = refl; gives = λ exit r w. w }

-- One piece more.
pub left_more : {piece rest next now now' whole entry : List ℕ} {end end' at : ℕ} → rest ≡ piece ++ next
    → Left rest now end whole entry at → Appended piece now end now' end' → Left next now' end' whole entry at
left_more e left w = record {
  size = w.size ∙ left.size;
  gives = λ exit r v. left.gives exit r (append_same (sym e) (append-then w v));
}

-- The last piece.
pub left_last : {piece rest now exit whole entry : List ℕ} {end r at : ℕ} → rest ≡ piece
    → Left rest now end whole entry at → Appended piece now end exit r → Appended whole entry at exit r
left_last {exit = exit} {r = r} e left w = left.gives exit r (append_same (sym e) w)
