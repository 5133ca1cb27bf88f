-- One letter written several times, and the bytes of a turn. Assumes nothing.
use mathlib.Core.Path.{◌≡◌, sym, ap, ◌∙◌}
use mathlib.Core.List.{List, ◌++◌, append-nil, append_assoc}
use Prim.Native.Nat.{ℕ, ◌+◌, ◌-◌, ◌≤◌}
use native.Mathlib.Omega.{arith}
use lib.ListN.{length, replicate, take, drop, length-replicate, length-take, length-drop}
use borrow.Rule.Slice.PartMut.{put_mid}
use Rattle.std.proofs.lemmas.Slice.{put_mid-paste}
use Rattle.std.proofs.lemmas.List.Edits.{paste_all, sets-eq}
use Rattle.lists.specs.inside.Writes.{Wrote}
use Rattle.group.specs.Letters.{'a, 'A}
use Rattle.group.specs.Bytes.{bytes_of}
use Rattle.group.proofs.Bytes.{bytes_replicate}
use Rattle.spelling.specs.inside.RunLetters.{turn}

-- A part of n bytes that was filled with a letter.
pub filled_part : (n at letter : ℕ) (entry part : List ℕ) → at + n ≤ length entry
    → part ≡ replicate (length (take (at + n - at) (drop at entry))) letter
    → Wrote (replicate n letter) entry at (put_mid at (at + n - at) entry part) (at + n)
filled_part n at letter entry part room is =
    let filling : List ℕ = replicate n letter in
    let many : length filling ≡ n = length-replicate {A = ℕ} n letter in
    let size : at + n - at ≡ n = omega arith in
    let whole : length (take (at + n - at) (drop at entry)) ≡ n = simp (length-take, length-drop) (omega arith) in
    record {
      ends = ap (λ (k : ℕ). at + k) (sym many);
      holds =
          put_mid-paste at (at + n - at) entry part filling n (is ∙ ap (λ (k : ℕ). replicate k letter) whole) (sym size)
          (sym many)
          ∙ paste_all entry at filling n (sym many)
          ∙ ap (λ (k : ℕ). take at entry ++ (filling ++ drop (at + k) entry)) (sym many)
          ∙ sym (append_assoc (take at entry) filling (drop (at + length filling) entry))
          ∙ sym (sets-eq filling entry at (omega (arith, many)));
    }

-- The bytes of a turn: letters A where there are more of them, else letters a.
pub turn-inverse : (m n : ℕ) → m ≤ n → replicate (n - m) 65 ≡ bytes_of (turn m n)
turn-inverse m n h =
    let none : 0 ≡ m - n = omega arith in
    sym (bytes_replicate (n - m) 'A)
    ∙ ap (λ (k : ℕ). bytes_of (replicate k 'a ++ replicate (n - m) 'A)) none

pub turn_plain : (m n : ℕ) → n ≤ m → replicate (m - n) 97 ≡ bytes_of (turn m n)
turn_plain m n h =
    let none : 0 ≡ n - m = omega arith in
    sym (bytes_replicate (m - n) 'a)
    ∙ ap bytes_of (sym (append-nil (replicate (m - n) 'a)))
    ∙ ap (λ (k : ℕ). bytes_of (replicate (m - n) 'a ++ replicate k 'A)) none
