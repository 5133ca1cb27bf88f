-- The loop over the letters: the scratch holds the row of the letters read so far, and that row leaves room for the
-- next. Assumes nothing.
use mathlib.Core.Path.{◌≡◌, refl, sym, ◌∙◌, subst, ap}
use mathlib.Core.List.{List, [], ◌∷◌, ◌++◌}
use Prim.Native.Nat.{ℕ, suc, ◌+◌, ◌-◌, ◌≤◌, ◌<◌}
use native.Mathlib.Omega.{arith}
use lib.ListN.{get_or, length, drop, take, length-drop, length-append}
use lib.Seq.{drop-cons, get_or-take, take-take}
use Rattle.std.proofs.Math.Seq.{get_or-append_seam, take-append_seam}
use Rattle.group.specs.Letters.{Word}
use Rattle.forest.specs.declared.row.State.{State}
use Rattle.forest.specs.inside.Filling.{cells_for}
use Rattle.forest.specs.inside.Forest.{Bush, tip, fork, Row, row, row_of_word}
use Rattle.forest.specs.inside.Cells.{Raisable}
use Rattle.forest.specs.inside.Moves.{step_letter, step_word, Held, RaisableRow, Ready, Moved, Scratch}
use Rattle.forest.proofs.Irreducible.{Irreducible, IrreducibleRow, row_irreducible}
use Rattle.forest.proofs.Counting.{tips_some}
use Rattle.forest.proofs.Stored.{stands_below, stack_height}

pub step_length : (s : List ℕ) → length (step_word s) ≡ length s
step_length [] = refl
step_length (c ∷ s) = ap suc (step_length s)

-- The letters from i on.
abbrev read_from : List ℕ → ℕ → Word
read_from word i = step_word (drop i word)

read_more : (word : List ℕ) (i : ℕ) → 0 < i → i ≤ length word
    → read_from word (i - 1) ≡ step_letter (get_or word (i - 1) 0) ∷ read_from word i
read_more word i p q =
    let e : suc (i - 1) ≡ i = omega arith in
    ap step_word (drop-cons word (i - 1) 0 (omega arith))
    ∙ ap (λ (j : ℕ). step_letter (get_or word (i - 1) 0) ∷ step_word (drop j word)) e

pub record Running (last : ℕ) (word lefts rights stack : List ℕ) (s : State) (i : ℕ) : Type 0 where
  pub here : i ≤ length word
  pub scratch : Scratch last word lefts rights stack
  pub used_low : last < s.used
  pub used_high : s.used + i ≤ last + 1 + length word
  pub held : Held last lefts rights stack s (row_of_word (read_from word i))

pub bush_raisable : (last n : ℕ) (t : Bush) → n < last → Irreducible n t → Raisable last t
bush_raisable last n (tip m) p h = omega arith
bush_raisable last n (fork x y) p h = tt

row_raisable : (last n : ℕ) (r : Row) → n < last → IrreducibleRow n r → RaisableRow last r
row_raisable last n (row x y ts) p (h, k, l, m) = (bush_raisable last n x p h, bush_raisable last n y p k)

held_ready : {last : ℕ} (n : ℕ) (r : Row) {word lefts rights stack : List ℕ} (s : State) → n < last → IrreducibleRow n r
    → Scratch last word lefts rights stack → last < s.used → s.used < (cells_for last)
    → Held last lefts rights stack s r
    → Ready last lefts rights stack s
held_ready {last} n (row x y ts) {word} {lefts} {rights} {stack} s p i scratch low high (h, k, t) = record {
  last_low = scratch.last_low;
  lefts_length = scratch.lefts_length;
  rights_length = scratch.rights_length;
  stack_length = scratch.stack_length;
  used_low = low;
  used_high = high;
  height_high =
      omega
      (arith, stack_height last lefts rights s.used ts stack s.height t, i.3, tips_some x, tips_some y);
  first_high = omega (arith, stands_below last lefts rights s.used x s.first low h);
  second_high = omega (arith, stands_below last lefts rights s.used y s.second low k);
}

module _ {last : ℕ} {word lefts rights stack : List ℕ} {s : State} {i : ℕ}
    (r : Running last word lefts rights stack s i) (p : 0 < i) where
  irreducible : IrreducibleRow (length word - i) (row_of_word (read_from word i))
  irreducible =
      subst (λ (n : ℕ). IrreducibleRow n (row_of_word (read_from word i)))
      (step_length (drop i word) ∙ length-drop i word)
      (row_irreducible (read_from word i))

  pub run_ready : Ready last lefts rights stack s
  run_ready =
      held_ready (length word - i) (row_of_word (read_from word i)) s (omega (arith, r)) irreducible r.scratch
      r.used_low (omega (arith, r)) r.held

  pub run_more : {lefts' rights' stack' : List ℕ} {s' : State} → length lefts' ≡ length lefts
      → length rights' ≡ length rights → length stack' ≡ length stack
      → Moved last (step_letter (get_or word (i - 1) 0)) lefts rights stack s lefts' rights' stack' s'
      → Running last word lefts' rights' stack' s' (i - 1)
  run_more {lefts'} {rights'} {stack'} {s'} el er es m = record {
    here = omega (arith, r);
    scratch = record {
      last_low = r.scratch.last_low;
      word_length = r.scratch.word_length;
      lefts_length = omega (arith, r.scratch.lefts_length);
      rights_length = omega (arith, r.scratch.rights_length);
      stack_length = omega (arith, r.scratch.stack_length);
    };
    used_low = omega (arith, r, m);
    used_high = omega (arith, r, m);
    held =
        subst (λ (w : Word). Held last lefts' rights' stack' s' (row_of_word w)) (sym (read_more word i p r.here))
        (m.moves (row_of_word (read_from word i))
        (row_raisable last (length word - i) (row_of_word (read_from word i)) (omega (arith, r)) irreducible)
        r.held);
  }

-- The bytes that are left to be read, from the right end on, are the front of the word.
pub record Unread (word rest : List ℕ) : Type 0 where
  pub front : rest ≡ take (length rest) word

-- One byte more is read: the last of them.
module _ {word rest : List ℕ} (rest' : List ℕ) (byte : ℕ) (u : Unread word rest) (e : rest ≡ rest' ++ (byte ∷ [])) where
  pub unread_shorter : length rest ≡ length rest' + 1
  unread_shorter = omega (arith, ap length e, length-append rest' (byte ∷ []))

  pub unread_byte : get_or word (length rest - 1) 0 ≡ byte
  unread_byte =
      ap (λ (i : ℕ). get_or word i 0) (let p : length rest - 1 ≡ length rest' = omega (arith, unread_shorter) in p)
      ∙ sym (get_or-take (length rest) word (length rest') 0 (omega (arith, unread_shorter)))
      ∙ ap (λ (s : List ℕ). get_or s (length rest') 0) (sym u.front ∙ e)
      ∙ get_or-append_seam rest' byte [] 0

  pub unread_front : Unread word rest'
  unread_front = record {
    front =
        sym (take-append_seam rest' (byte ∷ []))
        ∙ ap (take (length rest')) (sym e ∙ u.front)
        ∙ take-take (length rest') (length rest) word (omega (arith, unread_shorter));
  }

-- A turn of the loop over the bytes, from the last to the first.
module _ {last : ℕ} {word lefts rights stack : List ℕ} {s : State} {rest : List ℕ} (rest' : List ℕ) (byte : ℕ)
    (r : Running last word lefts rights stack s (length rest)) (u : Unread word rest)
    (e : rest ≡ rest' ++ (byte ∷ [])) where
  pub byte_ready : Ready last lefts rights stack s
  byte_ready = run_ready r (omega (arith, unread_shorter rest' byte u e))

  pub byte_more : {lefts' rights' stack' : List ℕ} {s' : State} → length lefts' ≡ length lefts
      → length rights' ≡ length rights → length stack' ≡ length stack
      → Moved last (step_letter byte) lefts rights stack s lefts' rights' stack' s'
      → Running last word lefts' rights' stack' s' (length rest')
  byte_more {lefts'} {rights'} {stack'} {s'} el er es m =
      subst (Running last word lefts' rights' stack' s')
      (let n : length rest - 1 ≡ length rest' = omega (arith, unread_shorter rest' byte u e) in n)
      (run_more r (omega (arith, unread_shorter rest' byte u e)) el er es
      (subst (λ (b : ℕ). Moved last (step_letter b) lefts rights stack s lefts' rights' stack' s')
      (sym (unread_byte rest' byte u e)) m))

-- The scratch, with the row of the word in it.
pub record Ended (last : ℕ) (word lefts rights stack : List ℕ) (s : State) : Type 0 where
  pub scratch : Scratch last word lefts rights stack
  pub used_high : s.used ≤ (cells_for last)
  pub held : Held last lefts rights stack s (row_of_word (step_word word))

pub run_ends : {last : ℕ} {word lefts rights stack : List ℕ} {s : State} {i : ℕ}
    → Running last word lefts rights stack s i → i ≤ 0
    → Ended last word lefts rights stack s
run_ends {last} {word} {lefts} {rights} {stack} {s} {i} r p =
    let e : i ≡ 0 = omega arith in
    record {
      scratch = r.scratch;
      used_high = omega (arith, r);
      held = subst (λ (j : ℕ). Held last lefts rights stack s (row_of_word (read_from word j))) e r.held;
    }
