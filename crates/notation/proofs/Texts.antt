-- Texts written token by token, a space in front of each (02, [1]): what one power adds, how many bytes that is at
-- most, and what is left to write. Assumes nothing.
use mathlib.Core.Path.{◌≡◌, refl, sym, ap, ◌∙◌}
use mathlib.Core.Bool.{Bool, true, false, cond}
use mathlib.Core.List.{List, [], ◌∷◌, ◌++◌, append-nil}
use Prim.Native.Nat.{ℕ, zero, suc, ◌+◌, ◌*◌, ◌<◌, ◌≤◌}
use native.Mathlib.Numerals.{add-one}
use native.Mathlib.Omega.{arith}
use borrow.Author.Tests.{ne_eqb}
use lib.Dec.{eqb}
use lib.ListN.{length, drop, set, length-append, length-set}
use Rattle.lists.specs.inside.Writes.{Wrote, Writing}
use Rattle.lists.proofs.Writes.{write_more, writing_same, writing_length}
use Rattle.numerals.specs.Decimals.{decimal}
use Rattle.numerals.proofs.Decimals.{decimal_short}
use Rattle.group.specs.Forms.{Side, b_side, a_side}
use Rattle.group.specs.Powers.{SignedPower, signed_power, put_signed}
use Rattle.tokens.specs.Tokens.{x_sign, power_sign, minus_sign, space, exponent_text, token_text}
use Rattle.tokens.specs.Texts.{further_text, text_of}
use Rattle.tokens.proofs.Texts.{further_append}

-- The text is what stands behind the first space.
pub text_further : (ps : List SignedPower) → text_of ps ≡ drop 1 (further_text ps)
text_further [] = refl
text_further (p ∷ ps) = refl

-- One power in front of others.
pub put_append : (s : Side) (k e : ℕ) (ps qs : List SignedPower)
    → put_signed s k e ps ++ qs ≡ put_signed s k e (ps ++ qs)
put_append s k zero ps qs = refl
put_append s k (suc e) ps qs = refl

-- Its text in front of theirs.
pub further_put : (s : Side) (k e : ℕ) (ps : List SignedPower)
    → further_text (put_signed s k e ps) ≡ further_text (put_signed s k e []) ++ further_text ps
further_put s k e ps =
    ap further_text (sym (put_append s k e [] ps)) ∙ further_append (put_signed s k e []) ps

-- One power alone: nothing for exponent 0, else a space and the token.
pub further_none : (s : Side) (k e : ℕ) → e ≡ 0 → further_text (put_signed s k e []) ≡ []
further_none s k e h = rw h refl

pub further_one : (s : Side) (k e : ℕ) → 0 < e
    → further_text (put_signed s k e []) ≡ space ∷ x_sign ∷ (decimal k ++ exponent_text s e)
further_one s k zero h = absurd (omega arith)
further_one s k (suc e) h = append-nil (space ∷ token_text (signed_power s k (suc e)))

-- Its number of bytes.
pub further_length : (s : Side) (k e : ℕ) → 0 < e
    → length (further_text (put_signed s k e [])) ≡ 2 + length (decimal k) + length (exponent_text s e)
further_length s k e h =
    omega (arith, ap length (further_one s k e h), length-append (decimal k) (exponent_text s e))

-- The text of an exponent, by its side and by whether it is 1.
pub exponent-inverse : {i : Bool} (e : ℕ) → i ≡ true
    → exponent_text (cond i a_side b_side) e ≡ power_sign ∷ minus_sign ∷ decimal e
exponent-inverse e h = rw h refl

pub exponent_one : {i : Bool} (e : ℕ) → i ≡ false → e ≡ 1 → exponent_text (cond i a_side b_side) e ≡ []
exponent_one e h g = rw (h, g) refl

pub exponent_more : {i : Bool} (e : ℕ) → i ≡ false → (e ≡ 1 → ⊥)
    → exponent_text (cond i a_side b_side) e ≡ power_sign ∷ decimal e
exponent_more e h g = rw (h, ne_eqb e 1 g) refl

-- An exponent has at most two signs more.
exponent_size : (s : Side) (e : ℕ) → e < 10000 → length (exponent_text s e) ≤ 6
exponent_size a_side e h = omega (arith, decimal_short e 3 h)
exponent_size b_side e h = go (eqb e 1)
  where
    go : (t : Bool) → length (cond t [] (power_sign ∷ decimal e)) ≤ 6
    go true = omega arith
    go false = omega (arith, decimal_short e 3 h)

-- A power has at most 12 bytes for each 1 of its exponent.
pub put_size : (s : Side) (k e : ℕ) → k < 10000 → e < 10000 → length (further_text (put_signed s k e [])) ≤ 12 * e
put_size s k zero h g = omega arith
put_size s k (suc e) h g =
    omega (
      arith,
      further_length s k (suc e) (omega arith),
      decimal_short k 3 h,
      exponent_size s (suc e) g,
    )

-- One byte, and two.
pub one_wrote : (s : List ℕ) (i x : ℕ) → Wrote (x ∷ []) s i (set s i x) (i + 1)
one_wrote s i x = record { ends = omega arith; holds = refl }

pub two_wrote : (s : List ℕ) (i x y : ℕ) → Wrote (x ∷ y ∷ []) s i (set (set s i x) (i + 1) y) (i + 2)
two_wrote s i x y = record { ends = omega arith; holds = rw add-one refl }

-- They keep the buffer's size.
pub two_length : (s : List ℕ) (i x y : ℕ) → length (set (set s i x) (i + 1) y) ≡ length s
two_length s i x y = length-set (set s i x) (i + 1) y ∙ length-set s i x

-- The next power of those that are left, and the rest.
pub record Next (left rest : List SignedPower) (s : Side) (k e : ℕ) : Type 0 where
  pub begins : left ≡ put_signed s k e rest

-- Amid a run of writes: the next power is written, and there is room for it.
module _ {left rest : List SignedPower} {now bytes entry : List ℕ} {i at k e : ℕ} {s : Side}
    (w : Writing (further_text left) now i bytes entry at) (n : Next left rest s k e) where
  next_first : Writing (further_text (put_signed s k e []) ++ further_text rest) now i bytes entry at
  next_first = writing_same (ap further_text n.begins ∙ further_put s k e rest) w

  pub next_more : {now' : List ℕ} {j : ℕ} → Wrote (further_text (put_signed s k e [])) now i now' j
      → Writing (further_text rest) now' j bytes entry at
  next_more v = write_more v next_first

  pub next_room : at + length bytes ≤ length entry → i + length (further_text (put_signed s k e [])) ≤ length now
  next_room h =
      omega (
        arith,
        next_first.ends,
        length-append (further_text (put_signed s k e [])) (further_text rest),
        writing_length w,
      )
