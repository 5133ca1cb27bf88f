-- No tip of exponent 0 is stored behind the last bush of a row. So where bushes are left behind its first n tips, an
-- index from n on occurs in the form: the height of the stack behind the read-off tells. Assumes nothing.
--     LastOccurs   the last of the bushes is no tip of exponent 0: so it is of the row of powers, behind any tips
use mathlib.Core.Path.{◌≡◌, refl, sym, ◌∙◌, ap, subst}
use mathlib.Core.List.{List, [], ◌∷◌}
use Prim.Native.Nat.{ℕ, zero, suc, ◌+◌, ◌-◌, ◌≤◌, ◌<◌}
use native.Mathlib.Omega.{arith}
use native.Mathlib.Decide.{dec_le}
use Rattle.group.specs.Forms.{Side, b_side, a_side, Form, levels}
use Rattle.group.specs.Products.{form_of}
use Rattle.group.specs.Limits.{limit}
use Rattle.group.specs.Powers.{SignedPower, signed_power, product_letters}
use Rattle.group.proofs.Reduced.{form_trimmed}
use Rattle.group.proofs.Sizes.{exponent-behind, trimmed_levels}
use Rattle.forest.specs.inside.Forest.{Bush, tip, fork, right_part, first_bush, later_bushes, put_bush}
use Rattle.forest.specs.inside.Forest.{bushes_behind, forest_behind, bushes_from, tip_at}
use Rattle.forest.specs.inside.Cells.{StackStands}
use Rattle.forest.specs.inside.Cursor.{Cursor, cursor, place, onward, go_on, go_back, seek, next_bush, next_rest}
use Rattle.forest.specs.inside.Cursor.{power_from, power_here, rewind, cursor_bushes, cursor_of, IndicesWithin}
use Rattle.forest.proofs.Stored.{stack_none}
use Rattle.forest.proofs.CursorBounds.{cursor_exponent}

abbrev Occurs : Bush → Type 0
Occurs (tip zero) = ⊥
Occurs (tip (suc n)) = Unit {0}
Occurs (fork x y) = Unit {0}

abbrev LastOccurs : List Bush → Type 0
LastOccurs [] = Unit {0}
LastOccurs (t ∷ []) = Occurs t
LastOccurs (t ∷ u ∷ ts) = LastOccurs (u ∷ ts)

-- What is put, taken and read keeps it.
put_last : (t : Bush) (ts : List Bush) → LastOccurs ts → LastOccurs (put_bush t ts)
put_last (tip zero) [] h = tt
put_last (tip zero) (u ∷ ts) h = h
put_last (tip (suc n)) [] h = tt
put_last (tip (suc n)) (u ∷ ts) h = h
put_last (fork x y) [] h = tt
put_last (fork x y) (u ∷ ts) h = h

later_last : (ts : List Bush) → LastOccurs ts → LastOccurs (later_bushes ts)
later_last [] h = tt
later_last (t ∷ []) h = tt
later_last (t ∷ u ∷ ts) h = h

behind_last : (t : Bush) (ts : List Bush) → LastOccurs ts → LastOccurs (bushes_behind t ts)
behind_last (tip n) ts h = h
behind_last (fork x y) ts h = behind_last x (put_bush y ts) (put_last y ts h)

from_last : (i : ℕ) (ts : List Bush) → LastOccurs ts → LastOccurs (bushes_from i ts)
from_last zero ts h = h
from_last (suc i) ts h =
    behind_last (first_bush (bushes_from i ts)) (later_bushes (bushes_from i ts))
    (later_last (bushes_from i ts) (from_last i ts h))

-- So it is of the row of powers.
next_last : (s : Side) (t : Bush) (ts : List Bush) → LastOccurs ts → LastOccurs (next_rest s t ts)
next_last b_side t ts h = later_last ts h
next_last a_side t ts h = put_last (right_part t) ts h

power_last : (s : Side) (e : ℕ) (t : Bush) (ts : List Bush) → LastOccurs ts → LastOccurs (power_from s e t ts)
power_last s zero t ts h = put_last t ts h
power_last s (suc e) t ts h = power_last s e (next_bush s t ts) (next_rest s t ts) (next_last s t ts h)

abbrev CursorLast : Cursor → Type 0
CursorLast (cursor ls ts) = LastOccurs ts

on_last : (n : ℕ) (c : Cursor) → CursorLast c → CursorLast (go_on n c)
on_last zero c h = h
on_last (suc n) (cursor ls ts) h = on_last n (onward (cursor ls ts)) (later_last ts h)

back_last : (n : ℕ) (c : Cursor) → CursorLast c → CursorLast (go_back n c)
back_last zero c h = h
back_last (suc n) (cursor [] ts) h = back_last n (cursor [] ts) h
back_last (suc n) (cursor (t ∷ ls) ts) h = back_last n (cursor ls (put_bush t ts)) (put_last t ts h)

here_last : (s : Side) (e : ℕ) (c : Cursor) → CursorLast c → CursorLast (power_here s e c)
here_last s e (cursor ls ts) h = power_last s e (first_bush ts) (later_bushes ts) (later_last ts h)

cursor_last : (ps : List SignedPower) → CursorLast (cursor_of ps)
cursor_last [] = tt
cursor_last (signed_power s k e ∷ ps) =
    let c = cursor_of ps in
    here_last s e (seek k c)
    (on_last (k - place c) (go_back (place c - k) c) (back_last (place c - k) c (cursor_last ps)))

rewind_last : (ls ts : List Bush) → LastOccurs ts → LastOccurs (rewind ls ts)
rewind_last [] ts h = h
rewind_last (t ∷ ls) ts h = rewind_last ls (put_bush t ts) (put_last t ts h)

bushes_last : (c : Cursor) → CursorLast c → LastOccurs (cursor_bushes c)
bushes_last (cursor ls ts) h = rewind_last ls ts h

-- Tips behind tips.
from_from : (i j n : ℕ) (ts : List Bush) → n ≡ i + j → bushes_from i (bushes_from j ts) ≡ bushes_from n ts
from_from zero j n ts e = let g : j ≡ n = omega arith in ap (λ (k : ℕ). bushes_from k ts) g
from_from (suc i) j zero ts e = absurd (omega arith)
from_from (suc i) j (suc n) ts e = ap forest_behind (from_from i j n ts (omega arith))

tip_from : (s : Side) (i j n : ℕ) (ts : List Bush) → n ≡ i + j → tip_at s (bushes_from j ts) i ≡ tip_at s ts n
tip_from s i j n ts e = ap (λ (us : List Bush). tip_at s us 0) (from_from i j n ts e)

tip_none : (s : Side) (i : ℕ) → tip_at s [] i ≡ 0
tip_none b_side zero = refl
tip_none a_side zero = refl
tip_none s (suc i) = sym (tip_from s i 1 (suc i) [] (omega arith)) ∙ tip_none s i

-- Where the last bush occurs, some tip stands for an exponent above 0.
record High (ts : List Bush) : Type 0 where
  side : Side
  at : ℕ
  above : 0 < tip_at side ts at

occurs_high : (t : Bush) (ts : List Bush) → Occurs t → High (t ∷ ts)
occurs_high (tip zero) ts h = absurd h
occurs_high (tip (suc n)) ts h = record { side = a_side; at = 0; above = omega arith }
occurs_high (fork x y) ts h = record { side = b_side; at = 0; above = omega arith }

later-high : (t : Bush) (ts : List Bush) → High ts → High (t ∷ ts)
later-high (tip n) ts r = record {
  side = r.side;
  at = suc r.at;
  above =
      subst (λ (k : ℕ). 0 < k) (tip_from r.side r.at 1 (suc r.at) (tip n ∷ ts) (omega arith)) r.above;
}
later-high (fork x y) ts r = occurs_high (fork x y) ts tt

some_high : (ts : List Bush) (t : Bush) → LastOccurs (t ∷ ts) → High (t ∷ ts)
some_high [] t h = occurs_high t [] h
some_high (u ∷ ts) t h = later-high t (u ∷ ts) (some_high ts u h)

module _ (m : ℕ) (ps : List SignedPower) (w : IndicesWithin m ps) (n : ℕ) where
  abbrev form : Form
  form = form_of (product_letters ps)

  abbrev row : List Bush
  row = cursor_bushes (cursor_of ps)

  none_levels : bushes_from n row ≡ [] → levels form ≤ n
  none_levels e =
      trimmed_levels form n (form_trimmed (product_letters ps))
      (λ s i h.
      cursor_exponent m ps w s i
      ∙ sym (tip_from s (i - n) n i row (omega arith))
      ∙ ap (λ (us : List Bush). tip_at s us (i - n)) e
      ∙ tip_none s (i - n))

  some_levels : (ts : List Bush) → bushes_from n row ≡ ts → LastOccurs ts → (ts ≡ [] → ⊥) → n < levels form
  some_levels [] e h some = absurd (some refl)
  some_levels (t ∷ ts) e h some = go (some_high ts t h) (dec_le (levels form) n)
    where
      go : High (t ∷ ts) → Dec (levels form ≤ n) → n < levels form
      go r (no c) = omega arith
      go r (yes c) =
          let zero-here : tip_at r.side (t ∷ ts) r.at ≡ 0 =
          ap (λ (us : List Bush). tip_at r.side us r.at) (sym e)
          ∙ tip_from r.side r.at n (r.at + n) row (omega arith)
          ∙ sym (cursor_exponent m ps w r.side (r.at + n))
          ∙ exponent-behind r.side form (r.at + n) (omega arith) in
          absurd (omega (arith, r.above, zero-here))

  -- The stack holds the bushes behind the first n tips of the row: it is empty where no index from n on occurs.
  pub low_levels : (lefts rights : List ℕ) (used : ℕ) (stack : List ℕ) (height : ℕ)
      → StackStands limit lefts rights used (bushes_from n row) stack height → height ≡ 0 → levels form ≤ n
  low_levels lefts rights used stack height s e =
      none_levels (stack_none limit lefts rights used (bushes_from n row) stack height e s)

  pub high-levels : (lefts rights : List ℕ) (used : ℕ) (stack : List ℕ) (height : ℕ)
      → StackStands limit lefts rights used (bushes_from n row) stack height → (height ≡ 0 → ⊥) → n < levels form
  high-levels lefts rights used stack height s some =
      some_levels (bushes_from n row) refl (from_last n row (bushes_last (cursor_of ps) (cursor_last ps)))
      (λ e. some (subst (λ (us : List Bush). StackStands limit lefts rights used us stack height) e s))
