-- Powers at the cursor are powers times the row's form. Assumes nothing.
--     levels_before ls f   the levels of the bushes in front of the cursor, put in front of a form
--     power_levels        the bushes of a power at place k have the levels of x_k^±e times the form
use mathlib.Core.Path.{◌≡◌, refl, sym, ◌∙◌, ap}
use mathlib.Core.List.{List, [], ◌∷◌}
use Prim.Native.Nat.{ℕ, zero, suc, ◌+◌, ◌-◌, ◌≤◌}
use native.Mathlib.Omega.{arith}
use lib.ListN.{length}
use Rattle.group.specs.Forms.{Side, b_side, a_side, Form}
use Rattle.group.specs.Products.{times_generator}
use Rattle.group.proofs.Powers.{times_power}
use Rattle.forest.specs.inside.Forest.{Bush, left_part, right_part, first_bush, later_bushes, put_bush}
use Rattle.forest.specs.inside.Cursor.{Cursor, cursor, place, onward, backward, go_on, go_back, seek}
use Rattle.forest.specs.inside.Cursor.{next_bush, next_rest, power_from, power_on, power_here, rewind, cursor_bushes}
use Rattle.forest.proofs.Levels.{bush_levels, forest_levels, put_levels}
use Rattle.forest.proofs.Levels.{bush_past, bush_join, bush_part, forest_opened, forest_trimmed}

abbrev levels_before : List Bush → Form → Form
levels_before [] f = f
levels_before (t ∷ ls) f = levels_before ls (bush_levels 0 t f)

rewind-levels : (ls ts : List Bush) → forest_levels (rewind ls ts) ≡ levels_before ls (forest_levels ts)
rewind-levels [] ts = refl
rewind-levels (t ∷ ls) ts = rewind-levels ls (put_bush t ts) ∙ ap (levels_before ls) (put_levels t ts)

-- A generator whose index is k and the number of bushes in front passes them and has the index k.
generator_past : (s : Side) (k n : ℕ) (ls : List Bush) (f : Form) → n ≡ k + length ls
    → times_generator s n (levels_before ls f) ≡ levels_before ls (times_generator s k f)
generator_past s k n [] f e =
    let g : n ≡ k = omega arith in
    ap (λ (j : ℕ). times_generator s j f) g
generator_past s k n (t ∷ ls) f e =
    generator_past s (suc k) n ls (bush_levels 0 t f) (omega arith)
    ∙ ap (levels_before ls) (bush_past s k 0 k t f (omega arith))

power_past : (s : Side) (e : ℕ) (ls : List Bush) (f : Form)
    → times_power s (length ls) e (levels_before ls f) ≡ levels_before ls (times_power s 0 e f)
power_past s zero ls f = refl
power_past s (suc e) ls f =
    ap (times_generator s (length ls)) (power_past s e ls f)
    ∙ generator_past s 0 (length ls) ls (times_power s 0 e f) (omega arith)

-- The last of the generators may as well be the first.
power_turned : (s : Side) (k e : ℕ) (f : Form)
    → times_power s k e (times_generator s k f) ≡ times_generator s k (times_power s k e f)
power_turned s k zero f = refl
power_turned s k (suc e) f = ap (times_generator s k) (power_turned s k e f)

-- One turn at place 0 is x_0 or its inverse.
next_levels : (s : Side) (t : Bush) (ts : List Bush)
    → bush_levels 0 (next_bush s t ts) (forest_levels (next_rest s t ts))
    ≡ times_generator s 0 (bush_levels 0 t (forest_levels ts))
next_levels b_side t ts =
    sym (bush_join t (first_bush ts) (forest_levels (later_bushes ts)))
    ∙ ap (λ (f : Form). times_generator b_side 0 (bush_levels 0 t f)) (sym (forest_opened ts))
next_levels a_side t ts =
    ap (bush_levels 0 (left_part t)) (put_levels (right_part t) ts)
    ∙ sym (bush_part t (forest_levels ts) (forest_trimmed ts))

power_from_lem : (s : Side) (e : ℕ) (t : Bush) (ts : List Bush)
    → forest_levels (power_from s e t ts) ≡ times_power s 0 e (bush_levels 0 t (forest_levels ts))
power_from_lem s zero t ts = put_levels t ts
power_from_lem s (suc e) t ts =
    power_from_lem s e (next_bush s t ts) (next_rest s t ts)
    ∙ ap (times_power s 0 e) (next_levels s t ts)
    ∙ power_turned s 0 e (bush_levels 0 t (forest_levels ts))

power_on_lem : (s : Side) (e : ℕ) (ts : List Bush)
    → forest_levels (power_on s e ts) ≡ times_power s 0 e (forest_levels ts)
power_on_lem s e ts =
    power_from_lem s e (first_bush ts) (later_bushes ts) ∙ ap (times_power s 0 e) (sym (forest_opened ts))

-- The form of a cursor's row.
abbrev pub cursor_levels : Cursor → Form
cursor_levels c = forest_levels (cursor_bushes c)

-- A power at the cursor.
power_here_lem : (s : Side) (e : ℕ) (c : Cursor)
    → cursor_levels (power_here s e c) ≡ times_power s (place c) e (cursor_levels c)
power_here_lem s e (cursor ls ts) =
    rewind-levels ls (power_on s e ts)
    ∙ ap (levels_before ls) (power_on_lem s e ts)
    ∙ sym (ap (times_power s (length ls) e) (rewind-levels ls ts) ∙ power_past s e ls (forest_levels ts))

-- Moves of the cursor keep the form.
onward-levels : (c : Cursor) → cursor_levels (onward c) ≡ cursor_levels c
onward-levels (cursor ls ts) =
    rewind-levels ls (put_bush (first_bush ts) (later_bushes ts))
    ∙ ap (levels_before ls) (put_levels (first_bush ts) (later_bushes ts) ∙ sym (forest_opened ts))
    ∙ sym (rewind-levels ls ts)

backward-levels : (c : Cursor) → cursor_levels (backward c) ≡ cursor_levels c
backward-levels (cursor [] ts) = refl
backward-levels (cursor (t ∷ ls) ts) = refl

on_levels : (n : ℕ) (c : Cursor) → cursor_levels (go_on n c) ≡ cursor_levels c
on_levels zero c = refl
on_levels (suc n) c = on_levels n (onward c) ∙ onward-levels c

back_levels : (n : ℕ) (c : Cursor) → cursor_levels (go_back n c) ≡ cursor_levels c
back_levels zero c = refl
back_levels (suc n) c = back_levels n (backward c) ∙ backward-levels c

-- Where the cursor stands after a move.
pub on_place : (n : ℕ) (c : Cursor) → place (go_on n c) ≡ n + place c
on_place zero (cursor ls ts) = omega arith
on_place (suc n) (cursor ls ts) = omega (arith, on_place n (onward (cursor ls ts)))

back_place : (n : ℕ) (c : Cursor) → n ≤ place c → place (go_back n c) ≡ place c - n
back_place zero (cursor ls ts) h = omega arith
back_place (suc n) (cursor [] ts) h = absurd (omega arith)
back_place (suc n) (cursor (t ∷ ls) ts) h = omega (arith, back_place n (cursor ls (put_bush t ts)) (omega arith))

pub seek-place : (k : ℕ) (c : Cursor) → place (seek k c) ≡ k
seek-place k c =
    omega (arith, on_place (k - place c) (go_back (place c - k) c), back_place (place c - k) c (omega arith))

-- x_k^±e at place k.
pub power_levels : (s : Side) (k e : ℕ) (c : Cursor)
    → cursor_levels (power_here s e (seek k c)) ≡ times_power s k e (cursor_levels c)
power_levels s k e c =
    power_here_lem s e (seek k c)
    ∙ ap (λ (j : ℕ). times_power s j e (cursor_levels (seek k c))) (seek-place k c)
    ∙ ap (times_power s k e) (on_levels (k - place c) (go_back (place c - k) c) ∙ back_levels (place c - k) c)

-- A move to the next place, or to the place before, is one step more; all moves back leave all bushes behind.
on_last : (n : ℕ) (c : Cursor) → go_on (suc n) c ≡ onward (go_on n c)
on_last zero c = refl
on_last (suc n) c = on_last n (onward c)

back_last : (n : ℕ) (c : Cursor) → go_back (suc n) c ≡ backward (go_back n c)
back_last zero c = refl
back_last (suc n) c = back_last n (backward c)

seek_on : (i : ℕ) (c : Cursor) → place c ≤ i → seek i c ≡ go_on (i - place c) c
seek_on i c h =
    let e : place c - i ≡ 0 = omega arith in
    ap (λ (n : ℕ). go_on (i - place c) (go_back n c)) e

seek_back : (i : ℕ) (c : Cursor) → i ≤ place c → seek i c ≡ go_back (place c - i) c
seek_back i c h =
    let e : i - place c ≡ 0 = omega arith in
    ap (λ (n : ℕ). go_on n (go_back (place c - i) c)) e

pub seek_here : (i : ℕ) (c : Cursor) → i ≡ place c → c ≡ seek i c
seek_here i c h =
    let e : 0 ≡ i - place c = omega arith in
    ap (λ (n : ℕ). go_on n c) e ∙ sym (seek_on i c (omega arith))

pub seek-onward : (i : ℕ) (c : Cursor) → place c ≤ i → onward (seek i c) ≡ seek (i + 1) c
seek-onward i c h =
    let e : suc (i - place c) ≡ i + 1 - place c = omega arith in
    ap onward (seek_on i c h)
    ∙ sym (on_last (i - place c) c)
    ∙ ap (λ (n : ℕ). go_on n c) e
    ∙ sym (seek_on (i + 1) c (omega arith))

pub seek-backward : (i j : ℕ) (c : Cursor) → i ≤ place c → i ≡ j + 1 → backward (seek i c) ≡ seek j c
seek-backward i j c h d =
    let e : suc (place c - i) ≡ place c - j = omega arith in
    ap backward (seek_back i c h)
    ∙ sym (back_last (place c - i) c)
    ∙ ap (λ (n : ℕ). go_back n c) e
    ∙ sym (seek_back j c (omega arith))

-- A move back in two parts.
back_more : (m n l : ℕ) (c : Cursor) → l ≡ n + m → go_back m (go_back n c) ≡ go_back l c
back_more m zero l c e =
    let g : m ≡ l = omega arith in
    ap (λ (j : ℕ). go_back j c) g
back_more m (suc n) zero c e = absurd (omega arith)
back_more m (suc n) (suc l) c e = back_more m n l (backward c) (omega arith)

pub seek_farther : (i k : ℕ) (c : Cursor) → i ≤ place c → k ≤ i → seek k (seek i c) ≡ seek k c
seek_farther i k c h l =
    let here = seek-place i c in
    seek_back k (seek i c) (omega arith)
    ∙ ap (go_back (place (seek i c) - k)) (seek_back i c h)
    ∙ back_more (place (seek i c) - k) (place c - i) (place c - k) c (omega arith)
    ∙ sym (seek_back k c (omega arith))

back_all : (ls ts : List Bush) → go_back (length ls) (cursor ls ts) ≡ cursor [] (rewind ls ts)
back_all [] ts = refl
back_all (t ∷ ls) ts = back_all ls (put_bush t ts)

pub seek-first : (c : Cursor) → seek 0 c ≡ cursor [] (cursor_bushes c)
seek-first (cursor ls ts) =
    let e : length ls - 0 ≡ length ls = omega arith in
    seek_back 0 (cursor ls ts) (omega arith)
    ∙ ap (λ (n : ℕ). go_back n (cursor ls ts)) e
    ∙ back_all ls ts
