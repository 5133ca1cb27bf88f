-- What holds of the cursor behind powers whose indices are at most m and whose exponents sum to n: its row stands for
-- the form of the powers' letters, no reducing step applies in it, no exponent is above n, and there are at most
-- m + 1 + n tips. Assumes nothing.
use mathlib.Core.Path.{◌≡◌, refl, sym, ◌∙◌, ap, subst}
use mathlib.Core.List.{List, [], ◌∷◌}
use Prim.Native.Nat.{ℕ, zero, suc, ◌+◌, ◌-◌, ◌≤◌, ◌<◌}
use native.Mathlib.Omega.{arith}
use lib.ListN.{length}
use Rattle.group.specs.Forms.{Side, b_side, a_side, Form, exponent}
use Rattle.group.specs.Products.{form_of}
use Rattle.group.specs.Powers.{SignedPower, signed_power, product_letters, exponent_sizes}
use Rattle.group.proofs.Powers.{times_power, form_power}
use Rattle.forest.specs.inside.Forest.{Bush, tip, fork, right_part, first_bush, later_bushes, put_bush}
use Rattle.forest.specs.inside.Forest.{tip_at, tips, forest_tips}
use Rattle.forest.specs.inside.Cursor.{Cursor, cursor, place, onward, go_on, go_back, seek, next_bush, next_rest}
use Rattle.forest.specs.inside.Cursor.{power_from, power_here, rewind, cursor_bushes, cursor_of, IndicesWithin}
use Rattle.forest.proofs.Irreducible.{IrreducibleForest, forest_more, join_irreducible, left_irreducible}
use Rattle.forest.proofs.Irreducible.{right_irreducible, first_irreducible, later_irreducible, put_irreducible}
use Rattle.forest.proofs.Irreducible.{put_tips, join_tips, part_tips, opened_tips}
use Rattle.forest.proofs.ReadOff.{forest_exponent}
use Rattle.forest.proofs.Cursor.{cursor_levels, power_levels, on_place, seek-place}

-- The row of powers has the form of their letters.
pub cursor_form : (ps : List SignedPower) → cursor_levels (cursor_of ps) ≡ form_of (product_letters ps)
cursor_form [] = refl
cursor_form (signed_power s k e ∷ ps) =
    power_levels s k e (cursor_of ps)
    ∙ ap (times_power s k e) (cursor_form ps)
    ∙ sym (form_power s k e (product_letters ps))

-- The bushes of a cursor behind n units are irreducible; its place is at most m; it has at most n forks, and at most
-- m + 1 + n tips.
pub record Bounded (m n : ℕ) (ls ts : List Bush) : Type 0 where
  pub in_front : IrreducibleForest n ls
  pub from_here : IrreducibleForest n ts
  pub low : length ls ≤ m
  pub forks : forest_tips ls + forest_tips ts ≤ n + (length ls + length ts)
  pub few : forest_tips ls + forest_tips ts ≤ m + 1 + n

abbrev pub BoundedCursor : ℕ → ℕ → Cursor → Type 0
BoundedCursor m n (cursor ls ts) = Bounded m n ls ts

-- How many bushes and tips there are when one is put or taken.
put_count : (t : Bush) (ts : List Bush)
    → tips t + forest_tips ts + length (put_bush t ts) ≡ forest_tips (put_bush t ts) + suc (length ts)
put_count (tip zero) [] = omega arith
put_count (tip zero) (t ∷ ts) = omega arith
put_count (tip (suc n)) ts = omega arith
put_count (fork x y) ts = omega arith

opened_count : (ts : List Bush)
    → tips (first_bush ts) + forest_tips (later_bushes ts) + length ts ≡ forest_tips ts + suc (length (later_bushes ts))
opened_count [] = omega arith
opened_count (t ∷ ts) = omega arith

-- The bush at the cursor taken apart from those behind it, and put back.
opened : (m n : ℕ) (ls ts : List Bush) → Bounded m n ls ts → Bounded m n ls (first_bush ts ∷ later_bushes ts)
opened m n ls [] b = record {
  in_front = b.in_front;
  from_here = (omega arith, tt);
  low = b.low;
  forks = omega (arith, b.forks);
  few = omega (arith, b.forks, b.low);
}
opened m n ls (t ∷ ts) b = b

put_back : (m n : ℕ) (ls : List Bush) (t : Bush) (ts : List Bush) → Bounded m n ls (t ∷ ts)
    → Bounded m n ls (put_bush t ts)
put_back m n ls t ts b = record {
  in_front = b.in_front;
  from_here = put_irreducible n t ts b.from_here.0 b.from_here.1;
  low = b.low;
  forks = omega (arith, b.forks, put_count t ts);
  few = omega (arith, b.few, put_tips t ts);
}

-- One bush moved to the front, and back from there.
to_front : (m n : ℕ) (ls : List Bush) (t : Bush) (ts : List Bush) → length ls < m → Bounded m n ls (t ∷ ts)
    → Bounded m n (t ∷ ls) ts
to_front m n ls t ts h b = record {
  in_front = (b.from_here.0, b.in_front);
  from_here = b.from_here.1;
  low = omega arith;
  forks = omega (arith, b.forks);
  few = omega (arith, b.few);
}

from_front : (m n : ℕ) (t : Bush) (ls ts : List Bush) → Bounded m n (t ∷ ls) ts → Bounded m n ls (t ∷ ts)
from_front m n t ls ts b = record {
  in_front = b.in_front.1;
  from_here = (b.in_front.0, b.from_here);
  low = omega (arith, b.low);
  forks = omega (arith, b.forks);
  few = omega (arith, b.few);
}

on_bounded : (m n d : ℕ) (c : Cursor) → d + place c ≤ m → BoundedCursor m n c → BoundedCursor m n (go_on d c)
on_bounded m n zero c h b = b
on_bounded m n (suc d) (cursor ls ts) h b =
    on_bounded m n d (onward (cursor ls ts)) (omega arith)
    (to_front m n ls (first_bush ts) (later_bushes ts) (omega arith) (opened m n ls ts b))

back_bounded : (m n d : ℕ) (c : Cursor) → BoundedCursor m n c → BoundedCursor m n (go_back d c)
back_bounded m n zero c b = b
back_bounded m n (suc d) (cursor [] ts) b = back_bounded m n d (cursor [] ts) b
back_bounded m n (suc d) (cursor (t ∷ ls) ts) b =
    back_bounded m n d (cursor ls (put_bush t ts)) (put_back m n ls t ts (from_front m n t ls ts b))

pub seek_bounded : (m n k : ℕ) (c : Cursor) → k ≤ m → BoundedCursor m n c → BoundedCursor m n (seek k c)
seek_bounded m n k c h b =
    on_bounded m n (k - place c) (go_back (place c - k) c)
    (omega (arith, seek-place k c, on_place (k - place c) (go_back (place c - k) c)))
    (back_bounded m n (place c - k) c b)

-- One turn is one unit more.
next_bounded : (m n : ℕ) (s : Side) (ls : List Bush) (t : Bush) (ts : List Bush) → Bounded m n ls (t ∷ ts)
    → Bounded m (suc n) ls (next_bush s t ts ∷ next_rest s t ts)
next_bounded m n b_side ls t ts b = record {
  in_front = forest_more n ls b.in_front;
  from_here = (
    join_irreducible n t (first_bush ts) b.from_here.0 (first_irreducible n ts b.from_here.1),
    later_irreducible n ts b.from_here.1,
  );
  low = b.low;
  forks = omega (arith, b.forks, join_tips t (first_bush ts), opened_count ts);
  few = omega (arith, b.few, join_tips t (first_bush ts), opened_tips ts);
}
next_bounded m n a_side ls t ts b = record {
  in_front = forest_more n ls b.in_front;
  from_here = (
    left_irreducible n t b.from_here.0,
    put_irreducible (suc n) (right_part t) ts (right_irreducible n t b.from_here.0)
        (forest_more n ts b.from_here.1),
  );
  low = b.low;
  forks = omega (arith, b.forks, part_tips t, put_count (right_part t) ts);
  few = omega (arith, b.few, part_tips t, put_tips (right_part t) ts);
}

from_bounded : (m n e k : ℕ) (s : Side) (ls : List Bush) (t : Bush) (ts : List Bush) → k ≡ e + n
    → Bounded m n ls (t ∷ ts) → Bounded m k ls (power_from s e t ts)
from_bounded m n zero k s ls t ts h b =
    let g : n ≡ k = omega arith in
    subst (λ (j : ℕ). Bounded m j ls (put_bush t ts)) g (put_back m n ls t ts b)
from_bounded m n (suc e) k s ls t ts h b =
    from_bounded m (suc n) e k s ls (next_bush s t ts) (next_rest s t ts) (omega arith) (next_bounded m n s ls t ts b)

power_bounded : (m n e : ℕ) (s : Side) (c : Cursor) → BoundedCursor m n c → BoundedCursor m (e + n) (power_here s e c)
power_bounded m n e s (cursor ls ts) b =
    from_bounded m n e (e + n) s ls (first_bush ts) (later_bushes ts) refl (opened m n ls ts b)

-- The cursor behind powers.
pub cursor_bounded : (m : ℕ) (ps : List SignedPower) → IndicesWithin m ps
    → BoundedCursor m (exponent_sizes ps) (cursor_of ps)
cursor_bounded m [] h =
    record { in_front = tt; from_here = tt; low = omega arith; forks = omega arith; few = omega arith }
cursor_bounded m (signed_power s k e ∷ ps) (h, l) =
    power_bounded m (exponent_sizes ps) e s (seek k (cursor_of ps))
    (seek_bounded m (exponent_sizes ps) k (cursor_of ps) h (cursor_bounded m ps l))

-- All bushes put back.
rewound : (m n : ℕ) (ls ts : List Bush) → Bounded m n ls ts → Bounded m n [] (rewind ls ts)
rewound m n [] ts b = b
rewound m n (t ∷ ls) ts b = rewound m n ls (put_bush t ts) (put_back m n ls t ts (from_front m n t ls ts b))

row_bounded : (m n : ℕ) (c : Cursor) → BoundedCursor m n c → Bounded m n [] (cursor_bushes c)
row_bounded m n (cursor ls ts) b = rewound m n ls ts b

-- No reducing step applies in the row, and no exponent is above n.
pub cursor_irreducible : (m : ℕ) (ps : List SignedPower) → IndicesWithin m ps
    → IrreducibleForest (exponent_sizes ps) (cursor_bushes (cursor_of ps))
cursor_irreducible m ps h = (row_bounded m (exponent_sizes ps) (cursor_of ps) (cursor_bounded m ps h)).from_here

-- There are at most m + 1 + n tips.
pub cursor_tips : (m : ℕ) (ps : List SignedPower) → IndicesWithin m ps
    → forest_tips (cursor_bushes (cursor_of ps)) ≤ m + 1 + exponent_sizes ps
cursor_tips m ps h = omega (arith, (row_bounded m (exponent_sizes ps) (cursor_of ps) (cursor_bounded m ps h)).few)

-- Tip i of the row has the exponents of index i of the form.
pub cursor_exponent : (m : ℕ) (ps : List SignedPower) → IndicesWithin m ps → (s : Side) (i : ℕ)
    → exponent s (form_of (product_letters ps)) i ≡ tip_at s (cursor_bushes (cursor_of ps)) i
cursor_exponent m ps h s i =
    ap (λ (f : Form). exponent s f i) (sym (cursor_form ps))
    ∙ forest_exponent (exponent_sizes ps) s i (cursor_bushes (cursor_of ps)) (cursor_irreducible m ps h)
