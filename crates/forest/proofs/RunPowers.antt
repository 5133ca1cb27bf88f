-- The loop over the powers: both stacks stand for the row of those read so far. Assumes nothing.
use mathlib.Core.Path.{◌≡◌, sym, ◌∙◌, ap, subst}
use mathlib.Core.List.{List, ◌∷◌}
use Prim.Native.Nat.{ℕ, zero, suc, ◌+◌, ◌≤◌, ◌<◌}
use native.Mathlib.Omega.{arith}
use lib.ListN.{get_or, length}
use Rattle.group.specs.Forms.{Side, b_side, a_side}
use Rattle.group.specs.Powers.{SignedPower, signed_power, exponent_sizes}
use Rattle.group.specs.inside.PowerLists.{side_of, powers_in}
use Rattle.group.specs.Limits.{limit}
use Rattle.forest.specs.inside.Filling.{cells}
use Rattle.forest.specs.inside.Forest.{Bush, left_part, first_bush}
use Rattle.forest.specs.inside.Cells.{StackStands}
use Rattle.forest.specs.inside.Cursor.{Cursor, cursor, seek, power_here, cursor_bushes, cursor_of}
use Rattle.forest.specs.inside.Seeking.{front_room, row_room, Stood, Seekable, Sought, Raises, PowerRoom, PowerPut}
use Rattle.forest.specs.inside.Seeking.{PowersReady, PowersPiled}
use Rattle.forest.proofs.Irreducible.{Irreducible, left_irreducible, first_irreducible}
use Rattle.forest.proofs.Running.{bush_raisable}
use Rattle.forest.proofs.Stored.{stack_more, stack_height}
use Rattle.forest.proofs.Moving.{stack_keeps}
use Rattle.forest.proofs.Cursor.{seek-first}
use Rattle.forest.proofs.CursorBounds.{BoundedCursor, seek_bounded, cursor_bounded, cursor_tips}
use Rattle.forest.proofs.Seeking.{stood_place}
use Rattle.forest.proofs.PowersFrom.{from, from_more, Few, few_from, cursor_from, sizes_from}

-- A bush behind n units can be parted e times.
raises_small : (s : Side) (n e : ℕ) (t : Bush) → e + n ≤ limit → Irreducible n t → Raises s e t
raises_small b_side n e t l h = tt
raises_small a_side n zero t l h = tt
raises_small a_side n (suc e) t l h = (
  bush_raisable limit n t (omega arith) h,
  raises_small a_side (suc n) e (left_part t) (omega arith) (left_irreducible n t h),
)

-- The scratch, with the row of the powers from i on in it.
pub record RunningPowers (ks es ss lefts rights before stack : List ℕ) (used front height i : ℕ) : Type 0 where
  pub ready : PowersReady ks es ss lefts rights before stack
  pub here : i ≤ length ks
  pub used_low : limit < used
  pub used_high : used ≤ limit + 1 + sizes_from ks es ss i
  pub stood : Stood lefts rights used before stack front height (cursor_from ks es ss i)

-- Room for a move of a cursor behind n units, and for a power of e more.
module _ (lefts rights : List ℕ) (used : ℕ) (before stack : List ℕ) (front height n : ℕ) where
  heights : (c : Cursor) → BoundedCursor limit n c → Stood lefts rights used before stack front height c
      → (front ≤ limit) × (front + height ≤ limit + 1 + n)
  heights (cursor ls ts) b o = (
    omega (arith, stood_place lefts rights used before stack front height (cursor ls ts) o, b.low),
    omega (
      arith,
      stack_height limit lefts rights used ls before front o.0,
      stack_height limit lefts rights used ts stack height o.1,
      b.few,
    ),
  )

  seekable : (k : ℕ) (c : Cursor) → length before ≡ front_room → length stack ≡ row_room → k ≤ limit → n ≤ limit
      → BoundedCursor limit n c → Stood lefts rights used before stack front height c
      → Seekable before stack front height k
  seekable k c eb es hk hn b o = record {
    lefts = lefts;
    rights = rights;
    used = used;
    at = c;
    stood = o;
    within = omega (arith, (heights c b o).0);
    room = omega arith;
    deep = omega (arith, (heights c b o).1);
  }

  power_room : (s : Side) (e : ℕ) (c : Cursor) → length lefts ≡ cells → length rights ≡ cells
      → length stack ≡ row_room → limit < used → used ≤ limit + 1 + n → e + n ≤ limit → BoundedCursor limit n c
      → Stood lefts rights used before stack front height c → PowerRoom s lefts rights stack used height e
  power_room s e (cursor ls ts) el er es ul uh he b o = record {
    lefts_length = el;
    rights_length = er;
    used_low = ul;
    used_high = omega arith;
    ts = ts;
    stood = o.1;
    raises = raises_small s n e (first_bush ts) he (first_irreducible n ts b.from_here);
    deep = omega (arith, (heights (cursor ls ts) b o).1);
  }

  -- What the power leaves of the cursor.
  power_stood : (s : Side) (e : ℕ) (c : Cursor) (lefts' rights' stack' : List ℕ) (used' height' : ℕ) → e + n ≤ limit
      → BoundedCursor limit n c → PowerPut s lefts rights stack used height e lefts' rights' stack' used' height'
      → Stood lefts rights used before stack front height c
      → Stood lefts' rights' used' before stack' front height' (power_here s e c)
  power_stood s e (cursor ls ts) lefts' rights' stack' used' height' he b p o = (
    stack_keeps limit lefts rights lefts' rights' used used' p.keeps ls before front o.0,
    p.puts ts (raises_small s n e (first_bush ts) he (first_irreducible n ts b.from_here)) o.1,
  )

module _ {ks es ss lefts rights before stack : List ℕ} {used front height i : ℕ}
    (r : RunningPowers ks es ss lefts rights before stack used front height i) where
  few : Few limit limit (from ks es ss i)
  few = few_from limit limit ks es ss i (record { indices = r.ready.indices_within; sizes = r.ready.sizes })

  bounded : BoundedCursor limit (sizes_from ks es ss i) (cursor_from ks es ss i)
  bounded = cursor_bounded limit (from ks es ss i) few.indices

  pub powers-seek : (k : ℕ) → k ≤ limit → Seekable before stack front height k
  powers-seek k h =
      seekable lefts rights used before stack front height (sizes_from ks es ss i) k
      (cursor_from ks es ss i) r.ready.before_length r.ready.stack_length h few.sizes bounded r.stood

  -- All bushes stand on the stack behind the last move.
  pub powers_end : i ≡ 0 → {stack' : List ℕ} {height' : ℕ} → Sought before stack front height 0 before stack' height'
      → PowersPiled ks es ss lefts rights stack' height'
  powers_end d {stack'} {height'} q = record {
    stack_stands =
        subst (λ (j : ℕ). StackStands limit lefts rights cells (cursor_bushes (cursor_from ks es ss j)) stack' height')
        d
        (stack_more limit lefts rights used cells (cursor_bushes (cursor_from ks es ss i)) stack' height'
        (omega (arith, r.used_high, few.sizes))
        (subst (Stood lefts rights used before stack' 0 height') (seek-first (cursor_from ks es ss i))
        (q lefts rights used (cursor_from ks es ss i) r.stood)
        ).1);
    few =
        omega
        (arith, cursor_tips limit (powers_in ks es ss) r.ready.indices_within, r.ready.sizes);
  }

module _ {ks es ss lefts rights before stack : List ℕ} {used front height i : ℕ}
    (r : RunningPowers ks es ss lefts rights before stack used front height i)
    (j k : ℕ) (d : i ≡ j + 1) (hk : k ≡ get_or ks j 0) where
  -- The power that is read, and those behind it.
  read : from ks es ss j ≡ signed_power (side_of (get_or ss j 0)) k (get_or es j 0) ∷ from ks es ss i
  read =
      let f : suc j ≡ i = omega arith in
      from_more ks es ss j (omega (arith, r.here)) r.ready.exponents-length r.ready.sides_length
      ∙ ap (λ (n : ℕ). signed_power (side_of (get_or ss j 0)) (get_or ks j 0) (get_or es j 0) ∷ from ks es ss n) f
      ∙ ap (λ (n : ℕ). signed_power (side_of (get_or ss j 0)) n (get_or es j 0) ∷ from ks es ss i) (sym hk)

  next : Few limit limit (signed_power (side_of (get_or ss j 0)) k (get_or es j 0) ∷ from ks es ss i)
  next =
      subst (Few limit limit) read
      (few_from limit limit ks es ss j (record { indices = r.ready.indices_within; sizes = r.ready.sizes }))

  pub powers_index : k ≤ limit
  powers_index = next.indices.0

  sought : BoundedCursor limit (sizes_from ks es ss i) (seek k (cursor_from ks es ss i))
  sought =
      seek_bounded limit (sizes_from ks es ss i) k (cursor_from ks es ss i) powers_index (bounded r)

  module _ (before' stack' : List ℕ) (low : ℕ) (eb : length before' ≡ length before)
      (et : length stack' ≡ length stack) (q : Sought before stack front height k before' stack' low) where
    here : Stood lefts rights used before' stack' k low (seek k (cursor_from ks es ss i))
    here = q lefts rights used (cursor_from ks es ss i) r.stood

    pub powers_room : PowerRoom (side_of (get_or ss j 0)) lefts rights stack' used low (get_or es j 0)
    powers_room =
        power_room lefts rights used before' stack' k low (sizes_from ks es ss i) (side_of (get_or ss j 0))
        (get_or es j 0) (seek k (cursor_from ks es ss i)) r.ready.lefts_length r.ready.rights_length
        (et ∙ r.ready.stack_length) r.used_low r.used_high (omega (arith, next.sizes)) sought here

    pub powers_more : {lefts' rights' stack'' : List ℕ} {used' height' : ℕ} → length lefts' ≡ length lefts
        → length rights' ≡ length rights → length stack'' ≡ length stack'
        → PowerPut (side_of (get_or ss j 0)) lefts rights stack' used low (get_or es j 0) lefts' rights' stack'' used'
        height'
        → RunningPowers ks es ss lefts' rights' before' stack'' used' k height' j
    powers_more {lefts'} {rights'} {stack''} {used'} {height'} el er es' p = record {
      ready = record {
        exponents-length = r.ready.exponents-length;
        sides_length = r.ready.sides_length;
        indices_within = r.ready.indices_within;
        sizes = r.ready.sizes;
        lefts_length = el ∙ r.ready.lefts_length;
        rights_length = er ∙ r.ready.rights_length;
        before_length = eb ∙ r.ready.before_length;
        stack_length = es' ∙ et ∙ r.ready.stack_length;
      };
      here = omega (arith, r.here);
      used_low = omega (arith, r.used_low, p.low);
      used_high =
          subst (λ (ps : List SignedPower). used' ≤ limit + 1 + exponent_sizes ps) (sym read)
          (omega (arith, r.used_high, p.high));
      stood =
          subst (λ (ps : List SignedPower). Stood lefts' rights' used' before' stack'' k height' (cursor_of ps))
          (sym read)
          (power_stood lefts rights used before' stack' k low (sizes_from ks es ss i)
          (side_of (get_or ss j 0)) (get_or es j 0) (seek k (cursor_from ks es ss i)) lefts' rights' stack'' used'
          height'
          (omega (arith, next.sizes)) sought p here);
    }
