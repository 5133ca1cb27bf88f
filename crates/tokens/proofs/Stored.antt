-- The powers that were read so far stand in the arrays, while their sizes do not sum above the limit. Assumes nothing.
use mathlib.Core.Path.{◌≡◌, refl, sym, ap, ◌∙◌}
use mathlib.Core.Bool.{Bool, true, false}
use mathlib.Core.List.{List, [], ◌∷◌, ◌++◌}
use Prim.Native.Nat.{ℕ, ◌+◌, ◌≤◌, ◌<◌}
use native.Mathlib.Numerals.{add-one}
use native.Mathlib.Omega.{arith}
use lib.ListN.{length, take, set, length-append, length-set}
use lib.Seq.{take-suc-set, length-take-le}
use Rattle.std.specs.Prelude.{Option, Some, None}
use Rattle.group.specs.Limits.{limit}
use Rattle.group.specs.Powers.{SignedPower, signed_power, size_of, exponent_sizes}
use Rattle.group.specs.inside.PowerLists.{side_of, powers_in}
use Rattle.tokens.specs.declared.Powers.{Powers}
use Rattle.tokens.specs.declared.token.Power.{Power}
use Rattle.tokens.specs.inside.Arrays.{Holding}
use Rattle.tokens.specs.inside.Spelling.{side_of_sign, side_number}
use Rattle.tokens.specs.inside.Keeping.{power_of, Few, Keepable, KeptMore, Kept}

-- The powers ps stand in the arrays.
pub record Held (ps : List SignedPower) (kept : Powers) (ks es ss : List ℕ) : Type 0 where
  pub summed : kept.sum ≡ exponent_sizes ps
  pub small : kept.sum ≤ limit
  pub few : kept.count ≤ kept.sum
  pub held : Holding ps kept.count ks es ss

-- They are kept, or their sizes sum above the limit.
abbrev pub Stored : List SignedPower → Option Powers → (ks es ss : List ℕ) → Type 0
Stored ps (Some kept) ks es ss = Held ps kept ks es ss
Stored ps None ks es ss = limit < exponent_sizes ps

-- No power yet.
pub held_none : (ks es ss : List ℕ) → Held [] (record { count = 0; sum = 0 }) ks es ss
held_none ks es ss = record {
  summed = refl;
  small = omega arith;
  few = omega arith;
  held = record {
    counts = refl;
    ks_long = omega arith;
    es_long = omega arith;
    ss_long = omega arith;
    holds = refl;
  };
}

-- The powers that are kept are few.
pub stored_few : (ps : List SignedPower) (kept : Option Powers) (ks es ss : List ℕ) → Stored ps kept ks es ss → Few kept
stored_few ps (Some kept) ks es ss h = (h.few, h.small)
stored_few ps None ks es ss h = tt

-- The sizes of the powers, one more at the end.
sizes_more : (ps : List SignedPower) (p : SignedPower) → exponent_sizes (ps ++ (p ∷ [])) ≡ exponent_sizes ps + size_of p
sizes_more [] p = omega arith
sizes_more (q ∷ ps) p = omega (arith, sizes_more ps p)

-- The powers in three lists, one entry more at the end of each.
powers_more : (ks es ss : List ℕ) (k e s : ℕ) → length ks ≡ length es → length ks ≡ length ss
    → powers_in (ks ++ (k ∷ [])) (es ++ (e ∷ [])) (ss ++ (s ∷ []))
    ≡ powers_in ks es ss ++ (signed_power (side_of s) k e ∷ [])
powers_more [] [] [] k e s he hs = refl
powers_more [] [] (y ∷ ss) k e s he hs = absurd (omega arith)
powers_more [] (x ∷ es) ss k e s he hs = absurd (omega arith)
powers_more (j ∷ ks) [] ss k e s he hs = absurd (omega arith)
powers_more (j ∷ ks) (x ∷ es) [] k e s he hs = absurd (omega arith)
powers_more (j ∷ ks) (x ∷ es) (y ∷ ss) k e s he hs =
    ap (λ (ps : List SignedPower). signed_power (side_of y) j x ∷ ps)
    (powers_more ks es ss k e s (omega arith) (omega arith))

-- The first entries of a list, one more.
take_more : (l : List ℕ) (i x : ℕ) → i < length l → take (i + 1) (set l i x) ≡ take i l ++ (x ∷ [])
take_more l i x lt = ap (λ (n : ℕ). take n (set l i x)) (add-one i) ∙ take-suc-set l i x lt

-- One power more is held.
holding_more : {ps : List SignedPower} {count : ℕ} {ks es ss : List ℕ} (k e s : ℕ) → Holding ps count ks es ss
    → count < length ks → count < length es → count < length ss
    → Holding (ps ++ (signed_power (side_of s) k e ∷ [])) (count + 1) (set ks count k) (set es count e) (set ss count s)
holding_more {ps} {count} {ks} {es} {ss} k e s h hk he hs = record {
  counts = omega (arith, h.counts, length-append ps (signed_power (side_of s) k e ∷ []));
  ks_long = omega (arith, length-set ks count k);
  es_long = omega (arith, length-set es count e);
  ss_long = omega (arith, length-set ss count s);
  holds = rw (take_more ks count k hk, take_more es count e he, take_more ss count s hs)
      (powers_more (take count ks) (take count es) (take count ss) k e s
      (length-take-le count ks h.ks_long ∙ sym (length-take-le count es h.es_long))
      (length-take-le count ks h.ks_long ∙ sym (length-take-le count ss h.ss_long))
      ∙ ap (λ (qs : List SignedPower). qs ++ (signed_power (side_of s) k e ∷ [])) h.holds);
}

-- The side of a sign, kept as a number.
side_kept : (inverse : Bool) → side_of (side_number inverse) ≡ side_of_sign inverse
side_kept false = refl
side_kept true = refl

-- One power more.
held_more : {ps : List SignedPower} {p : Power} {kept more : Powers} {ks es ss ks' es' ss' : List ℕ}
    → Held ps kept ks es ss → Keepable p (Some kept) ks es ss → KeptMore p kept more ks es ss ks' es' ss'
    → Held (ps ++ (power_of p ∷ [])) more ks' es' ss'
held_more {ps} {p} {kept} {more} {ks} {es} {ss} h can k = record {
  summed = omega (arith, h.summed, k.sum_more, sizes_more ps (power_of p));
  small = k.sum_within;
  few = omega (arith, h.few, k.sum_more, k.count_more, can.in_range.1);
  held = rw (k.count_more, k.ks_more, k.es_more, k.ss_more, sym (side_kept p.inverse))
      (holding_more p.index p.exponent (side_number p.inverse) h.held (omega (arith, room, can.ks_size))
      (omega (arith, room, can.es_size)) (omega (arith, room, can.ss_size)));
}
  where
    room : kept.count < limit
    room = omega (arith, h.few, k.sum_within, k.sum_more, can.in_range.1)

pub stored_more : (ps : List SignedPower) (p : Power) (kept more : Option Powers) (ks es ss ks' es' ss' : List ℕ)
    → Stored ps kept ks es ss → Keepable p kept ks es ss → Kept p kept ks es ss ks' es' ss' more
    → Stored (ps ++ (power_of p ∷ [])) more ks' es' ss'
stored_more ps p (Some kept) (Some more) ks es ss ks' es' ss' h can k = held_more h can k
stored_more ps p (Some kept) None ks es ss ks' es' ss' h can k = omega (arith, h.summed, sizes_more ps (power_of p))
stored_more ps p None (Some more) ks es ss ks' es' ss' h can k = absurd k
stored_more ps p None None ks es ss ks' es' ss' h can k = omega (arith, sizes_more ps (power_of p))
