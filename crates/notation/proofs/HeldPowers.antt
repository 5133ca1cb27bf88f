-- Powers that three slices hold fit the engine: no index is above the limit, and the exponents sum to at most the
-- limit. Assumes nothing.
use mathlib.Core.Path.{◌≡◌, refl, sym, ap, subst, ◌∙◌}
use mathlib.Core.Bool.{Bool, true, false, cond}
use mathlib.Core.List.{List, [], ◌∷◌}
use Prim.Native.Nat.{ℕ, suc, ◌≤◌}
use native.Mathlib.Omega.{arith}
use lib.Dec.{ltb}
use lib.ListN.{length, take}
use lib.Seq.{length-take-le}
use borrow.Author.Tests.{le-ltb, eq-eqb, le-leb}
use Rattle.std.specs.Prelude.{Result, Ok, Err}
use Rattle.refusals.specs.declared.Failure.{Failure}
use Rattle.refusals.specs.declared.Refusal.{Refusal}
use Rattle.refusals.specs.declared.Failure.TheVariants.{Refused, Unfit}
use Rattle.lists.specs.Entries.{total}
use Rattle.group.specs.Limits.{limit}
use Rattle.group.specs.Forms.{b_side, a_side, levels}
use Rattle.group.specs.Powers.{SignedPower, exponent_sizes}
use Rattle.group.specs.inside.PowerLists.{powers_in}
use Rattle.refusals.specs.Outcomes.{Outcome, accepted, refused, drop_value, reply_of}
use Rattle.refusals.proofs.Outcomes.{accepted_refused, refused_number}
use Rattle.tokens.specs.Tokens.{AllInRange}
use Rattle.tokens.specs.inside.Arrays.{Holding}
use Rattle.forest.specs.Filling.{product_form, tables_for, product_table}
use Rattle.forest.specs.inside.Filling.{cells, filling_of}
use Rattle.forest.specs.inside.Seeking.{front_room, row_room}
use Rattle.forest.specs.inside.FillingPowers.{indices_fit_value, powers_fit_value, judged_powers, FilledPowers}
use Rattle.notation.specs.inside.Products.{FilledBy}
use Rattle.notation.specs.declared.powers.Powers.{Powers}

-- Three slices of one length hold powers that are in range, and their sizes sum to at most the limit.
pub record Kept (ks es ss : List ℕ) : Type 0 where
  pub es_length : length es ≡ length ks
  pub ss_length : length ss ≡ length ks
  pub in_range : AllInRange (powers_in ks es ss)
  pub small : exponent_sizes (powers_in ks es ss) ≤ limit

-- What the value of the reader's type says.
pub kept : (p : Powers) → Kept p.indices.now p.exponents.now p.sides.now
kept p = record {
  es_length = p.exponents_length;
  ss_length = p.sides_length;
  in_range = p.ranged;
  small = omega (arith, p.small, p.summed);
}

-- Lists of one length: their powers, one by one.
indices_fit_lem : (ks es ss : List ℕ) → length es ≡ length ks → length ss ≡ length ks → AllInRange (powers_in ks es ss)
    → indices_fit_value ks ≡ true
indices_fit_lem [] es ss e s h = refl
indices_fit_lem (k ∷ ks) [] ss e s h = absurd (omega (arith, e))
indices_fit_lem (k ∷ ks) (x ∷ es) [] e s h = absurd (omega (arith, s))
indices_fit_lem (k ∷ ks) (x ∷ es) (y ∷ ss) e s h =
    simp (le-leb k limit h.0.0) (indices_fit_lem ks es ss (omega (arith, e)) (omega (arith, s)) h.1)

sizes_total : (ks es ss : List ℕ) → length es ≡ length ks → length ss ≡ length ks
    → exponent_sizes (powers_in ks es ss) ≡ total es
sizes_total [] [] ss e s = refl
sizes_total [] (x ∷ es) ss e s = absurd (omega (arith, e))
sizes_total (k ∷ ks) [] ss e s = absurd (omega (arith, e))
sizes_total (k ∷ ks) (x ∷ es) [] e s = absurd (omega (arith, s))
sizes_total (k ∷ ks) (x ∷ es) (y ∷ ss) e s =
    omega (arith, sizes_total ks es ss (omega (arith, e)) (omega (arith, s)))

-- What is found of powers and tables is no refusal with the number 0.
tables_numbered : (nb na : ℕ) (ps : List SignedPower) → refused 0 0 ≡ drop_value (tables_for nb na ps) → ⊥
tables_numbered nb na ps e =
    go (ltb (suc limit) (levels (product_form ps))) (ltb nb (suc limit)) (ltb na (suc limit)) e
  where
    go : (h b a : Bool) → refused 0 0 ≡ drop_value (cond h (refused 11 0) (cond b (refused 6 0) (cond a (refused 6 0)
        (accepted ps)))) → ⊥
    go true b a e = let z : ◌≡◌ {A = ℕ} 0 11 = refused_number e in omega arith
    go false true a e = let z : ◌≡◌ {A = ℕ} 0 6 = refused_number e in omega arith
    go false false true e = let z : ◌≡◌ {A = ℕ} 0 6 = refused_number e in omega arith
    go false false false e = accepted_refused (sym e)

module _ {ks es ss : List ℕ} (h : Kept ks es ss) where
  powers_fit_lem : powers_fit_value ks es ss ≡ true
  powers_fit_lem =
      let few : total es ≤ limit = omega (arith, h.small, sizes_total ks es ss h.es_length h.ss_length) in
      simp (
        eq-eqb (length es) (length ks) h.es_length,
        eq-eqb (length ss) (length ks) h.ss_length,
        indices_fit_lem ks es ss h.es_length h.ss_length h.in_range,
        le-ltb limit (total es) few,
      )

  -- The engine takes them.
  module _ (b a lefts rights before stack : List ℕ) (p : length lefts ≡ cells) (q : length rights ≡ cells)
      (r : length before ≡ front_room) (s : length stack ≡ row_room) where
    engine_judges : judged_powers ks es ss b a lefts rights before stack
        ≡ tables_for (length b) (length a) (powers_in ks es ss)
    engine_judges =
        simp (
          eq-eqb (length lefts) cells p,
          eq-eqb (length rights) cells q,
          eq-eqb (length before) front_room r,
          eq-eqb (length stack) row_room s,
          powers_fit_lem,
        )

    engine_found : {b' a' : List ℕ} {f : Result ℕ Failure} → FilledPowers ks es ss b a lefts rights before stack b' a' f
        → filling_of f ≡ drop_value (tables_for (length b) (length a) (powers_in ks es ss))
    engine_found t = t.filled.result ∙ ap (λ (o : Outcome (List SignedPower)). drop_value o) engine_judges

    -- Scratch of these sizes serves.
    pub engine_fits : {b' a' : List ℕ} → FilledPowers ks es ss b a lefts rights before stack b' a' (Err Unfit) → ⊥
    engine_fits t = tables_numbered (length b) (length a) (powers_in ks es ss) (engine_found t)

    -- What it leaves, on each answer that is one of the call's too.
    engine_leaves : {b' a' : List ℕ} (f : Result ℕ Failure) (v : Result ℕ Refusal)
        → drop_value (reply_of v) ≡ filling_of f
        → ((n : ℕ) → v ≡ Ok n → f ≡ Ok n) → FilledPowers ks es ss b a lefts rights before stack b' a' f
        → FilledBy (powers_in ks es ss) b a b' a' v
    engine_leaves f v same number t = record {
      result = same ∙ engine_found t;
      b_table = t.filled.b_table ∙ ap (λ (o : Outcome (List SignedPower)). product_table b_side o b) engine_judges;
      a_table = t.filled.a_table ∙ ap (λ (o : Outcome (List SignedPower)). product_table a_side o a) engine_judges;
      levels_read = λ n e o. t.filled.levels_read n (number n e) (powers_in ks es ss) (engine_judges ∙ o);
    }

    pub engine_fills : {b' a' : List ℕ} (n : ℕ) → FilledPowers ks es ss b a lefts rights before stack b' a' (Ok n)
        → FilledBy (powers_in ks es ss) b a b' a' (Ok n)
    engine_fills n t = engine_leaves (Ok n) (Ok n) refl (λ m e. let same : n ≡ m = cc in ap Ok same) t

    pub engine_refuses : {b' a' : List ℕ} (q : Refusal)
        → FilledPowers ks es ss b a lefts rights before stack b' a' (Err (Refused q))
        → FilledBy (powers_in ks es ss) b a b' a' (Err q)
    engine_refuses q t =
        engine_leaves (Err (Refused q)) (Err q) refl
        (λ m e. let z : ◌≡◌ {A = ℕ} 0 1 = cc in absurd (omega arith)) t

-- Powers that were read, in the front of three arrays.
pub held_kept : {ps : List SignedPower} {count : ℕ} {ks es ss : List ℕ} → Holding ps count ks es ss → AllInRange ps
    → exponent_sizes ps ≤ limit → Kept (take count ks) (take count es) (take count ss)
held_kept {ps} {count} {ks} {es} {ss} h range small =
    let size = length-take-le count ks h.ks_long in
    record {
      es_length = length-take-le count es h.es_long ∙ sym size;
      ss_length = length-take-le count ss h.ss_long ∙ sym size;
      in_range = subst AllInRange (sym h.holds) range;
      small = subst (λ (qs : List SignedPower). exponent_sizes qs ≤ limit) (sym h.holds) small;
    }
