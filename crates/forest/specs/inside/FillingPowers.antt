-- The engine for powers as a call inside the library: its scratch and its contract.
-- Inside: no claim reaches these definitions; a reader of the claims need not believe them. Assumes nothing.
use Rattle.std.specs.Prelude.{◌≡◌, Bool, true, false, cond, List, ℕ, suc, ◌≤◌, length, eqb, ltb, nat_le, Result, Ok}
use Rattle.std.specs.List.{list_all}
use Rattle.refusals.specs.declared.Failure.{Failure}
use Rattle.lists.specs.Entries.{total}
use Rattle.group.specs.Forms.{b_side, a_side, levels}
use Rattle.group.specs.Limits.{limit}
use Rattle.group.specs.Powers.{SignedPower}
use Rattle.group.specs.inside.PowerLists.{powers_in}
use Rattle.refusals.specs.Outcomes.{Outcome, accepted, refused, drop_value}
use Rattle.forest.specs.Filling.{product_form, tables_for, product_table}
use Rattle.forest.specs.inside.Filling.{cells, filling_of}
use Rattle.forest.specs.inside.Seeking.{front_room, row_room}

-- No index is above the limit.
abbrev pub indices_fit_value : List ℕ → Bool
indices_fit_value ks = list_all (λ k. nat_le k limit) ks

-- The scratch has the sizes that the engine works with.
abbrev pub scratch_fits : (lefts rights before stack : List ℕ) → Bool
scratch_fits lefts rights before stack =
    cond (eqb (length lefts) cells)
    (cond (eqb (length rights) cells) (cond (eqb (length before) front_room) (eqb (length stack) row_room) false) false)
    false

-- Three lists of one length, no index above the limit, and exponents that sum to at most the limit.
abbrev pub powers_fit_value : (ks es ss : List ℕ) → Bool
powers_fit_value ks es ss =
    cond (eqb (length es) (length ks))
    (cond (eqb (length ss) (length ks))
    (cond (indices_fit_value ks) (cond (ltb limit (total es)) false true) false)
    false)
    false

-- The powers, beside tables and scratch. What is unfit comes first; 0 is no number of the paper, and no call of the
-- paper meets it.
abbrev pub judged_powers : (ks es ss b a lefts rights before stack : List ℕ) → Outcome (List SignedPower)
judged_powers ks es ss b a lefts rights before stack =
    cond (scratch_fits lefts rights before stack)
    (cond (powers_fit_value ks es ss) (tables_for (length b) (length a) (powers_in ks es ss)) (refused 0 0))
    (refused 0 0)

-- The lent tables and the answer, by an outcome of powers: on a refusal the tables are as they were.
pub record FilledAs (o : Outcome (List SignedPower)) (b a b' a' : List ℕ) (r : Result ℕ Failure) : Type 0 where
  pub result : filling_of r ≡ drop_value o
  pub b_table : b' ≡ product_table b_side o b
  pub a_table : a' ≡ product_table a_side o a
  -- The entries below n are all that a record of the form needs; how far n is above the number of levels is open.
  pub levels_read : (n : ℕ) → r ≡ Ok n → (ps : List SignedPower) → o ≡ accepted ps
      → (levels (product_form ps) ≤ n) × (n ≤ suc limit)

-- For any powers and whatever is lent with them. What the scratch holds at exit is open.
pub record FilledPowers (ks es ss b a lefts rights before stack b' a' : List ℕ) (r : Result ℕ Failure) : Type 0 where
  pub filled : FilledAs (judged_powers ks es ss b a lefts rights before stack) b a b' a' r
