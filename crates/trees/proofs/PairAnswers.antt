-- The answers of the count of carets and of the pair writer, case by case. Assumes nothing.
use mathlib.Core.Path.{◌≡◌, refl, sym, ap, ◌∙◌}
use mathlib.Core.Bool.{Bool, true, false}
use mathlib.Core.List.{List}
use Prim.Native.Nat.{ℕ, ◌≤◌}
use native.Mathlib.Omega.{arith}
use lib.ListN.{length}
use lib.Dec.{ltb}
use borrow.Author.Tests.{ltb-false}
use Rattle.std.specs.Prelude.{Result, Ok, Err}
use Rattle.refusals.specs.declared.Failure.{Failure}
use Rattle.refusals.specs.declared.Failure.TheVariants.{Refused, Unfit}
use Rattle.refusals.specs.Outcomes.{accepted, refused}
use Rattle.refusals.proofs.Outcomes.{accepted_same, accepted_refused}
use Rattle.trees.specs.Pairs.{carets_of_sides, max_carets}
use Rattle.trees.specs.inside.Writing.{pairing_of, table_carets}

-- Two tables that are fit, and the number of carets that they need.
pub record Counts (b a : List ℕ) (n : ℕ) : Type 0 where
  pub accepts : table_carets b a ≡ accepted n
  pub carets : n ≡ carets_of_sides b a
  pub few : n ≤ max_carets
  pub b_entries : length b ≤ max_carets
  pub a_entries : length a ≤ max_carets

-- Two tables are unfit or fit.
pub data Judged (b a : List ℕ) : Type 0 where
  unfit : table_carets b a ≡ refused 0 0 → Judged b a
  fit : Counts b a (carets_of_sides b a) → Judged b a

pub tables_judged : (b a : List ℕ) → Judged b a
tables_judged b a =
    go (ltb max_carets (length b)) (ltb max_carets (length a)) (ltb max_carets (carets_of_sides b a)) refl refl refl
  where
    go : (x y z : Bool) → ltb max_carets (length b) ≡ x → ltb max_carets (length a) ≡ y
        → ltb max_carets (carets_of_sides b a) ≡ z → Judged b a
    go true y z eb ea e = unfit (rw eb refl)
    go false true z eb ea e = unfit (rw (eb, ea) refl)
    go false false true eb ea e = unfit (rw (eb, ea, e) refl)
    go false false false eb ea e = fit (record {
      accepts = rw (eb, ea, e) refl;
      carets = refl;
      few = ltb-false max_carets (carets_of_sides b a) e;
      b_entries = ltb-false max_carets (length b) eb;
      a_entries = ltb-false max_carets (length a) ea;
    })

-- No failure is an accepted number.
no_carets : (f : Failure) (n : ℕ) → pairing_of (Err f) ≡ accepted n → ⊥
no_carets (Refused q) n e = accepted_refused (sym e)
no_carets Unfit n e = accepted_refused (sym e)

-- A failure of the count: the tables are unfit.
pub not_counted : (b a : List ℕ) (f : Failure) → pairing_of (Err f) ≡ table_carets b a → table_carets b a ≡ refused 0 0
not_counted b a f answers = go (tables_judged b a)
  where
    go : Judged b a → table_carets b a ≡ refused 0 0
    go (unfit e) = e
    go (fit c) = absurd (no_carets f _ (answers ∙ c.accepts))

-- A number: the tables are fit.
pub counted : {b a : List ℕ} {r : Result ℕ Failure} {n : ℕ} → pairing_of r ≡ table_carets b a → r ≡ Ok n → Counts b a n
counted {b} {a} {r} {n} answers is = go (tables_judged b a)
  where
    found : accepted n ≡ table_carets b a
    found = sym (ap pairing_of is) ∙ answers

    go : Judged b a → Counts b a n
    go (unfit e) = absurd (accepted_refused (found ∙ e))
    go (fit c) =
        let same : n ≡ carets_of_sides b a = accepted_same (found ∙ c.accepts) in
        record {
          accepts = sym found;
          carets = same;
          few = omega (arith, c.few);
          b_entries = c.b_entries;
          a_entries = c.a_entries;
        }
