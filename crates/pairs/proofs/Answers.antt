-- The answers of the three calls: a refusal of the reader is passed on; else the tables that it filled decide.
-- Assumes nothing.
use mathlib.Core.Path.{◌≡◌, refl, sym, ap, ap₂, ◌∙◌}
use mathlib.Core.Bool.{Bool, true, false}
use mathlib.Core.List.{List}
use Prim.Native.Nat.{ℕ, suc}
use native.Mathlib.Omega.{arith}
use lib.ListN.{length}
use lib.Dec.{ltb}
use lib.Seq.{sets}
use Rattle.std.specs.Prelude.{⊤, Result, Ok, Err}
use Rattle.refusals.specs.declared.Failure.{Failure}
use Rattle.refusals.specs.declared.Failure.TheVariants.{Refused, Unfit}
use Rattle.group.specs.Forms.{b_side, a_side, Form}
use Rattle.group.specs.Limits.{limit}
use Rattle.refusals.specs.Outcomes.{Outcome, accepted, refused, then, valued, reply_of}
use Rattle.refusals.specs.declared.Refusal.{Refusal}
use Rattle.refusals.proofs.Outcomes.{accepted_refused, refused_number}
use Rattle.records.specs.Reading.{decode}
use Rattle.records.specs.inside.Contracts.{Decoded}
use Rattle.records.proofs.ClearedTables.{Cleared, Read, read_accepted}
use Rattle.trees.specs.Trees.{Tree}
use Rattle.trees.specs.Building.{tree_of}
use Rattle.trees.specs.Pairs.{carets_of, minus_tree, plus_tree}
use Rattle.trees.specs.Shapes.{shape, shape_size}
use Rattle.trees.specs.inside.Writing.{pairing_of, table_carets, pair_carets, shape_after, WrotePair}
use Rattle.lengths.specs.Weights.{pair_length, form_length}
use Rattle.lengths.specs.inside.Contracts.{table_length}
use Rattle.pairs.specs.Promises.{paired_in, Paired, Measured}
use Rattle.pairs.proofs.Tables.{tree_of_table, tables_fit}

-- The answer of the pair writer that is passed on: an unfit one is none.
pub data Passed : Result ℕ Failure → Result ℕ Refusal → Type 0 where
  number : (n : ℕ) → Passed (Ok n) (Ok n)
  refusing : (q : Refusal) → Passed (Err (Refused q)) (Err q)

pairing_passed : {x : Result ℕ Failure} {r : Result ℕ Refusal} → Passed x r → (o : Outcome ℕ) → pairing_of x ≡ o
    → reply_of r ≡ o
pairing_passed (number n) o h = h
pairing_passed (refusing q) o h = h

-- The tables are fit, and their trees are those of the form.
module _ {s z b a : List ℕ} {f : Form} (c : Cleared (suc limit) z) (r : Read s z b a f) where
  fit_tables : table_carets b a ≡ accepted (carets_of f)
  fit_tables =
      ap₂ table_carets r.b_holds r.a_holds ∙ tables_fit f r.within c r.canonical

  minus_tree_lem : tree_of (carets_of f) a ≡ minus_tree f
  minus_tree_lem = ap (tree_of (carets_of f)) r.a_holds ∙ tree_of_table f r.within c a_side

  plus_tree_lem : tree_of (carets_of f) b ≡ plus_tree f
  plus_tree_lem = ap (tree_of (carets_of f)) r.b_holds ∙ tree_of_table f r.within c b_side

  -- The length of the tables is that of the form.
  tables_length : table_length b a ≡ accepted (form_length f)
  tables_length =
      ap (λ (o : Outcome ℕ). then o (λ n. accepted (pair_length (tree_of n a) (tree_of n b)))) fit_tables
      ∙ ap₂ (λ (t u : Tree). accepted (pair_length t u)) minus_tree_lem plus_tree_lem

  pub length_read : {n : ℕ} → accepted n ≡ table_length b a → accepted n ≡ valued form_length (decode s)
  length_read e = e ∙ tables_length ∙ sym (ap (valued form_length) r.decodes)

  pub length_fits : refused 0 0 ≡ table_length b a → ⊥
  length_fits e = accepted_refused (sym (e ∙ tables_length))

  -- The shapes of the tables are those of the pair.
  module _ {m p m' p' : List ℕ} {x : Result ℕ Failure} {y : Result ℕ Refusal} (w : WrotePair b a m p m' p' x)
      (on : Passed x y) where
    -- Where a buffer is too short, nothing was written.
    pair_short : pair_carets b a (length m) (length p) ≡ refused 7 0
        → paired_in s (length m) (length p) ≡ refused 7 0 → Paired s m p m' p' y
    pair_short e h = record {
      are_bytes = r.are_bytes;
      result = rw h (pairing_passed on (refused 7 0) (w.result ∙ e));
      t_minus = rw h (w.t_minus ∙ ap (λ (o : Outcome ℕ). shape_after o a m) e);
      t_plus = rw h (w.t_plus ∙ ap (λ (o : Outcome ℕ). shape_after o b p) e);
    }

    -- Else both shapes were.
    pair_long : pair_carets b a (length m) (length p) ≡ accepted (carets_of f)
        → paired_in s (length m) (length p) ≡ accepted f → Paired s m p m' p' y
    pair_long e h = record {
      are_bytes = r.are_bytes;
      result = rw h (pairing_passed on (accepted (carets_of f)) (w.result ∙ e));
      t_minus =
          rw h (w.t_minus ∙ ap (λ (o : Outcome ℕ). shape_after o a m) e ∙ ap (λ (t : Tree). sets m 0 (shape t))
          minus_tree_lem);
      t_plus =
          rw h (w.t_plus ∙ ap (λ (o : Outcome ℕ). shape_after o b p) e ∙ ap (λ (t : Tree). sets p 0 (shape t))
          plus_tree_lem);
    }

    pub pair_read : Paired s m p m' p' y
    pair_read = go (ltb (length m) (shape_size (carets_of f))) (ltb (length p) (shape_size (carets_of f))) refl refl
      where
        go : (k l : Bool) → ltb (length m) (shape_size (carets_of f)) ≡ k
            → ltb (length p) (shape_size (carets_of f)) ≡ l → Paired s m p m' p' y
        go true l ek el = pair_short (rw (fit_tables, ek) refl) (rw (r.decodes, ek) refl)
        go false true ek el = pair_short (rw (fit_tables, ek, el) refl) (rw (r.decodes, ek, el) refl)
        go false false ek el = pair_long (rw (fit_tables, ek, el) refl) (rw (r.decodes, ek, el) refl)

  -- The pair writer finds no table unfit.
  pub pair_fits : {m p m' p' : List ℕ} → WrotePair b a m p m' p' (Err Unfit) → ⊥
  pair_fits {m} {p} w = go (ltb (length m) (shape_size (carets_of f)))
      (ltb (length p) (shape_size (carets_of f))) refl refl
    where
      go : (k l : Bool) → ltb (length m) (shape_size (carets_of f)) ≡ k
          → ltb (length p) (shape_size (carets_of f)) ≡ l → ⊥
      go true l ek el =
          let short : pair_carets b a (length m) (length p) ≡ refused 7 0 = rw (fit_tables, ek) refl in
          absurd (omega (arith, refused_number (w.result ∙ short)))
      go false true ek el =
          let short : pair_carets b a (length m) (length p) ≡ refused 7 0 = rw (fit_tables, ek, el) refl in
          absurd (omega (arith, refused_number (w.result ∙ short)))
      go false false ek el =
          let fit : pair_carets b a (length m) (length p) ≡ accepted (carets_of f) = rw (fit_tables, ek, el) refl in
          accepted_refused (sym (w.result ∙ fit))

-- The tables of a record that is accepted give its tree pair and its length.
module _ {s z b a : List ℕ} {v : Result ⊤ Refusal} (c : Cleared (suc limit) z) (d : Decoded s z z b a v)
    (e : v ≡ (Ok tt)) where
  pub pair_answer : {m p m' p' : List ℕ} {x : Result ℕ Failure} {r : Result ℕ Refusal} → WrotePair b a m p m' p' x
      → Passed x r
      → Paired s m p m' p' r
  pair_answer w on = pair_read c (read_accepted c d e).1 w on

  pub pair_never : {m p m' p' : List ℕ} → WrotePair b a m p m' p' (Err Unfit) → ⊥
  pair_never w = pair_fits c (read_accepted c d e).1 w

  pub length-answer : {n : ℕ} → accepted n ≡ table_length b a → Measured form_length s (Ok n)
  length-answer h = record { are_bytes = d.are_bytes; result = length_read c (read_accepted c d e).1 h }

  pub length_never : refused 0 0 ≡ table_length b a → ⊥
  length_never h = length_fits c (read_accepted c d e).1 h

-- A count that gives the length of each form.
pub measured_as : {count : Form → ℕ} {s : List ℕ} {r : Result ℕ Refusal} → ((g : Form) → count g ≡ form_length g)
    → Measured form_length s r → Measured count s r
measured_as {count} {s} {r} same m = record { are_bytes = m.are_bytes; result = m.result ∙ by (decode s) }
  where
    by : (o : Outcome Form) → valued form_length o ≡ valued count o
    by (accepted f) = sym (ap accepted (same f))
    by (refused n p) = refl
