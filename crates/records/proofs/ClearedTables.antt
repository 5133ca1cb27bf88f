-- What the reader leaves of tables that held zeros: the exponents of the record's form, by index. The calls that read a
-- record into tables of their own rest on this. Assumes nothing.
use mathlib.Core.Path.{◌≡◌, refl, sym, ap, ◌∙◌}
use mathlib.Core.List.{List}
use Prim.Native.Nat.{ℕ, zero, suc, ◌<◌, ◌≤◌}
use native.Mathlib.Omega.{arith}
use native.Mathlib.Decide.{dec_lt}
use lib.ListN.{length, get_or, replicate, length-replicate}
use borrow.Author.Tests.{le-ltb}
use Rattle.std.specs.Prelude.{⊤, Result, Ok, Err}
use Rattle.lists.specs.Tables.{filled}
use Rattle.lists.proofs.Tables.{filled-length, filled_at, filled-beyond}
use Rattle.lists.proofs.Totals.{same_replicate}
use Rattle.group.specs.Forms.{Side, b_side, a_side, Form, exponent, levels}
use Rattle.group.specs.Limits.{limit}
use Rattle.group.proofs.Reduced.{Canonical}
use Rattle.group.proofs.Sizes.{trimmed_levels}
use Rattle.refusals.specs.Outcomes.{Outcome, accepted, refused, then, drop_value, refusal, verdict_of}
use Rattle.refusals.specs.declared.Refusal.{Refusal}
use Rattle.refusals.proofs.Outcomes.{drop_accepted, drop_refused}
use Rattle.records.specs.Format.{Within}
use Rattle.records.specs.Reading.{decode}
use Rattle.fields.specs.Fields.{Bytes}
use Rattle.records.specs.inside.Contracts.{Decoded}
use Rattle.clause.specs.inside.Tables.{fits, table_read}
use Rattle.records.proofs.Accepted.{decode_form}

-- A table of n zeros with an entry for every index up to the limit.
pub record Cleared (n : ℕ) (z : List ℕ) : Type 0 where
  pub size : length z ≡ n
  pub room : suc limit ≤ n
  pub zeros : (i : ℕ) → get_or z i 0 ≡ 0

pub cleared : (n : ℕ) → suc limit ≤ n → Cleared n (replicate n 0)
cleared n h = record { size = length-replicate {A = ℕ} n 0; room = h; zeros = same_replicate n }

-- A call's own tables.
pub own_cleared : Cleared (suc limit) (replicate (suc limit) 0)
own_cleared = cleared (suc limit) (omega arith)

-- A table filled with the exponents of a side.
abbrev pub table_of : Side → Form → List ℕ → List ℕ
table_of s f z = filled (suc limit) (exponent s f) z

-- A form within the limits has no exponent above 0 behind the limit.
pub within_behind : (f : Form) → Within f → (s : Side) (i : ℕ) → limit < i → exponent s f i ≡ 0
within_behind f w s i h = go (exponent s f i) refl
  where
    go : (e : ℕ) → exponent s f i ≡ e → exponent s f i ≡ 0
    go zero q = q
    go (suc e) q = absurd (omega (arith, w.indices s i (omega arith)))

-- If it is canonical, it has no level behind the limit either.
pub within_levels : (f : Form) → Canonical f → Within f → levels f ≤ suc limit
within_levels f c w = trimmed_levels f (suc limit) c.trimmed (λ s i h. within_behind f w s i (omega arith))

-- The table of a form within the limits has the exponent of every index.
module _ (f : Form) (w : Within f) {n : ℕ} {z : List ℕ} (c : Cleared n z) where
  pub table-length : (s : Side) → length (table_of s f z) ≡ n
  table-length s = filled-length (suc limit) (exponent s f) z (omega (arith, c.size, c.room)) ∙ c.size

  pub table_at : (s : Side) (i : ℕ) → get_or (table_of s f z) i 0 ≡ exponent s f i
  table_at s i = go (dec_lt i (suc limit))
    where
      go : Dec (i < suc limit) → get_or (table_of s f z) i 0 ≡ exponent s f i
      go (yes h) = filled_at (suc limit) (exponent s f) z i h
      go (no h) =
          filled-beyond (suc limit) (exponent s f) z i (omega arith)
          ∙ c.zeros i
          ∙ sym (within_behind f w s i (omega arith))

-- Tables with an entry for every index are never too short for the reader.
reader_room : (s : List ℕ) (n : ℕ) → suc limit ≤ n → then (decode s) (fits n n) ≡ decode s
reader_room s n h = go (decode s) refl
  where
    go : (o : Outcome Form) → decode s ≡ o → then (decode s) (fits n n) ≡ decode s
    go (refused k p) e = rw e refl
    go (accepted f) e = rw e (simp (le-ltb _ _ h))

-- The tables hold the exponents of the form that was read.
pub record Read (s z b a : List ℕ) (f : Form) : Type 0 where
  pub are_bytes : Bytes s
  pub decodes : decode s ≡ accepted f
  pub canonical : Canonical f
  pub within : Within f
  pub b_holds : b ≡ table_of b_side f z
  pub a_holds : a ≡ table_of a_side f z

-- What the reader left, from cleared tables.
module _ {n : ℕ} {s z b a : List ℕ} {v : Result ⊤ Refusal} (c : Cleared n z) (d : Decoded s z z b a v) where
  whole : then (decode s) (fits (length z) (length z)) ≡ decode s
  whole = reader_room s (length z) (omega (arith, c.size, c.room))

  judged : verdict_of v ≡ drop_value (decode s)
  judged = d.reads.result ∙ ap drop_value whole

  -- It refused.
  pub read_refused : {q : Refusal} → v ≡ Err q → decode s ≡ refusal q
  read_refused e = drop_refused (decode s) (sym (ap (λ (x : Result ⊤ Refusal). verdict_of x) e) ∙ judged)

  -- It accepted.
  pub read_accepted : v ≡ (Ok tt) → (f : Form) × Read s z b a f
  read_accepted e =
      let x = drop_accepted (decode s) (sym (ap verdict_of e) ∙ judged) in
      let both = decode_form s x.0 x.1 in (
        x.0,
        record {
          are_bytes = d.are_bytes;
          decodes = x.1;
          canonical = both.0;
          within = both.1;
          b_holds = d.reads.b_table ∙ ap (λ (o : Outcome Form). table_read b_side o z) (whole ∙ x.1);
          a_holds = d.reads.a_table ∙ ap (λ (o : Outcome Form). table_read a_side o z) (whole ∙ x.1);
        },
      )
