-- The answers of the record writer, case by case. Assumes nothing.
use mathlib.Core.Path.{◌≡◌, refl, sym, ap}
use mathlib.Core.List.{List}
use Prim.Native.Nat.{ℕ, suc, ◌<◌, ◌≤◌}
use native.Mathlib.Omega.{arith}
use lib.ListN.{length}
use borrow.Author.Tests.{lt-ltb, le-ltb}
use Rattle.std.specs.Prelude.{Result, Ok, Err}
use Rattle.refusals.specs.declared.Failure.{Failure}
use Rattle.refusals.specs.declared.Failure.TheVariants.{Refused, Unfit}
use Rattle.lists.specs.inside.Writes.{Wrote}
use Rattle.group.specs.Limits.{limit}
use Rattle.refusals.specs.Outcomes.{accepted, refused}
use Rattle.refusals.specs.declared.Refusal.TheVariants.{ShortBuffer}
use Rattle.refusals.proofs.Outcomes.{accepted_same, accepted_refused}
use Rattle.records.specs.Format.{record_of}
use Rattle.encoding.specs.inside.Contracts.{encoding_of, encode_tables, Encoded}

-- The answer, where the record was written.
pub encoded_accepted : (e : Result ℕ Failure) (n : ℕ) → encoding_of e ≡ accepted n → e ≡ Ok n
encoded_accepted (Ok k) n h = ap Ok (accepted_same h)
encoded_accepted (Err (Refused r)) n h = absurd (accepted_refused (sym h))
encoded_accepted (Err Unfit) n h = absurd (accepted_refused (sym h))

refuses : {b a s : List ℕ} {number place : ℕ} {r : Result ℕ Failure}
    → encode_tables b a (length s) ≡ refused number place
    → encoding_of r ≡ refused number place → Encoded b a s s r
refuses e h = record { result = rw e h; bytes = rw e refl }

pub unfit_b : {b a s : List ℕ} → suc limit < length b → Encoded b a s s (Err Unfit)
unfit_b h = refuses (rw (lt-ltb _ _ h) refl) refl

module _ {b a s : List ℕ} (hb : length b ≤ suc limit) where
  pub unfit_a : suc limit < length a → Encoded b a s s (Err Unfit)
  unfit_a h = refuses (simp (le-ltb _ _ hb, lt-ltb _ _ h)) refl

module _ {b a s : List ℕ} (hb : length b ≤ suc limit) (ha : length a ≤ suc limit) where
  pub short_buffer : length s < length (record_of b a) → Encoded b a s s (Err (Refused ShortBuffer))
  short_buffer h = refuses (simp (le-ltb _ _ hb, le-ltb _ _ ha, lt-ltb _ _ h)) refl

  pub all_written : {t : List ℕ} {n : ℕ} → length (record_of b a) ≤ length s → Wrote (record_of b a) s 0 t n
      → Encoded b a s t (Ok n)
  all_written {t} {n} h w =
      let e : encode_tables b a (length s) ≡ accepted (record_of b a) =
      simp (le-ltb _ _ hb, le-ltb _ _ ha, le-ltb _ _ h) in
      let long : n ≡ length (record_of b a) = omega (arith, w.ends) in
      record { result = rw e (ap accepted long); bytes = rw e w.holds }
