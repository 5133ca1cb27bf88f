-- The reading of a register from a place on: one entry more, the end, and entries that break the rules.
--     rest last fuel t before   what the bytes t give behind the entries `before`
-- Assumes nothing.
use mathlib.Core.Path.{◌≡◌, refl, sym, ap, ap₂, ◌∙◌}
use mathlib.Core.Bool.{Bool, true, false, cond}
use mathlib.Core.List.{List, [], ◌∷◌, ◌++◌, append_assoc, append-nil}
use Prim.Native.Nat.{ℕ, zero, suc}
use lib.ListN.{drop}
use lib.Dec.{ltb}
use Rattle.group.specs.Forms.{Form}
use Rattle.refusals.specs.Outcomes.{Outcome, accepted, refused, then}
use Rattle.registers.specs.Format.{Entry, Register}
use Rattle.registers.specs.Reading.{ends, entry_size, entry_stands, number_in, holder_in, record_in, stored_in}
use Rattle.registers.specs.Reading.{entry_of, read_entry}
use Rattle.registers.specs.Reading.{read_entries, not_register, last_number, follow, judged_entries}
use Rattle.registers.proofs.Following.{follow-append}

-- What is still to be read, where `before` was read.
abbrev pub rest : (last fuel : ℕ) (s : List ℕ) (before : List Entry) → Outcome Register
rest last fuel s before = then (read_entries fuel s) (λ es. judged_entries last (before ++ es))

-- What an entry's reading comes to: 12, or an entry.
pub data EntryRead (t : List ℕ) : Type 0 where
  none_read : read_entry t ≡ not_register → EntryRead t
  one_read : (e : Entry) → read_entry t ≡ accepted e → EntryRead t

pub entry_read : (t : List ℕ) → EntryRead t
entry_read t = stands (entry_stands t) refl (stored_in (record_in t)) refl
  where
    read : (b : Bool) (o : Outcome Form) → entry_stands t ≡ b → stored_in (record_in t) ≡ o
        → read_entry t ≡ cond b (entry_of (number_in t) (holder_in t) o) not_register
    read b o p q =
        ap₂ (λ (x : Bool) (y : Outcome Form). cond x (entry_of (number_in t) (holder_in t) y) not_register) p q

    stands : (b : Bool) → entry_stands t ≡ b → (o : Outcome Form) → stored_in (record_in t) ≡ o → EntryRead t
    stands true p (accepted f) q =
        one_read (record { number = number_in t; holder = holder_in t; form = f }) (read true (accepted f) p q)
    stands true p (refused n k) q = none_read (read true (refused n k) p q)
    stands false p o q = none_read (read false o p q)

-- One turn of the reading.
pub rest-turn : (last k : ℕ) (t : List ℕ) (before : List Entry) → ends t ≡ false
    → rest last (suc k) t before
    ≡ then (read_entry t) (λ e. rest last k (drop (entry_size t) t) (before ++ (e ∷ [])))
unfolding read_entries
rest-turn last k t before h = go (ends t) h (read_entry t)
  where
    each : (e : Entry) (o : Outcome (List Entry))
        → then (then o (λ es. accepted (e ∷ es))) (λ es. judged_entries last (before ++ es))
        ≡ then o (λ es. judged_entries last ((before ++ (e ∷ [])) ++ es))
    each e (accepted es) = ap (λ (l : List Entry). judged_entries last l) (sym (append_assoc before (e ∷ []) es))
    each e (refused n p) = refl

    go : (b : Bool) → b ≡ false → (o : Outcome Entry)
        → then (cond b (accepted [])
        (then o (λ e. then (read_entries k (drop (entry_size t) t)) (λ es. accepted (e ∷ es)))))
        (λ es. judged_entries last (before ++ es))
        ≡ then o (λ e. rest last k (drop (entry_size t) t) (before ++ (e ∷ [])))
    go b p (accepted e) = rw p (each e (read_entries k (drop (entry_size t) t)))
    go b p (refused n q) = rw p refl

-- No more entries.
pub rest_end : (last k : ℕ) (t : List ℕ) (before : List Entry) → ends t ≡ true
    → rest last k t before ≡ judged_entries last before
unfolding read_entries
rest_end last zero t before h = ap (λ (l : List Entry). judged_entries last l) (append-nil before)
rest_end last (suc k) t before h =
    go (ends t) h ∙ ap (λ (l : List Entry). judged_entries last l) (append-nil before)
  where
    go : (b : Bool) → b ≡ true
        → then (cond b (accepted [])
        (then (read_entry t) (λ e. then (read_entries k (drop (entry_size t) t)) (λ es. accepted (e ∷ es)))))
        (λ es. judged_entries last (before ++ es))
        ≡ judged_entries last (before ++ [])
    go b p = rw p refl

-- Entries that break the rules are no register, whatever stands behind them.
broken_judged : (last : ℕ) (es : List Entry) → follow [] es ≡ false → judged_entries last es ≡ not_register
broken_judged last es h = go (ltb last (last_number 0 es)) (follow [] es) h
  where
    read : Outcome Register
    read = accepted (record { last = last; entries = es })

    go : (p q : Bool) → q ≡ false → cond (cond p false q) read not_register ≡ not_register
    go true q k = refl
    go false q k = rw k refl

broken_more : (es : List Entry) (e : Entry) → follow [] es ≡ false → follow [] (es ++ (e ∷ [])) ≡ false
broken_more es e h = follow-append es (e ∷ []) [] ∙ simp h

pub rest_broken : (last k : ℕ) (t : List ℕ) (before : List Entry) → follow [] before ≡ false
    → rest last k t before ≡ not_register
unfolding read_entries
rest_broken last zero t before h =
    ap (λ (l : List Entry). judged_entries last l) (append-nil before) ∙ broken_judged last before h
rest_broken last (suc k) t before h =
    by_end (ends t) refl (entry_read t)
    (λ e. rest_broken last k (drop (entry_size t) t) (before ++ (e ∷ [])) (broken_more before e h))
  where
    by_end : (b : Bool) → ends t ≡ b → EntryRead t
        → ((e : Entry) → rest last k (drop (entry_size t) t) (before ++ (e ∷ [])) ≡ not_register)
        → rest last (suc k) t before ≡ not_register
    by_end true p o more = rest_end last (suc k) t before p ∙ broken_judged last before h
    by_end false p (none_read q) more =
        rest-turn last k t before p
        ∙ ap (λ (o : Outcome Entry). then o (λ e. rest last k (drop (entry_size t) t) (before ++ (e ∷ [])))) q
    by_end false p (one_read e q) more =
        rest-turn last k t before p
        ∙ ap (λ (o : Outcome Entry). then o (λ e. rest last k (drop (entry_size t) t) (before ++ (e ∷ [])))) q
        ∙ more e
