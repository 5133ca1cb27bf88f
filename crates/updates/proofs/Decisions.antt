-- The decision on a record, from the register's overview and the search: what it says of the form of the record.
-- Assumes nothing.
use mathlib.Core.Path.{◌≡◌, refl, sym, ap, ap₂, ◌∙◌, subst}
use mathlib.Core.List.{List, [], ◌∷◌}
use mathlib.Core.Option.{Option as Maybe, none, some}
use Prim.Native.Nat.{ℕ, suc, ◌+◌, ◌<◌, ◌≤◌}
use native.Mathlib.Omega.{arith}
use native.Mathlib.Decide.{dec_le}
use lib.ListN.{length}
use Rattle.std.specs.Prelude.{Option, None, Result, Ok, Err}
use Rattle.group.specs.Forms.{Form}
use Rattle.refusals.specs.declared.Refusal.{Refusal}
use Rattle.refusals.specs.Outcomes.{Outcome, accepted, refused, then}
use Rattle.refusals.proofs.Outcomes.{accepted_same, accepted_refused, refused_number, refused_place}
use Rattle.records.specs.Format.{encode}
use Rattle.registers.specs.Format.{Register, register_bytes, number_most, live_most}
use Rattle.registers.specs.Reading.{read_register, live, number_for}
use Rattle.registers.specs.Finding.{found}
use Rattle.registers.specs.Answers.{overview, overview_in, summary_of, Summarised, search_of}
use Rattle.registers.specs.declared.Overview.{Overview}
use Rattle.registers.proofs.Written.{register_written}
use Rattle.registers.proofs.Finding.{find_number}
use Rattle.updates.specs.declared.deciding.Decision.{Decision}
use Rattle.updates.specs.Accounts.{account_in}
use Rattle.updates.specs.Entering.{grown, answered, entered}
use Rattle.updates.specs.inside.Steps.{entry_length, settled, answered_form, DecidedAs, Judged}
use Rattle.updates.proofs.Settling.{settled_full, settled_last, settled_short, settled_new}
use Rattle.updates.proofs.Fitting.{entered_full, entered_last, entered_large, entered-fits}

-- What a filing of a form comes to in the register that was read.
module _ (s : List ℕ) (h : ℕ) (f : Form) (r : Register) (reads : read_register s ≡ accepted r) where
  pub answered_read : answered_form s h f ≡ answered (number_for f r.entries) r (length s) h f
  answered_read =
      ap (λ (o : Outcome Register). then o (λ q. answered (number_for f q.entries) q (length s) h f)) reads

  module _ (new : number_for f r.entries ≡ none) where
    pub answered_new : answered_form s h f ≡ then (entered r (length s) h (f ∷ [])) (λ q. accepted (grown q))
    answered_new = answered_read ∙ ap (λ (o : Maybe ℕ). answered o r (length s) h f) new

    answered_refused : (n p : ℕ) → entered r (length s) h (f ∷ []) ≡ refused n p → answered_form s h f ≡ refused n p
    answered_refused n p e =
        answered_new ∙ ap (λ (o : Outcome Register). then o (λ q. accepted (grown q))) e

    abbrev end : ℕ
    end = length (register_bytes r)

    abbrev size : ℕ
    size = length (encode f)

    abbrev decision : Result Decision Refusal
    decision = settled None (account_in h r) r.last end size (length s)

    -- Nothing is found: 13, 14, or a new entry.
    new_decided : DecidedAs f h s decision
    new_decided = go (dec_le live_most (live h r.entries))
      where
        roomy : live h r.entries < live_most → r.last < number_most
            → Dec (end + entry_length size ≤ length s) → DecidedAs f h s decision
        roomy few low (yes le) =
            subst (DecidedAs f h s)
            (settled_new None (account_in h r) r.last end size (length s) refl few (suc r.last) refl low le)
            (record {
              register = r;
              reads = reads;
              absent = new;
              enters = entered-fits r (length s) h f few low le;
              number = refl;
              end = refl;
              account = refl;
            })
        roomy few low (no gt) =
            subst (DecidedAs f h s)
            (settled_short None (account_in h r) r.last end size (length s) refl few (omega (arith, gt)))
            (answered_refused 14 0 (entered_large r (length s) h f few (omega (arith, gt))))

        numbered : live h r.entries < live_most → Dec (number_most ≤ r.last) → DecidedAs f h s decision
        numbered few (yes le) =
            subst (DecidedAs f h s)
            (settled_last None (account_in h r) r.last end size (length s) refl few le)
            (answered_refused 14 0 (entered_last r (length s) h f few le))
        numbered few (no gt) = roomy few (omega (arith, gt)) (dec_le (end + entry_length size) (length s))

        go : Dec (live_most ≤ live h r.entries) → DecidedAs f h s decision
        go (yes le) =
            subst (DecidedAs f h s)
            (settled_full None (account_in h r) r.last end size (length s) refl le)
            (answered_refused 13 0 (entered_full r (length s) h f le))
        go (no gt) = numbered (omega (arith, gt)) (dec_le number_most r.last)

  -- By what is found.
  form_decided : (o : Maybe ℕ) → number_for f r.entries ≡ o
      → DecidedAs f h s
      (settled (search_of o) (account_in h r) r.last (length (register_bytes r)) (length (encode f)) (length s))
  form_decided (some k) e = record { register = r; reads = reads; has = e; account = refl }
  form_decided none e = new_decided e

-- What a summary tells of the reading.
pub overview_read : (s : List ℕ) (h : ℕ) (o : Overview) → accepted o ≡ overview_in s h
    → (r : Register) × (read_register s ≡ accepted r) × (o ≡ overview h r)
overview_read s h o e = go (read_register s) refl e
  where
    go : (q : Outcome Register) → read_register s ≡ q → accepted o ≡ then q (λ r. accepted (overview h r))
        → (r : Register) × (read_register s ≡ accepted r) × (o ≡ overview h r)
    go (accepted r) m k = (r, m, accepted_same k)
    go (refused n p) m k = absurd (accepted_refused k)

pub overview_refused : (s : List ℕ) (h n p : ℕ) → refused n p ≡ overview_in s h → read_register s ≡ refused n p
overview_refused s h n p e = go (read_register s) refl e
  where
    go : (q : Outcome Register) → read_register s ≡ q → refused n p ≡ then q (λ r. accepted (overview h r))
        → read_register s ≡ refused n p
    go (accepted r) m k = absurd (accepted_refused (sym k))
    go (refused a b) m k = m ∙ sym (ap₂ refused (refused_number k) (refused_place k))

module _ {s : List ℕ} {h : ℕ} {q : Result Overview Refusal} (bytes : List ℕ) (told : Summarised s h q) where
  -- No register.
  pub judged_refused : {r : Refusal} → q ≡ Err r → Judged bytes h s (Err r)
  judged_refused {r} e =
      let bad = overview_refused s h _ _ (sym (ap summary_of e) ∙ told.result) in
      record {
        are_bytes = told.are_bytes;
        decides = λ f is. ap
            (λ (o : Outcome Register). then o (λ x. answered (number_for f x.entries) x (length s) h f)) bad;
      }

  -- A register, and what is found in it.
  pub judged_decides : {o : Overview} {found_so : Option ℕ} {d : Result Decision Refusal} → q ≡ Ok o
      → found_so ≡ search_of (found s bytes)
      → d ≡ settled found_so (record { holder = h; live = o.live }) o.last o.end (length bytes) (length s)
      → Judged bytes h s d
  judged_decides {o} {found_so} {d} e looked is = go (overview_read s h o (sym (ap summary_of e) ∙ told.result))
    where
      go : (r : Register) × (read_register s ≡ accepted r) × (o ≡ overview h r) → Judged bytes h s d
      go (r, reads, over) = record { are_bytes = told.are_bytes; decides = decides }
        where
          decides : (f : Form) → bytes ≡ encode f → DecidedAs f h s d
          decides f same =
              let w = register_written s r told.are_bytes reads in
              let looks : found_so ≡ search_of (number_for f r.entries) =
              looked ∙ ap (λ (l : List ℕ). search_of (found s l)) same ∙ ap search_of (find_number s r f w) in
              let settles : Overview → Option ℕ → List ℕ → Result Decision Refusal =
              λ v x l. settled x (record { holder = h; live = v.live }) v.last v.end (length l) (length s) in
              subst (DecidedAs f h s)
              (sym
              (is ∙ ap (λ (v : Overview). settles v found_so bytes) over
              ∙ ap (λ (x : Option ℕ). settles (overview h r) x bytes) looks
              ∙ ap (λ (l : List ℕ). settles (overview h r) (search_of (number_for f r.entries)) l) same))
              (form_decided s h f r reads (number_for f r.entries) refl)
