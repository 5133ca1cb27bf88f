-- The first faulty entry of a record: the entries of the a side are tracked behind those of the b side.
-- Assumes nothing.
use mathlib.Core.Path.{◌≡◌, refl, sym, ◌∙◌, ap}
use mathlib.Core.List.{List, [], ◌∷◌, ◌++◌, append-nil}
use mathlib.Core.Logic.{inl, inr}
use Prim.Native.Nat.{ℕ, ◌+◌, ◌≤◌}
use native.Mathlib.Omega.{arith}
use Rattle.group.specs.Forms.{Side, b_side, a_side}
use Rattle.group.specs.Limits.{limit}
use Rattle.refusals.specs.Outcomes.{refused}
use Rattle.records.specs.Format.{Power, power}
use Rattle.records.specs.Reading.{a_start, b_powers, a_powers, scan}
use Rattle.records.specs.Faults.{Entry, entries_from, record_entries, running_sum, Sound, FirstFault}
use Rattle.records.proofs.Splits.{split_empty, Split, append_split}
use Rattle.records.specs.inside.Steps.{Proper}
use Rattle.records.proofs.ProperPowers.{total}
use Rattle.records.proofs.FirstFaults.{Tracks, proper_sound, scan_fault}

none_sound : Sound []
none_sound u v d h f = split_empty u v d h

none_tracked : Tracks [] b_side 0 0
none_tracked =
    record { sums = refl; last = λ u d h g. absurd (split_empty u [] d h); some = λ h. absurd (omega arith) }

entries-sum : (t : Side) (at : ℕ) (ps : List Power) → running_sum (entries_from t at ps) ≡ total ps
entries-sum t at [] = refl
entries-sum t at (power i e ∷ ps) = ap (λ (n : ℕ). e + n) (entries-sum t (at + 4) ps)

entries_side : (t : Side) (at : ℕ) (ps : List Power) (u v : List Entry) (d : Entry)
    → entries_from t at ps ≡ u ++ (d ∷ v) → t ≡ d.side
entries_side t at [] u v d h = absurd (split_empty u v d h)
entries_side t at (power i e ∷ ps) [] v d h =
    let same : ◌≡◌ {A = Entry} (record { side = t; offset = at; index = i; exponent = e }) d = cc in
    ap (λ (x : Entry). x.side) same
entries_side t at (power i e ∷ ps) (x ∷ u) v d h = entries_side t (at + 4) ps u v d (cc)

b_side≢a_side : b_side ≡ a_side → ⊥
b_side≢a_side h = let z : ◌≡◌ {A = ℕ} 0 1 = cc in omega arith

-- Behind the b side's entries the a side begins anew, with their sum.
b_tracked : (at : ℕ) (ps : List Power) (sum : ℕ) → sum ≡ total ps → Tracks (entries_from b_side at ps) a_side 0 sum
b_tracked at ps sum same =
    record {
      sums = entries-sum b_side at ps ∙ sym same;
      last = λ u d h g. absurd (b_side≢a_side (entries_side b_side at ps u [] d h ∙ g));
      some = λ h. absurd (omega arith);
    }

module _ (s : List ℕ) where
  b_sound : Proper 0 (b_powers s) → total (b_powers s) ≤ limit → Sound (entries_from b_side 3 (b_powers s))
  b_sound r h = proper_sound (b_powers s) 3 [] none_tracked none_sound r (omega arith)

  -- No entry is faulty where both sides are proper and the sum is within the limit.
  pub record_sound : Proper 0 (b_powers s) → Proper 0 (a_powers s) → total (b_powers s) + total (a_powers s) ≤ limit
      → Sound (record_entries s)
  record_sound r q h =
      proper_sound (a_powers s) (a_start s) (entries_from b_side 3 (b_powers s))
      (b_tracked 3 (b_powers s) (total (b_powers s)) refl) (b_sound r (omega arith)) q h

  -- Where a scan refuses, the first faulty entry stands.
  pub b_fault : (place : ℕ) → scan 3 0 0 (b_powers s) ≡ refused 4 place → FirstFault (record_entries s) place
  b_fault place h =
      scan_fault (b_powers s) 3 place [] (entries_from a_side (a_start s) (a_powers s)) (record_entries s)
      none_tracked none_sound refl h

  pub a_fault : (sum place : ℕ) → sum ≡ total (b_powers s) → sum ≤ limit → Proper 0 (b_powers s)
      → scan (a_start s) 0 sum (a_powers s) ≡ refused 4 place → FirstFault (record_entries s) place
  a_fault sum place same low r h =
      scan_fault (a_powers s) (a_start s) place (entries_from b_side 3 (b_powers s)) [] (record_entries s)
      (b_tracked 3 (b_powers s) sum same) (b_sound r (omega arith))
      (ap (λ (l : List Entry). entries_from b_side 3 (b_powers s) ++ l)
      (sym (append-nil (entries_from a_side (a_start s) (a_powers s))))) h

-- A list has one first faulty entry at most.
pub first_same : (es : List Entry) (p q : ℕ) → FirstFault es p → FirstFault es q → p ≡ q
first_same es p q f g = at (append_split f.before (f.entry ∷ f.behind) g.before g.behind g.entry both)
  where
    both : f.before ++ (f.entry ∷ f.behind) ≡ g.before ++ (g.entry ∷ g.behind)
    both = sym f.order ∙ g.order

    later : (w : List Entry) → g.before ≡ f.before ++ w → f.entry ∷ f.behind ≡ w ++ (g.entry ∷ g.behind) → p ≡ q
    later [] x y =
        let same : f.entry ≡ g.entry = cc in
        sym f.placed ∙ ap (λ (e : Entry). e.offset) same ∙ g.placed
    later (e ∷ w) x y =
        let same : f.entry ≡ e = cc in
        absurd
        (g.first f.before w f.entry (x ∙ ap (λ (d : Entry). f.before ++ (d ∷ w)) (sym same)) f.faulty)

    at : Split f.before (f.entry ∷ f.behind) g.before g.behind g.entry → p ≡ q
    at (inl k) = absurd (f.first g.before k.0 g.entry k.1 g.faulty)
    at (inr k) = later k.0 k.1 k.2
