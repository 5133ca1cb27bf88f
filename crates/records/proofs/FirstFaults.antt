-- The first faulty entry: a scan refuses there, and passes where no entry is faulty.
--     Tracks before t low sum   what a scan of the side t keeps of the entries before: the index to reach, and the sum
-- Assumes nothing.
use mathlib.Core.Path.{◌≡◌, refl, sym, ◌∙◌, ap, subst}
use mathlib.Core.Bool.{Bool, true, false, cond}
use mathlib.Core.List.{List, [], ◌∷◌, ◌++◌, append-nil}
use mathlib.Core.Logic.{inl, inr}
use Prim.Native.Nat.{ℕ, suc, ◌+◌, ◌<◌, ◌≤◌}
use native.Mathlib.Omega.{arith}
use lib.Dec.{eqb, ltb}
use lib.Seq.{append_snoc}
use borrow.Author.Tests.{ltb-true, eqb-true}
use Rattle.group.specs.Forms.{Side}
use Rattle.group.specs.Limits.{limit}
use Rattle.refusals.specs.Outcomes.{refused}
use Rattle.records.specs.Format.{Power, power}
use Rattle.records.specs.Reading.{is_faulty, scan}
use Rattle.records.specs.Faults.{Entry, entries_from, running_sum, Sound, FirstFault}
use Rattle.records.specs.Faults.{Faulty, no_exponent, high_index, not_rising, high_sum}
use Rattle.records.proofs.Splits.{split_empty, last_same, Split, append_split}
use Rattle.records.specs.inside.Steps.{Proper}
use Rattle.records.proofs.ProperPowers.{total}
use Rattle.refusals.proofs.Outcomes.{accepted_refused, refused_place}
use Rattle.records.proofs.Scans.{Fit, passed→fit}

-- One sound entry more.
sound_more : (before : List Entry) (e : Entry) → Sound before → (Faulty before e → ⊥) → Sound (before ++ (e ∷ []))
sound_more before e s n u v d h f = at (append_split before (e ∷ []) u v d h)
  where
    last : (w : List Entry) → u ≡ before ++ w → e ∷ [] ≡ w ++ (d ∷ v) → ⊥
    last [] p q =
        let same : d ≡ e = cc in
        n (subst (λ (l : List Entry). Faulty l e) (p ∙ append-nil before) (subst (λ (x : Entry). Faulty u x) same f))
    last (x ∷ w) p q = let rest : [] ≡ w ++ (d ∷ v) = cc in split_empty w v d rest

    at : Split before (e ∷ []) u v d → ⊥
    at (inl k) = s u k.0 d k.1 f
    at (inr k) = last k.0 k.1 k.2

pub record Tracks (before : List Entry) (t : Side) (low sum : ℕ) : Type 0 where
  pub sums : running_sum before ≡ sum
  pub last : (u : List Entry) (d : Entry) → before ≡ u ++ (d ∷ []) → d.side ≡ t → low ≡ suc d.index
  pub some :
      0 < low → (u : List Entry) × (d : Entry) × (before ≡ u ++ (d ∷ [])) × (d.side ≡ t) × (low ≡ suc d.index)

sum_more : (before : List Entry) (e : Entry) → running_sum (before ++ (e ∷ [])) ≡ running_sum before + e.exponent
sum_more [] e = omega arith
sum_more (x ∷ before) e = omega (arith, sum_more before e)

module _ {before : List Entry} {t : Side} {low sum : ℕ} (k : Tracks before t low sum) (at i e : ℕ) where
  abbrev this : Entry
  this = record { side = t; offset = at; index = i; exponent = e }

  tracks_more : Tracks (before ++ (this ∷ [])) t (suc i) (sum + e)
  tracks_more =
      record {
        sums = omega (arith, sum_more before this, k.sums);
        last =
            λ u d h g. ap (λ (x : Entry). suc x.index) (last_same before u this d h);
        some = λ h. (before, this, refl, refl, refl);
      }

  -- What the test of an entry says.
  fit_right : Fit low sum i e → Faulty before this → ⊥
  fit_right fit (no_exponent h) = omega (arith, fit.some_exponent)
  fit_right fit (high_index h) = omega (arith, fit.low_index)
  fit_right fit (not_rising u d p q h) = omega (arith, fit.rises, k.last u d p q)
  fit_right fit (high_sum h) = omega (arith, fit.low_sum, k.sums)

  faulty_wrong : is_faulty low sum i e ≡ true → Faulty before this
  faulty_wrong h = first (eqb e 0) refl h
    where
      third : (b : Bool) → ltb i low ≡ b → cond b true (ltb limit (sum + e)) ≡ true → Faulty before this
      third true q g =
          let x = ltb-true i low q in
          let z = k.some (omega arith) in
          not_rising z.0 z.1 z.2 z.3 (omega (arith, z.4))
      third false q g = let x = ltb-true limit (sum + e) g in high_sum (omega (arith, k.sums))

      second : (b : Bool) → ltb limit i ≡ b → cond b true (cond (ltb i low) true (ltb limit (sum + e))) ≡ true
          → Faulty before this
      second true q g = high_index (ltb-true limit i q)
      second false q g = third (ltb i low) refl g

      first : (b : Bool) → eqb e 0 ≡ b
          → cond b true (cond (ltb limit i) true (cond (ltb i low) true (ltb limit (sum + e)))) ≡ true
          → Faulty before this
      first true q g = no_exponent (eqb-true e 0 q)
      first false q g = second (ltb limit i) refl g

-- Entries that rise within the limits are sound.
pub proper_sound : (ps : List Power) {t : Side} {low sum : ℕ} (at : ℕ) (before : List Entry) → Tracks before t low sum
    → Sound before → Proper low ps → sum + total ps ≤ limit → Sound (before ++ entries_from t at ps)
proper_sound [] at before k s r h = subst Sound (sym (append-nil before)) s
proper_sound (power i e ∷ ps) {t} at before k s r h =
    subst Sound (append_snoc before (this k at i e) (entries_from t (at + 4) ps))
    (proper_sound ps (at + 4) (before ++ (this k at i e ∷ [])) (tracks_more k at i e)
    (sound_more before (this k at i e) s
    (fit_right k at i e
    (record { some_exponent = r.2; low_index = r.1; rises = r.0; low_sum = omega arith })))
    r.3 (omega arith))

-- A scan that refuses does so at the first faulty entry.
pub scan_fault : (ps : List Power) {t : Side} {low sum : ℕ} (at place : ℕ) (before tail whole : List Entry)
    → Tracks before t low sum → Sound before → whole ≡ before ++ (entries_from t at ps ++ tail)
    → scan at low sum ps ≡ refused 4 place → FirstFault whole place
scan_fault [] at place before tail whole k s w h = absurd (accepted_refused h)
scan_fault (power i e ∷ ps) {t} {low} {sum} at place before tail whole k s w h =
    test (is_faulty low sum i e) refl h
    (scan_fault ps (at + 4) place (before ++ (this k at i e ∷ [])) tail whole (tracks_more k at i e))
  where
    test : (b : Bool) → is_faulty low sum i e ≡ b
        → cond b (refused 4 at) (scan (at + 4) (suc i) (sum + e) ps) ≡ refused 4 place
        → (Sound (before ++ (this k at i e ∷ []))
        → whole ≡ before ++ (this k at i e ∷ []) ++ (entries_from t (at + 4) ps ++ tail)
        → scan (at + 4) (suc i) (sum + e) ps ≡ refused 4 place → FirstFault whole place)
        → FirstFault whole place
    test true q g rest =
        record {
          before = before;
          behind = entries_from t (at + 4) ps ++ tail;
          entry = this k at i e;
          order = w;
          faulty = faulty_wrong k at i e q;
          first = s;
          placed = refused_place g;
        }
    test false q g rest =
        rest
        (sound_more before (this k at i e) s (fit_right k at i e (passed→fit low sum i e q)))
        (w ∙ sym (append_snoc before (this k at i e) (entries_from t (at + 4) ps ++ tail)))
        g
