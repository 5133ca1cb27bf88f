-- The loop over the entries of a field: what is left to scan gives what the whole gives. Assumes nothing.
use mathlib.Core.Path.{◌≡◌, sym, ap, ap₂, subst, ◌∙◌}
use mathlib.Core.Bool.{Bool, true, false, cond}
use mathlib.Core.List.{List}
use Prim.Native.Nat.{ℕ, suc, ◌+◌, ◌-◌, ◌*◌, ◌<◌, ◌≤◌}
use native.Mathlib.Numerals.{add-one}
use native.Mathlib.Omega.{arith}
use lib.ListN.{length}
use Rattle.group.specs.Limits.{limit}
use Rattle.refusals.specs.Outcomes.{Outcome, refused}
use Rattle.records.specs.Reading.{entries_at, is_faulty, scan}
use Rattle.fields.specs.Fields.{two_at}
use Rattle.records.proofs.WrittenEntries.{entries_next}
use Rattle.records.proofs.Scans.{passed→fit}

-- Amid the loop, `left` entries from the offset `at` on are to be scanned.
pub record Scanning (s : List ℕ) (start sum count at low total left : ℕ) : Type 0 where
  pub inside : at + 4 * left ≤ length s
  pub small : total ≤ limit
  pub goes_on : scan at low total (entries_at s at left) ≡ scan start 0 sum (entries_at s start count)

-- A turn, by the test of its entry.
module _ {s : List ℕ} {start sum count at low total left : ℕ} (h : Scanning s start sum count at low total left) where
  -- The scan after an entry with index i and exponent e.
  abbrev later : ℕ → ℕ → Outcome ℕ
  later i e = scan (at + 4) (suc i) (total + e) (entries_at s (at + 4) (left - 1))

  next : (i e : ℕ) → i ≡ two_at s at → e ≡ two_at s (at + 2) → 0 < left
      → cond (is_faulty low total i e) (refused 4 at) (later i e) ≡ scan start 0 sum (entries_at s start count)
  next i e p q lt =
      ap₂ (λ (j d : ℕ). cond (is_faulty low total j d) (refused 4 at) (later j d)) p q
      ∙ sym (ap (scan at low total) (entries_next s at left lt))
      ∙ h.goes_on

  pub scanning_fault : (i e : ℕ) → i ≡ two_at s at → e ≡ two_at s (at + 2) → 0 < left → is_faulty low total i e ≡ true
      → refused 4 at ≡ scan start 0 sum (entries_at s start count)
  scanning_fault i e p q lt t =
      sym (ap (λ (b : Bool). cond b (refused 4 at) (later i e)) t) ∙ next i e p q lt

  pub scanning_more : (i e : ℕ) → i ≡ two_at s at → e ≡ two_at s (at + 2) → 0 < left → is_faulty low total i e ≡ false
      → Scanning s start sum count (at + 4) (i + 1) (total + e) (left - 1)
  scanning_more i e p q lt t = record {
    inside = omega (arith, h.inside);
    small = (passed→fit low total i e t).low_sum;
    goes_on =
        ap (λ (k : ℕ). scan (at + 4) k (total + e) (entries_at s (at + 4) (left - 1))) (add-one i)
        ∙ sym (ap (λ (b : Bool). cond b (refused 4 at) (later i e)) t)
        ∙ next i e p q lt;
  }

-- The same by other names of the offset and of what is left.
pub scanning_same : {s : List ℕ} {start sum count at low total left at' left' : ℕ} → at ≡ at' → left ≡ left'
    → Scanning s start sum count at low total left → Scanning s start sum count at' low total left'
scanning_same {s} {start} {sum} {count} {at} {low} {total} {left} {at'} {left'} e f h =
    subst (λ (k : ℕ). Scanning s start sum count at' low total k) f
    (subst (λ (k : ℕ). Scanning s start sum count k low total left) e h)
