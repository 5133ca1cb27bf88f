-- Proper powers, put into a cleared table, are its exponents. Assumes nothing.
use mathlib.Core.Path.{◌≡◌, refl, sym, ap, ap₂, subst, ◌∙◌}
use mathlib.Core.Bool.{Bool, true, false, cond}
use mathlib.Core.List.{List, [], ◌∷◌}
use Prim.Native.Nat.{ℕ, suc, ◌+◌, ◌-◌, ◌*◌, ◌<◌, ◌≤◌}
use native.Mathlib.Omega.{arith}
use lib.ListN.{length, get_or, set, length-set}
use lib.Seq.{get_or-set_same, get_or-set_other}
use lib.Dec.{eqb}
use borrow.Author.Tests.{eqb-true, eqb-false}
use Rattle.lists.specs.Tables.{filled}
use Rattle.lists.proofs.Tables.{filled-length, filled_at, filled-beyond, filled_by}
use Rattle.group.specs.Limits.{limit}
use Rattle.records.specs.Format.{Power, power}
use Rattle.records.specs.Reading.{entries_at, exponent_at}
use Rattle.fields.specs.Fields.{two_at}
use Rattle.records.specs.inside.Steps.{Proper, place_powers_value}
use Rattle.records.proofs.WrittenEntries.{entries_next}
use Rattle.records.proofs.ProperPowers.{proper_lower}

pub placed_length : (ps : List Power) (t : List ℕ) → length (place_powers_value ps t) ≡ length t
placed_length [] t = refl
placed_length (power i e ∷ ps) t = placed_length ps (set t i e) ∙ length-set t i e

-- Entries below all indices, and above the limit, stay.
placed_below : (low : ℕ) (ps : List Power) (t : List ℕ) (i : ℕ) → Proper low ps → i < low
    → get_or (place_powers_value ps t) i 0 ≡ get_or t i 0
placed_below low [] t i r h = refl
placed_below low (power j e ∷ ps) t i r h =
    placed_below (suc j) ps (set t j e) i r.3 (omega (arith, r.0))
    ∙ get_or-set_other t j i e 0 (λ eq. omega (arith, eq, r.0))

placed_beyond : (low : ℕ) (ps : List Power) (t : List ℕ) (i : ℕ) → Proper low ps → limit < i
    → get_or (place_powers_value ps t) i 0 ≡ get_or t i 0
placed_beyond low [] t i r h = refl
placed_beyond low (power j e ∷ ps) t i r h =
    placed_beyond (suc j) ps (set t j e) i r.3 h ∙ get_or-set_other t j i e 0 (λ eq. omega (arith, eq, r.1))

placed_at : (low : ℕ) (ps : List Power) (t : List ℕ) (i : ℕ) → Proper low ps → limit < length t → get_or t i 0 ≡ 0
    → get_or (place_powers_value ps t) i 0 ≡ exponent_at ps i
placed_at low [] t i r h z = z
placed_at low (power j e ∷ ps) t i r h z =
    go (eqb j i) refl (λ other.
    placed_at (suc j) ps (set t j e) i r.3 (omega (arith, h, length-set t j e))
    (get_or-set_other t j i e 0 (λ eq. other (sym eq)) ∙ z))
  where
    go : (p : Bool) → eqb j i ≡ p → ((j ≡ i → ⊥) → get_or (place_powers_value ps (set t j e)) i 0 ≡ exponent_at ps i)
        → get_or (place_powers_value ps (set t j e)) i 0 ≡ cond p e (exponent_at ps i)
    go true q later =
        placed_below (suc j) ps (set t j e) i r.3 (omega (arith, eqb-true j i q))
        ∙ ap (λ (k : ℕ). get_or (set t j e) k 0) (sym (eqb-true j i q))
        ∙ get_or-set_same t j e 0 (omega (arith, r.1, h))
    go false q later = later (eqb-false j i q)

pub placed_filled : (ps : List Power) (t : List ℕ) → Proper 0 ps → limit < length t
    → place_powers_value ps (filled (suc limit) (λ i. 0) t) ≡ filled (suc limit) (exponent_at ps) t
placed_filled ps t r h =
    filled_by (suc limit) (exponent_at ps) t (place_powers_value ps clear) (omega (arith, h)) long (λ i lt.
    placed_at 0 ps clear i r (omega (arith, h, same)) (filled_at (suc limit) (λ j. 0) t i lt)) (λ i le.
    placed_beyond 0 ps clear i r (omega (arith, le)) ∙ filled-beyond (suc limit) (λ j. 0) t i le)
  where
    clear : List ℕ
    clear = filled (suc limit) (λ i. 0) t

    same : length clear ≡ length t
    same = filled-length (suc limit) (λ i. 0) t (omega (arith, h))

    long : length (place_powers_value ps clear) ≡ length t
    long = placed_length ps clear ∙ same

-- Amid the loop, `left` entries from the offset `at` on are to be placed.
pub record PlacingLoop (s : List ℕ) (start count : ℕ) (t₀ t : List ℕ) (at left : ℕ) : Type 0 where
  pub inside : at + 4 * left ≤ length s
  pub proper : Proper 0 (entries_at s at left)
  pub same : length t ≡ length t₀
  pub goes_on : place_powers_value (entries_at s at left) t ≡ place_powers_value (entries_at s start count) t₀

module _ {s : List ℕ} {start count : ℕ} {t₀ t : List ℕ} {at left : ℕ} (h : PlacingLoop s start count t₀ t at left) where
  first_proper : 0 < left → Proper 0 (power (two_at s at) (two_at s (at + 2)) ∷ entries_at s (at + 4) (left - 1))
  first_proper lt = subst (Proper 0) (entries_next s at left lt) h.proper

  pub placing_index : (i : ℕ) → i ≡ two_at s at → 0 < left → i ≤ limit
  placing_index i e lt = omega (arith, e, (first_proper lt).1)

  pub placing_more : (i e : ℕ) → i ≡ two_at s at → e ≡ two_at s (at + 2) → 0 < left
      → PlacingLoop s start count t₀ (set t i e) (at + 4) (left - 1)
  placing_more i e p q lt = record {
    inside = omega (arith, h.inside);
    proper = proper_lower (entries_at s (at + 4) (left - 1)) 0 (suc (two_at s at)) (omega arith) (first_proper lt).3;
    same = length-set t i e ∙ h.same;
    goes_on =
        ap₂ (λ (j d : ℕ). place_powers_value (entries_at s (at + 4) (left - 1)) (set t j d)) p q
        ∙ sym (ap (λ (ps : List Power). place_powers_value ps t) (entries_next s at left lt))
        ∙ h.goes_on;
  }

  pub placing_done : left ≤ 0 → t ≡ place_powers_value (entries_at s start count) t₀
  placing_done le =
      let none : left ≡ 0 = omega arith in
      sym (ap (λ (k : ℕ). place_powers_value (entries_at s at k) t) none) ∙ h.goes_on

-- The same by other names of the offset and of what is left.
pub placing_same : {s : List ℕ} {start count : ℕ} {t₀ t : List ℕ} {at left at' left' : ℕ} → at ≡ at' → left ≡ left'
    → PlacingLoop s start count t₀ t at left → PlacingLoop s start count t₀ t at' left'
placing_same {s} {start} {count} {t₀} {t} {at} {left} {at'} {left'} e f h =
    subst (λ (k : ℕ). PlacingLoop s start count t₀ t at' k) f
    (subst (λ (k : ℕ). PlacingLoop s start count t₀ t k left) e h)
