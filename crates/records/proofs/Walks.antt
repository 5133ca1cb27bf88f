-- The walk over the entries of both fields, turn by turn: what is left to walk finds what the whole finds.
-- Assumes nothing.
use mathlib.Core.Path.{◌≡◌, refl, sym, ap, ap₂, subst, ◌∙◌}
use mathlib.Core.Bool.{Bool, true, false, not, cond, true≢false}
use mathlib.Core.List.{List, ◌∷◌}
use mathlib.Core.Option.{Option, none, some}
use Prim.Native.Nat.{ℕ, zero, suc, ◌+◌, ◌<◌, ◌≤◌}
use native.Mathlib.Numerals.{add-one}
use native.Mathlib.Omega.{arith}
use lib.Dec.{ltb}
use borrow.Author.Tests.{ltb-true, ltb-false, eq-eqb, ne_eqb}
use Rattle.group.specs.Limits.{limit}
use Rattle.refusals.specs.Outcomes.{accepted, refused, drop_value}
use Rattle.fields.specs.Fields.{two_at}
use Rattle.records.specs.declared.walk.Place.{Place}
use Rattle.records.specs.Format.{Power, power}
use Rattle.records.specs.Reading.{form_of_powers}
use Rattle.clause.specs.Clause.{find_break}
use Rattle.records.specs.inside.Steps.{Proper}
use Rattle.records.specs.inside.Walking.{left_at, behind, passed_by, starts_at, breaks_at, Inside, Walkable}
use Rattle.records.proofs.WrittenEntries.{entries_next}
use Rattle.records.proofs.Merging.{Breaks, Merged, merge_left, merge_right, merge_both}
use Rattle.records.proofs.Merging.{next_b, next_a, merge_here}
use Rattle.records.proofs.Merging.{start_next, no_start, merge_no_b, merge_no_a}
use Rattle.records.proofs.MergedForms.{found_in, merged_found}

-- Amid the walk, the entries from the places p and q on are left.
pub record Walking (s : List ℕ) (b a p q : Place) : Type 0 where
  pub p_inside : Inside s p
  pub q_inside : Inside s q
  pub p_low : ℕ
  pub q_low : ℕ
  pub p_proper : Proper p_low (left_at s p)
  pub q_proper : Proper q_low (left_at s q)
  pub goes_on : {o : Option ℕ} → Merged (left_at s p) (left_at s q) o → Merged (left_at s b) (left_at s a) o

pub walk_starts : {s : List ℕ} {b a : Place} → Walkable s b a → Walking s b a b a
walk_starts h = record {
  p_inside = h.b_inside;
  q_inside = h.a_inside;
  p_low = 0;
  q_low = 0;
  p_proper = h.b_proper;
  q_proper = h.a_proper;
  goes_on = λ m. m;
}

-- What the whole comes to.
found : {s : List ℕ} {b a : Place} → Walkable s b a → (o : Option ℕ) → Merged (left_at s b) (left_at s a) o
    → drop_value (found_in (form_of_powers (left_at s b) (left_at s a)) o)
    ≡ drop_value (find_break (form_of_powers (left_at s b) (left_at s a)) 0 (suc limit))
found {s} {b} {a} h o m =
    sym (ap drop_value (merged_found (left_at s b) (left_at s a) h.b_proper h.a_proper o m))

-- No entry of a side is left.
pub walk_ends_b : {s : List ℕ} {b a p q : Place} → Walkable s b a → Walking s b a p q → p.left ≤ 0
    → accepted 0 ≡ drop_value (find_break (form_of_powers (left_at s b) (left_at s a)) 0 (suc limit))
walk_ends_b {s} {b} {a} {p} {q} h w le = found h none (w.goes_on (none_left p.at p.left le))
  where
    none_left : (at left : ℕ) → left ≤ 0 → Merged (left_at s record { at = at; left = left }) (left_at s q) none
    none_left at zero e = merge_no_b (left_at s q)
    none_left at (suc n) e = absurd (omega arith)

pub walk_ends_a : {s : List ℕ} {b a p q : Place} → Walkable s b a → Walking s b a p q → q.left ≤ 0
    → accepted 0 ≡ drop_value (find_break (form_of_powers (left_at s b) (left_at s a)) 0 (suc limit))
walk_ends_a {s} {b} {a} {p} {q} h w le = found h none (w.goes_on (none_left q.at q.left le))
  where
    none_left : (at left : ℕ) → left ≤ 0 → Merged (left_at s p) (left_at s record { at = at; left = left }) none
    none_left at zero e = merge_no_a (left_at s p)
    none_left at (suc n) e = absurd (omega arith)

-- The entries from a place on: the first, and those behind it.
opened : (s : List ℕ) (p : Place) (i : ℕ) → 0 < p.left → i ≡ two_at s p.at
    → left_at s p ≡ power i (two_at s (p.at + 2)) ∷ left_at s (behind p)
opened s p i h e =
    entries_next s p.at p.left h ∙ ap (λ (k : ℕ). power k (two_at s (p.at + 2)) ∷ left_at s (behind p)) (sym e)

-- The place behind an entry is inside too.
behind-inside : (s : List ℕ) (p : Place) → 0 < p.left → Inside s p → Inside s (behind p)
behind-inside s p h k = record { within = omega (arith, k.within) }

pub passed_inside : (s : List ℕ) (p : Place) (i j : ℕ) {n : Place} → n ≡ passed_by p i j → 0 < p.left → Inside s p
    → Inside s n
passed_inside s p i j e h k = subst (Inside s) (sym e) (go (ltb j i))
  where
    go : (x : Bool) → Inside s (cond x p (behind p))
    go true = k
    go false = behind-inside s p h k

-- An entry is passed at every turn.
pub passed_fewer : (p q : Place) (i j : ℕ) {n m : Place} → 0 < p.left → 0 < q.left → n ≡ passed_by p i j
    → m ≡ passed_by q j i → n.left + m.left < p.left + q.left
passed_fewer p q i j {n} {m} lp lq e f = go (ltb j i) (ltb i j) refl refl
    (ap (λ (x : Place). x.left) e) (ap (λ (x : Place). x.left) f)
  where
    go : (x y : Bool) → ltb j i ≡ x → ltb i j ≡ y → n.left ≡ (cond x p (behind p)).left
        → m.left ≡ (cond y q (behind q)).left → n.left + m.left < p.left + q.left
    go true true u v g h = absurd (omega (arith, ltb-true j i u, ltb-true i j v))
    go true false u v g h = omega (arith, g, h, lp, lq)
    go false true u v g h = omega (arith, g, h, lp, lq)
    go false false u v g h = omega (arith, g, h, lp, lq)

-- A turn: both sides have an entry, with the indices i and j.
module _ {s : List ℕ} {b a p q : Place} (w : Walking s b a p q) (lp : 0 < p.left) (lq : 0 < q.left) (i j : ℕ)
    (ei : i ≡ two_at s p.at) (ej : j ≡ two_at s q.at) where
  -- The exponents of the two entries.
  abbrev e : ℕ
  e = two_at s (p.at + 2)

  abbrev d : ℕ
  d = two_at s (q.at + 2)

  p_first : Proper w.p_low (power i e ∷ left_at s (behind p))
  p_first = subst (Proper w.p_low) (opened s p i lp ei) w.p_proper

  q_first : Proper w.q_low (power j d ∷ left_at s (behind q))
  q_first = subst (Proper w.q_low) (opened s q j lq ej) w.q_proper

  -- The index of the b side is below that of the a side.
  passes_b : i < j → Walking s b a (behind p) q
  passes_b lt = record {
    p_inside = behind-inside s p lp w.p_inside;
    q_inside = w.q_inside;
    p_low = suc i;
    q_low = w.q_low;
    p_proper = p_first.3;
    q_proper = w.q_proper;
    goes_on = λ {o} m.
        w.goes_on
        (subst (λ (ps : List Power). Merged ps (left_at s q) o) (sym (opened s p i lp ei))
        (merge_left i e j (left_at s (behind p)) (left_at s q)
        (subst (Proper j) (sym (opened s q j lq ej)) (omega arith, q_first.1, q_first.2, q_first.3)) lt m));
  }

  -- It is above.
  passes_a : j < i → Walking s b a p (behind q)
  passes_a lt = record {
    p_inside = w.p_inside;
    q_inside = behind-inside s q lq w.q_inside;
    p_low = w.p_low;
    q_low = suc j;
    p_proper = w.p_proper;
    q_proper = q_first.3;
    goes_on = λ {o} m.
        w.goes_on
        (subst (λ (qs : List Power). Merged (left_at s p) qs o) (sym (opened s q j lq ej))
        (merge_right i j d (left_at s p) (left_at s (behind q))
        (subst (Proper i) (sym (opened s p i lp ei)) (omega arith, p_first.1, p_first.2, p_first.3)) lt m));
  }

  -- Both are the same.
  module _ (same : i ≡ j) where
    both : left_at s q ≡ power i d ∷ left_at s (behind q)
    both = opened s q j lq ej ∙ ap (λ (k : ℕ). power k d ∷ left_at s (behind q)) (sym same)

    q_behind : Proper (suc i) (left_at s (behind q))
    q_behind = subst (λ (k : ℕ). Proper (suc k) (left_at s (behind q))) (sym same) q_first.3

    joined : {o : Option ℕ} → Merged (power i e ∷ left_at s (behind p)) (power i d ∷ left_at s (behind q)) o
        → Merged (left_at s b) (left_at s a) o
    joined {o} m =
        w.goes_on
        (subst (λ (ps : List Power). Merged ps (left_at s q) o) (sym (opened s p i lp ei))
        (subst (λ (qs : List Power). Merged (power i e ∷ left_at s (behind p)) qs o) (sym both) m))

    passes_both : (Breaks (power i e ∷ left_at s (behind p)) (power i d ∷ left_at s (behind q)) i → ⊥)
        → Walking s b a (behind p) (behind q)
    passes_both n = record {
      p_inside = behind-inside s p lp w.p_inside;
      q_inside = behind-inside s q lq w.q_inside;
      p_low = suc i;
      q_low = suc i;
      p_proper = p_first.3;
      q_proper = q_behind;
      goes_on = λ m. joined (merge_both i e d (left_at s (behind p)) (left_at s (behind q)) p_first.3 q_behind n m);
    }

    -- By whether a side goes on with the next index.
    unbroken : cond (starts_at s (behind p) (i + 1)) false (not (starts_at s (behind q) (i + 1))) ≡ false
        → Walking s b a (behind p) (behind q)
    unbroken h = go (starts_at s (behind p) (suc i)) (starts_at s (behind q) (suc i)) refl refl
        (subst (λ (k : ℕ). cond (starts_at s (behind p) k) false (not (starts_at s (behind q) k)) ≡ false) (add-one i) h)
      where
        go : (x y : Bool) → starts_at s (behind p) (suc i) ≡ x → starts_at s (behind q) (suc i) ≡ y
            → cond (starts_at s (behind p) (suc i)) false (not (starts_at s (behind q) (suc i))) ≡ false
            → Walking s b a (behind p) (behind q)
        go true y u v k =
            passes_both (next_b i e d (left_at s (behind p)) (left_at s (behind q)) p_first.3 q_behind
            (start_next (suc i) (suc i) (left_at s (behind p)) p_first.3 u))
        go false true u v k =
            passes_both (next_a i e d (left_at s (behind p)) (left_at s (behind q)) p_first.3 q_behind
            (start_next (suc i) (suc i) (left_at s (behind q)) q_behind v))
        go false false u v k = absurd (true≢false (sym (rw (u, v) refl) ∙ k))

    broken_here : cond (starts_at s (behind p) (i + 1)) false (not (starts_at s (behind q) (i + 1))) ≡ true
        → Merged (left_at s b) (left_at s a) (some i)
    broken_here h = go (starts_at s (behind p) (suc i)) (starts_at s (behind q) (suc i)) refl refl
        (subst (λ (k : ℕ). cond (starts_at s (behind p) k) false (not (starts_at s (behind q) k)) ≡ true) (add-one i) h)
      where
        go : (x y : Bool) → starts_at s (behind p) (suc i) ≡ x → starts_at s (behind q) (suc i) ≡ y
            → cond (starts_at s (behind p) (suc i)) false (not (starts_at s (behind q) (suc i))) ≡ true
            → Merged (left_at s b) (left_at s a) (some i)
        go true y u v k = absurd (true≢false (sym k ∙ rw u refl))
        go false true u v k = absurd (true≢false (sym k ∙ rw (u, v) refl))
        go false false u v k =
            joined (merge_here i e d (left_at s (behind p)) (left_at s (behind q)) p_first.3 q_behind
            p_first.2 q_first.2 (no_start (suc i) (left_at s (behind p)) p_first.3 u)
            (no_start (suc i) (left_at s (behind q)) q_behind v))

  -- The places behind the turn, where the clause is not broken.
  walk_more : breaks_at s (passed_by p i j) (passed_by q j i) i j ≡ false → Walking s b a (passed_by p i j) (passed_by q j i)
  walk_more h = go (ltb j i) (ltb i j) refl refl h
    where
      go : (x y : Bool) → ltb j i ≡ x → ltb i j ≡ y
          → breaks_at s (cond x p (behind p)) (cond y q (behind q)) i j ≡ false
          → Walking s b a (cond x p (behind p)) (cond y q (behind q))
      go true true u v k = absurd (omega (arith, ltb-true j i u, ltb-true i j v))
      go true false u v k = passes_a (ltb-true j i u)
      go false true u v k = passes_b (ltb-true i j v)
      go false false u v k =
          let same : i ≡ j = omega (arith, ltb-false j i u, ltb-false i j v) in
          unbroken same (sym (rw (eq-eqb i j same) refl) ∙ k)

  -- Where it is broken, i is the first index that breaks it.
  walk_breaks : Walkable s b a → breaks_at s (passed_by p i j) (passed_by q j i) i j ≡ true
      → refused 5 i ≡ drop_value (find_break (form_of_powers (left_at s b) (left_at s a)) 0 (suc limit))
  walk_breaks walkable h = found walkable (some i) (go (ltb j i) (ltb i j) refl refl h)
    where
      other : (x y : Place) → (i ≡ j → ⊥) → breaks_at s x y i j ≡ true → ⊥
      other x y n k = true≢false (sym k ∙ rw (ne_eqb i j n) refl)

      go : (x y : Bool) → ltb j i ≡ x → ltb i j ≡ y
          → breaks_at s (cond x p (behind p)) (cond y q (behind q)) i j ≡ true
          → Merged (left_at s b) (left_at s a) (some i)
      go true y u v k = absurd (other p (cond y q (behind q)) (λ z. omega (arith, ltb-true j i u, z)) k)
      go false true u v k = absurd (other (behind p) q (λ z. omega (arith, ltb-true i j v, z)) k)
      go false false u v k =
          let same : i ≡ j = omega (arith, ltb-false j i u, ltb-false i j v) in
          broken_here same (sym (rw (eq-eqb i j same) refl) ∙ k)

  -- The same of places and a test that are known by their contracts.
  module _ {np nq : Place} (en : np ≡ passed_by p i j) (em : nq ≡ passed_by q j i) {x : Bool}
      (t : x ≡ breaks_at s np nq i j) where
    tested : breaks_at s (passed_by p i j) (passed_by q j i) i j ≡ x
    tested = sym (t ∙ ap₂ (λ (u v : Place). breaks_at s u v i j) en em)

    pub walk_next : x ≡ false → Walking s b a np nq
    walk_next h =
        subst (λ (n : Place). Walking s b a n nq) (sym en)
        (subst (λ (n : Place). Walking s b a (passed_by p i j) n) (sym em) (walk_more (tested ∙ h)))

    pub walk_stops : Walkable s b a → x ≡ true
        → refused 5 i ≡ drop_value (find_break (form_of_powers (left_at s b) (left_at s a)) 0 (suc limit))
    walk_stops walkable h = walk_breaks walkable (tested ∙ h)
