-- The carets that a table of exponents needs, counted from its end: the laws of those loops. Assumes nothing.
use mathlib.Core.Path.{◌≡◌, refl, sym, ◌∙◌, ap, subst}
use mathlib.Core.List.{List, [], ◌∷◌}
use Prim.Native.Nat.{ℕ, zero, suc, ◌+◌, ◌-◌, ◌<◌, ◌≤◌, max}
use native.Mathlib.Omega.{arith}
use lib.ListN.{length, length-take, take, drop, get_or}
use Rattle.std.specs.List.{AllWithin}
use Rattle.std.specs.Option.{option_map_or}
use Rattle.std.specs.Prelude.{Option, Some, None}
use Rattle.std.proofs.lemmas.List.{get_or-take}
use lib.Seq.{drop-cons, drop-length}
use Rattle.lists.specs.Entries.{total}
use Rattle.lists.proofs.Totals.{entry_total, drop-total}
use Rattle.trees.specs.Building.{needed}
use Rattle.trees.specs.inside.Zeros.{ZerosBefore}
use Rattle.trees.specs.inside.Counting.{Unused, LastIs, UpToLast, Counted}
use Rattle.trees.proofs.ZeroBlocks.{pass_block}

-- No entry is looked at, then one entry more that is 0, or a block of them.
pub unused_start : (e : List ℕ) → Unused e (length e)
unused_start e = record { within = omega arith; none = ap total (drop-length e) }

pub unused_more : {e : List ℕ} {i : ℕ} → Unused e i → 0 < i → get_or e (i - 1) 0 ≡ 0 → Unused e (i - 1)
unused_more {e} {i} u some z =
    let next : suc (i - 1) ≡ i = omega arith in
    let cut : drop (i - 1) e ≡ get_or e (i - 1) 0 ∷ drop i e =
    drop-cons e (i - 1) 0 (omega (arith, u.within)) ∙ ap (λ (j : ℕ). get_or e (i - 1) 0 ∷ drop j e) next in
    record { within = omega (arith, u.within); none = ap total cut ∙ omega (arith, u.none) }

pub unused_block : {e : List ℕ} {i : ℕ} → Unused e i → ZerosBefore e i → Unused e (i - 64)
unused_block {e} {i} u b = record {
  within = omega (arith, u.within);
  none = (pass_block b u.within (i - 64) (omega (arith, b.room))).sums ∙ u.none;
}

-- All are 0, or the entry in front is not.
pub last_none : {e : List ℕ} {i : ℕ} → Unused e i → i ≤ 0 → UpToLast e 0
last_none {e} {i} u h =
    let z : i ≡ 0 = omega arith in
    record { unused = subst (λ (j : ℕ). Unused e j) z u; some = λ j p. absurd (omega arith) }

-- Entries that are 0 in front of others.
unused_back : {e : List ℕ} (k i : ℕ) → Unused e (i + k) → ((j : ℕ) → i ≤ j → j < i + k → get_or e j 0 ≡ 0) → Unused e i
unused_back {e} zero i u z =
    let same : i + 0 ≡ i = omega arith in
    subst (λ (j : ℕ). Unused e j) same u
unused_back {e} (suc k) i u z =
    let next : i + suc k - 1 ≡ i + k = omega arith in
    let one = unused_more u (omega arith) (z (i + suc k - 1) (omega arith) (omega arith)) in
    unused_back k i (subst (λ (j : ℕ). Unused e j) next one) (λ j l m. z j l (omega arith))

-- The sum from an entry on is at least that from a later one on.
later-total : (j i : ℕ) (e : List ℕ) → j ≤ i → total (drop i e) ≤ total (drop j e)
later-total zero i e h = drop-total i e
later-total (suc j) zero e h = absurd (omega arith)
later-total (suc j) (suc i) [] h = omega arith
later-total (suc j) (suc i) (x ∷ e) h = later-total j i e (omega arith)

pub last_found : {e : List ℕ} {i : ℕ} → Unused e i → (get_or e (i - 1) 0 ≡ 0 → ⊥) → UpToLast e i
last_found {e} {i} u h = record {
  unused = u;
  some = λ j p.
      omega (arith, above (get_or e (i - 1) 0) h, entry_total (i - 1) e, later-total j (i - 1) e (omega arith));
}
  where
    above : (x : ℕ) → (x ≡ 0 → ⊥) → 0 < x
    above zero f = absurd (f refl)
    above (suc x) f = omega arith

-- The last entry of a front, behind which there are only zeros.
module _ {e : List ℕ} {n : ℕ} (u : Unused e n) where
  front : length (take n e) ≡ n
  front = simp length-take (omega (arith, u.within))

  -- From an entry on, those of the front are 0.
  zeros_from : (i : ℕ) → i ≤ n → AllWithin (λ x. x ≡ 0) (take n e) i (length (take n e)) → Unused e i
  zeros_from i h z =
      let up : i + (n - i) ≡ n = omega arith in
      unused_back (n - i) i (subst (λ (j : ℕ). Unused e j) (sym up) u)
      (λ j l m. sym (get_or-take n e j 0 (omega arith)) ∙ z j 0 l (omega (arith, front)))

  pub up_to : (r : Option ℕ) → LastIs (take n e) r → UpToLast e (option_map_or (λ i. i + 1) r 0)
  up_to None z = last_none (zeros_from 0 (omega arith) z) (omega arith)
  up_to (Some i) h =
      let place : i + 1 - 1 ≡ i = omega arith in
      last_found (zeros_from (i + 1) (omega (arith, h.0, front)) h.1)
      (λ q. omega (
        arith,
        h.2 0,
        get_or-take n e i 0 (omega (arith, h.0, front)),
        q,
        ap (λ (j : ℕ). get_or e j 0) place,
      ))

-- Entries that sum to 0 need no caret; others need more than their sum, counted from the first of them.
needed_none : (k : ℕ) (es : List ℕ) → total es ≡ 0 → needed k es ≡ 0
needed_none k [] h = refl
needed_none k (zero ∷ es) h = needed_none (suc k) es (omega arith)
needed_none k (suc e ∷ es) h = absurd (omega arith)

needed_some : (k : ℕ) (es : List ℕ) → 0 < total es → k + total es < needed k es
needed_some k [] h = absurd (omega arith)
needed_some k (zero ∷ es) h = omega (arith, needed_some (suc k) es (omega arith))
needed_some k (suc e ∷ es) h = omega arith

-- So an entry in front of others needs no test, unless it and they are all 0.
needed_cons : (i e : ℕ) (es : List ℕ) → 0 < e + total es
    → needed i (e ∷ es) ≡ max (i + (e + total es) + 1) (needed (suc i) es)
needed_cons i zero es h = omega (arith, needed_some (suc i) es (omega arith))
needed_cons i (suc e) es h = omega arith

-- The last entry that is not 0 comes next.
pub count_start : {e : List ℕ} {i : ℕ} → UpToLast e i → Counted e i 0 0
count_start {e} {i} u = record {
  within = u.unused.within;
  sums = sym u.unused.none;
  bound = omega arith;
  carets = sym (needed_none i (drop i e) u.unused.none);
  some = u.some;
}

-- One entry more.
module _ {e : List ℕ} {j sum n : ℕ} (h : Counted e j sum n) (i x sum' n' : ℕ) (at : j ≡ suc i) (is : x ≡ get_or e i 0)
    (word : x < 65536) (added : sum' ≡ sum + x) (next : n' ≡ max (i + sum' + 1) n) where
  cut : drop i e ≡ x ∷ drop j e
  cut = rw (at, is) (drop-cons e i 0 (omega (arith, h.within)))

  pub count_more : Counted e i sum' n'
  count_more =
      let rest : List ℕ = drop j e in
      let sums' : sum' ≡ total (drop i e) = omega (arith, h.sums, ap total cut) in
      let behind : needed j rest ≡ needed (suc i) rest = ap (λ (k : ℕ). needed k rest) at in
      let whole = needed_cons i x rest (omega (arith, h.some i (omega arith), ap total cut)) in
      record {
        within = omega (arith, h.within);
        sums = sums';
        bound = omega (arith, h.bound, h.within);
        carets = omega (arith, h.carets, behind, whole, ap (needed i) cut, ap total cut);
        some = λ k p. h.some k (omega arith);
      }

-- A block of zeros more.
pub count_block : {e : List ℕ} {i sum n : ℕ} → Counted e i sum n → ZerosBefore e i → Counted e (i - 64) sum n
count_block {e} {i} h b =
    let p = pass_block b h.within (i - 64) (omega (arith, b.room)) in
    record {
      within = omega (arith, h.within);
      sums = h.sums ∙ sym p.sums;
      bound = omega (arith, h.bound, h.within, b.room);
      carets = h.carets ∙ sym p.carets;
      some = λ k q. h.some k (omega arith);
    }

-- All are counted.
pub count_done : {e : List ℕ} {i sum n : ℕ} → Counted e i sum n → i ≡ 0 → n ≡ needed 0 e
count_done {e} h z = h.carets ∙ ap (λ (k : ℕ). needed k (drop k e)) z
