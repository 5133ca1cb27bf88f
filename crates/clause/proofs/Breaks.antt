-- The loop over the indices: the reduced form's clause, tested on two tables that show a form. Assumes nothing.
use mathlib.Core.Path.{◌≡◌, refl, sym, ap, ◌∙◌}
use mathlib.Core.Bool.{Bool, true, false, cond, ◌||◌, true≢false}
use mathlib.Core.List.{List}
use Prim.Native.Nat.{ℕ, zero, suc, ◌+◌, ◌-◌, ◌<◌, ◌≤◌}
use native.Mathlib.Numerals.{add-one}
use native.Mathlib.Omega.{arith}
use lib.ListN.{get_or}
use Rattle.group.specs.Forms.{Form}
use Rattle.group.specs.Limits.{limit}
use Rattle.refusals.specs.Outcomes.{Outcome, accepted, refused, drop_value}
use Rattle.clause.specs.Clause.{breaks, find_break}
use Rattle.clause.specs.inside.Tables.{is_break, Shown, Unbroken}

-- The tables' test at an index is the form's.
shown_break : (f : Form) (b a : List ℕ) (i : ℕ) → Shown f b a → i ≤ limit
    → is_break (get_or b i 0) (get_or a i 0) (get_or b (i + 1) 0) (get_or a (i + 1) 0) ≡ breaks f i
shown_break f b a i h le =
    simp (
      (h i (omega (arith, le))).0,
      (h i (omega (arith, le))).1,
      add-one i,
      (h (suc i) (omega (arith, le))).0,
      (h (suc i) (omega (arith, le))).1,
    )

-- Some indices, the first of them tested.
first_next : (f : Form) (i k : ℕ) → 0 < k
    → find_break f i k ≡ cond (breaks f i) (refused 5 i) (find_break f (suc i) (k - 1))
unfolding find_break
first_next f i zero h = absurd (omega arith)
first_next f i (suc k) h =
    let e : k ≡ suc k - 1 = omega arith in
    ap (λ (j : ℕ). cond (breaks f i) (refused 5 i) (find_break f (suc i) j)) e

first_none : (f : Form) (i k : ℕ) → k ≡ 0 → find_break f i k ≡ accepted f
unfolding find_break
first_none f i zero e = refl
first_none f i (suc k) e = absurd (omega arith)

module _ {b a : List ℕ} {i : ℕ} (h : Unbroken b a i) (f : Form) (sh : Shown f b a) where
  next : i ≤ limit → (t : Bool)
      → t ≡ is_break (get_or b i 0) (get_or a i 0) (get_or b (i + 1) 0) (get_or a (i + 1) 0)
      → cond t (refused 5 i) (find_break f (suc i) (suc limit - i - 1)) ≡ find_break f 0 (suc limit)
  next le t e =
      ap
      (λ (p : Bool). cond p (refused 5 i) (find_break f (suc i) (suc limit - i - 1)))
      (e ∙ shown_break f b a i sh le)
      ∙ sym (first_next f i (suc limit - i) (omega (arith, le)))
      ∙ h.goes_on f sh

  pub break_here : i ≤ limit
      → true ≡ is_break (get_or b i 0) (get_or a i 0) (get_or b (i + 1) 0) (get_or a (i + 1) 0)
      → refused 5 i ≡ drop_value (find_break f 0 (suc limit))
  break_here le e = ap (λ (o : Outcome Form). drop_value o) (next le true e)

  pub break_later : i ≤ limit
      → false ≡ is_break (get_or b i 0) (get_or a i 0) (get_or b (i + 1) 0) (get_or a (i + 1) 0)
      → find_break f (i + 1) (suc limit - (i + 1)) ≡ find_break f 0 (suc limit)
  break_later le e =
      let k : suc limit - (i + 1) ≡ suc limit - i - 1 = omega arith in
      ap (λ (j : ℕ). find_break f j (suc limit - (i + 1))) (add-one i)
      ∙ ap (λ (j : ℕ). find_break f (suc i) j) k
      ∙ next le false e

  pub break_nowhere : limit < i → accepted 0 ≡ drop_value (find_break f 0 (suc limit))
  break_nowhere lt =
      ap (λ (o : Outcome Form). drop_value o)
      (sym (first_none f i (suc limit - i) (omega (arith, lt))) ∙ h.goes_on f sh)

-- The loop without an exit over a block: where no break was found so far, no index from the start on below i breaks the
-- clause.
pub record SeenSo (b a : List ℕ) (start : ℕ) (found : Bool) (i : ℕ) : Type 0 where
  pub unbroken : found ≡ false → Unbroken b a start → Unbroken b a i

pub seen_more : {b a : List ℕ} {start : ℕ} {found : Bool} {i : ℕ} (t : Bool) → SeenSo b a start found i → i ≤ limit
    → t ≡ is_break (get_or b i 0) (get_or a i 0) (get_or b (i + 1) 0) (get_or a (i + 1) 0)
    → SeenSo b a start (found || t) (i + 1)
seen_more {b} {a} {start} {found} {i} t s le e = go found t s e
  where
    go : (f q : Bool) → SeenSo b a start f i
        → q ≡ is_break (get_or b i 0) (get_or a i 0) (get_or b (i + 1) 0) (get_or a (i + 1) 0)
        → SeenSo b a start (f || q) (i + 1)
    go true q w d = record { unbroken = λ k u. absurd (true≢false k) }
    go false true w d = record { unbroken = λ k u. absurd (true≢false k) }
    go false false w d = record {
      unbroken = λ k u. record { goes_on = λ f h. break_later (w.unbroken refl u) f h le d };
    }
