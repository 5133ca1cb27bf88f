-- The moves of the cursor over the two stacks, one bush at a time. Assumes nothing.
use mathlib.Core.Path.{◌≡◌, refl, sym, ◌∙◌, subst}
use mathlib.Core.List.{List, [], ◌∷◌}
use Prim.Native.Nat.{ℕ, zero, suc, ◌+◌, ◌-◌, ◌≤◌, ◌<◌}
use native.Mathlib.Omega.{arith}
use lib.ListN.{get_or, set, length, length-set}
use Rattle.group.specs.Limits.{limit}
use Rattle.forest.specs.inside.Forest.{Bush, first_bush, later_bushes}
use Rattle.forest.specs.inside.Cells.{Stands, StackStands, Popped, Pushed}
use Rattle.forest.specs.inside.Cursor.{Cursor, cursor, place, onward, backward, seek}
use Rattle.forest.specs.inside.Seeking.{Stood, Sought, MovedOn, Storing, Skipped}
use Rattle.forest.specs.inside.Leaves.{ZerosPut}
use Rattle.forest.proofs.Stored.{stack_push, pop_none, pop_some, push_none, push_some}
use Rattle.forest.proofs.Zeroing.{zeros_from, zeros_from_lem}
use Rattle.forest.proofs.Cursor.{seek_here, seek-onward, seek-backward, seek_farther}

later-length : (ts : List Bush) → length (later_bushes ts) ≤ length ts
later-length [] = omega arith
later-length (t ∷ ts) = omega arith

module _ (lefts rights : List ℕ) (used : ℕ) where
  -- The height of a stack is the number of its bushes, and the front's height the cursor's place.
  stack_length : (ts : List Bush) (stack : List ℕ) (height : ℕ) → StackStands limit lefts rights used ts stack height
      → height ≡ length ts
  stack_length [] stack height s = s
  stack_length (t ∷ ts) stack height (top, e, h, s) = omega (arith, stack_length ts stack top s)

  pub stood_place : (before stack : List ℕ) (front height : ℕ) (c : Cursor)
      → Stood lefts rights used before stack front height c → front ≡ place c
  stood_place before stack front height (cursor ls ts) s = stack_length ls before front s.0

  -- No bush comes to the stack when one is taken.
  pub popped_low : {stack : List ℕ} {height bush height' : ℕ} (ts : List Bush) → Popped stack height bush height'
      → StackStands limit lefts rights used ts stack height → height' ≤ height
  popped_low {stack} {height} {bush} {height'} ts p s =
      omega (
        arith,
        stack_length ts stack height s,
        stack_length (later_bushes ts) stack height' (p limit lefts rights used ts s).1,
        later-length ts,
      )

  -- One bush on, and one back.
  stood_onward : (before stack : List ℕ) (i h bush h' : ℕ) (c : Cursor) → i < length before
      → Popped stack h bush h' → Stood lefts rights used before stack i h c
      → Stood lefts rights used (set before i bush) stack (i + 1) h' (onward c)
  stood_onward before stack i h bush h' (cursor ls ts) l p (s, t) =
      let q = p limit lefts rights used ts t in
      (stack_push limit lefts rights used (first_bush ts) ls before i bush l q.0 s, q.1)

  stood_backward : (before stack : List ℕ) (i j h : ℕ) (stack' : List ℕ) (h' : ℕ) (c : Cursor) → i ≡ j + 1
      → Pushed stack h (get_or before j 0) stack' h' → Stood lefts rights used before stack i h c
      → Stood lefts rights used before stack' j h' (backward c)
  stood_backward before stack i j h stack' h' (cursor [] ts) d p (s, t) = absurd (omega (arith, s))
  stood_backward before stack i j h stack' h' (cursor (u ∷ ls) ts) d p ((top, e, w, s), t) =
      let g : top ≡ j = omega (arith, e) in (
        subst (StackStands limit lefts rights used ls before) g s,
        p.puts limit lefts rights used u ts
            (subst (λ (n : ℕ). Stands limit lefts rights used u (get_or before n 0)) g w) t,
      )

-- Amid a move, at place i.
pub record Going (before₀ stack₀ : List ℕ) (front height : ℕ) (before stack : List ℕ) (i h : ℕ) : Type 0 where
  pub before_same : length before ≡ length before₀
  pub stack_same : length stack ≡ length stack₀
  pub moves : Sought before₀ stack₀ front height i before stack h

pub going_starts : (before stack : List ℕ) (front height : ℕ)
    → Going before stack front height before stack front height
going_starts before stack front height = record {
  before_same = refl;
  stack_same = refl;
  moves = λ lefts rights used c s.
      subst (Stood lefts rights used before stack front height)
      (seek_here front c (stood_place lefts rights used before stack front height c s)) s;
}

module _ {before₀ stack₀ : List ℕ} {front height : ℕ} {before stack : List ℕ} {i h : ℕ}
    (g : Going before₀ stack₀ front height before stack i h) where
  going_on : (bush h' : ℕ) → front ≤ i → i < length before → Popped stack h bush h'
      → Going before₀ stack₀ front height (set before i bush) stack (i + 1) h'
  going_on bush h' f l p = record {
    before_same = length-set before i bush ∙ g.before_same;
    stack_same = g.stack_same;
    moves = λ lefts rights used c s.
        subst (Stood lefts rights used (set before i bush) stack (i + 1) h')
        (seek-onward i c (omega (arith, stood_place lefts rights used before₀ stack₀ front height c s)))
        (stood_onward lefts rights used before stack i h bush h' (seek i c) l p (g.moves lefts rights used c s));
  }

  going_back : (j : ℕ) → i ≡ j + 1 → i ≤ front → (stack' : List ℕ) (h' : ℕ) → length stack' ≡ length stack
      → Pushed stack h (get_or before j 0) stack' h' → Going before₀ stack₀ front height before stack' j h'
  going_back j d l stack' h' same p = record {
    before_same = g.before_same;
    stack_same = same ∙ g.stack_same;
    moves = λ lefts rights used c s.
        subst (Stood lefts rights used before stack' j h')
        (seek-backward i j c (omega (arith, stood_place lefts rights used before₀ stack₀ front height c s)) d)
        (stood_backward lefts rights used before stack i j h stack' h' (seek i c) d p
        (g.moves lefts rights used c s));
  }

  -- A bush of the stack, and a bush that is stored.
  pub going_popped : front ≤ i → i < length before → 0 < h
      → Going before₀ stack₀ front height (set before i (get_or stack (h - 1) 0)) stack (i + 1) (h - 1)
  going_popped f l some = going_on (get_or stack (h - 1) 0) (h - 1) f l (pop_some stack h (λ e. omega arith))

  pub going_pushed : (k : ℕ) → k < i → i ≤ front → h < length stack → i + h ≡ front + height
      → Storing before front height k
      → Going before₀ stack₀ front height before (set stack h (get_or before (i - 1) 0)) (i - 1) (h + 1)
  going_pushed k o f l e some =
      let bush = get_or before (i - 1) 0 in
      going_back (i - 1) (omega arith) f (set stack h bush) (h + 1) (length-set stack h bush)
      (push_some stack h bush l (λ m.
      let here : i ≡ front = omega (arith, m.0) in
      some (omega (arith, m.0)) (omega arith) (subst (λ (j : ℕ). get_or before (j - 1) 0 ≡ 0) here m.1)))

  -- A tip of exponent 0 that is not stored, on the way back.
  pub going_skipped : (j : ℕ) → i ≡ j + 1 → i ≤ front → h ≡ 0 → get_or before j 0 ≡ 0
      → Going before₀ stack₀ front height before stack j h
  going_skipped j d f e z =
      subst (Going before₀ stack₀ front height before stack j) (sym e)
      (going_back j d f stack 0 refl (push_none stack h (get_or before j 0) e z))

  pub going_ends : (k : ℕ) → i ≡ k → Going before₀ stack₀ front height before stack k h
  going_ends k e = subst (λ (n : ℕ). Going before₀ stack₀ front height before stack n h) e g

-- With no bush left on the stack, zeros put are tips passed.
going_zeros : {before₀ stack₀ : List ℕ} {front height : ℕ} {before stack : List ℕ} {i h : ℕ} (n : ℕ)
    → Going before₀ stack₀ front height before stack i h → front ≤ i → i + n ≤ length before₀ → (0 < n → h ≡ 0)
    → Going before₀ stack₀ front height (zeros_from before i n) stack (i + n) h
going_zeros {i} zero g f l z = going_ends g (i + 0) (omega arith)
going_zeros {stack} {i} {h} (suc n) g f l z =
    let none = z (omega arith) in
    let now = going_zeros n g f (omega arith) (λ o. none) in
    let pop = subst (Popped stack h 0) (sym none) (pop_none stack h none) in
    going_ends (going_on now 0 h (omega arith) (omega (arith, now.before_same)) pop) (i + suc n) (omega arith)

-- A move on: the bushes of the stack passed, then zeros put where none is left.
pub moved_zeros : {before stack : List ℕ} {front height end : ℕ} {before' : List ℕ} {h : ℕ}
    → MovedOn before stack front height end before' h → (k : ℕ) (before'' : List ℕ) → front ≤ end → end ≤ k
    → k ≤ length before → length before' ≡ length before → (end < k → end ≡ front + height)
    → ZerosPut before' end k before'' → Sought before stack front height k before'' stack h
moved_zeros {before} {stack} {front} {height} {end} {before'} {h} m k before'' f l r same all p =
    let n = k - end in
    let e : end + n ≡ k = omega arith in
    let put = subst (λ (j : ℕ). ZerosPut before' end j before'') (sym e) p in
    let none : 0 < n → h ≡ 0 = λ o. omega (arith, all (omega arith), m.passed) in
    subst (λ (b : List ℕ). Sought before stack front height k b stack h)
    (sym (zeros_from_lem before' before'' end n (omega arith) put))
    (going_ends (going_zeros n moved f (omega arith) none) k e).moves
  where
    moved : Going before stack front height before' stack end h
    moved = record { before_same = same; stack_same = refl; moves = m.moves }

-- The tips skipped are passed with any stack.
pub skips : {before : List ℕ} {front height i : ℕ}
    → ((stack : List ℕ) → Going before stack front height before stack i height)
    → (k j : ℕ) → i ≡ j → k ≤ i → i ≤ front → Storing before i height k → Skipped before front height k j
skips {before} {front} {height} g k j e l f s =
    subst (Skipped before front height k) e
    (record { low = l; high = f; moves = λ stack. (g stack).moves; storing = s })

-- A move back: the tips skipped, then the bushes stored.
pub skipped_moves : {before : List ℕ} {front height k i : ℕ} → Skipped before front height k i
    → (stack stack' : List ℕ) (h : ℕ) → Sought before stack i height k before stack' h
    → Sought before stack front height k before stack' h
skipped_moves {before} {front} {height} {k} {i} p stack stack' h q lefts rights used c s =
    let here = stood_place lefts rights used before stack front height c s in
    subst (Stood lefts rights used before stack' k h)
    (seek_farther i k c (omega (arith, p.high)) p.low)
    (q lefts rights used (seek i c) (p.moves stack lefts rights used c s))
