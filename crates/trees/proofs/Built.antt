-- A tree with n carets and given exponents exists just when n is at least the number they need, so that this is the
-- smallest number (01, 'The tree pair and the length'; 000, section 2.5.1).
--     tree_carets, tree-exponents   the tree that is built has n carets and the exponents
--     tree_holds, tree-least        no tree with the exponents has fewer carets than they need
--     Enough n k es                 n carets are enough for the exponents es from leaf k on
-- Assumes nothing.
use mathlib.Core.Path.{◌≡◌, refl, sym, ◌∙◌, ap, subst, ◌≡⟨◌⟩◌, ◌∎}
use mathlib.Core.List.{List, [], ◌∷◌, ◌++◌, append_assoc}
use Prim.Native.Nat.{ℕ, zero, suc, ◌+◌, ◌-◌, ◌<◌, ◌≤◌}
use native.Mathlib.Omega.{arith}
use lib.ListN.{get_or, drop}
use Rattle.lists.specs.Entries.{total}
use Rattle.lists.specs.inside.Entries.{SameEntries}
use Rattle.lists.proofs.Totals.{same_cons, same_append, same_none, same_zero, total-append, entry_total}
use Rattle.trees.specs.Trees.{Tree, leaf, caret, carets}
use Rattle.trees.specs.Building.{first_tree, later_trees, grow, row_of, over_row, needed, tree_of}
use Rattle.trees.specs.Readings.{left_edge, later, exponents_of}
use Rattle.trees.proofs.Rows.{tree_at, tree_at_none, row_zeros, total_subtree, total-exponents}
use Rattle.trees.proofs.Needed.{Holds, needed-holds, holds_same, holds_none, holds-total, holds_above}

-- n is above each place plus the sum of the exponents from there on, where the sum is above 0; the first place is k.
abbrev Enough : ℕ → ℕ → List ℕ → Type 0
Enough n k [] = Unit {0}
Enough n k (e ∷ es) = (0 < e + total es → k + (e + total es) < n) × Enough n (suc k) es

-- An interior subtree l whose first leaf is k, with d more left edges above it; m is the leaf behind it.
enough_subtree : (l : Tree) (n k m d e : ℕ) (es : List ℕ) → e ≡ d + left_edge l → m ≡ suc (k + carets l)
    → k + (d + (carets l + total es)) < n → Enough n m es → Enough n k (e ∷ (later l ++ es))
enough_subtree leaf n k m d e es he hm h r = ((λ p. omega arith), go (omega arith))
  where
    go : m ≡ suc k → Enough n (suc k) es
    go q = subst (λ (j : ℕ). Enough n j es) q r
enough_subtree (caret l s) n k m d e es he hm h r =
    subst
    (λ (x : List ℕ). Enough n k (e ∷ x))
    (sym (append_assoc (later l) (left_edge s ∷ later s) es))
    (enough_subtree l n k (suc (k + carets l)) (suc d) e (left_edge s ∷ (later s ++ es)) (omega arith) refl
    (omega (arith, total-append (later s) es, total_subtree s))
    (enough_subtree s n (suc (k + carets l)) m 0 (left_edge s) es (omega arith) (omega arith) (omega arith) r))

enough_exponents : (t : Tree) (n k : ℕ) → n ≡ k + carets t → Enough n k (exponents_of t)
enough_exponents leaf n k h = ((λ p. absurd (omega arith)), tt)
enough_exponents (caret l r) n k h =
    enough_subtree l n k (suc (k + carets l)) 0 (left_edge l) (exponents_of r) (omega arith) refl
    (omega (arith, total-exponents r))
    (enough_exponents r n (suc (k + carets l)) (omega arith))

enough_holds : (n k : ℕ) (es : List ℕ) → Enough n k es → (i : ℕ) → 0 < total (drop i es)
    → k + (i + total (drop i es)) < n
enough_holds n k [] r zero p = absurd (omega arith)
enough_holds n k [] r (suc i) p = absurd (omega arith)
enough_holds n k (e ∷ es) r zero p = omega (arith, r.0 p)
enough_holds n k (e ∷ es) r (suc i) p = omega (arith, enough_holds n (suc k) es r.1 i p)

-- The number of carets of a tree holds for its exponents.
pub tree_holds : (t : Tree) (es : List ℕ) → SameEntries (exponents_of t) es → Holds (carets t) es
tree_holds t es h = holds_same (carets t) (exponents_of t) es h own
  where
    own : Holds (carets t) (exponents_of t)
    own i p =
        omega (
          arith,
          enough_holds (carets t) 0 (exponents_of t) (enough_exponents t (carets t) 0 (omega arith)) i
              (omega (arith, entry_total i (exponents_of t))),
        )

-- It is at least the number that they need.
pub tree_least : (t : Tree) (es : List ℕ) → SameEntries (exponents_of t) es → needed 0 es ≤ carets t
tree_least t es h = (needed-holds (carets t) es).0 (tree_holds t es h)

-- From place n on, a row has single leaves only.
abbrev LeavesFrom : ℕ → List Tree → Type 0
LeavesFrom n ts = (i : ℕ) → n ≤ i → tree_at i ts ≡ leaf

grow-behind : (e : ℕ) (t : Tree) (ts : List Tree) (j m : ℕ) → m ≡ e + j → tree_at (suc j) (grow e t ts) ≡ tree_at m ts
grow-behind zero t ts j m h =
    let q : j ≡ m = omega arith in
    ap (λ (k : ℕ). tree_at k ts) q
grow-behind (suc e) t ts j zero h = absurd (omega arith)
grow-behind (suc e) t ts j (suc m) h = grow-behind e (caret t (first_tree ts)) (later_trees ts) j m (omega arith)

row_leaves : (es : List ℕ) (n k : ℕ) → Holds n es → n ≡ k + total es → LeavesFrom k (row_of es)
row_leaves [] n k h q i p = tree_at_none i
row_leaves (e ∷ es) zero k h q i p = row_zeros (e ∷ es) (holds_none (e ∷ es) h) i ∙ tree_at_none i
row_leaves (e ∷ es) (suc n) k h q zero p = absurd (omega (arith, holds_above n e es h))
row_leaves (e ∷ es) (suc n) k h q (suc i) p =
    grow-behind e leaf (row_of es) i (e + i) refl
    ∙ row_leaves es n (n - total es) (λ j c. omega (arith, h (suc j) c)) (omega (arith, holds_above n e es h))
    (e + i) (omega (arith, holds_above n e es h))

-- The carets of a row of trees.
abbrev row_carets : List Tree → ℕ
row_carets [] = 0
row_carets (t ∷ ts) = carets t + row_carets ts

row_carets-later : (ts : List Tree) → row_carets ts ≡ carets (first_tree ts) + row_carets (later_trees ts)
row_carets-later [] = refl
row_carets-later (t ∷ ts) = refl

row_carets-grow : (e : ℕ) (t : Tree) (ts : List Tree) → row_carets (grow e t ts) ≡ e + (carets t + row_carets ts)
row_carets-grow zero t ts = omega arith
row_carets-grow (suc e) t ts =
    omega (arith, row_carets-grow e (caret t (first_tree ts)) (later_trees ts), row_carets-later ts)

row_carets_lem : (es : List ℕ) → row_carets (row_of es) ≡ total es
row_carets_lem [] = refl
row_carets_lem (e ∷ es) = omega (arith, row_carets-grow e leaf (row_of es), row_carets_lem es)

row_carets_none : (ts : List Tree) → ((i : ℕ) → tree_at i ts ≡ leaf) → row_carets ts ≡ 0
row_carets_none [] h = refl
row_carets_none (t ∷ ts) h = omega (arith, ap carets (h 0), row_carets_none ts (λ i. h (suc i)))

over_carets : (n : ℕ) (ts : List Tree) → LeavesFrom n ts → carets (over_row n ts) ≡ n + row_carets ts
over_carets zero ts h = omega (arith, row_carets_none ts (λ i. h i (omega arith)))
over_carets (suc n) ts h =
    omega (arith, over_carets n (later_trees ts) (λ i p. h (suc i) (omega arith)), row_carets-later ts)

-- The exponents of a row of trees.
abbrev row_exponents : List Tree → List ℕ
row_exponents [] = []
row_exponents (t ∷ ts) = left_edge t ∷ (later t ++ row_exponents ts)

row_exponents-later : (ts : List Tree)
    → SameEntries (row_exponents ts) (left_edge (first_tree ts) ∷ (later (first_tree ts) ++ row_exponents (later_trees ts)))
row_exponents-later [] zero = refl
row_exponents-later [] (suc i) = refl
row_exponents-later (t ∷ ts) i = refl

row_exponents-grow : (e : ℕ) (t : Tree) (ts : List Tree) (k : ℕ) → k ≡ e + left_edge t
    → SameEntries (row_exponents (grow e t ts)) (k ∷ (later t ++ row_exponents ts))
row_exponents-grow zero t ts k h i =
    same_cons (left_edge t) k (later t ++ row_exponents ts) (later t ++ row_exponents ts) (omega arith) (λ j. refl) i
row_exponents-grow (suc e) t ts k h i =
    get_or (row_exponents (grow e (caret t u) us)) i 0
    ≡⟨ row_exponents-grow e (caret t u) us k (omega arith) i ⟩
    get_or (k ∷ ((later t ++ (left_edge u ∷ later u)) ++ row_exponents us)) i 0
    ≡⟨ ap (λ (es : List ℕ). get_or (k ∷ es) i 0) (append_assoc (later t) (left_edge u ∷ later u) (row_exponents us)) ⟩
    get_or (k ∷ (later t ++ next)) i 0
    ≡⟨ sym (same_append (k ∷ later t) (row_exponents ts) next (row_exponents-later ts) i) ⟩
    get_or (k ∷ (later t ++ row_exponents ts)) i 0 ∎
  where
    u : Tree
    u = first_tree ts

    us : List Tree
    us = later_trees ts

    next : List ℕ
    next = left_edge u ∷ (later u ++ row_exponents us)

row_exponents_lem : (es : List ℕ) → SameEntries (row_exponents (row_of es)) es
row_exponents_lem [] i = refl
row_exponents_lem (e ∷ es) i =
    row_exponents-grow e leaf (row_of es) e (omega arith) i
    ∙ same_cons e e (row_exponents (row_of es)) es refl (row_exponents_lem es) i

row_exponents_none : (ts : List Tree) → ((i : ℕ) → tree_at i ts ≡ leaf) → SameEntries (row_exponents ts) []
row_exponents_none [] h = λ i. refl
row_exponents_none (t ∷ ts) h =
    subst
    (λ (u : Tree). SameEntries (left_edge u ∷ (later u ++ row_exponents ts)) [])
    (sym (h 0))
    (same_none (row_exponents ts) (row_exponents_none ts (λ j. h (suc j))))

over_exponents : (n : ℕ) (ts : List Tree) → LeavesFrom n ts
    → SameEntries (exponents_of (over_row n ts)) (row_exponents ts)
over_exponents zero ts h i = same_zero i ∙ sym (row_exponents_none ts (λ j. h j (omega arith)) i)
over_exponents (suc n) ts h i =
    same_append (left_edge u ∷ later u) (exponents_of rest) (row_exponents (later_trees ts))
    (over_exponents n (later_trees ts) (λ j p. h (suc j) (omega arith))) i
    ∙ sym (row_exponents-later ts i)
  where
    u : Tree
    u = first_tree ts

    rest : Tree
    rest = over_row n (later_trees ts)

-- There are carets enough for the exponents, and the right side reaches every tree of the row but single leaves.
needed-total : (n : ℕ) (es : List ℕ) → needed 0 es ≤ n → total es ≤ n
needed-total n es h = holds-total n es ((needed-holds n es).1 h)

row_ends : (n : ℕ) (es : List ℕ) → needed 0 es ≤ n → LeavesFrom (n - total es) (row_of es)
row_ends n es h = row_leaves es n (n - total es) ((needed-holds n es).1 h) (omega (arith, needed-total n es h))

-- The tree that is built has n carets.
pub tree_carets : (n : ℕ) (es : List ℕ) → needed 0 es ≤ n → carets (tree_of n es) ≡ n
tree_carets n es h =
    omega (
      arith,
      over_carets (n - total es) (row_of es) (row_ends n es h),
      row_carets_lem es,
      needed-total n es h,
    )

-- It has the exponents.
pub tree_exponents : (n : ℕ) (es : List ℕ) → needed 0 es ≤ n → SameEntries (exponents_of (tree_of n es)) es
tree_exponents n es h i = over_exponents (n - total es) (row_of es) (row_ends n es h) i ∙ row_exponents_lem es i
