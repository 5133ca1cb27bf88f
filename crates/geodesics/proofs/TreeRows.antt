-- The classes of a tree's carets are those of the row of its exponents (000, definition 2.7): what goes by two counters
-- is the one reading of the tree. Assumes nothing.
use mathlib.Core.Path.{◌≡◌, refl, sym, ◌∙◌, ap, ap₂, ◌≡⟨◌⟩◌, ◌∎}
use mathlib.Core.List.{List, ◌∷◌, ◌++◌, append_assoc}
use Prim.Native.Nat.{ℕ, zero, suc, ◌+◌}
use native.Mathlib.Omega.{arith}
use lib.ListN.{length}
use Rattle.trees.specs.Trees.{Tree, leaf, caret, carets}
use Rattle.trees.specs.Readings.{left_edge, later, exponents_of}
use Rattle.lengths.specs.Classes.{Class, on_left, on_right, inside_over, inside_classes, left_classes, right_classes, classes}
use Rattle.geodesics.specs.Rows.{first, rest, Row, row, next_row, inside_by, row_classes, from_one}
use Rattle.geodesics.specs.inside.Costs.{remaining, Closed}

-- There are n.
pub row_classes-length : (n : ℕ) (r : Row) → length (row_classes n r) ≡ n
row_classes-length zero r = refl
row_classes-length (suc n) r = ap suc (row_classes-length n (next_row r))

inside_by_edge : (t : Tree) → inside_by (left_edge t) ≡ inside_over t
inside_by_edge leaf = refl
inside_by_edge (caret l r) = refl

-- The row of an interior subtree, n more carets behind it.
inside_row : (t : Tree) (k n o s l : ℕ) (es : List ℕ) → k ≡ carets t + n → o ≡ left_edge t + s
    → row_classes k (row o l (later t ++ es)) ≡ inside_classes t ++ row_classes n (row s l es)
inside_row leaf k n o s l es hk ho =
    let c : k ≡ n = omega arith in
    let d : o ≡ s = omega arith in
    ap₂ (λ (i j : ℕ). row_classes i (row j l es)) c d
inside_row (caret a b) k n o s l es hk ho =
    let fs : List ℕ = left_edge b ∷ (later b ++ es) in
    let behind : List Class = row_classes n (row s l es) in
    let of-b : row_classes (suc (carets b + n)) (row (suc s) l fs) ≡ inside_over b ∷ (inside_classes b ++ behind) =
    ap₂ (λ (c : Class) (x : List Class). c ∷ x) (inside_by_edge b)
    (inside_row b (carets b + n) n (left_edge b + s) s l es refl refl) in
    row_classes k (row o l ((later a ++ (left_edge b ∷ later b)) ++ es))
    ≡⟨ ap (λ (x : List ℕ). row_classes k (row o l x)) (append_assoc (later a) (left_edge b ∷ later b) es) ⟩
    row_classes k (row o l (later a ++ fs))
    ≡⟨ inside_row a k (suc (carets b + n)) o (suc s) l fs (omega arith) (omega arith) ⟩
    inside_classes a ++ row_classes (suc (carets b + n)) (row (suc s) l fs)
    ≡⟨ ap (λ (x : List Class). inside_classes a ++ x) of-b ⟩
    inside_classes a ++ (inside_over b ∷ (inside_classes b ++ behind))
    ≡⟨ sym (append_assoc (inside_classes a) (inside_over b ∷ inside_classes b) behind) ⟩
    inside_classes (caret a b) ++ behind ∎

inside-remaining : (t : Tree) (k n o s l : ℕ) (es : List ℕ) → k ≡ carets t + n → o ≡ left_edge t + s
    → remaining k (row o l (later t ++ es)) ≡ remaining n (row s l es)
inside-remaining leaf k n o s l es hk ho =
    let c : k ≡ n = omega arith in
    let d : o ≡ s = omega arith in
    ap₂ (λ (i j : ℕ). remaining i (row j l es)) c d
inside-remaining (caret a b) k n o s l es hk ho =
    let fs : List ℕ = left_edge b ∷ (later b ++ es) in
    remaining k (row o l ((later a ++ (left_edge b ∷ later b)) ++ es))
    ≡⟨ ap (λ (x : List ℕ). remaining k (row o l x)) (append_assoc (later a) (left_edge b ∷ later b) es) ⟩
    remaining k (row o l (later a ++ fs))
    ≡⟨ inside-remaining a k (suc (carets b + n)) o (suc s) l fs (omega arith) (omega arith) ⟩
    remaining (suc (carets b + n)) (row (suc s) l fs)
    ≡⟨ inside-remaining b (carets b + n) n (left_edge b + s) s l es refl refl ⟩
    remaining n (row s l es) ∎

-- The row of a subtree of the left side.
left_row : (t : Tree) (k n m l : ℕ) (es : List ℕ) → k ≡ carets t + n → m ≡ left_edge t + l
    → row_classes k (row 0 m (later t ++ es)) ≡ left_classes t ++ row_classes n (row 0 l es)
left_row leaf k n m l es hk hm =
    let c : k ≡ n = omega arith in
    let d : m ≡ l = omega arith in
    ap₂ (λ (i j : ℕ). row_classes i (row 0 j es)) c d
left_row (caret a b) k n m l es hk hm =
    let fs : List ℕ = left_edge b ∷ (later b ++ es) in
    let behind : List Class = row_classes n (row 0 l es) in
    let of-b : row_classes (carets b + n) (row (left_edge b) l (later b ++ es)) ≡ inside_classes b ++ behind =
    inside_row b (carets b + n) n (left_edge b) 0 l es refl (omega arith) in
    row_classes k (row 0 m ((later a ++ (left_edge b ∷ later b)) ++ es))
    ≡⟨ ap (λ (x : List ℕ). row_classes k (row 0 m x)) (append_assoc (later a) (left_edge b ∷ later b) es) ⟩
    row_classes k (row 0 m (later a ++ fs))
    ≡⟨ left_row a k (suc (carets b + n)) m (suc l) fs (omega arith) (omega arith) ⟩
    left_classes a ++ row_classes (suc (carets b + n)) (row 0 (suc l) fs)
    ≡⟨ ap (λ (x : List Class). left_classes a ++ (on_left ∷ x)) of-b ⟩
    left_classes a ++ (on_left ∷ (inside_classes b ++ behind))
    ≡⟨ sym (append_assoc (left_classes a) (on_left ∷ inside_classes b) behind) ⟩
    left_classes (caret a b) ++ behind ∎

left_remaining : (t : Tree) (k n m l : ℕ) (es : List ℕ) → k ≡ carets t + n → m ≡ left_edge t + l
    → remaining k (row 0 m (later t ++ es)) ≡ remaining n (row 0 l es)
left_remaining leaf k n m l es hk hm =
    let c : k ≡ n = omega arith in
    let d : m ≡ l = omega arith in
    ap₂ (λ (i j : ℕ). remaining i (row 0 j es)) c d
left_remaining (caret a b) k n m l es hk hm =
    let fs : List ℕ = left_edge b ∷ (later b ++ es) in
    remaining k (row 0 m ((later a ++ (left_edge b ∷ later b)) ++ es))
    ≡⟨ ap (λ (x : List ℕ). remaining k (row 0 m x)) (append_assoc (later a) (left_edge b ∷ later b) es) ⟩
    remaining k (row 0 m (later a ++ fs))
    ≡⟨ left_remaining a k (suc (carets b + n)) m (suc l) fs (omega arith) (omega arith) ⟩
    remaining (suc (carets b + n)) (row 0 (suc l) fs)
    ≡⟨ inside-remaining b (carets b + n) n (left_edge b) 0 l es refl (omega arith) ⟩
    remaining n (row 0 l es) ∎

-- The row of a subtree of the right side, to the end.
right_row : (t : Tree) → row_classes (carets t) (row (first (exponents_of t)) 0 (rest (exponents_of t))) ≡ right_classes t
right_row leaf = refl
right_row (caret a b) =
    inside_row a (carets a + suc (carets b)) (suc (carets b)) (left_edge a) 0 0 (exponents_of b) refl (omega arith)
    ∙ ap (λ (x : List Class). inside_classes a ++ (on_right ∷ x)) (right_row b)

right_closed : (t : Tree) → Closed (carets t) (row (first (exponents_of t)) 0 (rest (exponents_of t)))
right_closed leaf = refl
right_closed (caret a b) =
    inside-remaining a (carets a + suc (carets b)) (suc (carets b)) (left_edge a) 0 0 (exponents_of b) refl (omega arith)
    ∙ right_closed b

-- The classes of a tree: caret 0 is on the left side, and the row from caret 1 on.
pub tree_row : (t : Tree) (n : ℕ) → carets t ≡ suc n → on_left ∷ row_classes n (from_one (exponents_of t)) ≡ classes t
tree_row leaf n e = absurd (omega arith)
tree_row (caret a b) n e =
    left_row a (suc n) (suc (carets b)) (suc (left_edge a)) 1 (exponents_of b) (sym e) (omega arith)
    ∙ ap (λ (x : List Class). left_classes a ++ (on_left ∷ x)) (right_row b)

-- It is closed behind the last caret.
pub tree_closed : (t : Tree) (n : ℕ) → carets t ≡ suc n → Closed n (from_one (exponents_of t))
tree_closed leaf n e = absurd (omega arith)
tree_closed (caret a b) n e =
    left_remaining a (suc n) (suc (carets b)) (suc (left_edge a)) 1 (exponents_of b) (sym e) (omega arith)
    ∙ right_closed b
