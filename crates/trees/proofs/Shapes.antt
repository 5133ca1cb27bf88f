-- The shape of a tree: 2N + 1 bytes that determine the tree, and which bytes are the shape of a tree (01, 'The tree
-- pair and the length').
--     shape_read    reading undoes writing          exact-shape   bytes are a shape just when they are exact
-- Assumes nothing.
use mathlib.Core.Path.{◌≡◌, refl, sym, ◌∙◌, ap, subst, ◌≡⟨◌⟩◌, ◌∎}
use mathlib.Core.List.{List, [], ◌∷◌, ◌++◌, append_assoc, append-nil}
use mathlib.Core.Logic.{◌↔◌}
use Prim.Native.Nat.{ℕ, zero, suc}
use native.Mathlib.Omega.{arith}
use lib.ListN.{length, length-append}
use Rattle.trees.specs.Trees.{Tree, leaf, caret, carets}
use Rattle.trees.specs.Building.{first_tree}
use Rattle.trees.specs.Shapes.{shape, shape_size}
use Rattle.trees.specs.inside.ShapeReading.{Exact, read_shapes, read_shape}

-- A tree with N carets has a shape of 2N + 1 bytes.
pub shape-length : (t : Tree) → length (shape t) ≡ shape_size (carets t)
shape-length leaf = refl
shape-length (caret l r) = omega (arith, length-append (shape l) (shape r), shape-length l, shape-length r)

-- Reading undoes writing, whatever follows.
pub shapes_read : (t : Tree) (s : List ℕ) → read_shapes (shape t ++ s) ≡ t ∷ read_shapes s
shapes_read leaf s = refl
shapes_read (caret l r) s =
    let e : read_shapes ((shape l ++ shape r) ++ s) ≡ l ∷ (r ∷ read_shapes s) =
    read_shapes ((shape l ++ shape r) ++ s) ≡⟨ ap read_shapes (append_assoc (shape l) (shape r) s) ⟩
    read_shapes (shape l ++ (shape r ++ s)) ≡⟨ shapes_read l (shape r ++ s) ⟩
    l ∷ read_shapes (shape r ++ s) ≡⟨ ap (λ (ts : List Tree). l ∷ ts) (shapes_read r s) ⟩
    l ∷ (r ∷ read_shapes s) ∎ in
    rw e refl

-- The tree is read off its shape.
pub shape_read : (t : Tree) → read_shape (shape t) ≡ t
shape_read t = ap read_shape (sym (append-nil (shape t))) ∙ ap first_tree (shapes_read t [])

-- A shape is that of one tree.
pub shape_injective : (t u : Tree) → shape t ≡ shape u → t ≡ u
shape_injective t u e =
    t ≡⟨ sym (shape_read t) ⟩
    read_shape (shape t) ≡⟨ ap read_shape e ⟩
    read_shape (shape u) ≡⟨ shape_read u ⟩
    u ∎

-- The shape of a tree in front of those of n trees.
exact_more : (t : Tree) (n : ℕ) (s : List ℕ) → Exact s n → Exact (shape t ++ s) (suc n)
exact_more leaf n s h = h
exact_more (caret l r) n s h =
    subst (λ (x : List ℕ). Exact x (suc (suc n))) (sym (append_assoc (shape l) (shape r) s))
    (exact_more l (suc n) (shape r ++ s) (exact_more r n s h))

-- The bytes of a tree are exact.
pub shape_exact : (t : Tree) → Exact (shape t) 1
shape_exact t = subst (λ (x : List ℕ). Exact x 1) (append-nil (shape t)) (exact_more t 0 [] tt)

-- The shapes of trees, one behind another.
abbrev pub shapes : List Tree → List ℕ
shapes [] = []
shapes (t ∷ ts) = shape t ++ shapes ts

-- Exact bytes are the shapes of so many trees.
pub exact_trees : (s : List ℕ) (n : ℕ) → Exact s n → (ts : List Tree) × (length ts ≡ n) × (shapes ts ≡ s)
exact_trees [] zero h = ([], refl, refl)
exact_trees [] (suc n) h = absurd h
exact_trees (zero ∷ s) zero h = absurd h
exact_trees (zero ∷ s) (suc n) h =
    let x = exact_trees s n h in
    (leaf ∷ x.0, ap suc x.1, ap (λ (r : List ℕ). 0 ∷ r) x.2)
exact_trees (suc zero ∷ s) zero h = absurd h
exact_trees (suc zero ∷ s) (suc n) h = go (exact_trees s (suc (suc n)) h)
  where
    two : (ts : List Tree) → length ts ≡ suc (suc n) → shapes ts ≡ s
        → (us : List Tree) × (length us ≡ suc n) × (shapes us ≡ 1 ∷ s)
    two [] e p = absurd (omega arith)
    two (l ∷ []) e p = absurd (omega arith)
    two (l ∷ (r ∷ ts)) e p =
        (caret l r ∷ ts, omega arith, ap (λ (x : List ℕ). 1 ∷ x) (append_assoc (shape l) (shape r) (shapes ts) ∙ p))

    go : (ts : List Tree) × (length ts ≡ suc (suc n)) × (shapes ts ≡ s)
        → (us : List Tree) × (length us ≡ suc n) × (shapes us ≡ 1 ∷ s)
    go x = two x.0 x.1 x.2
exact_trees (suc (suc b) ∷ s) n h = absurd h

-- Bytes are a tree's shape just when they are exact, and the tree is the one that is read.
pub exact_shape : (s : List ℕ) → Exact s 1 ↔ (shape (read_shape s) ≡ s)
exact_shape s = (
  (λ h. go (exact_trees s 1 h)),
  λ e. subst (λ (x : List ℕ). Exact x 1) e (shape_exact (read_shape s)),
)
  where
    one : (ts : List Tree) → length ts ≡ 1 → shapes ts ≡ s → shape (read_shape s) ≡ s
    one [] e p = absurd (omega arith)
    one (t ∷ []) e p =
        let q : shape t ≡ s = sym (append-nil (shape t)) ∙ p in
        shape (read_shape s) ≡⟨ ap (λ (x : List ℕ). shape (read_shape x)) (sym q) ⟩
        shape (read_shape (shape t)) ≡⟨ ap shape (shape_read t) ⟩
        shape t ≡⟨ q ⟩
        s ∎
    one (t ∷ (u ∷ ts)) e p = absurd (omega arith)

    go : (ts : List Tree) × (length ts ≡ 1) × (shapes ts ≡ s) → shape (read_shape s) ≡ s
    go x = one x.0 x.1 x.2
