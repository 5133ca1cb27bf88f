-- The seven kinds of carets: by 01's sentences (`IsKind`), and as they are worked out from the classes (`kinds`). That
-- these are the same is claimed apart from this.
--     Interior t k   caret k is neither on the left nor on the right side        IsKind t k x   caret k is of kind x
--     kinds t        the kinds of the carets, from left to right
-- Assumes nothing.
use Rattle.std.specs.Prelude.{◌≡◌, Bool, true, false, List, [], ◌∷◌, ◌++◌, ℕ, suc, ◌<◌}
use Rattle.group.specs.Points.{𝟏}
use Rattle.trees.specs.Trees.{Tree, leaf, Address, IsCaret, Subtree, LeftSide, RightSide}
use Rattle.lengths.specs.Classes.{Class, on_left, on_right, inside_leaf, inside_caret, classes}

-- L0, the caret 0; LL, RI, RN, R0, I0 and IR as below.
pub data Kind : Type 0 where
  L0 LL RI RN R0 I0 IR : Kind

-- Caret k is on the left side: the root, or reached from it by left edges only.
abbrev pub IsOnLeft : Tree → ℕ → Type 0
IsOnLeft t k = (v : Address) × IsCaret t k v × LeftSide v

-- Caret k is on the right side, which leaves out the root.
abbrev pub IsOnRight : Tree → ℕ → Type 0
IsOnRight t k = (v : Address) × IsCaret t k v × RightSide v × (v ≡ [] → ⊥)

-- Every other caret is interior.
abbrev pub Interior : Tree → ℕ → Type 0
Interior t k = (v : Address) × IsCaret t k v × (LeftSide v → ⊥) × (RightSide v → ⊥)

-- The right child of caret k is a leaf.
abbrev pub RightLeaf : Tree → ℕ → Type 0
RightLeaf t k = (v : Address) × IsCaret t k v × Subtree t (v ++ (𝟏 ∷ [])) leaf

-- Caret k of the tree is of the kind.
abbrev pub IsKind : Tree → ℕ → Kind → Type 0
-- caret 0
IsKind t k L0 = (k ≡ 0) × ((v : Address) × IsCaret t k v)
-- any other caret on the left side, the root included
IsKind t k LL = (0 < k) × IsOnLeft t k
-- on the right side, and the next caret is interior
IsKind t k RI = (0 < k) × IsOnRight t k × Interior t (suc k)
-- on the right side, not RI, some later caret interior
IsKind t k RN = (0 < k) × IsOnRight t k × (Interior t (suc k) → ⊥) × ((j : ℕ) × (k < j) × Interior t j)
-- on the right side, no later caret interior
IsKind t k R0 = (0 < k) × IsOnRight t k × ((j : ℕ) → k < j → Interior t j → ⊥)
-- interior with a leaf as right child
IsKind t k I0 = (0 < k) × Interior t k × RightLeaf t k
-- any other interior caret
IsKind t k IR = (0 < k) × Interior t k × (RightLeaf t k → ⊥)

-- The class is that of an interior caret.
abbrev pub inside : Class → Bool
inside on_left = false
inside on_right = false
inside inside_leaf = true
inside inside_caret = true

-- The first of the classes is interior.
abbrev pub next_inside : List Class → Bool
next_inside [] = false
next_inside (c ∷ cs) = inside c

-- One of two tests.
abbrev pub either : Bool → Bool → Bool
either true q = true
either false q = q

-- Some of the classes is interior.
abbrev pub some_inside_value : List Class → Bool
some_inside_value [] = false
some_inside_value (c ∷ cs) = either (inside c) (some_inside_value cs)

-- The kind of a caret of the right side: whether the next is interior, and whether some later one is.
abbrev pub right_kind : (next later : Bool) → Kind
right_kind true later = RI
right_kind false true = RN
right_kind false false = R0

-- The kind of a caret behind caret 0, by its class and by what comes behind it.
abbrev pub kind_of : Class → (next later : Bool) → Kind
kind_of on_left next later = LL
kind_of on_right next later = right_kind next later
kind_of inside_leaf next later = I0
kind_of inside_caret next later = IR

-- The kinds of carets behind caret 0.
abbrev pub later_kinds : List Class → List Kind
later_kinds [] = []
later_kinds (c ∷ cs) = kind_of c (next_inside cs) (some_inside_value cs) ∷ later_kinds cs

-- The kinds of all carets, by their classes: caret 0 is L0.
abbrev pub kinds_of : List Class → List Kind
kinds_of [] = []
kinds_of (c ∷ cs) = L0 ∷ later_kinds cs

-- The kinds of the carets of a tree.
abbrev pub kinds : Tree → List Kind
kinds t = kinds_of (classes t)
