-- The five labels of carets from caret 1 on (02, [5]; 001, section 2): by the request's sentences (`IsLabel`), and as
-- they are worked out from the kinds (`labels`), so that both share one reading of the tree. That these are the same is
-- claimed apart from this.
--     IsLabel t k x   caret k has the label x
--     labels t        the labels of the carets 1, 2, … of a tree, from left to right
-- Assumes nothing.
use Rattle.std.specs.Prelude.{List, [], ◌∷◌, ◌++◌, ℕ, suc, ◌<◌}
use Rattle.group.specs.Points.{𝟏}
use Rattle.trees.specs.Trees.{Tree, caret, Address, IsCaret, Subtree}
use Rattle.lengths.specs.Kinds.{Kind, L0, LL, RI, RN, R0, I0, IR, IsOnLeft, IsOnRight, Interior, kinds}

-- I, N, L, R and X as below, in the order of Table 1.
pub data Label : Type 0 where
  'I 'N 'L 'R 'X : Label

-- The right child of caret k is a caret.
abbrev pub RightCaret : Tree → ℕ → Type 0
RightCaret t k = (v : Address) × IsCaret t k v × ((l r : Tree) × Subtree t (v ++ (𝟏 ∷ [])) (caret l r))

-- Caret k of the tree has the label.
abbrev pub IsLabel : Tree → ℕ → Label → Type 0
-- a left caret, the root included
IsLabel t k 'L = (0 < k) × IsOnLeft t k
-- a right caret whose next caret is interior
IsLabel t k 'X = (0 < k) × IsOnRight t k × Interior t (suc k)
-- any other right caret
IsLabel t k 'R = (0 < k) × IsOnRight t k × (Interior t (suc k) → ⊥)
-- an interior caret with a caret as right child
IsLabel t k 'N = (0 < k) × Interior t k × RightCaret t k
-- any other interior caret
IsLabel t k 'I = (0 < k) × Interior t k × (RightCaret t k → ⊥)

-- The label of a caret, by its kind. Caret 0 has no column; it is on the left side.
abbrev pub label_of : Kind → Label
label_of L0 = 'L
label_of LL = 'L
label_of RI = 'X
label_of RN = 'R
label_of R0 = 'R
label_of I0 = 'I
label_of IR = 'N

-- The labels of carets by their kinds.
abbrev pub labels_of : List Kind → List Label
labels_of [] = []
labels_of (k ∷ ks) = label_of k ∷ labels_of ks

-- All kinds but the first, which is that of caret 0.
abbrev pub behind_first : List Kind → List Kind
behind_first [] = []
behind_first (k ∷ ks) = ks

-- The labels of the carets of a tree from caret 1 on.
abbrev pub labels : Tree → List Label
labels t = labels_of (behind_first (kinds t))
