-- The picture of a tree pair as an SVG text. The leaves of a tree stand on the line y = 0, leaf k at x = 32k; the apex
-- of a caret over the leaves i to j is at x = 16(i + j) and 16(j - i) above the line, and its kind stands below it.
--     carets_svg ss ks   carets by their spans and kinds       leaves_svg k n   n leaves, from leaf k on
--     tree_svg x t name  a tree, moved to the right by x       svg_of t s len   the picture of a pair
-- Assumes nothing.
use Rattle.std.specs.Prelude.{List, [], ◌∷◌, ◌++◌, ℕ, zero, suc, ◌+◌, ◌*◌}
use Rattle.numerals.specs.Decimals.{ascii}
use Rattle.trees.specs.Trees.{Tree, carets}
use Rattle.lengths.specs.Kinds.{Kind, kinds}
use Rattle.pictures.specs.Spans.{Span, width, spans}
use Rattle.pictures.specs.Texts.{filled, kind_name}

-- The place of leaf k.
abbrev pub leaf_x : ℕ → ℕ
leaf_x k = 32 * k

-- The place of an apex, and its height above the leaves.
abbrev pub apex_x : Span → ℕ
apex_x s = 16 * (s.first + s.last)

abbrev pub apex_height : Span → ℕ
apex_height s = 16 * width s

-- The text of a caret up to its kind, and the numbers in it.
abbrev pub caret_text : List ℕ
caret_text = ascii "<path fill='none' stroke='#000' d='M~ 0 ~ -~ ~ 0'/><text x='~' y='-~' dy='14'>"

abbrev pub caret_numbers : Span → List ℕ
caret_numbers s = leaf_x s.first ∷ apex_x s ∷ apex_height s ∷ leaf_x s.last ∷ apex_x s ∷ apex_height s ∷ []

-- A caret and its kind: the path from its first leaf to its apex to its last leaf, and the name below the apex.
unfoldable pub caret_svg : Span → Kind → List ℕ
caret_svg s k = filled caret_text (caret_numbers s) ++ (kind_name k ++ ascii "</text>\n")

-- Carets and their kinds, and the end of their group.
abbrev pub carets_svg : List Span → List Kind → List ℕ
carets_svg [] ks = ascii "</g>\n"
carets_svg (s ∷ ss) [] = ascii "</g>\n"
carets_svg (s ∷ ss) (k ∷ ks) = caret_svg s k ++ carets_svg ss ks

-- The number of a leaf.
unfoldable pub leaf_svg : ℕ → List ℕ
leaf_svg k = filled (ascii "<text x='~'>~</text>\n") (leaf_x k ∷ k ∷ [])

-- The numbers of n leaves, from leaf k on, and the end of their group.
abbrev pub leaves_svg : (k n : ℕ) → List ℕ
leaves_svg k zero = ascii "</g>\n"
leaves_svg k (suc n) = leaf_svg k ++ leaves_svg (suc k) n

-- Carets, moved to the right by x.
unfoldable pub caret_group : (x : ℕ) → List Span → List Kind → List ℕ
caret_group x ss ks = filled (ascii "<g font-size='8' transform='translate(~)'>\n") (x ∷ []) ++ carets_svg ss ks

-- The numbers of n + 1 leaves, below these and moved to the right by x.
unfoldable pub leaf_group : (x n : ℕ) → List ℕ
leaf_group x n =
    filled (ascii "<g font-size='10' fill='#666' transform='translate(~ 14)'>\n") (x ∷ []) ++ leaves_svg 0 (suc n)

-- A name at x, below the leaves.
unfoldable pub name_svg : ℕ → List ℕ → List ℕ
name_svg x name = filled (ascii "<text font-size='16' y='44' x='~'>") (x ∷ []) ++ (name ++ ascii "</text>\n")

-- Spans with their kinds, n + 1 leaves and a name, moved to the right by x.
unfoldable pub spans_svg : (x n : ℕ) → List Span → List Kind → (name : List ℕ) → List ℕ
spans_svg x n ss ks name = caret_group x ss ks ++ (leaf_group x n ++ name_svg (x + 16 * n) name)

-- A tree and its name, moved to the right by x.
abbrev pub tree_svg : (x : ℕ) → Tree → (name : List ℕ) → List ℕ
tree_svg x t name = spans_svg x (carets t) (spans t) (kinds t) name

-- The width and the height of the picture of a pair with n carets, and its height above the leaves.
abbrev pub wide : ℕ → ℕ
wide n = 64 * n + 128

abbrev pub high : ℕ → ℕ
high n = 16 * n + 120

abbrev pub top : ℕ → ℕ
top n = 16 * n + 24

-- The start of the picture, on a white ground.
unfoldable pub head_svg : ℕ → List ℕ
head_svg n =
    ascii "<svg xmlns='http://www.w3.org/2000/svg' font-family='sans-serif' text-anchor='middle'"
    ++ filled
    (ascii " width='~' height='~' viewBox='-32 -~ ~ ~'>\n"
    ++ ascii "<rect x='-32' y='-~' width='100%' height='100%' fill='#fff'/>\n")
    (wide n ∷ high n ∷ top n ∷ wide n ∷ high n ∷ top n ∷ [])

-- The numbers of the pair, and the end of the picture.
unfoldable pub foot_svg : (n length : ℕ) → List ℕ
foot_svg n length =
    filled (ascii "<text font-size='14' y='76' x='~'>N = ~, length = ~</text>\n</svg>\n")
    ((32 * n + 32) ∷ n ∷ length ∷ [])

-- The picture of the pair of T- and T+ with a length: T- at the left, T+ at the right.
unfoldable pub svg_of : (t s : Tree) (length : ℕ) → List ℕ
svg_of t s length =
    head_svg (carets t)
    ++ (tree_svg 0 t (ascii "T&#8722;")
    ++ (tree_svg (32 * carets t + 64) s (ascii "T+") ++ foot_svg (carets t) length))
