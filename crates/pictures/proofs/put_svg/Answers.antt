-- `put_svg` meets its contract: shapes of trees are short enough, and the text is in four pieces. Assumes nothing.
use mathlib.Core.Path.{◌≡◌, sym, ap, ◌∙◌}
use Prim.Native.Nat.{ℕ, ◌+◌, ◌*◌, ◌/◌}
use native.Mathlib.Omega.{arith}
use lib.ListN.{length}
use Rattle.numerals.specs.Decimals.{ascii}
use Rattle.appending.proofs.Appending.{append-then, append_same}
use Rattle.trees.specs.Trees.{carets}
use Rattle.trees.proofs.Shapes.{shape-length}
use Rattle.pictures.specs.Svg.{head_svg, tree_svg, foot_svg, svg_of}
use Rattle.pictures.proofs.put_svg.Goals as goal

pub returns-then-minus-gt-MAX_SHAPE : goal.returns-then-minus-gt-MAX_SHAPE
returns-then-minus-gt-MAX_SHAPE c =
    λ t s e f count few. absurd (omega (arith, shape-length t, shape-length s, ap length e, ap length f))

pub returns : goal.returns
unfolding svg_of
returns c =
    λ t s e f count few.
    let a = c.args in
    let n = length a.minus.now / 2 in
    let n-carets : n ≡ carets t = omega (arith, shape-length t, ap length e) in
    append-then (append_same (ap head_svg n-carets) c.put_head-behind_head.ensures)
    (append-then (c.put_tree-behind_minus.ensures t e (sym n-carets))
    (append-then
    (append_same (ap (λ (k : ℕ). tree_svg (32 * k + 64) s (ascii "T+")) n-carets)
    (c.put_tree-behind_plus.ensures s f (sym count ∙ sym n-carets)))
    (append_same (ap (λ (k : ℕ). foot_svg k a.length) n-carets) c.put_foot.ensures)))
