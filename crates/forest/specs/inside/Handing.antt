-- What the functions of `handing` promise: the row of powers on the stack is read off into own tables, and these are
-- handed over to the lent ones. Assumes nothing.
use Rattle.std.specs.Prelude.{◌≡◌, List, ℕ, suc, ◌≤◌, ◌<◌, length, get_or, Result}
use Rattle.refusals.specs.declared.Failure.{Failure}
use Rattle.group.specs.Forms.{b_side, a_side, exponent, levels}
use Rattle.group.specs.Limits.{limit}
use Rattle.group.specs.Powers.{SignedPower}
use Rattle.forest.specs.Filling.{product_form, tables_for}
use Rattle.forest.specs.inside.Filling.{cells}
use Rattle.forest.specs.inside.FillingPowers.{FilledAs}
use Rattle.forest.specs.inside.Forest.{Bush, forest_tips}
use Rattle.forest.specs.inside.Cells.{StackStands}
use Rattle.forest.specs.inside.Cursor.{cursor_bushes, cursor_of, IndicesWithin}

-- Two own tables show the form of the powers up to the limit; the height tells whether a higher index occurs.
pub record Shown (ps : List SignedPower) (read height : ℕ) (b a : List ℕ) : Type 0 where
  pub b_shown : (i : ℕ) → i < suc limit → get_or b i 0 ≡ exponent b_side (product_form ps) i
  pub a_shown : (i : ℕ) → i < suc limit → get_or a i 0 ≡ exponent a_side (product_form ps) i
  pub low : height ≡ 0 → levels (product_form ps) ≤ read
  pub high : (height ≡ 0 → ⊥) → suc limit < levels (product_form ps)
  pub within : read ≤ suc limit

-- Powers that the own tables show are handed over.
abbrev pub HandedOver : (read height : ℕ) (ob oa b a b' a' : List ℕ) → Result ℕ Failure → Type 0
HandedOver read height ob oa b a b' a' r =
    (ps : List SignedPower) → Shown ps read height ob oa → FilledAs (tables_for (length b) (length a) ps) b a b' a' r

-- The stack stands for bushes and has room for all their tips.
pub record PileReady (lefts rights stack : List ℕ) (height : ℕ) : Type 0 where
  pub lefts_length : cells ≤ length lefts
  pub rights_length : cells ≤ length rights
  pub bushes : List Bush
  pub stack_stands : StackStands limit lefts rights cells bushes stack height
  pub few : forest_tips bushes ≤ length stack

-- Powers whose row stands on the stack are read off and handed over.
abbrev pub PileRead : (lefts rights stack : List ℕ) (height : ℕ) (b a b' a' : List ℕ) → Result ℕ Failure → Type 0
PileRead lefts rights stack height b a b' a' r =
    (ps : List SignedPower)
    → IndicesWithin limit ps
    → StackStands limit lefts rights cells (cursor_bushes (cursor_of ps)) stack height
    → FilledAs (tables_for (length b) (length a) ps) b a b' a' r
