-- The labels that are worked out are those of the sentences of 02, [5].
--     label_at_lem      caret k + 1 has the label x just when entry k of the labels is x
--     one_label     each caret from caret 1 on has exactly one label
--     label_later   the label does not depend on whether some later caret is interior
-- Assumes nothing.
use mathlib.Core.Path.{◌≡◌, refl, subst}
use mathlib.Core.Bool.{Bool, true, false}
use mathlib.Core.List.{List, [], ◌∷◌, ◌++◌}
use mathlib.Core.Logic.{◌↔◌}
use Prim.Native.Nat.{ℕ, zero, suc, ◌<◌}
use native.Mathlib.Omega.{arith}
use lib.Dec.{T}
use lib.ListN.{length}
use Rattle.lists.specs.Entries.{At}
use Rattle.lists.proofs.Entries.{at_bound, at_same}
use Rattle.group.specs.Points.{𝟏}
use Rattle.trees.specs.Trees.{Tree, leaf, caret, carets, Address, IsCaret, Subtree}
use Rattle.lengths.specs.Classes.{Class, on_left, on_right, inside_leaf, inside_caret}
use Rattle.lengths.specs.Kinds.{Kind, L0, LL, RI, RN, R0, I0, IR, RightLeaf, IsKind, right_kind, kind_of, kinds}
use Rattle.lengths.specs.Labels.{
  Label,
  'I,
  'N,
  'L,
  'R,
  'X,
  RightCaret,
  IsLabel,
  label_of,
  labels_of,
  behind_first,
  labels,
}
use Rattle.lengths.proofs.CaretClasses.{child_of, right_caret}
use Rattle.lengths.proofs.CaretKinds.{kinds_numbered, next, next_is, some, later_entry, kind_at, one_kind}

-- Whether some later caret is interior does not change the label.
pub label_later : (c : Class) (p q u : Bool) → label_of (kind_of c p q) ≡ label_of (kind_of c p u)
label_later on_left p q u = refl
label_later on_right true q u = refl
label_later on_right false true true = refl
label_later on_right false true false = refl
label_later on_right false false true = refl
label_later on_right false false false = refl
label_later inside_leaf p q u = refl
label_later inside_caret p q u = refl

-- The right child of a caret is a leaf or a caret.
leaf_or_caret : (t : Tree) (k : ℕ) (v : Address) → IsCaret t k v → (RightCaret t k → ⊥) → RightLeaf t k
leaf_or_caret t k v h other = let x = child_of t k v h in go x.0 x.1
  where
    go : (x : Tree) → Subtree t (v ++ (𝟏 ∷ [])) x → RightLeaf t k
    go leaf s = (v, h, s)
    go (caret l r) s = absurd (other (v, h, (l, r, s)))

caret_or_leaf : (t : Tree) (k : ℕ) (v : Address) → IsCaret t k v → (RightLeaf t k → ⊥) → RightCaret t k
caret_or_leaf t k v h other = let x = child_of t k v h in go x.0 x.1
  where
    go : (x : Tree) → Subtree t (v ++ (𝟏 ∷ [])) x → RightCaret t k
    go leaf s = absurd (other (v, h, s))
    go (caret l r) s = (v, h, (l, r, s))

not_both : (t : Tree) (k : ℕ) → RightCaret t k → RightLeaf t k → ⊥
not_both t k c = right_caret t k c.0 c.2.0 c.2.1 c.1 c.2.2

-- A caret of a kind has its label.
kind_label : (t : Tree) (k : ℕ) (x : Kind) → 0 < k → IsKind t k x → IsLabel t k (label_of x)
kind_label t k L0 pos h = absurd (omega (arith, h.0))
kind_label t k LL pos h = h
kind_label t k RI pos h = h
kind_label t k RN pos h = (pos, h.1, h.2)
kind_label t k R0 pos h = (pos, h.1, h.2 (suc k) (omega arith))
kind_label t k I0 pos h = (pos, h.1, λ c. not_both t k c h.2)
kind_label t k IR pos h = (pos, h.1, caret_or_leaf t k h.1.0 h.1.1 h.2)

-- The entries of the labels are those of the kinds from caret 1 on.
label_entry : (ks : List Kind) (k : ℕ) (x : Kind) → At ks (suc k) x → At (labels_of (behind_first ks)) k (label_of x)
label_entry [] k x h = absurd h
label_entry (y ∷ ks) k x h = go ks k h
  where
    go : (ks : List Kind) (k : ℕ) → At ks k x → At (labels_of ks) k (label_of x)
    go [] k h = absurd h
    go (z ∷ ks) zero h = rw h refl
    go (z ∷ ks) (suc k) h = go ks k h

labels_length : (ks : List Kind) (n : ℕ) → n < length (labels_of (behind_first ks)) → suc n < length ks
labels_length [] n h = absurd (omega arith)
labels_length (k ∷ ks) n h = omega (arith, same ks)
  where
    same : (ks : List Kind) → length (labels_of ks) ≡ length ks
    same [] = refl
    same (k ∷ ks) = omega (arith, same ks)

-- From the sentences to the entry.
by_kind : (t : Tree) (k : ℕ) (x : Kind) → IsKind t (suc k) x → At (labels t) k (label_of x)
by_kind t k x h = label_entry (kinds t) k x ((kind_at t (suc k) x).0 h)

right_label : (p q : Bool) → (T p → ⊥) → label_of (right_kind p q) ≡ 'R
right_label true q h = absurd (h tt)
right_label false q h = label_later on_right false q false

to_entry : (t : Tree) (k : ℕ) (x : Label) → IsLabel t (suc k) x → At (labels t) k x
to_entry t k 'L h = by_kind t k LL h
to_entry t k 'X h = by_kind t k RI h
to_entry t k 'R h =
    let n = suc (suc k) in
    subst (At (labels t) k) (right_label (next t n) (some t n) (λ p. h.2 ((next_is t n).0 p)))
    (label_entry (kinds t) k (right_kind (next t n) (some t n)) (later_entry t k on_right h.1))
to_entry t k 'N h = by_kind t k IR (h.0, h.1, not_both t (suc k) h.2)
to_entry t k 'I h = by_kind t k I0 (h.0, h.1, leaf_or_caret t (suc k) h.1.0 h.1.1 h.2)

-- Caret k + 1 has the label x just when entry k of the labels is x.
pub label_at_lem : (t : Tree) (k : ℕ) (x : Label) → IsLabel t (suc k) x ↔ At (labels t) k x
label_at_lem t k x = (to_entry t k x, back)
  where
    back : At (labels t) k x → IsLabel t (suc k) x
    back h =
        let few = labels_length (kinds t) k (at_bound (labels t) k x h) in
        let y = one_kind t (suc k) (omega (arith, few, kinds_numbered t)) in
        subst (IsLabel t (suc k)) (at_same (labels t) k (label_of y.0) x (by_kind t k y.0 y.1) h)
        (kind_label t (suc k) y.0 (omega arith) y.1)

-- Each caret from caret 1 on has exactly one label.
pub one_label : (t : Tree) (k : ℕ) → 0 < k → k < carets t
    → (x : Label) × IsLabel t k x × ((y : Label) → IsLabel t k y → y ≡ x)
one_label t zero pos h = absurd (omega arith)
one_label t (suc k) pos h =
    let y = one_kind t (suc k) h in
    let x = label_of y.0 in
    let listed = by_kind t k y.0 y.1 in
    (x, kind_label t (suc k) y.0 pos y.1, λ z p. at_same (labels t) k z x (to_entry t k z p) listed)
