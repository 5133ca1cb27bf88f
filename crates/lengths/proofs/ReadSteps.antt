-- The steps of the reader of shapes: one node of an interior subtree.
--     drop_node      the bytes from a node on: its byte, and the others
--     node_opens, node-closes, node-inside   what one node does
-- Assumes nothing.
use mathlib.Core.Path.{◌≡◌, refl, sym, ap, ◌∙◌, subst}
use mathlib.Core.List.{List, [], ◌∷◌}
use Prim.Native.Nat.{ℕ, zero, suc, ◌+◌, ◌-◌, ◌<◌, ◌≤◌}
use native.Mathlib.Numerals.{add-one}
use native.Mathlib.Omega.{arith}
use native.Mathlib.Decide.{dec_lt}
use lib.ListN.{length, drop, get_or, set, drop_of_length-le}
use lib.Seq.{drop-cons, drop-set-lt}
use Rattle.lists.specs.inside.Writes.{Writing}
use Rattle.lists.proofs.Writes.{write_start, write_more, writing_same}
use Rattle.trees.specs.Pairs.{max_carets}
use Rattle.trees.specs.inside.ShapeReading.{Exact}
use Rattle.lengths.specs.declared.reader.Amid.{Amid}
use Rattle.lengths.specs.Classes.{Class}
use Rattle.lengths.specs.inside.Reading.{inside_at, classes_from, next_on_side, pending_classes}
use Rattle.lengths.specs.inside.Steps.{class_byte, class_bytes, leaves_in, after_due, Readable, NodeReady, NodeRead}

-- The shapes of n trees have n leaves or more, and a byte.
pub exact_leaves : (s : List ℕ) (n : ℕ) → Exact s n → n ≤ leaves_in s
exact_leaves [] zero x = omega arith
exact_leaves [] (suc n) x = absurd x
exact_leaves (zero ∷ s) zero x = absurd x
exact_leaves (zero ∷ s) (suc n) x = omega (arith, exact_leaves s n x)
exact_leaves (suc zero ∷ s) zero x = absurd x
exact_leaves (suc zero ∷ s) (suc n) x = omega (arith, exact_leaves s (suc (suc n)) x)
exact_leaves (suc (suc b) ∷ s) n x = absurd x

exact_length : (s : List ℕ) (n : ℕ) → 0 < n → Exact s n → 0 < length s
exact_length [] zero h x = absurd (omega arith)
exact_length [] (suc n) h x = absurd x
exact_length (b ∷ s) n h x = omega arith

-- A node is there.
pub exact_node : (s : List ℕ) (at n : ℕ) → 0 < n → Exact (drop at s) n → at < length s
exact_node s at n h x = go (dec_lt at (length s))
  where
    go : Dec (at < length s) → at < length s
    go (yes k) = k
    go (no k) =
        let behind : length s ≤ at = omega arith in
        let none : drop at s ≡ [] = drop_of_length-le s behind in
        absurd (omega (arith, exact_length (drop at s) n h x, ap length none))

pub drop_node : (s : List ℕ) (at : ℕ) → at < length s → drop at s ≡ get_or s at 0 ∷ drop (at + 1) s
drop_node s at h = rw (add-one at) (drop-cons s at 0 h)

-- A byte is 1 or 0; the class of an interior caret follows from the first byte of its right subtree.
exact_class : (b n : ℕ) (s : List ℕ) → Exact (b ∷ s) n → (b ≤ 1) × (2 + b ≡ class_byte (inside_at b))
exact_class zero n s x = (omega arith, refl)
exact_class (suc zero) n s x = (omega arith, refl)
exact_class (suc (suc b)) n s x = absurd x

-- A byte that is no caret is a leaf.
pub exact_zero : (b n : ℕ) (s : List ℕ) → Exact (b ∷ s) n → (b ≡ 1 → ⊥) → b ≡ 0
exact_zero zero n s x h = refl
exact_zero (suc zero) n s x h = absurd (h refl)
exact_zero (suc (suc b)) n s x h = absurd x

-- A caret opens a subtree more, a leaf closes one.
pub exact_caret : (s : List ℕ) (n k : ℕ) → k ≡ suc n → Exact (1 ∷ s) n → Exact s k
exact_caret s zero k e x = absurd x
exact_caret s (suc n) k e x = subst (λ (j : ℕ). Exact s j) (sym e) x

exact_leaf : (s : List ℕ) (n k : ℕ) → n ≡ suc k → Exact (0 ∷ s) n → Exact s k
exact_leaf s zero k e x = absurd x
exact_leaf s (suc n) k e x =
    let same : n ≡ k = omega arith in
    subst (λ (j : ℕ). Exact s j) same x

pending_caret : (s : List ℕ) (o l : ℕ) → 0 < o → pending_classes (1 ∷ s) o l ≡ pending_classes s (o + 1) l
unfolding classes_from
pending_caret s zero l h = absurd (omega arith)
pending_caret s (suc o) l h = rw (add-one (suc o)) refl

pending_last : (s : List ℕ) (l : ℕ) → pending_classes (0 ∷ s) 1 l ≡ next_on_side s l
unfolding classes_from
pending_last s zero = refl
pending_last s (suc zero) = refl
pending_last s (suc (suc l)) = refl

pending_leaf : (s : List ℕ) (o l : ℕ) → 1 < o
    → pending_classes (0 ∷ s) o l ≡ inside_at (get_or s 0 0) ∷ pending_classes s (o - 1) l
unfolding classes_from
pending_leaf s zero l h = absurd (omega arith)
pending_leaf s (suc zero) l h = absurd (omega arith)
pending_leaf s (suc (suc o)) l h = let e : suc (suc o) - 1 ≡ suc o = omega arith in rw e refl

pub due_some : (o caret : ℕ) → 0 < o → after_due o caret ≡ caret
due_some zero caret h = absurd (omega arith)
due_some (suc o) caret h = refl

two_of : (o : ℕ) → 0 < o → (o ≡ 1 → ⊥) → 1 < o
two_of zero h f = absurd (omega arith)
two_of (suc zero) h f = absurd (f refl)
two_of (suc (suc o)) h f = omega arith

pub two_pending : {o : ℕ} → 0 < o → (o ≡ 1 → ⊥) → 1 < o
two_pending {o} h f = two_of o h f

-- What is left behind a caret, or behind a leaf.
module _ {shape : List ℕ} {at trees caret : ℕ} (h : Readable shape at trees caret) (some : 0 < trees) where
  pub node_there : at < length shape
  node_there = exact_node shape at trees some h.exact

  pub node_is : (b : ℕ) → get_or shape at 0 ≡ b → drop at shape ≡ b ∷ drop (at + 1) shape
  node_is b e = drop_node shape at node_there ∙ ap (λ (x : ℕ). x ∷ drop (at + 1) shape) e

  pub node_zero : (get_or shape at 0 ≡ 1 → ⊥) → get_or shape at 0 ≡ 0
  node_zero not-one =
      exact_zero (get_or shape at 0) trees (drop (at + 1) shape)
      (subst (λ (s : List ℕ). Exact s trees) (drop_node shape at node_there) h.exact) not-one

  pub behind_caret : (k : ℕ) → get_or shape at 0 ≡ 1 → k ≡ suc trees → Readable shape (at + 1) k caret
  behind_caret k e n =
      let same : leaves_in (drop at shape) ≡ leaves_in (drop (at + 1) shape) = ap leaves_in (node_is 1 e) in
      record {
        exact =
            exact_caret (drop (at + 1) shape) trees k n
            (subst (λ (s : List ℕ). Exact s trees) (node_is 1 e) h.exact);
        behind = omega (arith, h.behind);
        small = omega (arith, same, h.small);
      }

  pub behind_leaf : (k : ℕ) → get_or shape at 0 ≡ 0 → trees ≡ suc k → Readable shape (at + 1) k (suc caret)
  behind_leaf k e n =
      let same : leaves_in (drop at shape) ≡ suc (leaves_in (drop (at + 1) shape)) = ap leaves_in (node_is 0 e) in
      record {
        exact =
            exact_leaf (drop (at + 1) shape) trees k n
            (subst (λ (s : List ℕ). Exact s trees) (node_is 0 e) h.exact);
        behind = omega (arith, h.behind);
        small = omega (arith, same, h.small);
      }

-- A class is written over no node to come.
pub over_read : {shape : List ℕ} {at trees caret : ℕ} (b : ℕ) → Readable shape at trees (suc caret)
    → Readable (set shape caret b) at trees (suc caret)
over_read {shape} {at} {trees} {caret} b h =
    let same : drop at (set shape caret b) ≡ drop at shape = drop-set-lt at shape caret b h.behind in
    record { exact = rw same h.exact; behind = h.behind; small = rw same h.small }

-- One node of an interior subtree.
module _ {shape : List ℕ} {at caret pending : ℕ} (r : NodeReady shape at caret pending) where
  some_trees : (more : ℕ) → 0 < pending + suc more
  some_trees more = omega arith

  node_bytes : (b : ℕ) → get_or shape at 0 ≡ b → drop at shape ≡ b ∷ drop (at + 1) shape
  node_bytes b e = node_is r.readable (some_trees r.more) b e

  -- The subtrees to come are fewer than the leaves of the largest tree.
  pub pending_bound : pending ≤ max_carets
  pending_bound =
      omega (arith, exact_leaves (drop at shape) (pending + suc r.more) r.readable.exact, r.readable.small)

  -- The classes that are left are read off the bytes behind.
  left_classes_lem : (b : ℕ) → get_or shape at 0 ≡ b → (l : ℕ) (cs : List Class)
      → pending_classes (b ∷ drop (at + 1) shape) pending l ≡ cs
      → Writing (class_bytes cs) shape caret (class_bytes (pending_classes (drop at shape) pending l)) shape caret
  left_classes_lem b e l cs same =
      writing_same
      (ap (λ (s : List ℕ). class_bytes (pending_classes s pending l)) (node_bytes b e) ∙ ap class_bytes same)
      (write_start (class_bytes (pending_classes (drop at shape) pending l)) shape caret)

  -- A caret.
  pub node_opens : (x : Amid) → get_or shape at 0 ≡ 1 → x.pending ≡ pending + 1 → x.caret.0 ≡ caret
      → NodeRead shape at caret pending shape x
  node_opens x e ep ec = rw (ep, ec) (record {
    writing = λ l.
        left_classes_lem 1 e l (pending_classes (drop (at + 1) shape) (pending + 1) l)
        (pending_caret (drop (at + 1) shape) pending l r.some);
    left = λ more h.
        rw (due_some (pending + 1) caret (omega arith))
        (behind_caret h (some_trees more) (pending + 1 + suc more) e (omega arith));
  })

  -- The last leaf of the subtree.
  pub node_closes : (x : Amid) → get_or shape at 0 ≡ 0 → pending ≡ 1 → x.pending ≡ 0 → x.caret.0 ≡ caret
      → NodeRead shape at caret pending shape x
  node_closes x e one ep ec = rw (ep, ec) (record {
    writing = λ l.
        left_classes_lem 0 e l (next_on_side (drop (at + 1) shape) l)
        (ap (λ (o : ℕ). pending_classes (0 ∷ drop (at + 1) shape) o l) one ∙ pending_last (drop (at + 1) shape) l);
    left = λ more h. behind_leaf h (some_trees more) (0 + suc more) e (omega arith);
  })

  -- A leaf before the last: the next caret is interior, and there is room for it.
  module _ (e : get_or shape at 0 ≡ 0) (many : 1 < pending) where
    next_ready : Readable shape (at + 1) (pending - 1 + suc r.more) (suc caret)
    next_ready = behind_leaf r.readable (some_trees r.more) (pending - 1 + suc r.more) e (omega arith)

    pub next_there : at + 1 < length shape
    next_there = node_there next_ready (omega arith)

    pub class_room : caret < length shape
    class_room = omega (arith, next_ready.behind, next_there)

    next_byte : (get_or shape (at + 1) 0 ≤ 1) × (2 + get_or shape (at + 1) 0 ≡ class_byte (inside_at (get_or shape (at + 1) 0)))
    next_byte =
        exact_class (get_or shape (at + 1) 0) (pending - 1 + suc r.more) (drop (at + 1 + 1) shape)
        (subst (λ (s : List ℕ). Exact s (pending - 1 + suc r.more)) (drop_node shape (at + 1) next_there)
        next_ready.exact)

    pub class_fits : 2 + get_or shape (at + 1) 0 < 256
    class_fits = omega (arith, next_byte.0)

    pub node_inside : (x : Amid) → x.pending ≡ pending - 1 → x.caret.0 ≡ caret + 1
        → NodeRead shape at caret pending (set shape caret (2 + get_or shape (at + 1) 0)) x
    node_inside x ep ek = rw (ep, ek) (record {
      writing = λ l.
          rw unread
          (write_more {a = class_byte (inside_at (get_or shape (at + 1) 0)) ∷ []}
          (record { ends = refl; holds = ap (λ (b : ℕ). set shape caret b) next_byte.1 })
          (left_classes_lem 0 e l
          (inside_at (get_or shape (at + 1) 0) ∷ pending_classes (drop (at + 1) shape) (pending - 1) l)
          (pending_leaf (drop (at + 1) shape) pending l many
          ∙ ap (λ (b : ℕ). inside_at b ∷ pending_classes (drop (at + 1) shape) (pending - 1) l) first_byte)));
      left = λ more h.
          rw (due_some (pending - 1) (caret + 1) (omega arith), add-one caret)
          (over_read (2 + get_or shape (at + 1) 0)
          (behind_leaf h (some_trees more) (pending - 1 + suc more) e (omega arith)));
    })
      where
        unread : drop (at + 1) (set shape caret (2 + get_or shape (at + 1) 0)) ≡ drop (at + 1) shape
        unread = drop-set-lt (at + 1) shape caret (2 + get_or shape (at + 1) 0) (omega (arith, r.readable.behind))

        first_byte : get_or (drop (at + 1) shape) 0 0 ≡ get_or shape (at + 1) 0
        first_byte = ap (λ (s : List ℕ). get_or s 0 0) (drop_node shape (at + 1) next_there)
