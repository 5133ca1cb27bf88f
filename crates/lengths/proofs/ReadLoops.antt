-- The loop over the nodes of an interior subtree.
--     Amidst         amid the nodes of an interior subtree
-- Assumes nothing.
use mathlib.Core.Path.{◌≡◌, refl, subst}
use mathlib.Core.List.{List}
use Prim.Native.Nat.{ℕ, suc, ◌+◌, ◌<◌, ◌≤◌}
use native.Mathlib.Omega.{arith}
use lib.ListN.{drop}
use Rattle.lists.specs.inside.Writes.{Writing}
use Rattle.lists.proofs.Writes.{write_start, writing_then}
use Rattle.lengths.specs.declared.reader.Amid.{Amid}
use Rattle.lengths.specs.declared.reader.Place.{Place}
use Rattle.lengths.specs.inside.Reading.{classes_from, pending_classes}
use Rattle.lengths.specs.inside.Steps.{class_bytes, after_due}
use Rattle.lengths.specs.inside.Steps.{Readable, Hanging, NodeReady, NodeRead, SubtreeRead}
use Rattle.lengths.proofs.ReadSteps.{due_some}

pub record Amidst (entry : List ℕ) (at₀ caret₀ : ℕ) (p k pending : ℕ) (now : List ℕ) : Type 0 where
  pub writing : (l : ℕ)
      → Writing (class_bytes (pending_classes (drop p now) pending l)) now k
      (class_bytes (classes_from (drop at₀ entry) 1 l)) entry caret₀
  pub left : (more : ℕ) → Readable entry at₀ (suc (suc more)) caret₀
      → Readable now p (pending + suc more) (after_due pending k)
  pub on : at₀ ≤ p
  pub past : pending ≡ 0 → at₀ < p

-- The number of trees by another name.
pub as_many : {shape : List ℕ} {at m n caret : ℕ} → m ≡ n → Readable shape at m caret → Readable shape at n caret
as_many {shape} {at} {m} {n} {caret} e h = subst (λ (k : ℕ). Readable shape at k caret) e h

pub amidst_start : (shape : List ℕ) (at caret : ℕ) → Amidst shape at caret at caret 1 shape
amidst_start shape at caret = record {
  writing = λ l. write_start (class_bytes (classes_from (drop at shape) 1 l)) shape caret;
  left = λ more h. as_many (omega arith) h;
  on = omega arith;
  past = λ e. absurd (omega arith);
}

module _ {entry : List ℕ} {at₀ caret₀ p k pending : ℕ} {now : List ℕ}
    (a : Amidst entry at₀ caret₀ p k pending now) where
  -- The next node can be read.
  pub amidst_ready : Hanging entry at₀ caret₀ → 0 < pending → NodeReady now p k pending
  amidst_ready h some = record {
    some = some;
    more = h.more;
    readable =
        subst (λ (j : ℕ). Readable now p (pending + suc h.more) j) (due_some pending k some)
        (a.left h.more h.readable);
  }

  -- One node more.
  pub amidst_more : {now' : List ℕ} {x : Amid} → 0 < pending → NodeRead now p k pending now' x
      → Amidst entry at₀ caret₀ (p + 1) x.caret.0 x.pending now'
  amidst_more {now'} {x} some n = record {
    writing = λ l. writing_then (n.writing l) (a.writing l);
    left = λ more h.
        n.left more
        (subst (λ (j : ℕ). Readable now p (pending + suc more) j) (due_some pending k some) (a.left more h));
    on = omega (arith, a.on);
    past = λ e. omega (arith, a.on);
  }

-- The subtree ends.
pub amidst_done : {entry : List ℕ} {at₀ caret₀ p k pending : ℕ} {now : List ℕ} {x : Place}
    → Amidst entry at₀ caret₀ p k pending now → pending ≡ 0 → x.at ≡ p → x.caret.0 ≡ k
    → SubtreeRead entry at₀ caret₀ now x
amidst_done {entry} {at₀} {caret₀} {p} {k} {pending} {now} {x} a z ep ek = rw (ep, ek) (go (subst Loop z a))
  where
    Loop : ℕ → Type 0
    Loop o = Amidst entry at₀ caret₀ p k o now

    go : Loop 0 → SubtreeRead entry at₀ caret₀ now (record { at = p; caret = record { 0 = k } })
    go b = record { writing = b.writing; left = λ more h. as_many (omega arith) (b.left more h); on = b.past refl }
