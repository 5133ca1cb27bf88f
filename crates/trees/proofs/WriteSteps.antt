-- The nodes from a leaf on, leaf by leaf: the steps of the shape writer.
--     own n        the nodes of a leaf: the n carets that begin at it, and itself
--     Pending      the loop over the leaves of an interior subtree
-- Assumes nothing.
use mathlib.Core.Path.{◌≡◌, refl, sym, ap, ◌∙◌, ◌≡⟨◌⟩◌, ◌∎}
use mathlib.Core.List.{List, [], ◌∷◌, ◌++◌, append_assoc}
use Prim.Native.Nat.{ℕ, zero, suc, ◌+◌, ◌-◌, ◌<◌, ◌≤◌}
use native.Mathlib.Nat.{zero-add, add-zero, not-suc-le-zero, le_of_suc-le-suc}
use native.Mathlib.Numerals.{add-one}
use native.Mathlib.Omega.{arith}
use lib.Dec.{lit<}
use lib.ListN.{length, replicate, take, drop, length-take, length-drop, get_or, set, length-append, length-replicate}
use lib.ListN.{length-set}
use lib.ListN.{drop_of_length-le}
use borrow.Rule.Slice.PartMut.{put_mid}
use Rattle.std.proofs.lemmas.Slice.{put_mid-paste}
use Rattle.std.proofs.lemmas.List.Edits.{paste_all, sets-eq}
use lib.Seq.{sets, append_snoc}
use Rattle.lists.specs.inside.Writes.{Wrote, Writing}
use Rattle.lists.proofs.Writes.{sets-append, write_start, write_more, writing_same, writing_length}
use Rattle.lists.proofs.Writes.{wrote_same, write_then}
use Rattle.trees.specs.inside.Writing.{nodes_from}
use Rattle.trees.specs.inside.Steps.{NodesFit, Partly}
use Rattle.trees.specs.declared.writer.Place.{Place}

abbrev pub own : ℕ → List ℕ
own n = replicate n 1 ++ (0 ∷ [])

pub own_length : (n : ℕ) → length (own n) ≡ n + 1
own_length n = length-append (replicate n 1) (0 ∷ []) ∙ ap (λ (k : ℕ). k + 1) (length-replicate n 1)

-- A part of n bytes that was filled with carets.
pub filled_part : (n at : ℕ) (entry part : List ℕ) → at + n ≤ length entry
    → (part ≡ replicate (length (take (at + n - at) (drop at entry))) 1)
    → put_mid at (at + n - at) entry part ≡ sets entry at (replicate n 1)
filled_part n at entry part room is =
    let ones : List ℕ = replicate n 1 in
    let many : length ones ≡ n = length-replicate {A = ℕ} n 1 in
    let size : at + n - at ≡ n = omega arith in
    let whole : length (take (at + n - at) (drop at entry)) ≡ n = simp (length-take, length-drop) (omega arith) in
    put_mid-paste at (at + n - at) entry part ones n (is ∙ ap (λ (k : ℕ). replicate k 1) whole) (sym size) (sym many)
    ∙ paste_all entry at ones n (sym many)
    ∙ ap (λ (k : ℕ). take at entry ++ (ones ++ drop (at + k) entry)) (sym many)
    ∙ sym (append_assoc (take at entry) ones (drop (at + length ones) entry))
    ∙ sym (sets-eq ones entry at (omega (arith, many)))

-- The carets of a leaf were written, then the leaf.
pub own_wrote : (n at : ℕ) (entry mid : List ℕ) → mid ≡ sets entry at (replicate n 1)
    → Wrote (own n) entry at (set mid (at + n) 0) (at + n + 1)
own_wrote n at entry mid e = record {
  ends = omega (arith, own_length n);
  holds =
      let ones : List ℕ = replicate n 1 in
      set mid (at + n) 0
      ≡⟨ ap (λ (l : List ℕ). set l (at + n) 0) e ⟩
      set (sets entry at ones) (at + n) 0
      ≡⟨ ap (λ (k : ℕ). set (sets entry at ones) (at + k) 0) (sym (length-replicate n 1)) ⟩
      set (sets entry at ones) (at + length ones) 0
      ≡⟨ sets-append ones entry at (0 ∷ []) ⟩
      sets entry at (own n) ∎;
}

-- A caret of the right side begins before the subtree that hangs on it.
pub nodes_spine : (e : List ℕ) (k : ℕ) → k < length e → nodes_from (drop k e) 0 ≡ 1 ∷ nodes_from (drop k e) 1
unfolding nodes_from
nodes_spine [] k h = absurd (not-suc-le-zero h)
nodes_spine (x ∷ e) zero h = ap (λ (o : ℕ). 1 ∷ (replicate x 1 ++ (0 ∷ nodes_from e o))) (sym (zero-add x))
nodes_spine (x ∷ e) (suc k) h = nodes_spine e k (le_of_suc-le-suc h)

-- The last leaf.
pub nodes_end : (e : List ℕ) (k : ℕ) → length e ≤ k → nodes_from (drop k e) 0 ≡ own 0
unfolding nodes_from
nodes_end e k h = ap (λ (l : List ℕ). nodes_from l 0) (drop_of_length-le e h)

nodes_next : (e : List ℕ) (k o : ℕ)
    → nodes_from (drop k e) (suc o) ≡ own (get_or e k 0) ++ nodes_from (drop (suc k) e) (o + get_or e k 0)
unfolding nodes_from
nodes_next [] zero o = rw (add-zero o)
nodes_next [] (suc k) o = rw (add-zero o)
nodes_next (x ∷ e) zero o = sym (append_snoc (replicate x 1) 0 (nodes_from e (o + x)))
nodes_next (x ∷ e) (suc k) o = nodes_next e k o

nodes_leaf : (e : List ℕ) (k o : ℕ) → 0 < o
    → nodes_from (drop k e) o ≡ own (get_or e k 0) ++ nodes_from (drop (k + 1) e) (o - 1 + get_or e k 0)
nodes_leaf e k zero h = absurd (omega arith)
nodes_leaf e k (suc o) h = let m : suc o - 1 ≡ o = omega arith in rw (add-one, m) (nodes_next e k o)

-- Each subtree to come has a node, and so has the last leaf.
pending_lt : (e : List ℕ) (o : ℕ) → o < length (nodes_from e o)
unfolding nodes_from
pending_lt [] zero = lit< tt
pending_lt [] (suc o) = omega (arith, pending_lt [] o)
pending_lt (x ∷ e) zero = omega arith
pending_lt (x ∷ e) (suc o) = simp (length-append, length-replicate) (omega (arith, pending_lt e (o + x)))

-- One leaf with its carets, of exponent n: the nodes of what is left behind it.
module _ (e : List ℕ) (k o n : ℕ) (some : 0 < o) (is : n ≡ get_or e k 0) where
  step_nodes : nodes_from (drop k e) o ≡ own n ++ nodes_from (drop (k + 1) e) (o - 1 + n)
  step_nodes = rw is (nodes_leaf e k o some)

  step_length : length (nodes_from (drop k e) o) ≡ n + 1 + length (nodes_from (drop (k + 1) e) (o - 1 + n))
  step_length =
      let rest : List ℕ = nodes_from (drop (k + 1) e) (o - 1 + n) in
      length (nodes_from (drop k e) o) ≡⟨ ap length step_nodes ⟩
      length (own n ++ rest) ≡⟨ length-append (own n) rest ⟩
      length (own n) + length rest ≡⟨ ap (λ (m : ℕ). m + length rest) (own_length n) ⟩
      n + 1 + length rest ∎

-- Amid the leaves of the interior subtree that begins at leaf k₀: o subtrees are pending.
pub record Pending (e : List ℕ) (k₀ : ℕ) (entry : List ℕ) (at : ℕ) (now : List ℕ) (k p o : ℕ) : Type 0 where
  pub writing : Writing (nodes_from (drop k e) o) now p (nodes_from (drop k₀ e) 1) entry at
  pub early : k ≤ p
  pub on : at ≤ p
  pub past : o ≡ 0 → at < p

pub pending_start : {e : List ℕ} {k : ℕ} {entry : List ℕ} {at : ℕ} → NodesFit e k 1 at entry
    → Pending e k entry at entry k at 1
pending_start r = record {
  writing = write_start _ _ _;
  early = r.early;
  on = omega arith;
  past = λ h. absurd (omega arith);
}

module _ {e : List ℕ} {k₀ : ℕ} {entry : List ℕ} {at : ℕ} {now : List ℕ} {k p o : ℕ}
    (h : Pending e k₀ entry at now k p o) (r : NodesFit e k₀ 1 at entry) where
  pub pending_room : p + length (nodes_from (drop k e) o) ≤ length now
  pending_room = omega (arith, writing_length h.writing, h.writing.ends, r.room)

  module _ (n : ℕ) (some : 0 < o) (is : n ≡ get_or e k 0) where
    pub leaf_room : p + n < length now
    leaf_room = omega (arith, pending_room, step_length e k o n some is)

    pub pending_bound : o - 1 + n < length now
    pending_bound =
        omega (arith, pending_room, step_length e k o n some is, pending_lt (drop (k + 1) e) (o - 1 + n))

    pub pending_more : {now' : List ℕ} {p' : ℕ} → Wrote (own n) now p now' p'
        → Pending e k₀ entry at now' (k + 1) p' (o - 1 + n)
    pending_more w = record {
      writing = write_more w (writing_same (step_nodes e k o n some is) h.writing);
      early = omega (arith, w.ends, own_length n, h.early);
      on = omega (arith, w.ends, own_length n, h.on);
      past = λ x. omega (arith, w.ends, own_length n, h.on);
    }

-- The right side from a leaf on: a caret, and room for the subtree that hangs on it.
module _ {e : List ℕ} {k at : ℕ} {entry : List ℕ} (r : NodesFit e k 0 at entry) where
  module _ (more : k < length e) where
    pub spine_length : length (nodes_from (drop k e) 0) ≡ suc (length (nodes_from (drop k e) 1))
    spine_length = ap length (nodes_spine e k more)

    pub spine_room : NodesFit e k 1 (at + 1) (set entry at 1)
    spine_room = record {
      room = simp length-set (omega (arith, spine_length, r.room));
      small = omega (arith, spine_length, r.small);
      early = omega (arith, r.early);
    }

    pub spine_wrote : {exit : List ℕ} {end : ℕ}
        → Wrote (nodes_from (drop k e) 1) (set entry at 1) (at + 1) exit end
        → Wrote (nodes_from (drop k e) 0) entry at exit end
    spine_wrote w =
        wrote_same (sym (nodes_spine e k more)) (write_then {a = 1 ∷ []} (record { ends = refl; holds = refl }) w)

  pub last_length : length e ≤ k → length (nodes_from (drop k e) 0) ≡ 1
  last_length h = ap length (nodes_end e k h)

-- Room for the right side behind an interior subtree.
pub rest_room : {e : List ℕ} {k at : ℕ} {entry exit : List ℕ} {p : Place} → Partly e k entry at exit p
    → NodesFit e k 1 at entry → NodesFit e p.leaf.0 0 p.at exit
rest_room w r = record {
  room = omega (arith, w.writing.ends, writing_length w.writing, r.room);
  small = omega (arith, w.writing.ends, r.small);
  early = w.early;
}
