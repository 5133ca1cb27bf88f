-- The whole tree, written from its first leaf: the exponents of the n first leaves decide it. A table with fewer
-- entries is copied to the front of zeros, which has the same tree (`padded_tree`, of the list that then stands;
-- `copied_tree`, of any list that is so copied). Assumes nothing.
use mathlib.Core.Path.{◌≡◌, refl, sym, ap, ◌∙◌, ◌≡⟨◌⟩◌, ◌∎}
use mathlib.Core.List.{List, [], ◌∷◌, ◌++◌, append-nil}
use Prim.Native.Nat.{ℕ, zero, suc, ◌<◌, ◌≤◌}
use native.Mathlib.Omega.{arith}
use native.Mathlib.Decide.{dec_lt}
use lib.ListN.{length, length-append, length-drop, take, drop, get_or, replicate, length-take, length-replicate}
use lib.ListN.{get_or-eq_default}
use lib.Seq.{get_or-take}
use Rattle.lists.specs.inside.Entries.{SameEntries}
use Rattle.lists.specs.Tables.{filled}
use Rattle.lists.proofs.Tables.{filled_at, filled-beyond}
use Rattle.lists.proofs.Totals.{same_replicate}
use Rattle.copying.specs.inside.Copying.{Copied}
use Rattle.trees.specs.Trees.{carets}
use Rattle.trees.specs.Building.{needed, tree_of}
use Rattle.trees.specs.Pairs.{max_carets}
use Rattle.trees.specs.Shapes.{shape, shape_size}
use Rattle.trees.specs.inside.Writing.{nodes_from}
use Rattle.trees.specs.inside.Steps.{NodesFit, ShapeFits}
use Rattle.trees.proofs.Rows.{tree_same}
use Rattle.trees.proofs.Needed.{needed-holds, needed_same}
use Rattle.trees.proofs.Built.{tree_carets}
use Rattle.trees.proofs.Shapes.{shape-length}
use Rattle.trees.proofs.Nodes.{nodes-shape}

-- The tree with n carets, from its first leaf: the exponents of the n first leaves decide it.
module _ {e : List ℕ} {n : ℕ} {buffer : List ℕ} (f : ShapeFits e n buffer) (whole : n ≤ length e) where
  pub front_length : length (take n e) ≡ n
  front_length = simp length-take (omega arith)

  -- Behind the n first leaves all exponents are 0.
  front_same : SameEntries (take n e) e
  front_same i = go (dec_lt i n) (get_or e i 0) refl
    where
      go : Dec (i < n) → (x : ℕ) → get_or e i 0 ≡ x → get_or (take n e) i 0 ≡ get_or e i 0
      go (yes h) x q = get_or-take n e i 0 h
      go (no h) zero q = get_or-eq_default (take n e) 0 (omega (arith, front_length)) ∙ sym q
      go (no h) (suc x) q =
          absurd (omega (arith, (needed-holds n e).1 f.enough i (omega arith)))

  front_needed : needed 0 (take n e) ≤ n
  front_needed = omega (arith, needed_same (take n e) e front_same, f.enough)

  pub tree_nodes : nodes_from (take n e) 0 ≡ shape (tree_of n e)
  tree_nodes =
      nodes-shape n (take n e) (front_length) front_needed
      ∙ ap shape (tree_same n (take n e) e front_same)

  pub tree_room : NodesFit (take n e) 0 0 0 buffer
  tree_room =
      let l : length (nodes_from (take n e) 0) ≡ shape_size n =
      length (nodes_from (take n e) 0) ≡⟨ ap length tree_nodes ⟩
      length (shape (tree_of n e)) ≡⟨ shape-length (tree_of n e) ⟩
      shape_size (carets (tree_of n e)) ≡⟨ ap shape_size (tree_carets n e f.enough) ⟩
      shape_size n ∎ in
      record {
        room = omega (arith, l, f.room);
        small = omega (arith, l, f.small);
        early = omega arith;
      }

-- A table in front of zeros has the same entries.
zeros_behind : (e : List ℕ) (m : ℕ) → SameEntries (e ++ drop (length e) (replicate m 0)) e
zeros_behind [] m i = same_replicate m i
zeros_behind (x ∷ e) zero i = ap (λ (l : List ℕ). get_or (x ∷ l) i 0) (append-nil e)
zeros_behind (x ∷ e) (suc m) zero = refl
zeros_behind (x ∷ e) (suc m) (suc i) = zeros_behind e m i

-- A copy to the front of m zeros needs as many carets and has the same tree.
module _ {e : List ℕ} {n : ℕ} {buffer : List ℕ} (f : ShapeFits e n buffer) (m : ℕ) (few : length e ≤ m)
    (small : m ≤ max_carets) {front : List ℕ} (copied : front ≡ e) where
  padded_same : SameEntries (front ++ drop (length e) (replicate m 0)) e
  padded_same = rw copied (zeros_behind e m)

  padded_length : length (front ++ drop (length e) (replicate m 0)) ≡ m
  padded_length = rw copied (simp (length-append, length-drop, length-replicate) (omega arith))

  pub padded_fits : ShapeFits (front ++ drop (length e) (replicate m 0)) n buffer
  padded_fits = record {
    entries = omega (arith, padded_length, small);
    enough = omega (arith, needed_same _ e padded_same, f.enough);
    small = f.small;
    room = f.room;
  }

  pub padded_tree : tree_of n (front ++ drop (length e) (replicate m 0)) ≡ tree_of n e
  padded_tree = tree_same n _ e padded_same

-- The entries of a table, copied to the front of zeros, are its entries.
copied_same : (e : List ℕ) (m : ℕ) → SameEntries (filled (length e) (λ i. get_or e i 0) (replicate m 0)) e
copied_same e m i = go (dec_lt i (length e))
  where
    go : Dec (i < length e) → get_or (filled (length e) (λ j. get_or e j 0) (replicate m 0)) i 0 ≡ get_or e i 0
    go (yes h) = filled_at (length e) (λ j. get_or e j 0) (replicate m 0) i h
    go (no h) =
        filled-beyond (length e) (λ j. get_or e j 0) (replicate m 0) i (omega arith)
        ∙ same_replicate m i
        ∙ sym (get_or-eq_default e 0 (omega arith))

-- So what is copied has the same tree.
pub copied_tree : {e : List ℕ} (n m : ℕ) → length e ≤ m → {table : List ℕ}
    → Copied e (replicate m 0) (length e) table → tree_of n table ≡ tree_of n e
copied_tree {e} n m few {table} copied = tree_same n table e same
  where
    room : length e ≤ length (replicate {A = ℕ} m 0)
    room = omega (arith, length-replicate {A = ℕ} m 0, few)

    same : SameEntries table e
    same i = ap (λ (t : List ℕ). get_or t i 0) (copied.fits (omega arith) room) ∙ copied_same e m i
