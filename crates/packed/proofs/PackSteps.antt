-- The steps of packing: how bytes are judged, how one number is packed, and how the numbers fill what is lent.
--     Closing s p i         i of the bytes s are read, and p subtrees are to come
--     tree_long, closing_stuck, closing_other, closing_done   what `is_tree` answers
--     PackingPart w s from k x   of the w nodes from a place on, those from the k-th on are packed in x
--     Filling s xs₀ ys₀ xs ys n j   j numbers of the shape s are put, with n carets in them
--     tree_accepted, tree_few, tree_not   what the answer of `is_tree` says
--     repacked_refused, repacked_filled   how a call comes to meet `Repacked`
-- Assumes nothing.
use mathlib.Core.Path.{◌≡◌, refl, sym, ap, ap₂, subst, ◌∙◌}
use mathlib.Core.Bool.{Bool, true, false, cond}
use mathlib.Core.List.{List, [], ◌∷◌}
use Prim.Native.Nat.{ℕ, zero, suc, ◌+◌, ◌-◌, ◌*◌, ◌^◌, ◌<◌, ◌≤◌, min}
use native.Mathlib.Omega.{arith}
use borrow.Author.Tests.{lt-ltb, le-ltb, eq-eqb, ne_eqb}
use lib.Count.{ones}
use lib.Dec.{ltb, eqb}
use lib.ListN.{length, take, drop, get_or, set, length-take, length-drop, length-set, drop_of_length-le}
use lib.Seq.{drop-cons, get_or-take, get_or-drop}
use Rattle.lists.specs.Entries.{total}
use Rattle.lists.specs.Tables.{filled}
use Rattle.lists.proofs.Tables.{filled_none, filled_more}
use Rattle.refusals.specs.Outcomes.{Outcome, accepted, refused, then}
use Rattle.trees.specs.Pairs.{max_carets}
use Rattle.trees.specs.Shapes.{shape_size}
use Rattle.trees.proofs.Shapes.{shape-length}
use Rattle.bitrows.specs.Numbers.{pack_number_value, number_at, numbers_of_value}
use Rattle.bitrows.specs.Closing.{closes}
use Rattle.bitrows.specs.inside.Nodes.{Nodes}
use Rattle.bitrows.proofs.Numbers.{take-nodes, drop-nodes}
use Rattle.bitrows.proofs.Shifts.{pack_lt}
use Rattle.bitrows.proofs.Leaving.{leaves_node}
use Rattle.bitrows.proofs.NodeLists.{nodes-total}
use Rattle.bitrows.proofs.Finding.{total_next}
use Rattle.packed.specs.Packing.{summary_at, tree_shape}
use Rattle.packed.specs.Promises.{room_for, packing}
use Rattle.packed.specs.inside.Steps.{is_tree_value, FewNodes, Room}
use Rattle.packed.proofs.Trees.{shape-nodes, shape_tree}

-- Too many bytes.
pub tree_long : (s : List ℕ) → shape_size max_carets < length s → false ≡ is_tree_value s
tree_long s h =
    go (closes s 1) ∙ sym (ap (λ (b : Bool). cond (closes s 1) (cond b false true) false) (lt-ltb _ _ h))
  where
    go : (b : Bool) → false ≡ cond b false false
    go true = refl
    go false = refl

-- Of few bytes it is asked only whether the tree closes.
tree_closes : (s : List ℕ) → length s ≤ shape_size max_carets → closes s 1 ≡ is_tree_value s
tree_closes s h =
    go (closes s 1)
    ∙ sym (ap (λ (b : Bool). cond (closes s 1) (cond b false true) false) (le-ltb (shape_size max_carets) _ h))
  where
    go : (b : Bool) → b ≡ cond b true false
    go true = refl
    go false = refl

-- No byte may come where nothing is to come.
closes_none : (b : ℕ) (s : List ℕ) → closes (b ∷ s) 0 ≡ false
closes_none zero s = refl
closes_none (suc zero) s = refl
closes_none (suc (suc b)) s = refl

-- No byte may come that is no node.
closes_other : (b n : ℕ) (s : List ℕ) → 1 < b → closes (b ∷ s) n ≡ false
closes_other zero n s h = absurd (omega arith)
closes_other (suc zero) n s h = absurd (omega arith)
closes_other (suc (suc b)) n s h = refl

-- At the end nothing is to come.
closes_end : (n : ℕ) → closes [] n ≡ eqb n 0
closes_end zero = sym (eq-eqb 0 0 refl)
closes_end (suc n) = sym (ne_eqb (suc n) 0 (λ e. omega arith))

-- Amid the bytes of a shape.
pub record Closing (s : List ℕ) (pending i : ℕ) : Type 0 where
  pub few : pending ≤ i + 1
  pub small : length s ≤ shape_size max_carets
  pub closes_on : closes s 1 ≡ closes (drop i s) pending

-- No byte is read.
pub closing_start : (s : List ℕ) → length s ≤ shape_size max_carets → Closing s 1 0
closing_start s h = record { few = omega arith; small = h; closes_on = refl }

-- What is to come, by the next byte.
closes_here : {s : List ℕ} {p i : ℕ} → Closing s p i → i < length s
    → closes s 1 ≡ closes (get_or s i 0 ∷ drop (suc i) s) p
closes_here {s} {p} {i} a h = a.closes_on ∙ ap (λ (t : List ℕ). closes t p) (drop-cons s i 0 h)

-- One node more.
pub closing_more : {s : List ℕ} {p i : ℕ} → Closing s p i → i < length s → 0 < p → get_or s i 0 ≤ 1
    → Closing s (p + 2 * get_or s i 0 - 1) (i + 1)
closing_more {s} {p} {i} a h l b =
    let q : ℕ = p + 2 * get_or s i 0 - 1 in
    let next : suc i ≡ i + 1 = omega arith in
    record {
      few = omega (arith, a.few);
      small = a.small;
      closes_on =
          closes_here a h
          ∙ (leaves_node (get_or s i 0) p q (omega arith) l (omega arith)).closes_on (drop (suc i) s)
          ∙ ap (λ (k : ℕ). closes (drop k s) q) next;
    }

-- Nothing is to come, and there is a byte.
pub closing_stuck : {s : List ℕ} {p i : ℕ} → Closing s p i → i < length s → p ≡ 0 → false ≡ is_tree_value s
closing_stuck {s} {p} {i} a h z =
    sym (closes_here a h ∙ ap (closes (get_or s i 0 ∷ drop (suc i) s)) z ∙ closes_none (get_or s i 0) (drop (suc i) s))
    ∙ tree_closes s a.small

-- The byte is no node.
pub closing_other : {s : List ℕ} {p i : ℕ} → Closing s p i → i < length s → 1 < get_or s i 0 → false ≡ is_tree_value s
closing_other {s} {p} {i} a h b =
    sym (closes_here a h ∙ closes_other (get_or s i 0) p (drop (suc i) s) b) ∙ tree_closes s a.small

-- All bytes are read.
pub closing_done : {s : List ℕ} {p i : ℕ} → Closing s p i → length s ≤ i → eqb p 0 ≡ is_tree_value s
closing_done {s} {p} {i} a h =
    sym (a.closes_on ∙ ap (λ (t : List ℕ). closes t p) (drop_of_length-le s h) ∙ closes_end p)
    ∙ tree_closes s a.small

-- Amid the packing of the first w nodes from a place on, the last first.
pub record PackingPart (w : ℕ) (s : List ℕ) (from k x : ℕ) : Type 0 where
  pub inside : k ≤ length (take w (drop from s))
  pub packed : x ≡ pack_number_value (drop k (take w (drop from s)))

-- No node is packed.
pub part_start : (w : ℕ) (s : List ℕ) (from k : ℕ) → k ≡ min (length s - from) w → PackingPart w s from k 0
part_start w s from k e =
    let part : List ℕ = take w (drop from s) in
    let whole : length part ≤ k = omega (arith, length-take w (drop from s), length-drop from s) in
    record {
      inside = omega (arith, length-take w (drop from s), length-drop from s);
      packed = sym (ap pack_number_value (drop_of_length-le part whole));
    }

-- One node more, in front of the others.
pub part_more : {w : ℕ} {s : List ℕ} {from k x : ℕ} → PackingPart w s from k x → 0 < k
    → PackingPart w s from (k - 1) (2 * x + get_or s (from + (k - 1)) 0)
part_more {w} {s} {from} {k} {x} a h =
    let part : List ℕ = take w (drop from s) in
    let b : ℕ = get_or s (from + (k - 1)) 0 in
    let next : suc (k - 1) ≡ k = omega arith in
    let near : k - 1 < w = omega (arith, a.inside, length-take w (drop from s)) in
    let node : get_or part (k - 1) 0 ≡ b = get_or-take w (drop from s) (k - 1) 0 near ∙ get_or-drop from s (k - 1) 0 in
    let front : drop (k - 1) part ≡ b ∷ drop k part =
    drop-cons part (k - 1) 0 (omega (arith, a.inside))
    ∙ ap₂ (λ (y n : ℕ). y ∷ drop n part) node next in
    record {
      inside = omega (arith, a.inside);
      packed = omega (arith, a.packed, ap pack_number_value front);
    }

-- So many bits.
pub part_fits : {w : ℕ} {s : List ℕ} {from k x : ℕ} → PackingPart w s from k x → Nodes s → x < 2 ^ w
part_fits {w} {s} {from} {k} {x} a h =
    let part : List ℕ = take w (drop from s) in
    let few : length (drop k part) ≤ w = omega (arith, length-drop k part, length-take w (drop from s)) in
    subst (λ (n : ℕ). n < 2 ^ w) (sym a.packed)
    (pack_lt w (drop k part) (drop-nodes k part (take-nodes w (drop from s) (drop-nodes from s h))) few)

-- All nodes are packed.
pub part_done : {w : ℕ} {s : List ℕ} {from k x : ℕ} → PackingPart w s from k x → k ≡ 0
    → x ≡ pack_number_value (take w (drop from s))
part_done {w} {s} {from} {k} {x} a z =
    a.packed ∙ ap (λ (n : ℕ). pack_number_value (drop n (take w (drop from s)))) z

-- Amid the filling of the numbers and the summary.
pub record Filling (s numbers₀ summary₀ numbers summary : List ℕ) (count j : ℕ) : Type 0 where
  pub in_numbers : numbers ≡ filled j (number_at s) numbers₀
  pub in_summary : summary ≡ filled j (summary_at s) summary₀
  pub counted : count ≡ summary_at s j
  pub numbers_length : length numbers ≡ length numbers₀
  pub summary_length : length summary ≡ length summary₀
  pub within : j ≤ numbers_of_value (length s)

-- No number is put.
pub filling_start : (s numbers summary : List ℕ) → Filling s numbers summary numbers summary 0 0
filling_start s numbers summary = record {
  in_numbers = filled_none (number_at s) numbers;
  in_summary = filled_none (summary_at s) summary;
  counted = refl;
  numbers_length = refl;
  summary_length = refl;
  within = omega arith;
}

module _ {s numbers₀ summary₀ numbers summary : List ℕ} {count j : ℕ} (few : FewNodes s)
    (a : Filling s numbers₀ summary₀ numbers summary count j) (x : ℕ) (e : x ≡ number_at s j) where
  -- The carets up to the next number.
  filling_count : count + ones x ≡ summary_at s (j + 1)
  filling_count = ap₂ (λ (m y : ℕ). m + ones y) a.counted e ∙ sym (total_next s j few.nodes)

  -- They are no more than the nodes.
  pub filling_small : count + ones x ≤ shape_size max_carets
  filling_small = go (64 * (j + 1)) filling_count
    where
      go : (n : ℕ) → count + ones x ≡ total (take n s) → count + ones x ≤ shape_size max_carets
      go n c =
          omega (arith, c, nodes-total (take n s) (take-nodes n s few.nodes), length-take n s, few.small)

  -- One number more.
  pub filling_more : j < numbers_of_value (length s) → Room (numbers_of_value (length s)) numbers₀ summary₀
      → Filling s numbers₀ summary₀ (set numbers j x) (set summary j count) (count + ones x) (j + 1)
  filling_more h room = record {
    in_numbers =
        filled_more j (number_at s) numbers₀ numbers x (omega (arith, h, room.in_numbers)) a.in_numbers e;
    in_summary =
        filled_more j (summary_at s) summary₀ summary count (omega (arith, h, room.in_summary)) a.in_summary
        a.counted;
    counted = filling_count;
    numbers_length = length-set numbers j x ∙ a.numbers_length;
    summary_length = length-set summary j count ∙ a.summary_length;
    within = omega (arith, h);
  }

-- All numbers are put.
pub filling_done : {s numbers₀ summary₀ numbers summary : List ℕ} {count j : ℕ}
    → Filling s numbers₀ summary₀ numbers summary count j → j ≡ numbers_of_value (length s)
    → (numbers ≡ filled (numbers_of_value (length s)) (number_at s) numbers₀)
    × (summary ≡ filled (numbers_of_value (length s)) (summary_at s) summary₀)
filling_done {s} {numbers₀} {summary₀} {numbers} {summary} {count} {j} a e = (
  a.in_numbers ∙ ap (λ (n : ℕ). filled n (number_at s) numbers₀) e,
  a.in_summary ∙ ap (λ (n : ℕ). filled n (summary_at s) summary₀) e,
)

-- What `is_tree` says of the judgement of bytes.
tree_judged : (s : List ℕ) → tree_shape s ≡ cond (is_tree_value s) (accepted s) (refused 15 0)
tree_judged s = go (closes s 1) (ltb (shape_size max_carets) (length s))
  where
    go : (whole large : Bool)
        → cond whole (cond large (refused 15 0) (accepted s)) (refused 15 0)
        ≡ cond (cond whole (cond large false true) false) (accepted s) (refused 15 0)
    go true true = refl
    go true false = refl
    go false large = refl

-- Bytes that pass the test are accepted.
pub tree_accepted : (s : List ℕ) → is_tree_value s ≡ true → tree_shape s ≡ accepted s
tree_accepted s e = tree_judged s ∙ ap (λ (b : Bool). cond b (accepted s) (refused 15 0)) e

-- Others are refused.
pub tree_not : (s : List ℕ) → is_tree_value s ≡ false → tree_shape s ≡ refused 15 0
tree_not s e = tree_judged s ∙ ap (λ (b : Bool). cond b (accepted s) (refused 15 0)) e

-- Bytes of a tree are nodes, and few.
pub tree_few : (s : List ℕ) → is_tree_value s ≡ true → FewNodes s
tree_few s e =
    let t = (shape_tree s s (tree_accepted s e)).1 in
    record {
      nodes = subst Nodes t.2 (shape-nodes t.0);
      small = omega (arith, ap length t.2, shape-length t.0, t.1);
    }

-- Bytes that are no tree are not packed.
pub packing_not : (s numbers summary : List ℕ) → is_tree_value s ≡ false → packing s numbers summary ≡ refused 15 0
packing_not s numbers summary e =
    ap (λ (o : Outcome (List ℕ)). then o (λ u. room_for u numbers summary)) (tree_not s e)

-- A tree is packed where there is room.
pub packing_room : (s numbers summary : List ℕ) → is_tree_value s ≡ true
    → packing s numbers summary ≡ room_for s numbers summary
packing_room s numbers summary e =
    ap (λ (o : Outcome (List ℕ)). then o (λ u. room_for u numbers summary)) (tree_accepted s e)
