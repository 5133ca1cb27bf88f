-- What `feed` takes of a part (01, 'The receipt program'): the bytes up to the end of the line are kept, and the line
-- feed is passed over, where there is one. Assumes nothing.
use mathlib.Core.Path.{◌≡◌, refl, sym, ap, ◌∙◌, subst}
use mathlib.Core.Bool.{Bool, true, false}
use mathlib.Core.List.{List, [], ◌∷◌}
use mathlib.Core.Logic.{◌⊎◌, inl, inr}
use Prim.Native.Nat.{ℕ, suc, ◌+◌, ◌-◌, ◌<◌, ◌≤◌}
use native.Mathlib.Decide.{ℕ_discrete}
use native.Mathlib.Omega.{arith}
use lib.ListN.{length, take, drop, length-drop, drop_of_length-le}
use lib.Seq.{take-nil}
use Rattle.std.specs.Prelude.{Option, Some, None}
use Rattle.std.specs.Borrow.{Bor}
use Rattle.std.specs.List.{slice_range}
use Rattle.std.specs.Option.{MatchOption, unwrap_or}
use Rattle.lines.specs.Lines.{line_feed}
use Rattle.lines.specs.LineEnds.{until_feed, line_end_value}
use Rattle.lines.specs.Feeding.{kept_line, kept_count}
use Rattle.lines.specs.inside.Keeping.{Kept}
use Rattle.lines.specs.inside.Taking.{Took, take_line, TookLine}
use Rattle.lines.proofs.Feeding.{took_end, took_more}
use Rattle.lines.proofs.UntilFeed.{until_none, until_end, until_more, until_within}
use Rattle.lines.proofs.KeptBytes.{kept_none, kept_next}

-- What is left where the line ends, or the part, at a place.
abbrev took_to : (ended : Bool) (end : ℕ) (line : List ℕ) (held : ℕ) → Took
took_to true end line held = record { line = line; fed = record { next = end + 1; held = held; ended = true } }
took_to false end line held = record { line = line; fed = record { next = end; held = held; ended = false } }

-- Whether the line ends in front of the last of some bytes.
abbrev Ending : (ended : Bool) (n size : ℕ) → Type 0
Ending true n size = n < size
Ending false n size = size ≤ n

-- One byte less.
ending_less : (ended : Bool) (n size : ℕ) → Ending ended (suc n) (suc size) → Ending ended n size
ending_less true n size h = omega arith
ending_less false n size h = omega arith

-- The bytes up to the end of the line are kept, as many as there is room for.
took_to_lem : (s : List ℕ) (i : ℕ) (line : List ℕ) (held : ℕ) (ended : Bool) (end : ℕ) (kept : List ℕ) (count : ℕ)
    → Ending ended (until_feed s) (length s) → end ≡ i + until_feed s
    → Kept (take (until_feed s) s) line held kept count → take_line s i line held ≡ took_to ended end kept count
unfolding take_line
took_to_lem [] i line held true end kept count h e k = absurd (omega (arith, h))
took_to_lem [] i line held false end kept count h e k =
    let none = kept_none (subst (λ (n : ℕ). Kept (take n []) line held kept count) until_none k) in
    let same : end ≡ i = omega (arith, e, until_none) in
    rw (none.0, none.1, same) refl
took_to_lem (x ∷ s) i line held ended end kept count h e k =
    go (λ i' line' held' h' e' k'. took_to_lem s i' line' held' ended end kept count h' e' k') (ℕ_discrete x line_feed)
  where
    Rest : Type 0
    Rest = (i' : ℕ) (line' : List ℕ) (held' : ℕ) → Ending ended (until_feed s) (length s) → end ≡ i' + until_feed s
        → Kept (take (until_feed s) s) line' held' kept count → take_line s i' line' held' ≡ took_to ended end kept count

    -- The first byte is a line feed.
    here : (b : Bool) → Ending b 0 (suc (length s)) → x ≡ line_feed → end ≡ i → (kept ≡ line) × (count ≡ held)
        → take_line (x ∷ s) i line held ≡ took_to b end kept count
    here true g f same none = rw (none.0, none.1, same) (took_end x s i line held f)
    here false g f same none = absurd (omega arith)

    go : Rest → Dec (x ≡ line_feed) → take_line (x ∷ s) i line held ≡ took_to ended end kept count
    go rest (yes f) =
        let none : until_feed (x ∷ s) ≡ 0 = until_end x s f in
        here ended (subst (λ (n : ℕ). Ending ended n (suc (length s))) none h) f (omega (arith, e, none))
        (kept_none (subst (λ (n : ℕ). Kept (take n (x ∷ s)) line held kept count) none k))
    go rest (no other) =
        let more : until_feed (x ∷ s) ≡ suc (until_feed s) = until_more x s other in
        took_more x s i line held other
        ∙ rest (i + 1) (kept_line line held x) (kept_count line held)
        (ending_less ended (until_feed s) (length s)
        (subst (λ (n : ℕ). Ending ended n (suc (length s))) more h))
        (omega (arith, e, more))
        (kept_next x (subst (λ (n : ℕ). Kept (take n (x ∷ s)) line held kept count) more k))

-- The bytes up to the end of the line, where the place is in the part; none, where it is behind it.
pub feed_bytes : (part : List ℕ) (from end : ℕ) (got : Option (Bor (List ℕ))) (none : Bor (List ℕ))
    → end ≡ line_end_value part from → none.now ≡ []
    → MatchOption got ((end < from) ⊎ (length part < end))
    (λ x. (from ≤ end) × (end ≤ length part) × (x.now ≡ slice_range part from end) × (length x.now + from ≡ end))
    → (unwrap_or got none).now ≡ take (end - from) (drop from part)
feed_bytes part from end None none e n h =
    n ∙ sym (ap (take (end - from)) (drop_of_length-le part (go h)) ∙ take-nil (end - from))
  where
    go : (end < from) ⊎ (length part < end) → length part ≤ from
    go (inl under) = absurd (omega (arith, e, under))
    go (inr over) = omega (arith, e, over, until_within (drop from part), length-drop from part)
feed_bytes part from end (Some x) none e n h = h.2

module _ (part : List ℕ) (from : ℕ) {line bytes : List ℕ} {held end : ℕ} {kept : List ℕ} {count : ℕ}
    (e : end ≡ line_end_value part from) (b : bytes ≡ take (end - from) (drop from part))
    (k : Kept bytes line held kept count) where
  -- What the call leaves, by the bytes from the place on.
  takes : (ended : Bool) → Ending ended (until_feed (drop from part)) (length (drop from part))
      → take_line (drop from part) from line held ≡ took_to ended end kept count
  takes ended h =
      let size : end - from ≡ until_feed (drop from part) = omega (arith, e) in
      took_to_lem (drop from part) from line held ended end kept count h e
      (subst (λ (s : List ℕ). Kept s line held kept count) (b ∙ ap (λ (n : ℕ). take n (drop from part)) size) k)

  -- The line ends.
  pub feed_end : end < length part
      → TookLine (drop from part) from line held kept (record { next = end + 1; held = count; ended = true })
  feed_end lt =
      let same = sym (takes true (omega (arith, e, length-drop from part))) in
      record { leaves = ap (λ (t : Took). t.line) same; result = ap (λ (t : Took). t.fed) same }

  -- The part ends.
  pub feed_out : length part ≤ end
      → TookLine (drop from part) from line held kept (record { next = end; held = count; ended = false })
  feed_out le =
      let same = sym (takes false (omega (arith, e, length-drop from part))) in
      record { leaves = ap (λ (t : Took). t.line) same; result = ap (λ (t : Took). t.fed) same }
