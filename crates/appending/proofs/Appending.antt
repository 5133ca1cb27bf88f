-- Laws of text that is appended: pieces one behind another, the same text by another name, a text in the whole.
--     append-then   two pieces are one              append-same   the same bytes by another name
--     append_again  no bytes                        append-all, append-over   from what was written, or not
--     appended_front   where the answer is not `beyond`, the text stands in front of it
-- Assumes nothing.
use mathlib.Core.Path.{◌≡◌, refl, sym, ap, subst, ◌∙◌}
use mathlib.Core.List.{List, [], ◌++◌}
use Prim.Native.Nat.{ℕ, ◌+◌, ◌<◌, ◌≤◌}
use native.Mathlib.Decide.{dec_lt}
use native.Mathlib.Omega.{arith}
use lib.ListN.{length, take, length-append}
use lib.Seq.{length-sets}
use Rattle.lists.specs.inside.Writes.{Wrote}
use Rattle.lists.proofs.Writes.{write_then, wrote_none, sets_front}
use Rattle.appending.specs.inside.Appending.{beyond, Appended}

-- A write keeps the length.
wrote_length : {bytes s t : List ℕ} {i j : ℕ} → Wrote bytes s i t j → length t ≡ length s
wrote_length {bytes} {s} {t} {i} {j} w = ap length w.holds ∙ length-sets s i bytes

module _ {bytes entry : List ℕ} {at : ℕ} where
  -- They fit, and were written.
  pub append_all : {exit : List ℕ} {end : ℕ} → at + length bytes ≤ length entry → Wrote bytes entry at exit end
      → Appended bytes entry at exit end
  append_all room w = record {
    size = wrote_length w;
    fits = λ _. w;
    over = λ _ short. absurd (omega (arith, room, short));
  }

  -- They do not fit.
  pub append_over : {end : ℕ} → end ≡ beyond → length entry < at + length bytes → Appended bytes entry at entry end
  append_over e short = record {
    size = refl;
    fits = λ room. absurd (omega (arith, room, short));
    over = λ _ _. e;
  }

-- Two pieces, one behind the other.
pub append-then : {a b s t u : List ℕ} {i j r : ℕ} → Appended a s i t j → Appended b t j u r → Appended (a ++ b) s i u r
append-then {a} {b} {s} {t} {u} {i} {j} {r} v w = record {
  size = w.size ∙ v.size;
  fits = both;
  over = late;
}
  where
    both : i + length (a ++ b) ≤ length s → Wrote (a ++ b) s i u r
    both room =
        let first = v.fits (omega (arith, room, length-append a b)) in
        write_then first (w.fits (omega (arith, room, length-append a b, first.ends, v.size)))

    late : length s < beyond → length s < i + length (a ++ b) → r ≡ beyond
    late h short = go (dec_lt (length s) (i + length a))
      where
        go : Dec (length s < i + length a) → r ≡ beyond
        go (yes out) = w.over (omega (arith, h, v.size)) (omega (arith, h, v.size, v.over h out))
        go (no room) =
            let first = v.fits (omega (arith, room)) in
            w.over (omega (arith, h, v.size)) (omega (arith, short, length-append a b, first.ends, v.size))

-- Where nothing was appended, nothing may be appended again: the start of a loop.
pub append_again : {s t : List ℕ} {i j : ℕ} → Appended [] s i t j → Appended [] t j t j
append_again {s} {t} {i} {j} v = record { size = refl; fits = λ _. wrote_none t j; over = late }
  where
    late : length t < beyond → length t < j + 0 → j ≡ beyond
    late h short = go (dec_lt (length s) i)
      where
        go : Dec (length s < i) → j ≡ beyond
        go (yes out) = v.over (omega (arith, h, v.size)) (omega (arith, out))
        go (no room) = absurd (omega (arith, short, v.size, room, (v.fits (omega (arith, room))).ends))

-- The same bytes by another name.
pub append_same : {a b s t : List ℕ} {i r : ℕ} → a ≡ b → Appended a s i t r → Appended b s i t r
append_same {a} {b} {s} {t} {i} {r} e w = subst (λ (l : List ℕ). Appended l s i t r) e w

-- A text of a whole buffer: where the answer is not `beyond` it is the text's length, and the text stands in front.
pub appended_front : {text s t : List ℕ} {r : ℕ} → length s < beyond → Appended text s 0 t r → (r ≡ beyond → ⊥)
    → (take r t ≡ text) × (r ≡ length text) × (r ≤ length t)
appended_front {text} {s} {t} {r} h w other = go (dec_lt (length s) (length text))
  where
    go : Dec (length s < length text) → (take r t ≡ text) × (r ≡ length text) × (r ≤ length t)
    go (yes out) = absurd (other (w.over h (omega (arith, out))))
    go (no room) =
        let all = w.fits (omega (arith, room)) in
        let end : r ≡ length text = omega (arith, all.ends) in (
          ap (take r) all.holds ∙ sets_front text s r (sym end) (omega (arith, room, end)),
          end,
          omega (arith, room, end, w.size),
        )

-- A text that is too long for the buffer.
pub appended_over : {text s t : List ℕ} {r : ℕ} → length s < beyond → Appended text s 0 t r → r ≡ beyond
    → length s < length text
appended_over {text} {s} {t} {r} h w e = go (dec_lt (length s) (length text))
  where
    go : Dec (length s < length text) → length s < length text
    go (yes out) = out
    go (no room) = absurd (omega (arith, h, e, room, (w.fits (omega (arith, room))).ends))
