-- Scratch that is long enough for a word, and what the engine asks of it. Assumes nothing.
use mathlib.Core.Path.{◌≡◌, refl, sym, ◌∙◌, ap}
use mathlib.Core.Bool.{Bool, true, false, cond, true≢false}
use mathlib.Core.List.{List}
use Prim.Native.Nat.{ℕ, ◌≤◌, ◌<◌}
use native.Mathlib.Decide.{dec_le}
use native.Mathlib.Omega.{arith}
use lib.ListN.{length}
use lib.Dec.{ltb}
use borrow.Author.Tests.{lt-ltb, le-ltb, ltb-false}
use Rattle.group.specs.Limits.{limit}
use Rattle.forest.specs.inside.Filling.{cells_for, room_for, last_tip_value, fits_for, fits}
use Rattle.forest.specs.inside.Moves.{Scratch}

-- The scratch is long enough for the word.
abbrev pub Fits : (word lefts rights stack : List ℕ) → Type 0
Fits word lefts rights stack = fits word lefts rights stack ≡ true

-- A test that was passed, in front of others.
not_below : (n m : ℕ) (rest : Bool) → cond (ltb n m) false rest ≡ true → (m ≤ n) × (rest ≡ true)
not_below n m rest h = go (ltb n m) refl h
  where
    go : (c : Bool) → ltb n m ≡ c → cond c false rest ≡ true → (m ≤ n) × (rest ≡ true)
    go true e k = absurd (true≢false (sym k))
    go false e k = (ltb-false n m e, k)

-- Within the limit the last tip is the number of letters.
pub tip_letters : (n : ℕ) → n ≤ limit → last_tip_value n ≡ n
tip_letters n h = simp (le-ltb limit n h)

-- Scratch that is long enough, in the engine's words.
pub fit_sizes : (last : ℕ) {word lefts rights stack : List ℕ} → last ≤ limit → length word ≤ last
    → last_tip_value (length word) ≡ last → Fits word lefts rights stack → Scratch last word lefts rights stack
fit_sizes last {word} {lefts} {rights} {stack} small short e f =
    let g : fits_for last (length lefts) (length rights) (length stack) ≡ true =
    ap (λ (n : ℕ). fits_for n (length lefts) (length rights) (length stack)) (sym e) ∙ f in
    let (l, g₁) = not_below (length lefts) (cells_for last) _ g in
    let (r, g₂) = not_below (length rights) (cells_for last) _ g₁ in
    let (s, g₃) = not_below (length stack) (room_for last) _ g₂ in
    record { last_low = small; word_length = short; lefts_length = l; rights_length = r; stack_length = s }

-- Beyond the limit it is the limit.
pub tip_limit : (n : ℕ) → limit < n → last_tip_value n ≡ limit
tip_limit n h = simp (lt-ltb limit n h)

-- It is never above the limit.
pub tip_low : (n : ℕ) → last_tip_value n ≤ limit
tip_low n = go (dec_le n limit)
  where
    go : Dec (n ≤ limit) → last_tip_value n ≤ limit
    go (yes h) = omega (arith, tip_letters n h)
    go (no h) = omega (arith, tip_limit n (omega arith))

-- Sizes that are long enough.
all_fit : (last nl nr ns : ℕ) → cells_for last ≤ nl → cells_for last ≤ nr → room_for last ≤ ns
    → fits_for last nl nr ns ≡ true
all_fit last nl nr ns l r s =
    simp (le-ltb nl (cells_for last) l, le-ltb nr (cells_for last) r, le-ltb ns (room_for last) s)

-- Scratch for a last tip that is high enough fits the word.
pub fits_for_lem : (last : ℕ) (word lefts rights stack : List ℕ) → last_tip_value (length word) ≤ last
    → cells_for last ≤ length lefts → cells_for last ≤ length rights → room_for last ≤ length stack
    → Fits word lefts rights stack
fits_for_lem last word lefts rights stack h l r s =
    all_fit (last_tip_value (length word)) (length lefts) (length rights) (length stack) (omega arith) (omega arith)
    (omega arith)

-- More letters do not need less.
tip_rises : (n m : ℕ) → n ≤ m → last_tip_value n ≤ last_tip_value m
tip_rises n m h = go (dec_le m limit)
  where
    go : Dec (m ≤ limit) → last_tip_value n ≤ last_tip_value m
    go (yes k) = omega (arith, tip_letters m k, tip_letters n (omega arith))
    go (no k) = omega (arith, tip_limit m (omega arith), tip_low n)

-- Scratch for a word is long enough for a shorter one, whatever it holds.
pub fits_shorter : (word longer lefts rights stack lefts' rights' stack' : List ℕ) → length word ≤ length longer
    → length lefts' ≡ length lefts → length rights' ≡ length rights → length stack' ≡ length stack
    → Fits longer lefts rights stack → Fits word lefts' rights' stack'
fits_shorter word longer lefts rights stack lefts' rights' stack' short el er es f =
    let last = last_tip_value (length longer) in
    let (l, f₁) = not_below (length lefts) (cells_for last) _ f in
    let (r, f₂) = not_below (length rights) (cells_for last) _ f₁ in
    let (s, f₃) = not_below (length stack) (room_for last) _ f₂ in
    fits_for_lem last word lefts' rights' stack' (tip_rises (length word) (length longer) short) (omega arith)
    (omega arith)
    (omega arith)
