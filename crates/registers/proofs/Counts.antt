-- Counts, numbers and forms of entries with one more behind them. Assumes nothing.
use mathlib.Core.Path.{◌≡◌, refl}
use mathlib.Core.Bool.{Bool, true, false, cond}
use mathlib.Core.List.{List, [], ◌∷◌, ◌++◌}
use Prim.Native.Nat.{ℕ, suc, ◌+◌, ◌≤◌}
use native.Mathlib.Omega.{arith}
use lib.Dec.{eqb}
use Rattle.registers.specs.Format.{Entry}
use Rattle.registers.specs.Reading.{live, last_number}

-- 1 where the entry is the holder's.
abbrev pub owned_by : ℕ → Entry → ℕ
owned_by h e = cond (eqb e.holder h) 1 0

pub live_front : (h : ℕ) (e : Entry) (es : List Entry) → live h (e ∷ es) ≡ owned_by h e + live h es
live_front h e es = go (eqb e.holder h)
  where
    go : (b : Bool) → cond b (suc (live h es)) (live h es) ≡ cond b 1 0 + live h es
    go true = omega arith
    go false = omega arith

pub live-behind : (h : ℕ) (es : List Entry) (e : Entry) → live h (es ++ (e ∷ [])) ≡ live h es + owned_by h e
live-behind h [] e = omega (arith, live_front h e [])
live-behind h (x ∷ es) e = omega (arith, live_front h x (es ++ (e ∷ [])), live_front h x es, live-behind h es e)

pub live_more : (h : ℕ) (es ds : List Entry) → live h es ≤ live h (es ++ ds)
live_more h [] ds = omega arith
live_more h (e ∷ es) ds = omega (arith, live_front h e es, live_front h e (es ++ ds), live_more h es ds)

pub last_behind : (n : ℕ) (es : List Entry) (e : Entry) → last_number n (es ++ (e ∷ [])) ≡ e.number
last_behind n [] e = refl
last_behind n (x ∷ es) e = last_behind x.number es e
