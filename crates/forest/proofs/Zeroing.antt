-- Zeros put into a table, one entry at a time. Assumes nothing.
use mathlib.Core.Path.{◌≡◌, refl, sym, subst, ◌∙◌}
use mathlib.Core.Path.{ap}
use mathlib.Core.List.{List, ◌++◌, append_assoc}
use Prim.Native.Nat.{ℕ, zero, suc, ◌+◌, ◌-◌, ◌≤◌}
use native.Mathlib.Numerals.{add-one}
use native.Mathlib.Omega.{arith}
use lib.ListN.{length, take, drop, get_or, set, replicate, get_or-eq_default, length-drop, length-replicate}
use lib.Seq.{sets, sets-eq, length-take-le, get_or-take, drop-drop}
use Rattle.lists.proofs.Writes.{sets-replicate}
use Rattle.lists.specs.Tables.{filled}
use Rattle.lists.proofs.Tables.{filled_more, filled_by}
use Rattle.forest.specs.inside.Leaves.{ZerosPut}

-- At the start no zero is put.
pub zeros_none : (t : List ℕ) (low : ℕ) → ZerosPut t low low t
zeros_none t low f u p z e = e

-- One zero more.
pub zeros_more : (t now : List ℕ) (low i : ℕ) → low ≤ i → ZerosPut t low i now → ZerosPut t low (i + 1) (set now i 0)
zeros_more t now low i p h f u q z e =
    filled_more i f u now 0 (omega arith) (h f u (omega arith) z e) (sym (z i p))

-- At the end all are put.
pub zeros_ends : (t now : List ℕ) (low high i : ℕ) → i ≡ high → ZerosPut t low i now → ZerosPut t low high now
zeros_ends t now low high i e h = subst (λ (k : ℕ). ZerosPut t low k now) e h

-- The zeros put one after another are all that is put.
abbrev pub zeros_from : List ℕ → ℕ → ℕ → List ℕ
zeros_from t low zero = t
zeros_from t low (suc n) = set (zeros_from t low n) (low + n) 0

zeros_put : (t : List ℕ) (low n : ℕ) → ZerosPut t low (low + n) (zeros_from t low n)
zeros_put t low zero = zeros_ends t t low (low + 0) low (omega arith) (zeros_none t low)
zeros_put t low (suc n) =
    let now = zeros_from t low n in
    zeros_ends t (set now (low + n) 0) low (low + suc n) (low + n + 1) (omega arith)
    (zeros_more t now low (low + n) (omega arith) (zeros_put t low n))

pub zeros_from_lem : (t t' : List ℕ) (low n : ℕ) → low + n ≤ length t → ZerosPut t low (low + n) t'
    → t' ≡ zeros_from t low n
zeros_from_lem t t' low n l p =
    p f t l zeros kept ∙ sym (zeros_put t low n f t l zeros kept)
  where
    f : ℕ → ℕ
    f i = get_or (take low t) i 0

    zeros : (i : ℕ) → low ≤ i → f i ≡ 0
    zeros i h = get_or-eq_default (take low t) 0 (omega (arith, length-take-le low t (omega arith)))

    kept : t ≡ filled low f t
    kept =
        filled_by low f t t (omega arith) refl (λ i h. sym (get_or-take low t i 0 h)) (λ i h. refl)

-- They are a run of zeros.
zeros_run : (t : List ℕ) (low n : ℕ) → zeros_from t low n ≡ sets t low (replicate n 0)
zeros_run t low zero = refl
zeros_run t low (suc n) =
    ap (λ (s : List ℕ). set s (low + n) 0) (zeros_run t low n)
    ∙ sets-replicate t low n 0
    ∙ ap (λ (k : ℕ). sets t low (replicate k 0)) (add-one n)

-- A part that was filled with zeros.
pub zeros_filled : (t part : List ℕ) (low high : ℕ) → low ≤ high → high ≤ length t
    → part ≡ replicate (length (take (high - low) (drop low t))) 0
    → ZerosPut t low high (take low t ++ (part ++ drop (high - low) (drop low t)))
zeros_filled t part low high le within e =
    let n = high - low in
    let size : length (take n (drop low t)) ≡ n =
    length-take-le n (drop low t) (omega (arith, length-drop low t)) in
    let zeros : part ≡ replicate n 0 = e ∙ ap (λ (k : ℕ). replicate k 0) size in
    let run : List ℕ = replicate n 0 in
    let count : length run ≡ n = length-replicate n 0 in
    let behind : low + n ≡ low + length run = omega (arith, count) in
    let whole : take low t ++ (part ++ drop n (drop low t)) ≡ zeros_from t low n =
    ap (λ (s : List ℕ). take low t ++ (s ++ drop n (drop low t))) zeros
    ∙ ap (λ (s : List ℕ). take low t ++ (run ++ s)) (drop-drop n low t ∙ ap (λ (k : ℕ). drop k t) behind)
    ∙ sym (append_assoc (take low t) run (drop (low + length run) t))
    ∙ sym (sets-eq run t low (omega (arith, count)))
    ∙ sym (zeros_run t low n) in
    subst (λ (s : List ℕ). ZerosPut t low high s) (sym whole)
    (zeros_ends t (zeros_from t low n) low high (low + n) (omega arith) (zeros_put t low n))
