-- Laws of filled tables: their length, their entries, and filling one entry at a time. Assumes nothing.
use mathlib.Core.Path.{◌≡◌, refl, sym, ap, ◌∙◌}
use mathlib.Core.List.{List, [], ◌∷◌, ◌++◌}
use Prim.Native.Nat.{ℕ, zero, suc, ◌+◌, ◌-◌, ◌<◌, ◌≤◌}
use native.Mathlib.Nat.{not-suc-le-zero, le_of_suc-le-suc}
use native.Mathlib.Numerals.{add-one}
use native.Mathlib.Omega.{arith}
use native.Mathlib.Decide.{dec_le}
use lib.ListN.{length, take, drop, get_or, set, replicate, length-append, length-drop, get_or-append}
use lib.Seq.{ext_get_or, get_or-append-add, get_or-drop}
use Rattle.lists.specs.Tables.{values, filled}

pub values_length : (m : ℕ) (f : ℕ → ℕ) → length (values m f) ≡ m
unfolding values
values_length zero f = refl
values_length (suc m) f = ap suc (values_length m (λ i. f (suc i)))

pub values_at : (m : ℕ) (f : ℕ → ℕ) (i : ℕ) → i < m → get_or (values m f) i 0 ≡ f i
unfolding values
values_at zero f i h = absurd (not-suc-le-zero h)
values_at (suc m) f zero h = refl
values_at (suc m) f (suc i) h = values_at m (λ j. f (suc j)) i (le_of_suc-le-suc h)

-- Functions with the same values give the same list.
pub values_same : (m : ℕ) (f g : ℕ → ℕ) → ((i : ℕ) → i < m → f i ≡ g i) → values m f ≡ values m g
values_same m f g e =
    ext_get_or 0 (values m f) (values m g) (values_length m f ∙ sym (values_length m g)) (λ i h.
    let lt : i < m = omega (arith, values_length m f) in
    values_at m f i lt ∙ e i lt ∙ sym (values_at m g i lt))

-- One value everywhere.
pub values_constant : (m x : ℕ) → values m (λ i. x) ≡ replicate m x
unfolding values
values_constant zero x = refl
values_constant (suc m) x = ap (λ (t : List ℕ). x ∷ t) (values_constant m x)

pub filled-length : (m : ℕ) (f : ℕ → ℕ) (t : List ℕ) → m ≤ length t → length (filled m f t) ≡ length t
filled-length m f t h =
    omega (arith, length-append (values m f) (drop m t), values_length m f, length-drop m t)

pub filled_at : (m : ℕ) (f : ℕ → ℕ) (t : List ℕ) (i : ℕ) → i < m → get_or (filled m f t) i 0 ≡ f i
filled_at m f t i h =
    get_or-append (values m f) (drop m t) 0 i (omega (arith, values_length m f)) ∙ values_at m f i h

pub filled-beyond : (m : ℕ) (f : ℕ → ℕ) (t : List ℕ) (i : ℕ) → m ≤ i → get_or (filled m f t) i 0 ≡ get_or t i 0
filled-beyond m f t i h = go (i - m) (omega arith)
  where
    go : (k : ℕ) → i ≡ m + k → get_or (filled m f t) i 0 ≡ get_or t i 0
    go k e =
        ap (λ (j : ℕ). get_or (filled m f t) j 0) (e ∙ ap (λ (j : ℕ). j + k) (sym (values_length m f)))
        ∙ get_or-append-add (values m f) (drop m t) k 0
        ∙ get_or-drop m t k 0
        ∙ ap (λ (j : ℕ). get_or t j 0) (sym e)

-- Functions with the same values fill a table alike.
pub filled_same : (m : ℕ) (f g : ℕ → ℕ) (t : List ℕ) → ((i : ℕ) → i < m → f i ≡ g i) → filled m f t ≡ filled m g t
filled_same m f g t e = ap (λ (l : List ℕ). l ++ drop m t) (values_same m f g e)

-- A table is filled where its entries are the values and all beyond are as they were.
pub filled_by : (m : ℕ) (f : ℕ → ℕ) (t u : List ℕ) → m ≤ length t → length u ≡ length t
    → ((i : ℕ) → i < m → get_or u i 0 ≡ f i) → ((i : ℕ) → m ≤ i → get_or u i 0 ≡ get_or t i 0) → u ≡ filled m f t
filled_by m f t u h e low high =
    ext_get_or 0 u (filled m f t) (e ∙ sym (filled-length m f t h)) (λ i lt. go i (dec_le (suc i) m))
  where
    go : (i : ℕ) → Dec (i < m) → get_or u i 0 ≡ get_or (filled m f t) i 0
    go i (yes c) = low i c ∙ sym (filled_at m f t i c)
    go i (no c) = high i (omega arith) ∙ sym (filled-beyond m f t i (omega arith))

-- Filled one entry at a time, from the first.
pub filled_none : (f : ℕ → ℕ) (t : List ℕ) → t ≡ filled 0 f t
unfolding values
filled_none f t = refl

filled_next : (i : ℕ) (f : ℕ → ℕ) (t : List ℕ) → i < length t → set (filled i f t) i (f i) ≡ filled (suc i) f t
unfolding values
filled_next i f [] h = absurd (omega arith)
filled_next zero f (y ∷ t) h = refl
filled_next (suc i) f (y ∷ t) h =
    ap (λ (l : List ℕ). f 0 ∷ l) (filled_next i (λ j. f (suc j)) t (le_of_suc-le-suc h))

-- The entry at i is stored into what the table is by now.
pub filled_more : (i : ℕ) (f : ℕ → ℕ) (t now : List ℕ) (v : ℕ) → i < length t → now ≡ filled i f t → v ≡ f i
    → set now i v ≡ filled (i + 1) f t
filled_more i f t now v h e g =
    ap (λ (l : List ℕ). set l i v) e
    ∙ ap (set (filled i f t) i) g
    ∙ filled_next i f t h
    ∙ ap (λ (k : ℕ). filled k f t) (sym (add-one i))

-- The front of a filled table.
values_front : (n m : ℕ) (f : ℕ → ℕ) (u : List ℕ) → n ≤ m → take n (values m f ++ u) ≡ values n f
unfolding values
values_front zero m f u h = refl
values_front (suc n) zero f u h = absurd (not-suc-le-zero h)
values_front (suc n) (suc m) f u h =
    ap (λ (l : List ℕ). f 0 ∷ l) (values_front n m (λ i. f (suc i)) u (le_of_suc-le-suc h))

pub filled_front : (n m : ℕ) (f : ℕ → ℕ) (t : List ℕ) → n ≤ m → take n (filled m f t) ≡ values n f
filled_front n m f t h = values_front n m f (drop m t) h
