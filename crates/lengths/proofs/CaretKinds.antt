-- The kinds that are worked out are those of 01's sentences ('The tree pair and the length'; 000, section 3.1).
--     kind_at      caret k is of kind x just when entry k of the kinds is x
--     one_kind     each caret has exactly one kind
--     first_kind   caret 0 is of kind L0, and no other caret is
-- Assumes nothing.
use mathlib.Core.Path.{◌≡◌, refl, ◌∙◌, subst}
use mathlib.Core.Bool.{Bool, true, false}
use mathlib.Core.List.{List, [], ◌∷◌}
use mathlib.Core.Logic.{◌↔◌}
use Prim.Native.Nat.{ℕ, zero, suc, ◌<◌, ◌≤◌}
use native.Mathlib.Omega.{arith}
use native.Mathlib.Nat.{le_refl}
use lib.Dec.{T}
use lib.ListN.{drop, length}
use Rattle.lists.specs.Entries.{At}
use Rattle.lists.proofs.Entries.{at_bound, at_exists, at_same}
use Rattle.trees.specs.Trees.{Tree, carets}
use Rattle.trees.proofs.Carets.{to_caret, caret_lt}
use Rattle.lengths.specs.Classes.{Class, on_left, on_right, inside_leaf, inside_caret, classes}
use Rattle.lengths.specs.Kinds.{
  Kind,
  L0,
  LL,
  RI,
  RN,
  R0,
  I0,
  IR,
  IsOnRight,
  Interior,
  IsKind,
  next_inside,
  some_inside_value,
  right_kind,
  kind_of,
  kinds_of,
  kinds,
}
use Rattle.lengths.proofs.ShapeClasses.{classes-length}
use Rattle.lengths.proofs.LaterKinds.{next_inside_lem, some_inside_lem, kind_there, kinds-length}
use Rattle.lengths.proofs.CaretClasses.{IsClass, class_is, interior_is, caret_of}

-- One kind for each caret.
pub kinds_numbered : (t : Tree) → length (kinds t) ≡ carets t
kinds_numbered t = kinds-length (classes t) ∙ classes-length t

-- Some caret from number n on is interior.
abbrev InteriorFrom : Tree → ℕ → Type 0
InteriorFrom t n = (j : ℕ) × (n ≤ j) × Interior t j

-- The two tests of the classes from number n on, and what they say.
abbrev pub next : Tree → ℕ → Bool
next t n = next_inside (drop n (classes t))

abbrev pub some : Tree → ℕ → Bool
some t n = some_inside_value (drop n (classes t))

pub next_is : (t : Tree) (n : ℕ) → T (next t n) ↔ Interior t n
next_is t n = (
  (λ h. (interior_is t n).1 ((next_inside_lem (classes t) n).0 h)),
  λ h. (next_inside_lem (classes t) n).1 ((interior_is t n).0 h),
)

some_is : (t : Tree) (n : ℕ) → T (some t n) ↔ InteriorFrom t n
some_is t n = (
  (λ h. let f = (some_inside_lem (classes t) n).0 h in (f.0, f.1, (interior_is t f.0).1 f.2)),
  λ f. (some_inside_lem (classes t) n).1 (f.0, f.1, (interior_is t f.0).0 f.2),
)

-- The kinds of the right side, by the tests.
right_interior : (p q : Bool) → T p → right_kind p q ≡ RI
right_interior true q h = refl
right_interior false q h = absurd h

right_later : (p q : Bool) → (T p → ⊥) → T q → right_kind p q ≡ RN
right_later true q h g = absurd (h tt)
right_later false true h g = refl
right_later false false h g = absurd g

right_none : (p q : Bool) → (T p → ⊥) → (T q → ⊥) → right_kind p q ≡ R0
right_none true q h g = absurd (h tt)
right_none false true h g = absurd (g tt)
right_none false false h g = refl

-- The kind of caret 0, and that of caret k + 1 by its class.
first_entry : (cs : List Class) → 0 < length cs → At (kinds_of cs) 0 L0
first_entry [] h = absurd (omega arith)
first_entry (c ∷ cs) h = refl

pub later_entry : (t : Tree) (k : ℕ) (c : Class) → IsClass t (suc k) c
    → At (kinds t) (suc k) (kind_of c (next t (suc (suc k))) (some t (suc (suc k))))
later_entry t k c h = kind_there (classes t) k c ((class_is t (suc k) c).0 h)

-- From the sentences to the entry.
kind_entry : (t : Tree) (k : ℕ) (x : Kind) → IsKind t k x → At (kinds t) k x
kind_entry t zero L0 h =
    first_entry (classes t) (omega (arith, classes-length t, caret_lt t 0 h.1.0 (to_caret t 0 h.1.0 h.1.1)))
kind_entry t (suc k) L0 h = absurd (omega (arith, h.0))
kind_entry t zero LL h = absurd (omega (arith, h.0))
kind_entry t (suc k) LL h = later_entry t k on_left h.1
kind_entry t zero RI h = absurd (omega (arith, h.0))
kind_entry t (suc k) RI h =
    let n = suc (suc k) in
    subst (At (kinds t) (suc k)) (right_interior (next t n) (some t n) ((next_is t n).1 h.2))
    (later_entry t k on_right h.1)
kind_entry t zero RN h = absurd (omega (arith, h.0))
kind_entry t (suc k) RN h =
    let n = suc (suc k) in
    let no-next : T (next t n) → ⊥ = λ p. h.2 ((next_is t n).0 p) in
    subst (At (kinds t) (suc k)) (right_later (next t n) (some t n) no-next ((some_is t n).1 h.3))
    (later_entry t k on_right h.1)
kind_entry t zero R0 h = absurd (omega (arith, h.0))
kind_entry t (suc k) R0 h =
    let n = suc (suc k) in
    let none : InteriorFrom t n → ⊥ = λ f. h.2 f.0 f.1 f.2 in
    let no-next : T (next t n) → ⊥ = λ p. none (n, le_refl n, (next_is t n).0 p) in
    let no-later : T (some t n) → ⊥ = λ p. none ((some_is t n).0 p) in
    subst (At (kinds t) (suc k)) (right_none (next t n) (some t n) no-next no-later)
    (later_entry t k on_right h.1)
kind_entry t zero I0 h = absurd (omega (arith, h.0))
kind_entry t (suc k) I0 h = later_entry t k inside_leaf (h.1, h.2)
kind_entry t zero IR h = absurd (omega (arith, h.0))
kind_entry t (suc k) IR h = later_entry t k inside_caret (h.1, h.2)

-- The caret of each number below N has a kind.
right_sentence : (t : Tree) (k : ℕ) (p q : Bool) → (T p ↔ Interior t (suc k)) → (T q ↔ InteriorFrom t (suc k)) → 0 < k
    → IsOnRight t k → IsKind t k (right_kind p q)
right_sentence t k true q hp hq pos o = (pos, o, hp.0 tt)
right_sentence t k false true hp hq pos o = (pos, o, hp.1, hq.0 tt)
right_sentence t k false false hp hq pos o = (pos, o, λ j h i. hq.1 (j, h, i))

later_sentence : (t : Tree) (k : ℕ) (c : Class) → 0 < k → IsClass t k c
    → IsKind t k (kind_of c (next t (suc k)) (some t (suc k)))
later_sentence t k on_left pos h = (pos, h)
later_sentence t k on_right pos h =
    right_sentence t k (next t (suc k)) (some t (suc k)) (next_is t (suc k)) (some_is t (suc k)) pos h
later_sentence t k inside_leaf pos h = (pos, h.0, h.1)
later_sentence t k inside_caret pos h = (pos, h.0, h.1)

has_kind : (t : Tree) (k : ℕ) → k < carets t → (x : Kind) × IsKind t k x
has_kind t zero h = (L0, (refl, caret_of t 0 h))
has_kind t (suc k) h =
    let c = at_exists (classes t) (suc k) (omega (arith, classes-length t)) in (
      kind_of c.0 (next t (suc (suc k))) (some t (suc (suc k))),
      later_sentence t (suc k) c.0 (omega arith) ((class_is t (suc k) c.0).1 c.1),
    )

-- Caret k is of kind x just when entry k of the kinds is x.
pub kind_at : (t : Tree) (k : ℕ) (x : Kind) → IsKind t k x ↔ At (kinds t) k x
kind_at t k x = (kind_entry t k x, back)
  where
    back : At (kinds t) k x → IsKind t k x
    back h =
        let y = has_kind t k (omega (arith, at_bound (kinds t) k x h, kinds_numbered t)) in
        subst (IsKind t k) (at_same (kinds t) k y.0 x (kind_entry t k y.0 y.1) h) y.1

-- Each caret has exactly one kind.
pub one_kind : (t : Tree) (k : ℕ) → k < carets t → (x : Kind) × IsKind t k x × ((y : Kind) → IsKind t k y → y ≡ x)
one_kind t k h =
    let x = has_kind t k h in
    (x.0, x.1, λ y p. at_same (kinds t) k y x.0 (kind_entry t k y p) (kind_entry t k x.0 x.1))

-- Caret 0 of every tree with a caret is of kind L0, and no other caret is.
pub first_kind : (t : Tree) (k : ℕ) → IsKind t k L0 ↔ ((k ≡ 0) × (0 < carets t))
first_kind t k = (
  (λ h. (h.0, omega (arith, caret_lt t k h.1.0 (to_caret t k h.1.0 h.1.1)))),
  λ h. (h.0, caret_of t k (omega (arith, h.0, h.1))),
)
