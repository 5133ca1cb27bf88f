-- Entries that follow the rules: a list in two parts, and the numbers of its entries. Assumes nothing.
use mathlib.Core.Path.{◌≡◌, refl, sym, ap, ◌∙◌}
use mathlib.Core.Bool.{Bool, true, false, cond}
use mathlib.Core.List.{List, [], ◌∷◌, ◌++◌, append_assoc, append-nil}
use mathlib.Core.Option.{Option, none, some}
use Prim.Native.Nat.{ℕ, ◌≤◌}
use native.Mathlib.Omega.{arith}
use lib.Dec.{ltb}
use borrow.Author.Tests.{ltb-true}
use Rattle.group.specs.Forms.{Form}
use Rattle.clause.specs.Clause.{both}
use Rattle.records.proofs.Tests.{both_left, both_right_lem}
use Rattle.registers.specs.Format.{Entry}
use Rattle.registers.specs.Reading.{holds_form, any_holds, number_for, last_number, may_follow, follow}
use Rattle.registers.proofs.Counts.{last_behind}

-- The rules on a list in two parts.
pub follow-append : (es ds acc : List Entry) → follow acc (es ++ ds) ≡ both (follow acc es) (follow (acc ++ es) ds)
follow-append [] ds acc = ap (λ (l : List Entry). follow l ds) (sym (append-nil acc))
follow-append (e ∷ es) ds acc =
    ap (λ (b : Bool). both (may_follow acc e) b)
    (follow-append es ds (acc ++ (e ∷ []))
    ∙ ap (λ (l : List Entry). both (follow (acc ++ (e ∷ [])) es) (follow l ds)) (append_assoc acc (e ∷ []) es))
    ∙ nested (may_follow acc e) (follow (acc ++ (e ∷ [])) es) (follow (acc ++ (e ∷ es)) ds)
  where
    nested : (p q r : Bool) → both p (both q r) ≡ both (both p q) r
    nested true q r = refl
    nested false q r = refl

-- Entries that may stand behind others have numbers above theirs.
pub follow_last : (es acc : List Entry) → follow acc es ≡ true → last_number 0 acc ≤ last_number 0 (acc ++ es)
follow_last [] acc h = omega (arith, ap (last_number 0) (append-nil acc))
follow_last (e ∷ es) acc h =
    let low = ltb-true (last_number 0 acc) e.number
    (both_left (ltb (last_number 0 acc) e.number) _ (both_left (may_follow acc e) _ h)) in
    omega (
      arith,
      low,
      last_behind 0 acc e,
      follow_last es (acc ++ (e ∷ [])) (both_right_lem (may_follow acc e) _ h),
      ap (last_number 0) (append_assoc acc (e ∷ []) es),
    )

-- The number of a form's entry is at most the last one.
pub follow_number : (f : Form) (es acc : List Entry) (n : ℕ) → follow acc es ≡ true → number_for f es ≡ some n
    → n ≤ last_number 0 (acc ++ es)
follow_number f [] acc n h e = absurd (none_some e)
  where
    none_some : {m : ℕ} → ◌≡◌ {A = Option ℕ} none (some m) → ⊥
    none_some q = let w : ◌≡◌ {A = ℕ} 0 1 = cc in omega arith
follow_number f (e ∷ es) acc n h q =
    go (holds_form f e) refl q (follow_number f es (acc ++ (e ∷ [])) n (both_right_lem (may_follow acc e) _ h))
  where
    behind : follow (acc ++ (e ∷ [])) es ≡ true
    behind = both_right_lem (may_follow acc e) _ h

    same : last_number 0 ((acc ++ (e ∷ [])) ++ es) ≡ last_number 0 (acc ++ (e ∷ es))
    same = ap (last_number 0) (append_assoc acc (e ∷ []) es)

    go : (b : Bool) → holds_form f e ≡ b → cond b (some e.number) (number_for f es) ≡ some n
        → (number_for f es ≡ some n → n ≤ last_number 0 ((acc ++ (e ∷ [])) ++ es)) → n ≤ last_number 0 (acc ++ (e ∷ es))
    go true p k more =
        let number : e.number ≡ n = cc in
        omega (arith, number, last_behind 0 acc e, follow_last es (acc ++ (e ∷ [])) behind, same)
    go false p k more = omega (arith, more k, same)

-- An entry has the form just where the form has a number.
pub some_holds : (f : Form) (es : List Entry) → any_holds f es ≡ true → (n : ℕ) × (number_for f es ≡ some n)
some_holds f [] h = absurd (let w : ◌≡◌ {A = ℕ} 0 1 = cc in omega arith)
some_holds f (e ∷ es) h = go (holds_form f e) h (some_holds f es)
  where
    go : (b : Bool) → cond b true (any_holds f es) ≡ true → (any_holds f es ≡ true → (n : ℕ) × (number_for f es ≡ some n))
        → (n : ℕ) × (cond b (some e.number) (number_for f es) ≡ some n)
    go true k more = (e.number, refl)
    go false k more = more k

pub none_holds : (f : Form) (es : List Entry) → any_holds f es ≡ false → number_for f es ≡ none
none_holds f [] h = refl
none_holds f (e ∷ es) h = go (holds_form f e) h (none_holds f es)
  where
    go : (b : Bool) → cond b true (any_holds f es) ≡ false → (any_holds f es ≡ false → number_for f es ≡ none)
        → cond b (some e.number) (number_for f es) ≡ none
    go true k more = absurd (let w : ◌≡◌ {A = ℕ} 0 1 = cc in omega arith)
    go false k more = more k
