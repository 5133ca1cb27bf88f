-- The congruence on words that a set of strings generates; for the eight strings of 01 it is joining by a chain. A
-- chain speaks of whole words; the congruence is closed under a letter in front, which inductions on words need.
--     Congruent R u v   strings of R, put in and taken out, lead from u to v
--     u ≈ v             the same for the eight strings
-- Assumes nothing.
use mathlib.Core.Path.{◌≡◌, refl, sym, ap, subst}
use mathlib.Core.List.{List, [], ◌∷◌, ◌++◌, append_assoc}
use mathlib.Core.Logic.{inl, inr}
use Rattle.group.specs.Letters.{Letter, Word}
use Rattle.group.specs.Chains.{Strings, Eight, Puts, Step, Chain, last_of, JoinedBy}

-- The least congruence on words in which the strings of R vanish.
pub data Congruent (R : Strings) : Word → Word → Type 0 where
  ≈_refl : {u : Word} → Congruent R u u
  ≈_sym : {u v : Word} → Congruent R u v → Congruent R v u
  ≈_trans : {u v w : Word} → Congruent R u v → Congruent R v w → Congruent R u w
  ≈_cons : (x : Letter) {u v : Word} → Congruent R u v → Congruent R (x ∷ u) (x ∷ v)
  ≈_drop : {r : Word} → R r → (t : Word) → Congruent R (r ++ t) t

infix 50 ◌≈◌
-- The congruence of the eight strings.
abbrev pub ◌≈◌ : Word → Word → Type 0
u ≈ v = Congruent Eight u v

module _ {R : Strings} where
  -- Transitivity, to write a derivation from top to bottom.
  infixr 40 ◌⟫◌
  pub ◌⟫◌ : {u v w : Word} → Congruent R u v → Congruent R v w → Congruent R u w
  p ⟫ q = ≈_trans p q

  pub ≈_path : {u v : Word} → u ≡ v → Congruent R u v
  ≈_path {u} e = subst (λ (z : Word). Congruent R u z) e ≈_refl

  pub ≈_front : (p : Word) {u v : Word} → Congruent R u v → Congruent R (p ++ u) (p ++ v)
  ≈_front [] h = h
  ≈_front (x ∷ p) h = ≈_cons x (≈_front p h)

  pub ≈_back : {u v : Word} → Congruent R u v → (s : Word) → Congruent R (u ++ s) (v ++ s)
  ≈_back ≈_refl s = ≈_refl
  ≈_back (≈_sym h) s = ≈_sym (≈_back h s)
  ≈_back (≈_trans h k) s = ≈_trans (≈_back h s) (≈_back k s)
  ≈_back (≈_cons x h) s = ≈_cons x (≈_back h s)
  ≈_back (≈_drop {r} e t) s = ≈_trans (≈_path (append_assoc r t s)) (≈_drop e (t ++ s))

  pub ≈_append : {u v s t : Word} → Congruent R u v → Congruent R s t → Congruent R (u ++ s) (v ++ t)
  ≈_append {v = v} {s = s} h k = ≈_trans (≈_back h s) (≈_front v k)

-- Joining is an equivalence, kept by a letter in front.
module _ {R : Strings} where
  joined_refl : (u : Word) → JoinedBy R u u
  joined_refl u = record { rest = []; chain = tt; last = refl }

  joined_step : {u v w : Word} → Step R u v → JoinedBy R v w → JoinedBy R u w
  joined_step {v} s j = record { rest = v ∷ j.rest; chain = (s, j.chain); last = j.last }

  pub joined_trans : {u v w : Word} → JoinedBy R u v → JoinedBy R v w → JoinedBy R u w
  joined_trans {u} {v} {w} j k = go u j.rest j.chain j.last
    where
      go : (z : Word) (l : List Word) → Chain R z l → last_of z l ≡ v → JoinedBy R z w
      go z [] h e = subst (λ (y : Word). JoinedBy R y w) (sym e) k
      go z (y ∷ l) h e = joined_step h.0 (go y l h.1 e)

  step_sym : {u v : Word} → Step R u v → Step R v u
  step_sym (inl p) = inr p
  step_sym (inr p) = inl p

  pub joined_sym : {u v : Word} → JoinedBy R u v → JoinedBy R v u
  joined_sym {u} {v} j = go u j.rest j.chain j.last
    where
      go : (z : Word) (l : List Word) → Chain R z l → last_of z l ≡ v → JoinedBy R v z
      go z [] h e = subst (λ (y : Word). JoinedBy R y z) e (joined_refl z)
      go z (y ∷ l) h e = joined_trans (go y l h.1 e) (joined_step (step_sym h.0) (joined_refl z))

  puts_cons : (x : Letter) {u v : Word} → Puts R u v → Puts R (x ∷ u) (x ∷ v)
  puts_cons x p =
      record {
        front = x ∷ p.front;
        back = p.back;
        string = p.string;
        among = p.among;
        parted = ap (λ (w : Word). x ∷ w) p.parted;
        put = ap (λ (w : Word). x ∷ w) p.put;
      }

  step_cons : (x : Letter) {u v : Word} → Step R u v → Step R (x ∷ u) (x ∷ v)
  step_cons x (inl p) = inl (puts_cons x p)
  step_cons x (inr p) = inr (puts_cons x p)

  joined_cons : (x : Letter) {u v : Word} → JoinedBy R u v → JoinedBy R (x ∷ u) (x ∷ v)
  joined_cons x {u} {v} j = go u j.rest j.chain j.last
    where
      go : (z : Word) (l : List Word) → Chain R z l → last_of z l ≡ v → JoinedBy R (x ∷ z) (x ∷ v)
      go z [] h e = subst (λ (y : Word). JoinedBy R (x ∷ z) (x ∷ y)) e (joined_refl (x ∷ z))
      go z (y ∷ l) h e = joined_step (step_cons x h.0) (go y l h.1 e)

  -- A string taken out in front is a step.
  joined_drop : (r : Word) → R r → (t : Word) → JoinedBy R (r ++ t) t
  joined_drop r e t =
      joined_step
      (inr (record { front = []; back = t; string = r; among = e; parted = refl; put = refl }))
      (joined_refl t)

  pub ≈→joined : {u v : Word} → Congruent R u v → JoinedBy R u v
  ≈→joined {u} ≈_refl = joined_refl u
  ≈→joined (≈_sym h) = joined_sym (≈→joined h)
  ≈→joined (≈_trans h k) = joined_trans (≈→joined h) (≈→joined k)
  ≈→joined (≈_cons x h) = joined_cons x (≈→joined h)
  ≈→joined (≈_drop {r} e t) = joined_drop r e t

  -- One step of a chain is a string put in, or taken out.
  puts→≈ : {u v : Word} → Puts R u v → Congruent R u v
  puts→≈ p =
      ≈_path p.parted ⟫ ≈_sym (≈_front p.front (≈_drop p.among p.back)) ⟫ ≈_path (sym p.put)

  step→≈ : {u v : Word} → Step R u v → Congruent R u v
  step→≈ (inl p) = puts→≈ p
  step→≈ (inr p) = ≈_sym (puts→≈ p)

  pub joined→≈ : {u v : Word} → JoinedBy R u v → Congruent R u v
  joined→≈ {u} {v} j = go u j.rest j.chain j.last
    where
      go : (z : Word) (l : List Word) → Chain R z l → last_of z l ≡ v → Congruent R z v
      go z [] h e = ≈_path e
      go z (y ∷ l) h e = step→≈ h.0 ⟫ go y l h.1 e
