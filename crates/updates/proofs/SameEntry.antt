-- The same-entry rule, from the plain list: no two words that it keeps are one element or have one number, and what is
-- kept stays. Assumes nothing.
use mathlib.Core.Path.{◌≡◌, refl, sym, ap, ◌∙◌, subst}
use mathlib.Core.List.{List, [], ◌∷◌, ◌++◌}
use mathlib.Core.Logic.{◌⊎◌, inl, inr, ◌↔◌}
use Prim.Native.Nat.{ℕ, zero, suc, ◌+◌, ◌≤◌}
use native.Mathlib.Omega.{arith}
use lib.ListN.{length}
use Rattle.lists.specs.Entries.{At}
use Rattle.lists.proofs.Entries.{at_first, at_second, at_split}
use Rattle.group.specs.Letters.{Word}
use Rattle.group.specs.Bytes.{is_word, bytes_of, read_word}
use Rattle.group.proofs.Bytes.{read_word_lem}
use Rattle.refusals.specs.Outcomes.{Outcome}
use Rattle.updates.specs.Entering.{Reply, Answer, entered_of}
use Rattle.updates.specs.History.{SameElement, Entering, Run, Fresh, Kept, Plain, nothing, with_word}
use Rattle.updates.specs.History.{Lists, refusal, again, first, Listing, Names, Meets}
use Rattle.updates.proofs.StoredForms.{same_self, same_sym, same_trans}
use Rattle.updates.proofs.History.{history}

-- Bytes are those of one word.
one_word : (u v : Word) → bytes_of u ≡ bytes_of v → u ≡ v
one_word u v h = let e : is_word u ≡ is_word v = sym (read_word_lem u) ∙ ap read_word h ∙ read_word_lem v in cc

-- The numbers and the elements of two words that are kept are different.
abbrev Differ : (k l : Kept) → Type 0
Differ k l = (k.number ≡ l.number → ⊥) × (SameElement k.word l.word → ⊥)

-- No later word has this one's number or element, and so on.
abbrev Apart : List Kept → Type 0
Apart [] = Unit {0}
Apart (k ∷ ks) = ((i : ℕ) (l : Kept) → At ks i l → Differ k l) × Apart ks

record Good (p : Plain) : Type 0 where
  apart : Apart p.kept
  given : (i : ℕ) (k : Kept) → At p.kept i k → k.number ≤ p.last

one_number : (ks : List Kept) (i j : ℕ) (k l : Kept) → Apart ks → At ks i k → At ks j l → k.number ≡ l.number
    → k ≡ l
one_number [] i j k l a x y e = absurd x
one_number (z ∷ ks) zero zero k l a x y e = sym x ∙ y
one_number (z ∷ ks) zero (suc j) k l a x y e = absurd ((a.0 j l y).0 (ap (λ (q : Kept). q.number) x ∙ e))
one_number (z ∷ ks) (suc i) zero k l a x y e = absurd ((a.0 i k x).0 (ap (λ (q : Kept). q.number) y ∙ sym e))
one_number (z ∷ ks) (suc i) (suc j) k l a x y e = one_number ks i j k l a.1 x y e

one_element : (ks : List Kept) (i j : ℕ) (k l : Kept) → Apart ks → At ks i k → At ks j l
    → SameElement k.word l.word → k ≡ l
one_element [] i j k l a x y e = absurd x
one_element (z ∷ ks) zero zero k l a x y e = sym x ∙ y
one_element (z ∷ ks) zero (suc j) k l a x y e =
    absurd ((a.0 j l y).1 (subst (λ (q : Kept). SameElement q.word l.word) (sym x) e))
one_element (z ∷ ks) (suc i) zero k l a x y e =
    let back = same_sym k.word l.word e in
    absurd ((a.0 i k x).1 (subst (λ (q : Kept). SameElement q.word k.word) (sym y) back))
one_element (z ∷ ks) (suc i) (suc j) k l a x y e = one_element ks i j k l a.1 x y e

apart_one : (ks : List Kept) (x : Kept) → Apart ks → ((i : ℕ) (k : Kept) → At ks i k → Differ k x)
    → Apart (ks ++ (x ∷ []))
apart_one [] x a f = ((λ i l h. absurd h), tt)
apart_one (k ∷ ks) x a f =
    ((λ i l h. go i l (at_split ks (x ∷ []) i l h)), apart_one ks x a.1 (λ i l h. f (suc i) l h))
  where
    go : (i : ℕ) (l : Kept) → At ks i l ⊎ ((j : ℕ) × (i ≡ length ks + j) × At (x ∷ []) j l) → Differ k l
    go i l (inl h) = a.0 i l h
    go i l (inr (zero, e, h)) = subst (λ (q : Kept). Differ k q) h (f 0 k refl)
    go i l (inr (suc j, e, h)) = absurd h

-- The word that the plain list adds.
abbrev added : Plain → Word → Kept
added p w = record { number = suc p.last; word = w }

good_one : (p : Plain) (w : Word) → Good p
    → ((i : ℕ) (k : Kept) → At p.kept i k → SameElement k.word w → ⊥) → Good (with_word p w)
good_one p w g f =
    record {
      apart =
          apart_one p.kept (added p w) g.apart (λ i k h. ((λ e. omega (arith, g.given i k h, e)), f i k h));
      given = λ i k h. go i k (at_split p.kept (added p w ∷ []) i k h);
    }
  where
    go : (i : ℕ) (k : Kept)
        → At p.kept i k ⊎ ((j : ℕ) × (i ≡ length p.kept + j) × At (added p w ∷ []) j k)
        → k.number ≤ suc p.last
    go i k (inl h) = omega (arith, g.given i k h)
    go i k (inr (zero, e, h)) = omega (arith, ap (λ (q : Kept). q.number) h)
    go i k (inr (suc j, e, h)) = absurd h

good : (p q : Plain) (u : List ℕ) (a : Outcome Answer) → Lists p u a q → Good p → Good q
good p q u a (refusal n k) g = g
good p q u a (again w i k x e y z n) g = g
good p q u a (first w x e f n) g = good_one p w g f

-- Entry n holds the element of u.
record HasElement (ks : List Kept) (n : ℕ) (u : Word) : Type 0 where
  place : ℕ
  word : Kept
  at : At ks place word
  number_is : word.number ≡ n
  element : SameElement word.word u

keeps : (p q : Plain) (u : List ℕ) (a : Outcome Answer) (n : ℕ) (v : Word) → Lists p u a q
    → HasElement p.kept n v → HasElement q.kept n v
keeps p q u a n v (refusal k l) h = h
keeps p q u a n v (again w i k x e y z m) h = h
keeps p q u a n v (first w x e f m) h =
    record {
      place = h.place;
      word = h.word;
      at = at_first p.kept _ h.place h.word h.at;
      number_is = h.number_is;
      element = h.element;
    }

met : (p q : Plain) (b : List ℕ) (a : Outcome Answer) (u : Word) (n : ℕ) → b ≡ bytes_of u → Lists p b a q → Meets a n
    → HasElement q.kept n u
met p q b a u n is (refusal k l) m = absurd m
met p q b a u n is (again w i k x e y z r) m =
    record {
      place = i;
      word = k;
      at = y;
      number_is = subst (λ (reply : Reply). Names reply n) r m;
      element = subst (λ (v : Word). SameElement k.word v) (one_word w u (sym e ∙ is)) z;
    }
met p q b a u n is (first w x e f r) m =
    record {
      place = length p.kept;
      word = added p w;
      at = at_second p.kept (added p w ∷ []) (length p.kept) 0 (added p w) (omega arith) refl;
      number_is = subst (λ (reply : Reply). Names reply n) r m;
      element = subst (λ (v : Word). SameElement w v) (one_word w u (sym e ∙ is)) (same_self w);
    }

-- Runs on the plain list.
part : (cs ds : List Entering) (p t : Plain) → Listing (cs ++ ds) p t → (q : Plain) × Listing cs p q × Listing ds q t
part [] ds p t h = (p, refl, h)
part (c ∷ cs) ds p t (q, one, rest) = let m = part cs ds q t rest in (m.0, (q, one, m.1), m.2)

good_run : (cs : List Entering) (p t : Plain) → Listing cs p t → Good p → Good t
good_run [] p t h g = subst Good h g
good_run (c ∷ cs) p t (q, one, rest) g = good_run cs q t rest (good p q c.word (entered_of c.answer) one g)

keeps_run : (cs : List Entering) (p t : Plain) (n : ℕ) (u : Word) → Listing cs p t → HasElement p.kept n u
    → HasElement t.kept n u
keeps_run [] p t n u h x = subst (λ (y : Plain). HasElement y.kept n u) h x
keeps_run (c ∷ cs) p t n u (q, one, rest) x =
    keeps_run cs q t n u rest (keeps p q c.word (entered_of c.answer) n u one x)

-- In one plain list the numbers are the same just where the elements are.
decided : (p : Plain) (m n : ℕ) (u v : Word) → Good p → HasElement p.kept m u → HasElement p.kept n v
    → (m ≡ n) ↔ SameElement u v
decided p m n u v g x y = (to, from)
  where
    to : m ≡ n → SameElement u v
    to e =
        let one : x.word ≡ y.word =
        one_number p.kept x.place y.place x.word y.word g.apart x.at y.at
        (x.number_is ∙ e ∙ sym y.number_is) in
        same_trans u x.word.word v (same_sym x.word.word u x.element)
        (subst (λ (z : Kept). SameElement z.word v) (sym one) y.element)

    from : SameElement u v → m ≡ n
    from s =
        let near : SameElement x.word.word v = same_trans x.word.word u v x.element s in
        let both : SameElement x.word.word y.word.word =
        same_trans x.word.word v y.word.word near (same_sym y.word.word v y.element) in
        let one : x.word ≡ y.word =
        one_element p.kept x.place y.place x.word y.word g.apart x.at y.at both in
        sym x.number_is ∙ ap (λ (z : Kept). z.number) one ∙ y.number_is

-- Two calls of a run from a fresh register that are answered with an entry meet the same one just where their words are
-- one element.
pub same_entry : (before between behind : List Entering) (c d : Entering) (s t : List ℕ) → Fresh s
    → Run (before ++ (c ∷ (between ++ (d ∷ behind)))) s t
    → (u v : Word) → c.word ≡ bytes_of u → d.word ≡ bytes_of v
    → (m n : ℕ) → Meets (entered_of c.answer) m → Meets (entered_of d.answer) n → (m ≡ n) ↔ SameElement u v
same_entry before between behind c d s t fresh run u v is are m n mc md =
    let listed = history (before ++ (c ∷ (between ++ (d ∷ behind)))) s t fresh run in
    let a = part before (c ∷ (between ++ (d ∷ behind))) nothing listed.plain listed.listed in
    go a.0 listed.plain a.2
    (good_run before nothing a.0 a.1 (record { apart = tt; given = λ i k h. absurd h }))
  where
    last : (x z : Plain) → Listing (d ∷ behind) x z → Good x → HasElement x.kept m u → (m ≡ n) ↔ SameElement u v
    last x z (y, two, rest) g h =
        decided y m n u v (good x y d.word (entered_of d.answer) two g)
        (keeps x y d.word (entered_of d.answer) m u two h)
        (met x y d.word (entered_of d.answer) v n are two md)

    go : (p z : Plain) → Listing (c ∷ (between ++ (d ∷ behind))) p z → Good p → (m ≡ n) ↔ SameElement u v
    go p z (q, one, rest) g =
        let b = part between (d ∷ behind) q z rest in
        let fine = good p q c.word (entered_of c.answer) one g in
        last b.0 z b.2 (good_run between q b.0 b.1 fine)
        (keeps_run between q b.0 m u b.1 (met p q c.word (entered_of c.answer) u m is one mc))
