-- The search of a register, by elements: a number is found just where an entry with it holds the element of the word or
-- of its inverse.
--     filed↔form       all that is said of elements: records are equal just where the words are filed as one
--     number↔filed     the number that is found, and its entry        none↔unfiled   nothing is found, and no entry
-- Assumes nothing.
use mathlib.Core.Path.{◌≡◌, refl, sym, ap, ◌∙◌, subst}
use mathlib.Core.Bool.{Bool, true, false, cond, true≢false}
use mathlib.Core.List.{List, [], ◌∷◌}
use mathlib.Core.Logic.{◌⊎◌, ◌↔◌}
use mathlib.Core.Option.{Option, none, some}
use Prim.Native.Nat.{ℕ, zero, suc, ◌≤◌}
use native.Mathlib.Omega.{arith}
use lib.ListN.{length}
use Rattle.lists.specs.Entries.{At}
use Rattle.lists.specs.SameBytes.{same_bytes}
use Rattle.lists.proofs.Entries.{at_same}
use Rattle.lists.proofs.SameBytes.{same_bytes_lem, bytes_same}
use Rattle.group.specs.Letters.{Word}
use Rattle.group.specs.Forms.{Form, letters}
use Rattle.group.specs.Limits.{limit}
use Rattle.group.specs.Products.{form_of, exchange}
use Rattle.group.proofs.Theorems.{forms↔joined, the_form_joined}
use Rattle.records.specs.Format.{encode, IsRecord}
use Rattle.records.specs.Exchange.{is_above, smaller_form}
use Rattle.records.proofs.WordForms.{word_record}
use Rattle.records.proofs.Exchanges.{smaller_record_lem, record_form, smaller-kept, smaller-either, either-smaller}
use Rattle.registers.specs.Format.{Entry, Register}
use Rattle.registers.specs.Reading.{holds_form, number_for}
use Rattle.registers.specs.WellFormed.{WellFormed}
use Rattle.updates.specs.Entering.{stored_form}
use Rattle.updates.specs.History.{SameElement}
use Rattle.updates.proofs.StoredForms.{same↔forms}
use Rattle.claims.specs.Registers.{Filed, Unfiled}

-- A form is that of a word, or of its inverse.
abbrev OfEither : Word → Form → Type 0
OfEither w g = (g ≡ form_of w) ⊎ (g ≡ exchange (form_of w))

-- An entry's record, which is not above its exchange, is the one that is stored for a word just where its letters and
-- the word are filed as one.
pub filed↔form : (f : Form) (w : Word) → IsRecord (encode f) f → is_above (encode f) ≡ false → length w ≤ limit
    → (encode f ≡ encode (stored_form w)) ↔ SameElement (letters f) w
filed↔form f w r low short = (to, from)
  where
    own : f ≡ form_of (letters f)
    own = the_form_joined (letters f) f r.reduced r.trimmed ((forms↔joined (letters f) (letters f)).0 refl)

    kept : smaller_form f ≡ f
    kept = smaller-kept f low

    to : encode f ≡ encode (stored_form w) → SameElement (letters f) w
    to e =
        let is : f ≡ stored_form w =
        record_form f (stored_form w) r (smaller_record_lem (form_of w) (word_record w short)) e in
        (same↔forms (letters f) w).1 (subst (OfEither w) own (smaller-either f (form_of w) (kept ∙ is)))

    from : SameElement (letters f) w → encode f ≡ encode (stored_form w)
    from j =
        let either : OfEither w f = subst (OfEither w) (sym own) ((same↔forms (letters f) w).0 j) in
        ap encode (sym kept ∙ either-smaller f (form_of w) (word_record w short) either)

-- An entry with the number k has the record of a form.
record Has (f : Form) (es : List Entry) (k : ℕ) : Type 0 where
  place : ℕ
  entry : Entry
  stands : At es place entry
  number : entry.number ≡ k
  same : encode entry.form ≡ encode f

some_has : (f : Form) (es : List Entry) (k : ℕ) → number_for f es ≡ some k → Has f es k
some_has f [] k h = let c : ◌≡◌ {A = ℕ} 0 1 = cc in absurd (omega arith)
some_has f (e ∷ es) k h = go (λ q. some_has f es k q) (holds_form f e) refl h
  where
    later : Has f es k → Has f (e ∷ es) k
    later x = record {
      place = suc x.place;
      entry = x.entry;
      stands = x.stands;
      number = x.number;
      same = x.same;
    }

    go : (number_for f es ≡ some k → Has f es k) → (b : Bool) → holds_form f e ≡ b
        → cond b (some e.number) (number_for f es) ≡ some k → Has f (e ∷ es) k
    go behind true t q =
        let n : e.number ≡ k = cc in
        record { place = 0; entry = e; stands = refl; number = n; same = same_bytes_lem (encode e.form) (encode f) t }
    go behind false t q = later (behind q)

pub none_has : (f : Form) (es : List Entry) → number_for f es ≡ none → (i : ℕ) (e : Entry) → At es i e
    → encode e.form ≡ encode f → ⊥
none_has f [] h i e a q = a
none_has f (x ∷ es) h i e a q = go (holds_form f x) refl h i a (λ z j b. none_has f es z j e b q)
  where
    go : (b : Bool) → holds_form f x ≡ b → cond b (some x.number) (number_for f es) ≡ none → (j : ℕ)
        → At (x ∷ es) j e → (number_for f es ≡ none → (l : ℕ) → At es l e → ⊥) → ⊥
    go true t z j b behind = let c : ◌≡◌ {A = ℕ} 0 1 = cc in omega arith
    go false t z zero b behind =
        let is : holds_form f x ≡ true =
        ap (λ (y : Entry). same_bytes (encode y.form) (encode f)) b
        ∙ ap (λ (l : List ℕ). same_bytes l (encode f)) q ∙ bytes_same (encode f) in
        true≢false (sym is ∙ t)
    go false t z (suc j) b behind = behind z j b

-- In a register that the bytes s are, for a word within the limit.
module _ (s : List ℕ) (q : Register) (w : Word) (r : WellFormed s q) (short : length w ≤ limit) where
  has_filed : (k : ℕ) → Has (stored_form w) q.entries k → Filed q w k
  has_filed k x =
      let readable = r.readable x.place x.entry x.stands in
      let low = r.not_above x.place x.entry x.stands in
      record {
        place = x.place;
        entry = x.entry;
        stands = x.stands;
        number = x.number;
        same = (filed↔form x.entry.form w readable low short).0 x.same;
      }

  filed_has : (k : ℕ) → Filed q w k → Has (stored_form w) q.entries k
  filed_has k x =
      let readable = r.readable x.place x.entry x.stands in
      let low = r.not_above x.place x.entry x.stands in
      record {
        place = x.place;
        entry = x.entry;
        stands = x.stands;
        number = x.number;
        same = (filed↔form x.entry.form w readable low short).1 x.same;
      }

  -- No record is twice in a register: one number.
  one_number : (k n : ℕ) → Has (stored_form w) q.entries k → Has (stored_form w) q.entries n → k ≡ n
  one_number k n x y =
      let place = r.rules.once x.place y.place x.entry y.entry x.stands y.stands
      (x.same ∙ sym y.same) in
      let one : x.entry ≡ y.entry =
      at_same q.entries y.place x.entry y.entry
      (subst (λ (i : ℕ). At q.entries i x.entry) place x.stands) y.stands in
      sym x.number ∙ ap (λ (e : Entry). e.number) one ∙ y.number

  pub none↔unfiled : (number_for (stored_form w) q.entries ≡ none) ↔ Unfiled q w
  none↔unfiled = (
    (λ e k x.
        let y = filed_has k x in none_has (stored_form w) q.entries e y.place y.entry y.stands y.same),
    (λ n. go n (number_for (stored_form w) q.entries) refl),
  )
    where
      go : Unfiled q w → (o : Option ℕ) → number_for (stored_form w) q.entries ≡ o
          → number_for (stored_form w) q.entries ≡ none
      go n (some k) e = absurd (n k (has_filed k (some_has (stored_form w) q.entries k e)))
      go n none e = e

  pub number↔filed : (k : ℕ) → (number_for (stored_form w) q.entries ≡ some k) ↔ Filed q w k
  number↔filed k = (
    (λ e. has_filed k (some_has (stored_form w) q.entries k e)),
    (λ x. go (filed_has k x) (number_for (stored_form w) q.entries) refl),
  )
    where
      go : Has (stored_form w) q.entries k → (o : Option ℕ) → number_for (stored_form w) q.entries ≡ o
          → number_for (stored_form w) q.entries ≡ some k
      go x none e =
          absurd (none_has (stored_form w) q.entries e x.place x.entry x.stands x.same)
      go x (some n) e =
          e ∙ ap (λ (i : ℕ). some i) (one_number n k (some_has (stored_form w) q.entries n e) x)
