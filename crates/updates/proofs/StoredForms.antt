-- Stored forms and the elements of words: a stored form is read back, and two words have the same stored record just
-- where they are filed as one, that is where their forms are equal or exchanged. All that is said of elements enters
-- here. Assumes nothing.
use mathlib.Core.Path.{◌≡◌, refl, sym, ap, ◌∙◌}
use mathlib.Core.List.{List}
use mathlib.Core.Logic.{◌⊎◌, inl, inr, ◌↔◌}
use Prim.Native.Nat.{ℕ, ◌≤◌}
use native.Mathlib.Omega.{arith}
use lib.ListN.{length}
use Rattle.group.specs.Letters.{Word, inverse}
use Rattle.group.specs.Bytes.{bytes_of}
use Rattle.group.specs.Products.{form_of, exchange}
use Rattle.group.specs.Limits.{limit}
use Rattle.group.proofs.Bytes.{word_read, read_length}
use Rattle.group.proofs.Exchange.{exchange_twice, form_inverse}
use Rattle.group.proofs.Theorems.{forms↔joined}
use Rattle.refusals.specs.Outcomes.{accepted}
use Rattle.refusals.specs.Memory.{Memory}
use Rattle.records.specs.Format.{encode}
use Rattle.records.specs.Exchange.{smaller_form}
use Rattle.records.proofs.Accepted.{record_decoded}
use Rattle.records.proofs.WordForms.{word_record}
use Rattle.records.proofs.Exchanges.{smaller_least, smaller_record_lem, record_form, smaller-either, either-smaller}
use Rattle.words.specs.Recording.{judged_with}
use Rattle.words.proofs.Judged.{accepted_record}
use Rattle.registers.specs.Reading.{stored_in}
use Rattle.registers.proofs.StoredRecords.{parts-stored}
use Rattle.updates.specs.Entering.{stored_form}
use Rattle.updates.specs.History.{SameElement}

-- The record of a stored form is read back, and it is not above its exchange.
pub stored_read : (w : Word) → length w ≤ limit → stored_in (encode (stored_form w)) ≡ accepted (stored_form w)
stored_read w h =
    let f = stored_form w in
    parts-stored (encode f) f (record_decoded (encode f) f (smaller_record_lem (form_of w) (word_record w h)))
    (smaller_least (form_of w))

-- Two words are filed as one just where their forms are equal, or one is the other with its sides exchanged.
abbrev pub AsForms : Word → Word → Type 0
AsForms u v = (form_of u ≡ form_of v) ⊎ (form_of u ≡ exchange (form_of v))

pub same↔forms : (u v : Word) → SameElement u v ↔ AsForms u v
same↔forms u v = (to, from)
  where
    to : SameElement u v → AsForms u v
    to (inl j) = inl ((forms↔joined u v).1 j)
    to (inr j) = inr ((forms↔joined u (inverse v)).1 j ∙ form_inverse v)

    from : AsForms u v → SameElement u v
    from (inl e) = inl ((forms↔joined u v).0 e)
    from (inr e) = inr ((forms↔joined u (inverse v)).0 (e ∙ sym (form_inverse v)))

-- Words within the limit have the same stored record just where they are filed as one.
pub stored↔same : (u v : Word) → length u ≤ limit → length v ≤ limit
    → (encode (stored_form u) ≡ encode (stored_form v)) ↔ SameElement u v
stored↔same u v p q =
    let f = form_of u in
    let g = form_of v in
    let r = word_record u p in
    let t = word_record v q in (
      (λ e. (same↔forms u v).1 (smaller-either f g
          (record_form (smaller_form f) (smaller_form g) (smaller_record_lem f r) (smaller_record_lem g t) e))),
      (λ j. ap encode (either-smaller f g t ((same↔forms u v).0 j))),
    )

-- Being filed as one is an equivalence.
pub same_self : (u : Word) → SameElement u u
same_self u = (same↔forms u u).1 (inl refl)

pub same_sym : (u v : Word) → SameElement u v → SameElement v u
same_sym u v h = (same↔forms v u).1 (go ((same↔forms u v).0 h))
  where
    go : AsForms u v → AsForms v u
    go (inl e) = inl (sym e)
    go (inr e) = inr (sym (exchange_twice (form_of v)) ∙ ap exchange (sym e))

pub same_trans : (u v w : Word) → SameElement u v → SameElement v w → SameElement u w
same_trans u v w h g = (same↔forms u w).1 (go ((same↔forms u v).0 h) ((same↔forms v w).0 g))
  where
    go : AsForms u v → AsForms v w → AsForms u w
    go (inl a) (inl b) = inl (a ∙ b)
    go (inl a) (inr b) = inr (a ∙ b)
    go (inr a) (inl b) = inr (a ∙ ap exchange b)
    go (inr a) (inr b) = inl (a ∙ ap exchange b ∙ exchange_twice (form_of w))

-- A word that is accepted is within the limit, and the bytes are its own.
pub word_accepted : (word : List ℕ) (m : Memory) (w : Word) → judged_with word m ≡ accepted w
    → (length w ≤ limit) × (word ≡ bytes_of w)
word_accepted word m w h =
    let fit = accepted_record word (length m.b) (length m.a) (length m.buffer) w h in
    (omega (arith, fit.fit.short, read_length word w fit.fit.reads), word_read word w fit.fit.reads)
