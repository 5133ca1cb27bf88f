-- The record that a new entry stores (02, [7]): it stands behind number and holder, and it is the smaller, in byte
-- order, of the word's own record and the record with its sides exchanged. Assumes nothing.
use mathlib.Core.Path.{◌≡◌, refl, sym, ap, ◌∙◌}
use mathlib.Core.Bool.{Bool, true, false, cond}
use mathlib.Core.List.{List, ◌++◌}
use mathlib.Core.Logic.{◌⊎◌, inl, inr}
use Prim.Native.Nat.{ℕ, ◌+◌, ◌≤◌}
use native.Mathlib.Omega.{arith}
use lib.ListN.{length, take, drop, take-append-drop}
use lib.Seq.{take_at, drop-drop}
use Rattle.group.specs.Letters.{Word}
use Rattle.group.specs.Limits.{limit}
use Rattle.group.specs.Products.{form_of}
use Rattle.refusals.specs.Memory.{Memory}
use Rattle.fields.specs.Fields.{head_size}
use Rattle.records.specs.Format.{encode}
use Rattle.records.specs.Exchange.{exchanged, is_above}
use Rattle.records.proofs.WordForms.{word_record}
use Rattle.records.proofs.Exchanges.{smaller-encode, smaller_least, smaller_record_lem}
use Rattle.words.specs.Recording.{encode_word}
use Rattle.registers.specs.Format.{entry_base, entry_field}
use Rattle.updates.specs.Entering.{stored_form}
use Rattle.claims.specs.Given.{RecordOfWord}
use Rattle.claims.specs.Registers.{OnlyNew, StoredSmaller}
use Rattle.claims.proofs.Filed.{filed↔form}

-- The record of a new entry stands behind number and holder.
stored_there : (s s' : List ℕ) (k h end : ℕ) (b : List ℕ) → OnlyNew s s' k h end b
    → take (length b) (drop (end + head_size + entry_base) s') ≡ b
stored_there s s' k h end b o =
    let size : ℕ = head_size + entry_base + length b in
    let rest : List ℕ = drop size (drop end s') in
    let whole : drop end s' ≡ entry_field k h b ++ rest =
    sym (take-append-drop size (drop end s')) ∙ ap (λ (l : List ℕ). l ++ rest) o.entry in
    let place : end + head_size + entry_base ≡ end + (head_size + entry_base) = omega arith in
    ap (take (length b))
    (ap (λ (n : ℕ). drop n s') place
    ∙ sym (drop-drop (head_size + entry_base) end s')
    ∙ ap (drop (head_size + entry_base)) whole)
    ∙ take_at b rest (length b) refl

-- It is the word's own where that is not above its exchange, and else the exchange.
stored_one : (w : Word) → ((is_above (encode_word w) ≡ false) × (encode (stored_form w) ≡ encode_word w))
    ⊎ ((is_above (encode_word w) ≡ true) × (encode (stored_form w) ≡ exchanged (encode_word w)))
stored_one w = go (is_above (encode_word w)) refl (sym (smaller-encode (form_of w)))
  where
    go : (p : Bool) → is_above (encode_word w) ≡ p
        → encode (stored_form w) ≡ cond p (exchanged (encode_word w)) (encode_word w)
        → ((is_above (encode_word w) ≡ false) × (encode (stored_form w) ≡ encode_word w))
        ⊎ ((is_above (encode_word w) ≡ true) × (encode (stored_form w) ≡ exchanged (encode_word w)))
    go true e is = inr (e, is)
    go false e is = inl (e, is)

-- What is said of it, for a word within the limit whose own record stands at the front of the record buffer.
pub stored-smaller : (m m' : Memory) (s s' : List ℕ) (k h end : ℕ) (w : Word) → length w ≤ limit
    → RecordOfWord m m' (length (encode_word w)) w → take (length (encode_word w)) m'.buffer ≡ encode_word w
    → OnlyNew s s' k h end (encode (stored_form w)) → StoredSmaller m m' s' end w
stored-smaller m m' s s' k h end w short left front o =
    let is_record = smaller_record_lem (form_of w) (word_record w short) in
    record {
      own = encode_word w;
      left = left;
      own_is = front;
      stored = encode (stored_form w);
      stored_is = stored_there s s' k h end (encode (stored_form w)) o;
      smaller = stored_one w;
      form = stored_form w;
      is_record = is_record;
      of_either = (filed↔form (stored_form w) w is_record (smaller_least (form_of w)) short).0 refl;
    }
