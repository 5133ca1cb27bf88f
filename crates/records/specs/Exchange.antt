-- Byte order, and the record with its two sides exchanged (02, [7]): "The register now stores the smaller, in byte
-- order, of a record and the record with its two sides exchanged".
--     bytes_below s t    s comes before t in byte order       exchanged s       the record s with its sides exchanged
--     is_above s         s comes behind its exchange          smaller_record s   the smaller of the two
--     smaller_form f     the form with the smaller record     SmallnessRead     the contract of `is_smaller`
-- Assumes nothing.
use Rattle.std.specs.Prelude.{◌≡◌, Bool, true, false, cond, not, List, [], ◌∷◌, ◌++◌, ℕ, take, drop, ltb}
use Rattle.std.specs.Prelude.{Result, Ok, Err}
use Rattle.refusals.specs.declared.Refusal.{Refusal}
use Rattle.group.specs.Forms.{Form}
use Rattle.group.specs.Products.{exchange}
use Rattle.refusals.specs.Outcomes.{Outcome, accepted, then, refusal}
use Rattle.fields.specs.Fields.{Bytes, field, head_size}
use Rattle.records.specs.Format.{b_tag, a_tag, encode}
use Rattle.records.specs.Reading.{b_length, a_start, a_length, decode}

-- Byte order: the first byte that differs decides; a list that ends sooner comes first.
unfoldable pub bytes_below : List ℕ → List ℕ → Bool
bytes_below [] [] = false
bytes_below [] (y ∷ t) = true
bytes_below (x ∷ s) [] = false
bytes_below (x ∷ s) (y ∷ t) = cond (ltb x y) true (cond (ltb y x) false (bytes_below s t))

-- The bodies of a record's two fields.
abbrev pub b_body : List ℕ → List ℕ
b_body s = take (b_length s) (drop head_size s)

abbrev pub a_body : List ℕ → List ℕ
a_body s = take (a_length s) (drop (a_start s) s)

-- The record with its two sides exchanged: the a side's body in the field with tag 01, the b side's in that with 02.
abbrev pub exchanged : List ℕ → List ℕ
exchanged s = field b_tag (a_body s) ++ field a_tag (b_body s)

-- The record with its sides exchanged comes before the record.
abbrev pub is_above : List ℕ → Bool
is_above s = bytes_below (exchanged s) s

-- The smaller of a record and the record with its sides exchanged.
abbrev pub smaller_record : List ℕ → List ℕ
smaller_record s = cond (is_above s) (exchanged s) s

-- Of a form and its exchange, the one with the smaller record.
abbrev pub smaller_form : Form → Form
smaller_form f = cond (is_above (encode f)) (exchange f) f

-- The outcome of `is_smaller`.
abbrev pub smallness_of : Result Bool Refusal → Outcome Bool
smallness_of (Ok b) = accepted b
smallness_of (Err r) = refusal r

-- Whether a record is not above its exchange, or refused as the record is. What is lent are bytes.
pub record SmallnessRead (s : List ℕ) (r : Result Bool Refusal) : Type 0 where
  pub are_bytes : Bytes s
  pub result : smallness_of r ≡ then (decode s) (λ f. accepted (not (is_above s)))
