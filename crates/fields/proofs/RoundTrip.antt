-- Fields written and read back: bytes that hold a field at a place are read so, and a field that is read stands there.
-- Assumes nothing.
use mathlib.Core.Path.{◌≡◌, refl, sym, ◌∙◌, ap, ap₂}
use mathlib.Core.List.{List, ◌∷◌, ◌++◌}
use Prim.Native.Nat.{ℕ, suc, ◌+◌}
use native.Mathlib.Omega.{arith}
use lib.ListN.{length, take, drop, length-append, length-drop, length-take, take-append-drop}
use lib.Seq.{drop-cons, drop-drop}
use Rattle.std.specs.Prelude.{Some}
use Rattle.fields.specs.Fields.{Bytes, two_bytes, two_at, field, head_size}
use Rattle.fields.specs.inside.Reading.{field_at}
use Rattle.fields.proofs.Numbers.{drop_on, read_at, two_read, two_written}
use Rattle.fields.proofs.FieldsAt.{Found, field_found, field_opens}

-- The bytes of a field: three, and its body.
pub field-length : (tag : ℕ) (body : List ℕ) → length (field tag body) ≡ head_size + length body
field-length tag body = omega arith

-- A field that was written is read back, whatever stands before and behind it.
pub field_read : (s t body : List ℕ) (at tag : ℕ) → drop at s ≡ field tag body ++ t
    → field_at s at tag ≡ Some (length body)
field_read s t body at tag h =
    let behind : drop (at + 1) s ≡ two_bytes (length body) ++ (body ++ t) =
    drop_on s (field tag body ++ t) at 1 (at + 1) h refl in
    let size : two_at s (at + 1) ≡ length body = two_read s (body ++ t) (at + 1) (length body) behind in
    sym (field_found s at tag (length body) record {
      tagged = read_at s (field tag body ++ t) at h;
      size = sym size;
      within =
          omega (arith, length-drop at s, ap length h, length-append body t);
    })

-- A field that is read stands in the bytes, with a body of so many bytes.
pub field_stands : (s : List ℕ) (at tag n : ℕ) → Bytes s → field_at s at tag ≡ Some n
    → drop at s ≡ field tag (take n (drop (at + head_size) s)) ++ drop (at + head_size + n) s
field_stands s at tag n bytes e =
    drop-cons s at 0 (omega (arith, found.within))
    ∙ ap₂ (λ (x k : ℕ). x ∷ drop k s) found.tagged next
    ∙ ap (λ (l : List ℕ). tag ∷ l)
    (two_written s (at + 1) (at + head_size) bytes (omega arith) (omega (arith, found.within)))
    ∙ ap₂ (λ (k : ℕ) (l : List ℕ). tag ∷ (two_bytes k ++ l)) size parted
  where
    found : Found s at tag n
    found = field_opens s at tag n e

    next : suc at ≡ at + 1
    next = omega arith

    size : two_at s (at + 1) ≡ length (take n (drop (at + head_size) s))
    size =
        omega (arith, found.size, found.within, length-take n (drop (at + head_size) s), length-drop (at + head_size) s)

    parted : drop (at + head_size) s ≡ take n (drop (at + head_size) s) ++ drop (at + head_size + n) s
    parted =
        sym (take-append-drop n (drop (at + head_size) s))
        ∙ ap (λ (l : List ℕ). take n (drop (at + head_size) s) ++ l) (drop-drop n (at + head_size) s)
