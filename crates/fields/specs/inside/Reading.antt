-- A field read at a place of bytes (01, 'The record').
-- Inside: no claim reaches these definitions; a reader of the claims need not believe them. Assumes nothing.
use Rattle.std.specs.Prelude.{cond, List, ℕ, ◌+◌, length, get_or, eqb, ltb, Option, Some, None}
use Rattle.fields.specs.Fields.{two_at, head_size}

-- The field with a tag at a place, by the length of its body: the tag stands there, and the body ends within the bytes.
abbrev pub field_at : List ℕ → (at tag : ℕ) → Option ℕ
field_at s at tag =
    cond (ltb (length s) (at + head_size)) None
    (cond (eqb (get_or s at 0) tag)
    (cond (ltb (length s) (at + head_size + two_at s (at + 1))) None (Some (two_at s (at + 1))))
    None)
