-- A field written at the front of a buffer (01, 'The record').
-- Inside: no claim reaches these definitions; a reader of the claims need not believe them. Assumes nothing.
use Rattle.std.specs.Prelude.{cond, List, ℕ, ◌+◌, length, ltb}
use Rattle.refusals.specs.Outcomes.{Outcome, refused}
use Rattle.refusals.specs.Placing.{fitting}
use Rattle.fields.specs.Fields.{field, head_size}

-- The most bytes of a body.
abbrev pub most_body : ℕ
most_body = 65535

-- The field of a body beside a buffer: 7 for a body with more bytes than a two-byte length can say, whatever the
-- buffer, and where the buffer is shorter than the field.
abbrev pub field_in : (tag : ℕ) (body out : List ℕ) → Outcome (List ℕ)
field_in tag body out =
    cond (ltb most_body (length body)) (refused 7 0) (fitting (head_size + length body) (field tag body) out)
