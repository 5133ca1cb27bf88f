-- A field written at the front of a buffer: which outcome it is. Assumes nothing.
use mathlib.Core.Path.{◌≡◌, sym, ap, ◌∙◌}
use mathlib.Core.List.{List, ◌++◌, append_assoc}
use Prim.Native.Nat.{ℕ, ◌+◌, ◌-◌, ◌≤◌}
use native.Mathlib.Omega.{arith}
use lib.ListN.{length, take, drop}
use lib.Seq.{sets-eq, drop-drop}
use Rattle.lists.specs.inside.Writes.{Wrote}
use borrow.Author.Tests.{le-ltb}
use Rattle.refusals.specs.Outcomes.{accepted}
use Rattle.fields.specs.Fields.{field, head_size}
use Rattle.fields.specs.inside.Writing.{most_body, field_in}

module _ (tag : ℕ) (body out : List ℕ) where
  -- One that is long enough.
  pub field_fits : length body ≤ most_body → head_size + length body ≤ length out
      → field_in tag body out ≡ accepted (field tag body)
  field_fits h g = simp (le-ltb most_body (length body) h, le-ltb (length out) (head_size + length body) g)

-- A text put over a part of as many bytes.
pub part_wrote : (text s : List ℕ) (at n : ℕ) → length text ≡ n → at + n ≤ length s
    → Wrote text s at (take at s ++ (text ++ drop (at + n - at) (drop at s))) (at + n)
part_wrote text s at n long room =
    let size : at + n - at ≡ n = omega arith in
    record {
      ends = omega (arith, long);
      holds =
          ap (λ (k : ℕ). take at s ++ (text ++ drop k (drop at s))) size
          ∙ ap (λ (l : List ℕ). take at s ++ (text ++ l)) (drop-drop n at s)
          ∙ ap (λ (k : ℕ). take at s ++ (text ++ drop (at + k) s)) (sym long)
          ∙ sym (append_assoc (take at s) text (drop (at + length text) s))
          ∙ sym (sets-eq text s at (omega (arith, long, room)));
    }
