-- The two fields of a record, read one behind the other, make its frame. Assumes nothing.
use mathlib.Core.Path.{◌≡◌, sym, ap, ◌∙◌}
use mathlib.Core.List.{List}
use Prim.Native.Nat.{ℕ, ◌+◌, ◌%◌}
use native.Mathlib.Omega.{arith}
use lib.ListN.{length, get_or}
use Rattle.std.specs.Prelude.{Some}
use Rattle.fields.specs.Fields.{two_at, head_size}
use Rattle.fields.specs.inside.Reading.{field_at}
use Rattle.fields.proofs.FieldsAt.{Found, field_opens}
use Rattle.records.specs.Format.{b_tag, a_tag, base_size}
use Rattle.records.specs.Reading.{b_length, a_length}
use Rattle.records.proofs.Framing.{frame→frames}
use Rattle.records.specs.inside.Steps.{FramedBy}

-- The first field stands, with a body of n bytes.
module _ (s : List ℕ) (n : ℕ) (b : field_at s 0 b_tag ≡ Some n) where
  first : Found s 0 b_tag n
  first = field_opens s 0 b_tag n b

  -- Both stand.
  module _ (m : ℕ) (a : field_at s (head_size + n) a_tag ≡ Some m) where
    second : Found s (head_size + n) a_tag m
    second = field_opens s (head_size + n) a_tag m a

    second_size : m ≡ a_length s
    second_size =
        let next : head_size + n + 1 ≡ 4 + b_length s = omega (arith, first.size) in
        second.size ∙ ap (two_at s) next

    pub framed_exact : length s ≡ base_size + n + m → n % 4 ≡ 0 → m % 4 ≡ 0 → FramedBy s n m
    framed_exact o p q =
        let tag : 3 + b_length s ≡ head_size + n = omega (arith, first.size) in
        record {
          framed =
              frame→frames s
              record {
                room = omega (arith, second.within, first.size);
                b_tag_is = first.tagged;
                a_tag_is = ap (λ (k : ℕ). get_or s k 0) tag ∙ second.tagged;
                ends = omega (arith, o, first.size, second_size);
                b_whole = ap (λ (k : ℕ). k % 4) (sym first.size) ∙ p;
                a_whole = ap (λ (k : ℕ). k % 4) (sym second_size) ∙ q;
              };
          first = first.size;
          second = second_size;
        }
