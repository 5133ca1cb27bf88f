-- The two bodies of a framed record as the parts of its bytes that the functions lend on, and what comparing and
-- writing those parts says of the record and its exchange. Assumes nothing.
use mathlib.Core.Path.{◌≡◌, refl, sym, ap, ap₂, subst, ◌∙◌}
use mathlib.Core.Bool.{Bool, true, false, true≢false}
use mathlib.Core.List.{List, ◌++◌}
use mathlib.Core.Logic.{◌↔◌}
use Prim.Native.Nat.{ℕ, ◌+◌, ◌-◌, ◌<◌, ◌≤◌}
use native.Mathlib.Decide.{dec_lt}
use native.Mathlib.Omega.{arith}
use lib.Dec.{ltb}
use borrow.Author.Tests.{lt-ltb, le-ltb}
use lib.ListN.{length, take, drop, length-drop}
use lib.Seq.{sets, length-sets, length-take-le}
use Rattle.std.specs.Prelude.{Result, Ok, Err}
use Rattle.std.specs.Result.{IsOk}
use Rattle.refusals.specs.declared.Refusal.{Refusal}
use Rattle.lists.specs.SameBytes.{same_bytes}
use Rattle.lists.specs.inside.Writes.{Wrote}
use Rattle.lists.proofs.SameBytes.{same_bytes_lem, bytes_same}
use Rattle.lists.proofs.Writes.{write_then, write_part}
use Rattle.refusals.specs.Outcomes.{Outcome, accepted, after, valued, reply_of}
use Rattle.refusals.proofs.Outcomes.{accepted_same, accepted_refused}
use Rattle.refusals.specs.Placing.{Placed}
use Rattle.fields.specs.Fields.{Bytes, field, head_size}
use Rattle.fields.specs.inside.Writing.{most_body, field_in}
use Rattle.fields.proofs.Putting.{field_fits}
use Rattle.records.specs.Format.{b_tag, a_tag, base_size}
use Rattle.records.specs.Reading.{b_length, a_length, a_start}
use Rattle.records.specs.Exchange.{bytes_below, b_body, a_body, exchanged, is_above}
use Rattle.records.specs.inside.Steps.{FramedBy}
use Rattle.records.proofs.Framing.{fields, frames→frame}
use Rattle.records.proofs.Frames.{Opened, frame_opens}
use Rattle.records.proofs.Exchanges.{body_b, body_a, bodies_written}
use Rattle.records.proofs.ByteOrder.{above_longer, above_shorter, above_even}

-- What is lent on from an offset.
abbrev part_from : ℕ → List ℕ → List ℕ
part_from f s = take (length s - f) (drop f s)

-- Bytes that two fields frame, with bodies of these lengths.
module _ (s : List ℕ) (b a : ℕ) (e : FramedBy s b a) where
  opened : Opened s b a
  opened = frame_opens e

  pub long_b : length (b_body s) ≡ b
  long_b =
      length-take-le (b_length s) (drop head_size s)
      (omega (arith, opened.first, opened.whole, length-drop head_size s))
      ∙ sym opened.first

  pub long_a : length (a_body s) ≡ a
  long_a =
      length-take-le (a_length s) (drop (a_start s) s)
      (omega (arith, opened.first, opened.second, opened.whole, length-drop (a_start s) s))
      ∙ sym opened.second

  -- A body has no more bytes than a field can say.
  most_b : Bytes s → b ≤ most_body
  most_b bytes = omega (arith, opened.first, bytes 1, bytes 2)

  most_a : Bytes s → a ≤ most_body
  most_a bytes = omega (arith, opened.second, bytes (4 + b_length s), bytes (4 + b_length s + 1))

  -- The bytes are those of the two fields.
  pub sides_written : Bytes s → s ≡ fields (b_body s) (a_body s)
  sides_written bytes = bodies_written s bytes (frames→frame s e.framed)

  -- The exchange comes before the record: the lengths of the bodies decide first, then the bodies.
  above_sides : Bytes s → is_above s ≡ bytes_below (fields (a_body s) (b_body s)) (fields (b_body s) (a_body s))
  above_sides bytes = ap (bytes_below (exchanged s)) (sides_written bytes)

  pub sides_shorter : Bytes s → b < a → false ≡ is_above s
  sides_shorter bytes h =
      sym (above_sides bytes ∙ above_shorter (b_body s) (a_body s) (omega (arith, h, long_b, long_a)))

  pub sides_longer : Bytes s → a < b → true ≡ is_above s
  sides_longer bytes h =
      sym (above_sides bytes ∙ above_longer (b_body s) (a_body s) (omega (arith, h, long_b, long_a)))

  pub sides_uneven : Bytes s → (a ≡ b → ⊥) → ltb a b ≡ is_above s
  sides_uneven bytes n = go (dec_lt a b)
    where
      go : Dec (a < b) → ltb a b ≡ is_above s
      go (yes lt) = lt-ltb a b lt ∙ sides_longer bytes lt
      go (no ge) = le-ltb a b (omega (arith, ge)) ∙ sides_shorter bytes (omega (arith, ge, n))

  pub sides_even : Bytes s → a ≡ b → bytes_below (a_body s) (b_body s) ≡ is_above s
  sides_even bytes h = sym (above_sides bytes ∙ above_even (b_body s) (a_body s) (long_a ∙ h ∙ sym long_b))

-- One record is another's exchange just where each body is the other's other body.
module _ (s t : List ℕ) where
  sides_same : s ≡ exchanged t → (b_body s ≡ a_body t) × (a_body s ≡ b_body t)
  sides_same h =
      (ap b_body h ∙ body_b (a_body t) (b_body t), ap a_body h ∙ body_a (a_body t) (b_body t))

  -- So what tells whether both bodies are so tells whether the one record is the other's exchange.
  pub sides_told : s ≡ fields (b_body s) (a_body s) → (r : Bool)
      → (r ≡ true) ↔ ((b_body s ≡ a_body t) × (a_body s ≡ b_body t)) → r ≡ same_bytes s (exchanged t)
  sides_told is r told = go r (same_bytes s (exchanged t)) refl refl
    where
      same : (b_body s ≡ a_body t) × (a_body s ≡ b_body t) → same_bytes s (exchanged t) ≡ true
      same h =
          ap (same_bytes s) (sym (is ∙ ap₂ (λ (x y : List ℕ). fields x y) h.0 h.1)) ∙ bytes_same s

      go : (p q : Bool) → r ≡ p → same_bytes s (exchanged t) ≡ q → p ≡ q
      go true true h k = refl
      go true false h k = absurd (true≢false (sym (same (told.0 h)) ∙ k))
      go false true h k =
          absurd (true≢false (sym (told.1 (sides_same (same_bytes_lem s (exchanged t) k))) ∙ h))
      go false false h k = refl

-- What lies behind an offset has room for as many bytes as the whole has behind it.
part_room : (f n : ℕ) (l : List ℕ) → f + n ≤ length l → n ≤ length (part_from f l)
part_room f n l h =
    omega (
      arith,
      h,
      length-drop f l,
      length-take-le (length l - f) (drop f l) (omega (arith, length-drop f l)),
    )

-- A field that was placed where it fits.
placed_field : (tag : ℕ) (body out : List ℕ) {out' : List ℕ} {r : Result ℕ Refusal} (n : ℕ)
    → Placed (field_in tag body out) out out' r → length body ≡ n → n ≤ most_body → head_size + n ≤ length out
    → Wrote (field tag body) out 0 out' (head_size + n)
placed_field tag body out n h long most room =
    let fits = field_fits tag body out (omega (arith, long, most)) (omega (arith, long, room)) in
    record {
      ends = omega (arith, long);
      holds = h.bytes ∙ ap (λ (o : Outcome (List ℕ)). after o out (λ bytes. sets out 0 bytes)) fits;
    }

-- It is answered with its bytes counted.
placed_count : (tag : ℕ) (body out : List ℕ) {out' : List ℕ} {r : Result ℕ Refusal}
    → Placed (field_in tag body out) out out' r
    → length body ≤ most_body → head_size + length body ≤ length out
    → reply_of r ≡ accepted (length (field tag body))
placed_count tag body out h most room =
    h.result ∙ ap (λ (o : Outcome (List ℕ)). valued length o) (field_fits tag body out most room)

answered : (r : Result ℕ Refusal) (n : ℕ) → reply_of r ≡ accepted n → IsOk r
answered (Ok k) n e = refl
answered (Err x) n e = absurd (accepted_refused (sym e))

-- The a side's body was placed in the first field, and the b side's in the one behind it, in the part that was lent on.
module _ (s out : List ℕ) (b a : ℕ) (e : FramedBy s b a) (bytes : Bytes s) (room : length s ≤ length out) {mid : List ℕ}
    {r : Result ℕ Refusal} (one : Placed (field_in b_tag (a_body s) out) out mid r) where
  whole : length s ≡ base_size + b + a
  whole = (frame_opens e).whole

  counted_a : reply_of r ≡ accepted (length (field b_tag (a_body s)))
  counted_a =
      placed_count b_tag (a_body s) out one (omega (arith, long_a s b a e, most_a s b a e bytes))
      (omega (arith, long_a s b a e, whole, room))

  pub first_placed : IsOk r
  first_placed = answered _ _ counted_a

  module _ {n : ℕ} (is : r ≡ Ok n) where
    behind_a : n ≡ head_size + a
    behind_a =
        let counts : n ≡ length (field b_tag (a_body s)) = accepted_same (sym (ap reply_of is) ∙ counted_a) in
        omega (arith, counts, long_a s b a e)

    first_wrote : Wrote (field b_tag (a_body s)) out 0 mid n
    first_wrote =
        subst (λ (k : ℕ). Wrote (field b_tag (a_body s)) out 0 mid k) (sym behind_a)
        (placed_field b_tag (a_body s) out a one (long_a s b a e) (most_a s b a e bytes) (omega (arith, whole, room)))

    long_mid : length mid ≡ length out
    long_mid = ap length first_wrote.holds ∙ length-sets out 0 (field b_tag (a_body s))

    pub behind_within : n ≤ length mid
    behind_within = omega (arith, behind_a, whole, room, long_mid)

    room_b : n + (head_size + b) ≤ length mid
    room_b = omega (arith, behind_a, whole, room, long_mid)

    module _ {y : List ℕ} {q : Result ℕ Refusal}
        (two : Placed (field_in a_tag (b_body s) (part_from n mid)) (part_from n mid) y q) where
      fits_b : head_size + length (b_body s) ≤ length (part_from n mid)
      fits_b = omega (arith, long_b s b a e, part_room n (head_size + b) mid room_b)

      pub second_placed : IsOk q
      second_placed =
          answered _ _ (placed_count a_tag (b_body s) (part_from n mid) two
          (omega (arith, long_b s b a e, most_b s b a e bytes))
          fits_b)

      pub exchange_put : take n mid ++ (y ++ drop (length mid - n) (drop n mid)) ≡ sets out 0 (exchanged s)
      exchange_put =
          let second =
          placed_field a_tag (b_body s) (part_from n mid) b two (long_b s b a e) (most_b s b a e bytes)
          (part_room n (head_size + b) mid room_b) in
          (write_then first_wrote (write_part n _ mid y (head_size + b) behind_within second)).holds
