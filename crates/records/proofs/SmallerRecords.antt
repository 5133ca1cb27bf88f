-- The smaller of a record and its exchange, written at the front of a buffer: it has as many bytes as the record, and
-- those that are counted lie inside the buffer. Assumes nothing.
use mathlib.Core.Path.{◌≡◌, refl, sym, ap, ◌∙◌, subst}
use mathlib.Core.Bool.{Bool, true, false, cond}
use mathlib.Core.List.{List}
use Prim.Native.Nat.{ℕ, ◌-◌, ◌≤◌}
use native.Mathlib.Decide.{dec_le}
use native.Mathlib.Omega.{arith}
use lib.ListN.{length, take, drop, length-append, length-drop}
use lib.Seq.{length-sets, length-take-le}
use Rattle.std.specs.Prelude.{Result, Ok, Err}
use Rattle.std.specs.Result.{IsOk}
use Rattle.refusals.specs.declared.Refusal.{Refusal}
use Rattle.lists.specs.inside.Writes.{Wrote}
use Rattle.lists.proofs.Writes.{sets_front}
use Rattle.group.specs.Forms.{Form}
use Rattle.refusals.specs.Outcomes.{Outcome, refused, valued, reply_of}
use Rattle.refusals.proofs.Answered.{count_in}
use Rattle.refusals.specs.Placing.{fitting, Placed}
use Rattle.refusals.proofs.Outcomes.{accepted_refused}
use Rattle.refusals.proofs.Placing.{fit_short, fit_long, placed_wrote}
use Rattle.fields.specs.Fields.{field, head_size}
use Rattle.records.specs.Format.{b_tag, a_tag, encode}
use Rattle.records.specs.Reading.{b_length, a_start, a_length, frames}
use Rattle.records.specs.Exchange.{b_body, a_body, exchanged, is_above, smaller_record, smaller_form}
use Rattle.records.specs.inside.Exchanging.{smaller_in}
use Rattle.records.proofs.Framing.{Frame, frames→frame}
use Rattle.records.proofs.ReadBack.{frames-encode}
use Rattle.records.proofs.Exchanges.{smaller-encode}

-- The exchange of framed bytes has as many bytes, and so has the smaller of the two.
exchanged_long : (s : List ℕ) → Frame s → length (exchanged s) ≡ length s
exchanged_long s h =
    omega (
      arith,
      length-append (field b_tag (a_body s)) (field a_tag (b_body s)),
      length-take-le (b_length s) (drop head_size s) (b_room (length-drop head_size s)),
      length-take-le (a_length s) (drop (a_start s) s) (a_room (length-drop (a_start s) s)),
      h.ends,
    )
  where
    b_room : {n : ℕ} → n ≡ length s - head_size → b_length s ≤ n
    b_room e = omega (arith, e, h.room)

    a_room : {n : ℕ} → n ≡ length s - a_start s → a_length s ≤ n
    a_room e = omega (arith, e, h.ends)

pub smaller_long : (s : List ℕ) → frames s ≡ true → length (smaller_record s) ≡ length s
smaller_long s e = go (is_above s)
  where
    go : (p : Bool) → length (cond p (exchanged s) s) ≡ length s
    go true = exchanged_long s (frames→frame s e)
    go false = refl

module _ (s out : List ℕ) {out' : List ℕ} (r : Result ℕ Refusal) (h : Placed (smaller_in s out) out out' r) where
  -- Bytes that are framed, and a buffer that has room for them: the smaller is written.
  pub smaller_wrote : frames s ≡ true → length s ≤ length out → Wrote (smaller_record s) out 0 out' (count_in r)
  smaller_wrote e room = placed_wrote r (subst (λ (o : Outcome (List ℕ)). Placed o out out' r) framed h) room
    where
      framed : smaller_in s out ≡ fitting (length s) (smaller_record s) out
      framed = ap (λ (b : Bool). cond b (fitting (length s) (smaller_record s) out) (refused 3 0)) e

  -- And no refusal is answered.
  pub smaller_answered : frames s ≡ true → length s ≤ length out → (x : Refusal) → r ≡ Err x → ⊥
  smaller_answered e room x is =
      accepted_refused
      (sym (sym (ap reply_of is) ∙ h.result
      ∙ ap (λ (b : Bool). valued length (cond b (fitting (length s) (smaller_record s) out) (refused 3 0))) e
      ∙ ap (valued length) (fit_long (length s) (smaller_record s) out room)))

  pub smaller_is_ok : frames s ≡ true → length s ≤ length out → IsOk r
  smaller_is_ok e room = go r refl
    where
      go : (q : Result ℕ Refusal) → r ≡ q → IsOk q
      go (Ok n) is = refl
      go (Err x) is = absurd (smaller_answered e room x is)

  -- A refusal counts nothing.
  none : (n p : ℕ) → smaller_in s out ≡ refused n p → count_in r ≡ 0
  none n p e = go r (h.result ∙ ap (valued length) e)
    where
      go : (q : Result ℕ Refusal) → reply_of q ≡ refused n p → count_in q ≡ 0
      go (Ok k) a = absurd (accepted_refused a)
      go (Err x) a = refl

  -- Whatever the bytes are, those that are counted lie inside the buffer.
  pub smaller-inside : count_in r ≤ length out'
  smaller-inside = go (frames s) refl (dec_le (length s) (length out))
    where
      go : (b : Bool) → frames s ≡ b → Dec (length s ≤ length out) → count_in r ≤ length out'
      go true e (yes room) =
          let w = smaller_wrote e room in
          omega (
            arith,
            w.ends,
            smaller_long s e,
            room,
            ap length w.holds,
            length-sets out 0 (smaller_record s),
          )
      go true e (no short) =
          omega (
            arith,
            none 7 0
                (ap (λ (b : Bool). cond b (fitting (length s) (smaller_record s) out) (refused 3 0)) e
                ∙ fit_short (length s) (smaller_record s) out (omega (arith, short))),
          )
      go false e d =
          omega (
            arith,
            none 3 0 (ap (λ (b : Bool). cond b (fitting (length s) (smaller_record s) out) (refused 3 0)) e),
          )

  -- The record of a form that has room: that of the smaller form stands at the front.
  pub smaller_front : (f : Form) → s ≡ encode f → length s ≤ length out → take (count_in r) out' ≡ encode (smaller_form f)
  smaller_front f is room =
      let framed : frames s ≡ true = ap frames is ∙ frames-encode f in
      let w = smaller_wrote framed room in
      let count : length (smaller_record s) ≡ count_in r = omega (arith, w.ends) in
      ap (take (count_in r)) w.holds
      ∙ sets_front (smaller_record s) out (count_in r) count (omega (arith, count, smaller_long s framed, room))
      ∙ ap smaller_record is
      ∙ smaller-encode f
