-- What is written into a register: an entry, the mark behind it, and both with the first field's number.
-- Assumes nothing.
use mathlib.Core.Path.{◌≡◌, refl, sym, ap, ap₂, ◌∙◌}
use mathlib.Core.List.{List, [], ◌∷◌, ◌++◌}
use Prim.Native.Nat.{ℕ, ◌+◌, ◌-◌, ◌<◌, ◌≤◌}
use native.Mathlib.Omega.{arith}
use lib.ListN.{length, set, take, drop, length-set, length-take, length-drop}
use lib.Seq.{sets, length-sets}
use borrow.Author.Tests.{lt-ltb, le-ltb}
use Rattle.std.specs.Prelude.{Result, Ok}
use Rattle.refusals.specs.declared.Refusal.{Refusal}
use Rattle.lists.specs.inside.Writes.{Wrote}
use Rattle.lists.proofs.Writes.{write_then, wrote_same, write_part}
use Rattle.fields.specs.Fields.{two_bytes, four_bytes, head_size}
use Rattle.refusals.proofs.Answered.{count_in}
use Rattle.refusals.specs.Placing.{Placed}
use Rattle.records.specs.Exchange.{smaller_record}
use Rattle.records.specs.inside.Exchanging.{smaller_in}
use Rattle.records.proofs.SmallerRecords.{smaller_long, smaller_wrote}
use Rattle.registers.specs.Format.{entry_tag, entry_base, entry_field}
use Rattle.updates.specs.declared.Account.{Account}
use Rattle.updates.specs.declared.Entered.TheVariants as Answers
use Rattle.updates.specs.declared.deciding.Place.{Place}
use Rattle.updates.specs.Accounts.{raised}
use Rattle.updates.specs.inside.Steps.{entry_length, end_marked, Fitting, RoomFor, PutNew}

pub mark_put : (at : ℕ) (s : List ℕ) → at < length s → set s at 0 ≡ end_marked at s
mark_put at s h = simp (lt-ltb at (length s) h)

pub mark_none : (at : ℕ) (s : List ℕ) → length s ≤ at → s ≡ end_marked at s
mark_none at s h = simp (le-ltb at (length s) h)

-- A write keeps the length.
pub wrote_length : {a s t : List ℕ} {i r : ℕ} → Wrote a s i t r → length t ≡ length s
wrote_length {a} {s} {t} {i} {r} w = ap length w.holds ∙ length-sets s i a

-- The same end by another name.
wrote_end : {a s t : List ℕ} {i r : ℕ} (j : ℕ) → r ≡ j → Wrote a s i t r → Wrote a s i t j
wrote_end j e w = record { ends = sym e ∙ w.ends; holds = w.holds }

-- The parts of an entry, one behind another: tag, length, number and holder, then the smaller of the record and its
-- exchange in the part behind them.
pub entry_put : (k h : ℕ) (bytes s v y : List ℕ) {t u : List ℕ} {a b c n : ℕ} (q : Result ℕ Refusal) → q ≡ Ok n
    → Fitting bytes s
    → Wrote (two_bytes (entry_base + length bytes)) (set s 0 entry_tag) 1 t a → Wrote (four_bytes k) t a u b
    → Wrote (two_bytes h) u b v c
    → Placed (smaller_in bytes (take (length v - 9) (drop 9 v))) (take (length v - 9) (drop 9 v)) y q
    → Wrote (entry_field k h (smaller_record bytes)) s 0 (take 9 v ++ (y ++ drop (length v - 9) (drop 9 v)))
    (9 + n)
entry_put k h bytes s v y {t} {u} {a} {b} {c} {n} q is fit one two three placed =
    let long : length v ≡ length s =
    wrote_length three ∙ wrote_length two ∙ wrote_length one ∙ length-set s 0 entry_tag in
    let room : 9 + length bytes ≤ length v = omega (arith, fit.room) in
    let part : List ℕ = take (length v - 9) (drop 9 v) in
    let part-long : length part ≡ length v - 9 = simp (length-take, length-drop) (omega arith) in
    let stored : List ℕ = smaller_record bytes in
    let stored-long : length stored ≡ length bytes = smaller_long bytes fit.framed in
    let size : entry_base + length bytes ≡ length (four_bytes k ++ (two_bytes h ++ stored)) = omega arith in
    let nine : c ≡ 9 = omega (arith, one.ends, two.ends, three.ends) in
    let put = smaller_wrote bytes part q placed fit.framed (omega arith) in
    let count : count_in q ≡ length bytes = omega (arith, put.ends) in
    let all : 9 + length bytes ≡ 9 + n = omega (arith, count, ap count_in is) in
    wrote_end (9 + n) all
    (write_then
    {a = entry_tag ∷ []}
    (record { ends = refl; holds = refl })
    (write_then (wrote_same (ap two_bytes size) one)
    (write_then two
    (write_then (wrote_end 9 nine three)
    (write_part 9 stored v y (length bytes) (omega arith) (wrote_end (length bytes) count put))))))

-- All that a new entry writes.
pub new_put : {p : Place} {bytes stored s t x y : List ℕ} {a n : ℕ} {r : Account} → RoomFor p bytes s
    → Wrote (four_bytes p.number) s head_size t a
    → Wrote (entry_field p.number p.account.holder stored) (take (length t - p.end) (drop p.end t)) 0 y n
    → x ≡ end_marked (p.end + n) (take p.end t ++ (y ++ drop (length t - p.end) (drop p.end t)))
    → r ≡ raised p.account 1 → PutNew p stored s x (Answers.New p.number r)
new_put {p} {bytes} {stored} {s} {t} {x} {y} {a} {n} {r} room one two marked e =
    let inside : p.end ≤ length t = omega (arith, room.room, wrote_length one) in
    let whole = write_part p.end _ t y n inside two in
    let end : p.end + n ≡ p.end + entry_length (length stored) = omega (arith, two.ends) in
    let entry = entry_field p.number p.account.holder stored in
    record {
      register =
          marked
          ∙ ap₂ end_marked end
          (whole.holds ∙ ap (λ (l : List ℕ). sets l p.end entry) one.holds);
      answer = ap (λ (q : Account). Answers.New p.number q) e;
    }
