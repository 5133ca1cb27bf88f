-- The picture of a record's pair, from what the calls answer and leave. Assumes nothing.
use mathlib.Core.Path.{◌≡◌, sym, ap, ap₂, subst, ◌∙◌}
use mathlib.Core.Bool.{Bool}
use mathlib.Core.List.{List}
use Prim.Native.Nat.{ℕ, ◌+◌, ◌*◌, ◌<◌, ◌≤◌}
use native.Mathlib.Omega.{arith}
use lib.ListN.{length, take}
use Rattle.std.specs.Prelude.{Result, Ok, Err}
use Rattle.group.specs.Forms.{Form}
use Rattle.refusals.specs.Refusals.{number_of, place_of}
use Rattle.refusals.specs.Outcomes.{accepted, valued, reply_of}
use Rattle.refusals.specs.declared.Refusal.{Refusal}
use Rattle.refusals.proofs.Outcomes.{accepted_same, valued_refused}
use Rattle.records.specs.Reading.{decode}
use Rattle.trees.specs.Trees.{Tree, carets}
use Rattle.trees.specs.Pairs.{carets_of, minus_tree, plus_tree}
use Rattle.trees.specs.Shapes.{shape}
use Rattle.trees.proofs.Pairs.{pair_carets}
use Rattle.lengths.specs.Weights.{form_length}
use Rattle.pairs.specs.Promises.{paired_in, Paired, Measured}
use Rattle.appending.specs.inside.Appending.{Appended}
use Rattle.appending.proofs.Appending.{appended_front, appended_over}
use Rattle.commands.specs.declared.Answer.{Answer}
use Rattle.commands.specs.Answers.{denying, room_size, fitted}
use Rattle.commands.specs.Promises.{Says}
use Rattle.commands.specs.inside.Steps.{refusal_of}
use Rattle.commands.proofs.PairAnswers.{PairShapes, pair_decoded}
use Rattle.pictures.specs.Spans.{drawn}
use Rattle.drawings.specs.Pictures.{picture_of, form_picture, large_pair, picture_size}
use Rattle.drawings.specs.Pictures.{DrawnAs, is_drawn, is_long_value, is_large, is_refused}
use Rattle.drawings.specs.inside.Ends.{Finished}

-- The length of a record whose form is known: it is no refusal.
pub length_known : {s : List ℕ} {n : ℕ} (f : Form) → decode s ≡ accepted f → Measured form_length s (Ok n)
    → n ≡ form_length f
length_known f e m = accepted_same (m.result ∙ ap (valued form_length) e)

-- The picture of a form by the place behind it.
pub finish_drawn : (c : Bool) {s start picture answer : List ℕ} {end : ℕ} (f : Form)
    → paired_in s room_size room_size ≡ accepted f → carets_of f ≤ drawn → length start ≡ picture_size
    → Appended (form_picture c f) start 0 picture end → (r : Result ℕ Answer) → Finished end answer r
    → DrawnAs c s picture answer r
finish_drawn c {s} {start} {picture} {answer} {end} f o few size a (Ok n) h =
    let front = appended_front (omega (arith, size)) a h.1 in
    is_drawn f o few n (ap (λ (k : ℕ). take k picture) (sym h.0) ∙ front.0)
finish_drawn c {s} {start} {picture} {answer} {end} f o few size a (Err x) h =
    is_long_value f o few (omega (arith, size, appended_over (omega (arith, size)) a h.0)) x h.1

module _ {s m p m' p' : List ℕ} {n : ℕ} (hm : length m ≡ room_size) (hp : length p ≡ room_size)
    (x : PairShapes s m p m' p' n) where
  -- The outcome in memory of the room's size.
  pub room_outcome : paired_in s room_size room_size ≡ accepted x.form
  room_outcome = sym (ap₂ (λ (k l : ℕ). paired_in s k l) hm hp) ∙ x.outcome

  -- The picture of a pair that was written, by what the functions answer.
  pub pair_drawn : (c : Bool) {t u start picture answer : List ℕ} {k end : ℕ} (d : Result ℕ Answer)
      → n ≤ drawn → Measured form_length s (Ok k) → t ≡ take (2 * n + 1) m' → u ≡ take (2 * n + 1) p'
      → length start ≡ picture_size
      → ((v w : Tree) → t ≡ shape v → u ≡ shape w → carets v ≡ carets w → carets v ≤ drawn
      → Appended (picture_of c v w k) start 0 picture end)
      → Finished end answer d → DrawnAs c s picture answer d
  pair_drawn c {t} {u} {start} {picture} {answer} {k} {end} d few measured first second size put h =
      let f = x.form in
      let sizes = pair_carets f in
      let text = put (minus_tree f) (plus_tree f) (first ∙ x.minus) (second ∙ x.plus) (sizes.0 ∙ sym sizes.1)
      (omega (arith, few, sizes.0, x.number)) in
      let known : k ≡ form_length f =
      length_known {s = s} f (pair_decoded s (length m) (length p) f x.outcome) measured in
      finish_drawn c f room_outcome (omega (arith, few, x.number)) size
      (subst (λ (l : ℕ). Appended (picture_of c (minus_tree f) (plus_tree f) l) start 0 picture end) known text) d h

  -- A pair with too many carets.
  pub pair_large : (c : Bool) {picture answer : List ℕ} (a : Answer) → drawn < n
      → Says (fitted (denying large_pair)) answer a → DrawnAs c s picture answer (Err a)
  pair_large c a many h = is_large x.form room_outcome (omega (arith, many, x.number)) a h

-- A record that is refused.
pub pair_refused : (c : Bool) {s m p m' p' picture answer : List ℕ} {r : Result ℕ Refusal} {q : Refusal} (a : Answer)
    → length m ≡ room_size → length p ≡ room_size → Paired s m p m' p' r → r ≡ Err q
    → Says (fitted (denying (refusal_of q))) answer a → DrawnAs c s picture answer (Err a)
pair_refused c {s} {m} {p} {q = q} a hm hp h e says =
    let o = valued_refused carets_of (paired_in s (length m) (length p)) (number_of q) (place_of q)
    (sym h.result ∙ ap reply_of e) in
    is_refused (number_of q) (place_of q) (sym (ap₂ (λ (k l : ℕ). paired_in s k l) hm hp) ∙ o) a says
