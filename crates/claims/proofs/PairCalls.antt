-- The calls of record to tree pair and record to length, also by Table 1: what they refuse and what they give.
-- Assumes nothing.
use mathlib.Core.Path.{◌≡◌, refl, sym, ap, ap₂, ◌∙◌, subst}
use mathlib.Core.List.{List}
use mathlib.Core.Logic.{◌⊎◌, inl, inr, ◌↔◌}
use Prim.Native.Nat.{ℕ, ◌+◌, ◌*◌, ◌<◌, ◌≤◌}
use native.Mathlib.Decide.{dec_lt}
use native.Mathlib.Omega.{arith}
use lib.ListN.{length, take, drop}
use lib.Seq.{sets}
use borrow.Author.Tests.{lt-ltb, le-ltb}
use Rattle.std.specs.Prelude.{Result}
use Rattle.refusals.specs.declared.Refusal.{Refusal}
use Rattle.lists.proofs.Writes.{sets_front, sets-beyond}
use Rattle.group.specs.Forms.{Form}
use Rattle.refusals.specs.Outcomes.{Outcome, accepted, refused, valued, reply_of}
use Rattle.refusals.proofs.Outcomes.{accepted_same, accepted_refused, refused_number, refused_place, valued_accepted}
use Rattle.records.specs.Reading.{decode}
use Rattle.fields.specs.Fields.{Bytes}
use Rattle.records.proofs.Accepted.{decode_form, record_decoded, decoded↔record}
use Rattle.trees.specs.Trees.{Tree, carets}
use Rattle.trees.specs.Pairs.{carets_of, minus_tree, plus_tree}
use Rattle.trees.specs.Shapes.{shape, shape_size}
use Rattle.trees.proofs.Pairs.{pair_carets, smallest_pair, smallest_carets}
use Rattle.trees.proofs.Redundant.{reduced_pair}
use Rattle.trees.proofs.Sending.{pair_sends}
use Rattle.trees.proofs.Shapes.{shape-length}
use Rattle.lengths.specs.Kinds.{kinds}
use Rattle.lengths.specs.Weights.{form_length}
use Rattle.lengths.proofs.CaretKinds.{kind_at}
use Rattle.pairs.specs.Promises.{paired_in, tree_after, Paired, Measured}
use Rattle.pairs.proofs.Tables.{carets-most}
use Rattle.claims.specs.Refusals.{RecordRefusal, ShortShape, PairRefusal, unread, short_shape}
use Rattle.claims.specs.Answers.{IsRefused, Refuses}
use Rattle.claims.specs.Given.{PairOfRecord, LengthOfRecord}
use Rattle.claims.proofs.Answers.{is_refused_lem, refuses_when}
use Rattle.claims.proofs.Refusals.{decoded↔refusal}

-- What is found of a record and two buffers, in each of its cases.
data Found (s : List ℕ) (m p : ℕ) : Type 0 where
  unreadable : (n q : ℕ) → decode s ≡ refused n q → paired_in s m p ≡ refused n q → Found s m p
  too_short : ShortShape s m p → paired_in s m p ≡ refused 7 0 → Found s m p
  found : (f : Form) → decode s ≡ accepted f → shape_size (carets_of f) ≤ m → shape_size (carets_of f) ≤ p
      → paired_in s m p ≡ accepted f → Found s m p

module _ (s : List ℕ) (m p : ℕ) where
  short_minus : (f : Form) → decode s ≡ accepted f → m < shape_size (carets_of f) → paired_in s m p ≡ refused 7 0
  short_minus f e h = rw e (simp (lt-ltb m (shape_size (carets_of f)) h))

  short_plus : (f : Form) → decode s ≡ accepted f → shape_size (carets_of f) ≤ m → p < shape_size (carets_of f)
      → paired_in s m p ≡ refused 7 0
  short_plus f e g h = rw e (simp (le-ltb m (shape_size (carets_of f)) g, lt-ltb p (shape_size (carets_of f)) h))

  short_of : Bytes s → (f : Form) → decode s ≡ accepted f
      → (m < shape_size (carets_of f)) ⊎ (p < shape_size (carets_of f)) → ShortShape s m p
  short_of bytes f e h = record {
    form = f;
    is_record = (decoded↔record s f bytes).0 e;
    minus = minus_tree f;
    plus = plus_tree f;
    smallest = smallest_pair f;
    short = size h;
  }
    where
      size : (m < shape_size (carets_of f)) ⊎ (p < shape_size (carets_of f))
          → (m < 2 * carets (minus_tree f) + 1) ⊎ (p < 2 * carets (minus_tree f) + 1)
      size (inl k) = inl (omega (arith, (pair_carets f).0))
      size (inr k) = inr (omega (arith, (pair_carets f).0))

  find : Bytes s → Found s m p
  find bytes = go (decode s) refl
    where
      fits : (f : Form) → decode s ≡ accepted f → Dec (m < shape_size (carets_of f))
          → Dec (p < shape_size (carets_of f)) → Found s m p
      fits f e (yes h) d = too_short (short_of bytes f e (inl h)) (short_minus f e h)
      fits f e (no h) (yes k) = too_short (short_of bytes f e (inr k)) (short_plus f e (omega arith) k)
      fits f e (no h) (no k) =
          let long-m : shape_size (carets_of f) ≤ m = omega arith in
          let long-p : shape_size (carets_of f) ≤ p = omega arith in
          found f e long-m long-p
          (rw e (simp (le-ltb m (shape_size (carets_of f)) long-m, le-ltb p (shape_size (carets_of f)) long-p)))

      go : (o : Outcome Form) → decode s ≡ o → Found s m p
      go (refused n q) e = unreadable n q e (rw e refl)
      go (accepted f) e = fits f e (dec_lt m (shape_size (carets_of f))) (dec_lt p (shape_size (carets_of f)))

  -- The conditions of refusal 7 lead to it.
  short_refused : ShortShape s m p → paired_in s m p ≡ refused 7 0
  short_refused h = go (dec_lt m (shape_size (carets_of h.form))) h.short
    where
      reads : decode s ≡ accepted h.form
      reads = record_decoded s h.form h.is_record

      size : carets h.minus ≡ carets_of h.form
      size = smallest_carets h.form h.minus h.plus h.smallest

      go : Dec (m < shape_size (carets_of h.form)) → (m < 2 * carets h.minus + 1) ⊎ (p < 2 * carets h.minus + 1)
          → paired_in s m p ≡ refused 7 0
      go (yes k) x = short_minus h.form reads k
      go (no k) (inl x) = absurd (omega (arith, size))
      go (no k) (inr x) = short_plus h.form reads (omega arith) (omega (arith, size))

  -- A refusal of a record and two buffers, by its condition.
  paired↔refusal : Bytes s → (n q : ℕ) → (paired_in s m p ≡ refused n q) ↔ PairRefusal s m p n q
  paired↔refusal bytes n q = (from (find bytes), to)
    where
      from : Found s m p → paired_in s m p ≡ refused n q → PairRefusal s m p n q
      from (unreadable k i e o) x = unread ((decoded↔refusal s bytes n q).0 (e ∙ sym o ∙ x))
      from (too_short short o) x = short_shape (refused_number (sym x ∙ o)) (refused_place (sym x ∙ o)) short
      from (found f e hm hp o) x = absurd (accepted_refused (sym o ∙ x))

      to : PairRefusal s m p n q → paired_in s m p ≡ refused n q
      to (unread c) = rw ((decoded↔refusal s bytes n q).1 c) refl
      to (short_shape en eq short) = short_refused short ∙ sym (ap₂ refused en eq)

module _ {s m p m' p' : List ℕ} {r : Result ℕ Refusal} (h : Paired s m p m' p' r) where
  -- Refused as what is found, and then both buffers stay.
  pub pair_refused : Refuses (reply_of r) (PairRefusal s (length m) (length p))
      × (IsRefused (reply_of r) → (m' ≡ m) × (p' ≡ p))
  pair_refused = (
    refuses_when carets_of (paired_in s (length m) (length p)) h.result (PairRefusal s (length m) (length p))
        (paired↔refusal s (length m) (length p) h.are_bytes),
    (λ x.
        let o = (is_refused_lem carets_of (paired_in s (length m) (length p)) h.result x).2 in (
          h.t_minus ∙ ap (λ (y : Outcome Form). tree_after minus_tree y m) o,
          h.t_plus ∙ ap (λ (y : Outcome Form). tree_after plus_tree y p) o,
        )),
  )

  -- The buffers of a record that is accepted.
  module _ (f : Form) (e : decode s ≡ accepted f) (o : paired_in s (length m) (length p) ≡ accepted f) where
    size : (t : Tree) → carets t ≡ carets_of f → length (shape t) ≡ shape_size (carets_of f)
    size t k = shape-length t ∙ ap shape_size k

    minus_holds : m' ≡ sets m 0 (shape (minus_tree f))
    minus_holds = h.t_minus ∙ ap (λ (x : Outcome Form). tree_after minus_tree x m) o

    plus_holds : p' ≡ sets p 0 (shape (plus_tree f))
    plus_holds = h.t_plus ∙ ap (λ (x : Outcome Form). tree_after plus_tree x p) o

    of_record : shape_size (carets_of f) ≤ length m → shape_size (carets_of f) ≤ length p
        → PairOfRecord s m p m' p' (carets_of f)
    of_record hm hp =
        let n : ℕ = shape_size (carets_of f) in
        let lm : length (shape (minus_tree f)) ≡ n = size (minus_tree f) (pair_carets f).0 in
        let lp : length (shape (plus_tree f)) ≡ n = size (plus_tree f) (pair_carets f).1 in
        let kept = decode_form s f e in
        record {
          form = f;
          is_record = (decoded↔record s f h.are_bytes).0 e;
          minus = minus_tree f;
          plus = plus_tree f;
          smallest = smallest_pair f;
          number = pair_carets f;
          few = carets-most f kept.0 kept.1;
          shapes = (
            ap (take n) minus_holds ∙ sets_front (shape (minus_tree f)) m n lm hm,
            ap (take n) plus_holds ∙ sets_front (shape (plus_tree f)) p n lp hp,
          );
          beyond = (
            ap (drop n) minus_holds ∙ sets-beyond (shape (minus_tree f)) m n lm hm,
            ap (drop n) plus_holds ∙ sets-beyond (shape (plus_tree f)) p n lp hp,
          );
          same_map = pair_sends f (minus_tree f) (plus_tree f) (smallest_pair f).pair;
          no_redundant = reduced_pair f kept.0.reduced;
        }

  -- An accepted call.
  pub pair_gives : (n : ℕ) → reply_of r ≡ accepted n → PairOfRecord s m p m' p' n
  pair_gives n a = go (find s (length m) (length p) h.are_bytes)
    where
      never : (k q : ℕ) → paired_in s (length m) (length p) ≡ refused k q → ⊥
      never k q o = accepted_refused (sym a ∙ h.result ∙ ap (valued carets_of) o)

      go : Found s (length m) (length p) → PairOfRecord s m p m' p' n
      go (unreadable k q e o) = absurd (never k q o)
      go (too_short short o) = absurd (never 7 0 o)
      go (found f e hm hp o) =
          let same : carets_of f ≡ n = accepted_same (sym (h.result ∙ ap (valued carets_of) o) ∙ a) in
          subst (λ (k : ℕ). PairOfRecord s m p m' p' k) same (of_record f e o hm hp)

-- Refused as the record is.
pub length_refused : {count : Form → ℕ} {s : List ℕ} {r : Result ℕ Refusal} → Measured count s r
    → Refuses (reply_of r) (RecordRefusal s)
length_refused {count} {s} h =
    refuses_when count (decode s) h.result (RecordRefusal s) (decoded↔refusal s h.are_bytes)

-- The length is that of the kinds of the pair's carets, by any count that gives it.
pub length_gives : {count : Form → ℕ} {s : List ℕ} {r : Result ℕ Refusal} → ((f : Form) → count f ≡ form_length f)
    → Measured count s r → (n : ℕ) → reply_of r ≡ accepted n → LengthOfRecord s n
length_gives {count} {s} same h n a =
    let x = valued_accepted count (decode s) n (sym h.result ∙ a) in
    let f : Form = x.0 in
    record {
      form = f;
      is_record = (decoded↔record s f h.are_bytes).0 x.1;
      minus = minus_tree f;
      plus = plus_tree f;
      smallest = smallest_pair f;
      minus_kinds = kinds (minus_tree f);
      plus_kinds = kinds (plus_tree f);
      minus_are = λ k y. ((kind_at (minus_tree f) k y).1, (kind_at (minus_tree f) k y).0);
      plus_are = λ k y. ((kind_at (plus_tree f) k y).1, (kind_at (plus_tree f) k y).0);
      sum = sym x.2 ∙ same f;
    }
