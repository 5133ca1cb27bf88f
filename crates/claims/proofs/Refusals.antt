-- The judgement of a word and the reading of a record, by the literal conditions of specs/Refusals.antt.
--     Judged u m      what is judged of a word, in each of its cases
-- Assumes nothing.
use mathlib.Core.Path.{◌≡◌, refl, sym, ap, ap₂, subst, ◌∙◌}
use mathlib.Core.Bool.{cond}
use mathlib.Core.List.{List}
use mathlib.Core.Logic.{◌⊎◌, inl, inr, ◌↔◌}
use Prim.Native.Nat.{ℕ, suc, ◌+◌, ◌<◌, ◌≤◌}
use native.Mathlib.Decide.{dec_le}
use native.Mathlib.Omega.{arith}
use lib.ListN.{length}
use lib.Dec.{ltb}
use borrow.Author.Tests.{lt-ltb, le-ltb}
use Rattle.group.specs.Letters.{Word}
use Rattle.group.specs.Bytes.{bytes_of, Reading, is_word, not_letter_is, read_word, FirstNotLetter}
use Rattle.group.specs.Limits.{limit}
use Rattle.group.proofs.Bytes.{read_word_lem, word_read, not_letter}
use Rattle.refusals.specs.Outcomes.{Outcome, accepted, refused, then}
use Rattle.refusals.specs.Memory.{Memory}
use Rattle.refusals.proofs.Outcomes.{accepted_refused, refused_number, refused_place}
use Rattle.records.specs.Format.{buffer_size}
use Rattle.records.specs.Reading.{decode}
use Rattle.fields.specs.Fields.{Bytes}
use Rattle.records.proofs.Refused.{refused_3, refused_4, refused_5, refused_numbers}
use Rattle.letters.specs.Judging.{judged_reading}
use Rattle.words.specs.Recording.{judged_with}
use Rattle.claims.specs.Refusals.{Long, Unlettered, ShortTable, ShortBuffer, NoWordRefusal, WordRefusal}
use Rattle.claims.specs.Refusals.{long, unlettered, short_table, short_buffer}
use Rattle.claims.specs.Refusals.{RecordRefusal, unframed, faulty, unreduced}
use Rattle.claims.specs.Answers.{None}

-- The buffer's test of a word.
abbrev room_for : List ℕ → Memory → Word → Outcome Word
room_for u m w = cond (ltb (length m.buffer) (buffer_size (length u))) (refused 7 0) (accepted w)

module _ (u : List ℕ) (m : Memory) where
  judged_long : Long u → judged_with u m ≡ refused 1 limit
  judged_long h = simp (lt-ltb limit (length u) h)

  judged_read : (Long u → ⊥) → (r : Reading) → read_word u ≡ r
      → judged_with u m ≡ then (judged_reading r (length u) (length m.b) (length m.a)) (room_for u m)
  judged_read h r e =
      simp (le-ltb limit (length u) (omega (arith, h)))
      (ap (λ (q : Reading). then (judged_reading q (length u) (length m.b) (length m.a)) (room_for u m)) e)

  judged_unlettered : (Long u → ⊥) → (k : ℕ) → FirstNotLetter u k → judged_with u m ≡ refused 2 k
  judged_unlettered h k f = judged_read h (not_letter_is k) ((not_letter u k).1 f)

  -- A word within the limit.
  module _ (h : Long u → ⊥) (w : Word) (e : read_word u ≡ is_word w) where
    judged_short : ShortTable u m → judged_with u m ≡ refused 6 0
    judged_short (inl b) = judged_read h (is_word w) e ∙ simp (lt-ltb (length m.b) (length u + 1) b)
    judged_short (inr a) = judged_read h (is_word w) e ∙ go (dec_le (suc (length m.b)) (length u + 1))
      where
        go : Dec (length m.b < length u + 1)
            → then (judged_reading (is_word w) (length u) (length m.b) (length m.a)) (room_for u m) ≡ refused 6 0
        go (yes b) = simp (lt-ltb (length m.b) (length u + 1) b)
        go (no b) =
            simp (
              le-ltb (length m.b) (length u + 1) (omega (arith, b)),
              lt-ltb (length m.a) (length u + 1) a,
            )

    module _ (s : ShortTable u m → ⊥) where
      tables_long : (length u + 1 ≤ length m.b) × (length u + 1 ≤ length m.a)
      tables_long = (
        at_least (length u + 1) (length m.b) (λ b. s (inl b)),
        at_least (length u + 1) (length m.a) (λ a. s (inr a)),
      )
        where
          at_least : (x y : ℕ) → (y < x → ⊥) → x ≤ y
          at_least x y n = omega (arith, n)

      judged_tables : judged_with u m ≡ room_for u m w
      judged_tables =
          judged_read h (is_word w) e
          ∙ simp (
            le-ltb (length m.b) (length u + 1) tables_long.0,
            le-ltb (length m.a) (length u + 1) tables_long.1,
          )

      judged_buffer : ShortBuffer u m → judged_with u m ≡ refused 7 0
      judged_buffer b = judged_tables ∙ simp (lt-ltb (length m.buffer) (buffer_size (length u)) b)

      judged_fine : (ShortBuffer u m → ⊥) → judged_with u m ≡ accepted w
      judged_fine b =
          judged_tables ∙ simp (le-ltb (length m.buffer) (buffer_size (length u)) (omega (arith, b)))

-- Bytes that are no word have a first byte that is no letter, and no others do.
pub word_lettered : (u : List ℕ) (w : Word) → read_word u ≡ is_word w → Unlettered u → ⊥
word_lettered u w e (k, f) =
    let bad = (not_letter u k).1 f in
    let z : ◌≡◌ {A = ℕ} 0 1 = cc in omega arith

lettered_word : (u : List ℕ) → (Unlettered u → ⊥) → (w : Word) × (read_word u ≡ is_word w)
lettered_word u n = go (read_word u) refl
  where
    go : (r : Reading) → read_word u ≡ r → (w : Word) × (read_word u ≡ is_word w)
    go (is_word w) e = (w, e)
    go (not_letter_is k) e = absurd (n (k, (not_letter u k).0 e))

-- What is judged of a word, in each of its cases.
pub data Judged (u : List ℕ) (m : Memory) : Type 0 where
  refuses : (n p : ℕ) → WordRefusal u m n p → judged_with u m ≡ refused n p → Judged u m
  accepts : (w : Word) → u ≡ bytes_of w → NoWordRefusal u m → judged_with u m ≡ accepted w → Judged u m

pub judge_word : (u : List ℕ) (m : Memory) → Judged u m
judge_word u m = size (dec_le (suc limit) (length u))
  where
    short_or_not : Dec (length m.b < length u + 1) → Dec (length m.a < length u + 1)
        → ShortTable u m ⊎ (ShortTable u m → ⊥)
    short_or_not (yes b) a = inl (inl b)
    short_or_not (no b) (yes a) = inl (inr a)
    short_or_not (no b) (no a) = inr neither
      where
        neither : ShortTable u m → ⊥
        neither (inl x) = b x
        neither (inr x) = a x

    buffer : (h : Long u → ⊥) (w : Word) (e : read_word u ≡ is_word w) (s : ShortTable u m → ⊥)
        → Dec (ShortBuffer u m) → Judged u m
    buffer h w e s (yes b) =
        refuses 7 0 (short_buffer refl refl h (word_lettered u w e) s b) (judged_buffer u m h w e s b)
    buffer h w e s (no b) =
        accepts w (word_read u w e)
        (record { not_long = h; lettered = word_lettered u w e; long_tables = s; long_buffer = b })
        (judged_fine u m h w e s b)

    tables : (h : Long u → ⊥) (w : Word) (e : read_word u ≡ is_word w) → ShortTable u m ⊎ (ShortTable u m → ⊥)
        → Judged u m
    tables h w e (inl s) =
        refuses 6 0 (short_table refl refl h (word_lettered u w e) s) (judged_short u m h w e s)
    tables h w e (inr s) = buffer h w e s (dec_le (suc (length m.buffer)) (buffer_size (length u)))

    reading : (h : Long u → ⊥) (r : Reading) → read_word u ≡ r → Judged u m
    reading h (not_letter_is k) e =
        let f = (not_letter u k).0 e in refuses 2 k (unlettered refl h f) (judged_unlettered u m h k f)
    reading h (is_word w) e =
        tables h w e
        (short_or_not (dec_le (suc (length m.b)) (length u + 1)) (dec_le (suc (length m.a)) (length u + 1)))

    size : Dec (Long u) → Judged u m
    size (yes l) = refuses 1 limit (long refl refl l) (judged_long u m l)
    size (no l) = reading l (read_word u) refl

-- A refusal of a word, by its condition.
refusal-judged : (u : List ℕ) (m : Memory) (n p : ℕ) → WordRefusal u m n p → judged_with u m ≡ refused n p
refusal-judged u m n p (long en ep l) = judged_long u m l ∙ sym (ap₂ refused en ep)
refusal-judged u m n p (unlettered en h f) =
    judged_unlettered u m h p f ∙ sym (ap (λ (k : ℕ). refused k p) en)
refusal-judged u m n p (short_table en ep h l s) =
    let w = lettered_word u l in judged_short u m h w.0 w.1 s ∙ sym (ap₂ refused en ep)
refusal-judged u m n p (short_buffer en ep h l s b) =
    let w = lettered_word u l in judged_buffer u m h w.0 w.1 s b ∙ sym (ap₂ refused en ep)

pub judged↔refusal : (u : List ℕ) (m : Memory) (n p : ℕ) → (judged_with u m ≡ refused n p) ↔ WordRefusal u m n p
judged↔refusal u m n p = (from (judge_word u m), refusal-judged u m n p)
  where
    from : Judged u m → judged_with u m ≡ refused n p → WordRefusal u m n p
    from (refuses k q c e) h =
        subst (λ (i : ℕ). WordRefusal u m i p) (refused_number (sym e ∙ h))
        (subst (λ (i : ℕ). WordRefusal u m k i) (refused_place (sym e ∙ h)) c)
    from (accepts w r c e) h = absurd (accepted_refused (sym e ∙ h))

-- A word is judged good just where no refusal's condition holds, and that is that none of the four holds.
pub accepted_none : (u : List ℕ) (m : Memory) (w : Word) → judged_with u m ≡ accepted w → None (WordRefusal u m)
accepted_none u m w e n p c = accepted_refused (sym e ∙ (judged↔refusal u m n p).1 c)

pub none_accepted : (u : List ℕ) (m : Memory) → None (WordRefusal u m) → (w : Word) × (judged_with u m ≡ accepted w)
none_accepted u m none = go (judge_word u m)
  where
    go : Judged u m → (w : Word) × (judged_with u m ≡ accepted w)
    go (refuses n p c e) = absurd (none n p c)
    go (accepts w b c e) = (w, e)

pub no_refusal↔none : (u : List ℕ) (m : Memory) → NoWordRefusal u m ↔ None (WordRefusal u m)
no_refusal↔none u m = (to, from (judge_word u m))
  where
    to : NoWordRefusal u m → None (WordRefusal u m)
    to c n p (long en ep l) = c.not_long l
    to c n p (unlettered en l f) = c.lettered (p, f)
    to c n p (short_table en ep l f t) = c.long_tables t
    to c n p (short_buffer en ep l f t b) = c.long_buffer b

    from : Judged u m → None (WordRefusal u m) → NoWordRefusal u m
    from (refuses n p c e) none = absurd (none n p c)
    from (accepts w b c e) none = c

-- The word of an accepted call.
pub judged_accepted : (u : List ℕ) (m : Memory) (w : Word) → NoWordRefusal u m → u ≡ bytes_of w
    → judged_with u m ≡ accepted w
judged_accepted u m w c e =
    judged_fine u m c.not_long w (ap read_word e ∙ read_word_lem w) c.long_tables c.long_buffer

-- A refusal of a record, by its condition.
pub decoded↔refusal : (s : List ℕ) → Bytes s → (n p : ℕ) → (decode s ≡ refused n p) ↔ RecordRefusal s n p
decoded↔refusal s bytes n p = (λ h. from h (refused_numbers s n p h), to)
  where
    number : {k : ℕ} → n ≡ k → decode s ≡ refused n p → decode s ≡ refused k p
    number e h = h ∙ ap (λ (i : ℕ). refused i p) e

    from : decode s ≡ refused n p → (n ≡ 3) ⊎ (n ≡ 4) ⊎ (n ≡ 5) → RecordRefusal s n p
    from h (inl e) = let c = (refused_3 s bytes p).0 (number e h) in unframed e c.0 c.1
    from h (inr (inl e)) = let c = (refused_4 s bytes p).0 (number e h) in faulty e c.0 c.1
    from h (inr (inr e)) = let c = (refused_5 s bytes p).0 (number e h) in unreduced e c.0 c.1 c.2

    back : {k : ℕ} → n ≡ k → decode s ≡ refused k p → decode s ≡ refused n p
    back e h = h ∙ sym (ap (λ (i : ℕ). refused i p) e)

    to : RecordRefusal s n p → decode s ≡ refused n p
    to (unframed e z f) = back e ((refused_3 s bytes p).1 (z, f))
    to (faulty e f q) = back e ((refused_4 s bytes p).1 (f, q))
    to (unreduced e f q b) = back e ((refused_5 s bytes p).1 (f, q, b))
