-- What is refused of a text and of what is lent with it, by the literal conditions of specs/Refusals.antt.
--     Room m ps         powers beside the memory, in each of the cases
--     short_or_not      the tables beside the limit, for lists too
--     text↔refusal      the outcome of a text is a refusal just under its condition
-- Assumes nothing.
use mathlib.Core.Path.{◌≡◌, refl, sym, ap, ap₂, subst, ◌∙◌}
use mathlib.Core.List.{List}
use mathlib.Core.Logic.{◌⊎◌, inl, inr, ◌↔◌}
use Prim.Native.Nat.{ℕ, suc, ◌-◌, ◌<◌, ◌≤◌}
use native.Mathlib.Decide.{dec_lt, dec_le}
use native.Mathlib.Omega.{arith}
use lib.ListN.{length}
use borrow.Author.Tests.{lt-ltb, le-ltb}
use Rattle.group.specs.Limits.{limit}
use Rattle.group.specs.Maps.{SameMap}
use Rattle.group.specs.Forms.{exponent, levels, letters}
use Rattle.group.specs.Powers.{SignedPower, product_letters, exponent_sizes}
use Rattle.group.proofs.Reduced.{form_reduced, form_trimmed}
use Rattle.group.proofs.Sizes.{exponent-behind, trimmed_last}
use Rattle.group.proofs.Theorems.{form_map, the_exponents}
use Rattle.refusals.specs.Outcomes.{Outcome, accepted, refused}
use Rattle.refusals.specs.Memory.{Memory}
use Rattle.refusals.proofs.Outcomes.{accepted_refused, refused_number, refused_place}
use Rattle.records.specs.Format.{buffer_size}
use Rattle.tokens.specs.Tokens.{AllInRange}
use Rattle.tokens.specs.Texts.{text_of, FirstMisspelled}
use Rattle.tokens.specs.Reading.{TextRead, misspelled as unspelled, large, read}
use Rattle.tokens.proofs.Texts.{text_injective}
use Rattle.tokens.proofs.Readings.{spelled_or_not, read_one}
use Rattle.forest.specs.Filling.{product_form}
use Rattle.notation.specs.Promises.{room_for, judged_text}
use Rattle.claims.specs.Refusals.{Misspelled, LargeSum, HighForm, ShortTables, ShortRecord, NoTextRefusal}
use Rattle.claims.specs.Refusals.{TextRefusal, misspelled, large_sum, high_form, short_tables, short_record_is}
use Rattle.claims.specs.Answers.{None}

-- A text of powers: its powers are the only ones.
module _ {t : List ℕ} (ps : List SignedPower) (text : t ≡ text_of ps) where
  one_powers : (qs : List SignedPower) → t ≡ text_of qs → qs ≡ ps
  one_powers qs e = text_injective qs ps (sym e ∙ text)

  -- An index above the limit occurs: there are more levels than the limit and one.
  pub high-levels : HighForm t → suc limit < levels (product_form ps)
  high-levels h =
      let map : SameMap (letters h.form) (product_letters ps) =
      subst (λ (qs : List SignedPower). SameMap (letters h.form) (product_letters qs))
      (one_powers h.powers h.text)
      h.same_map in
      go (dec_le (levels (product_form ps)) h.index)
      (the_exponents (product_letters ps) h.form h.reduced map h.side h.index)
    where
      go : Dec (levels (product_form ps) ≤ h.index)
          → exponent h.side h.form h.index ≡ exponent h.side (product_form ps) h.index
          → suc limit < levels (product_form ps)
      go (yes low) there =
          absurd (omega (arith, there, exponent-behind h.side (product_form ps) h.index low, h.occurs))
      go (no high) there = omega (arith, high, h.high)

  pub small_sum : exponent_sizes ps ≤ limit → LargeSum t → ⊥
  small_sum few h = omega (arith, few, h.large, ap exponent_sizes (one_powers h.powers h.text))

  module _ (range : AllInRange ps) where
    pub spelled : Misspelled t → ⊥
    spelled (k, f) = spelled_or_not t k f ps range text

    -- There are more levels than the limit and one: the last of them is above the limit, and occurs.
    levels-high : suc limit < levels (product_form ps) → HighForm t
    levels-high more =
        let last = levels (product_form ps) - 1 in
        let found = trimmed_last (product_form ps) last (form_trimmed (product_letters ps)) (omega (arith, more)) in
        record {
          powers = ps;
          in_range = range;
          text = text;
          form = product_form ps;
          reduced = form_reduced (product_letters ps);
          same_map = form_map (product_letters ps);
          side = found.0;
          index = last;
          high = omega (arith, more);
          occurs = found.1;
        }

    short_record : (m : Memory) → length m.buffer < buffer_size (exponent_sizes ps) → ShortRecord t m
    short_record m h = record { powers = ps; in_range = range; text = text; short = h }

-- A table has fewer entries than the limit and one, or none has.
pub short_or_not : (m : Memory) → ShortTables m ⊎ (ShortTables m → ⊥)
short_or_not m = go (dec_lt (length m.b) (suc limit)) (dec_lt (length m.a) (suc limit))
  where
    go : Dec (length m.b < suc limit) → Dec (length m.a < suc limit) → ShortTables m ⊎ (ShortTables m → ⊥)
    go (yes b) a = inl (inl b)
    go (no b) (yes a) = inl (inr a)
    go (no b) (no a) = inr neither
      where
        neither : ShortTables m → ⊥
        neither (inl x) = b x
        neither (inr x) = a x

at_least : (k : ℕ) → (k < suc limit → ⊥) → suc limit ≤ k
at_least k n = omega (arith, n)

-- Each has the limit's entries and one, where none is short.
module _ (m : Memory) (full : ShortTables m → ⊥) where
  pub b_full : suc limit ≤ length m.b
  b_full = at_least (length m.b) (λ h. full (inl h))

  pub a_full : suc limit ≤ length m.a
  a_full = at_least (length m.a) (λ h. full (inr h))

-- Powers beside the memory.
module _ (m : Memory) (ps : List SignedPower) where
  -- What is found of them.
  abbrev room : Outcome (List SignedPower)
  room = room_for (length m.b) (length m.a) (length m.buffer) ps

  room_high : suc limit < levels (product_form ps) → room ≡ refused 11 0
  room_high h = simp (lt-ltb (suc limit) (levels (product_form ps)) h)

  module _ (low : levels (product_form ps) ≤ suc limit) where
    room_short_b : length m.b < suc limit → room ≡ refused 6 0
    room_short_b b = simp (le-ltb (suc limit) (levels (product_form ps)) low, lt-ltb (length m.b) (suc limit) b)

    room_short : ShortTables m → room ≡ refused 6 0
    room_short (inl b) = room_short_b b
    room_short (inr a) = go (dec_lt (length m.b) (suc limit))
      where
        go : Dec (length m.b < suc limit) → room ≡ refused 6 0
        go (yes b) = room_short_b b
        go (no b) =
            simp (
              le-ltb (suc limit) (levels (product_form ps)) low,
              le-ltb (length m.b) (suc limit) (omega (arith, b)),
              lt-ltb (length m.a) (suc limit) a,
            )

    module _ (full : ShortTables m → ⊥) where
      room_buffer : length m.buffer < buffer_size (exponent_sizes ps) → room ≡ refused 7 0
      room_buffer h =
          simp (
            le-ltb (suc limit) (levels (product_form ps)) low,
            le-ltb (length m.b) (suc limit) (b_full m full),
            le-ltb (length m.a) (suc limit) (a_full m full),
            lt-ltb (length m.buffer) (buffer_size (exponent_sizes ps)) h,
          )

      room_fine : buffer_size (exponent_sizes ps) ≤ length m.buffer → room ≡ accepted ps
      room_fine h =
          simp (
            le-ltb (suc limit) (levels (product_form ps)) low,
            le-ltb (length m.b) (suc limit) (b_full m full),
            le-ltb (length m.a) (suc limit) (a_full m full),
            le-ltb (length m.buffer) (buffer_size (exponent_sizes ps)) h,
          )

-- What is found of powers beside the memory, in each of the cases.
pub data Room (m : Memory) (ps : List SignedPower) : Type 0 where
  is_high : suc limit < levels (product_form ps) → room m ps ≡ refused 11 0 → Room m ps
  is_short : levels (product_form ps) ≤ suc limit → ShortTables m → room m ps ≡ refused 6 0 → Room m ps
  no_buffer : levels (product_form ps) ≤ suc limit → (ShortTables m → ⊥)
      → length m.buffer < buffer_size (exponent_sizes ps) → room m ps ≡ refused 7 0 → Room m ps
  is_roomy : levels (product_form ps) ≤ suc limit → (ShortTables m → ⊥)
      → buffer_size (exponent_sizes ps) ≤ length m.buffer → room m ps ≡ accepted ps → Room m ps

pub judge_room : (m : Memory) (ps : List SignedPower) → Room m ps
judge_room m ps = index (dec_lt (suc limit) (levels (product_form ps)))
  where
    buffer : (low : levels (product_form ps) ≤ suc limit) (full : ShortTables m → ⊥)
        → Dec (length m.buffer < buffer_size (exponent_sizes ps)) → Room m ps
    buffer low full (yes h) = no_buffer low full h (room_buffer m ps low full h)
    buffer low full (no h) =
        let long : buffer_size (exponent_sizes ps) ≤ length m.buffer = omega (arith, h) in
        is_roomy low full long (room_fine m ps low full long)

    tables : (low : levels (product_form ps) ≤ suc limit) → ShortTables m ⊎ (ShortTables m → ⊥) → Room m ps
    tables low (inl h) = is_short low h (room_short m ps low h)
    tables low (inr h) = buffer low h (dec_lt (length m.buffer) (buffer_size (exponent_sizes ps)))

    index : Dec (suc limit < levels (product_form ps)) → Room m ps
    index (yes h) = is_high h (room_high m ps h)
    index (no h) = tables (omega (arith, h)) (short_or_not m)

-- The outcome of a text is a refusal just under its condition.
module _ (t : List ℕ) (m : Memory) (n p : ℕ) where
  -- From the outcome of powers to the condition.
  room_refusal : (ps : List SignedPower) → AllInRange ps → t ≡ text_of ps → exponent_sizes ps ≤ limit → Room m ps
      → room m ps ≡ refused n p → TextRefusal t m n p
  room_refusal ps range text few (is_high h e) o =
      high_form (refused_number (sym o ∙ e)) (refused_place (sym o ∙ e)) (spelled ps text range) (small_sum ps text few)
      (levels-high ps text range h)
  room_refusal ps range text few (is_short low h e) o =
      short_tables (refused_number (sym o ∙ e)) (refused_place (sym o ∙ e)) (spelled ps text range)
      (small_sum ps text few)
      (λ f. omega (arith, low, high-levels ps text f))
      h
  room_refusal ps range text few (no_buffer low full h e) o =
      short_record_is (refused_number (sym o ∙ e)) (refused_place (sym o ∙ e)) (spelled ps text range)
      (small_sum ps text few)
      (λ f. omega (arith, low, high-levels ps text f))
      full
      (short_record ps text range m h)
  room_refusal ps range text few (is_roomy low full h e) o = absurd (accepted_refused (sym e ∙ o))

  judged-refusal : (o : Outcome (List SignedPower)) → TextRead t o → judged_text o m ≡ refused n p → TextRefusal t m n p
  judged-refusal _ (unspelled k f) e =
      misspelled (refused_number (sym e)) (subst (FirstMisspelled t) (refused_place e) f)
  judged-refusal _ (large ps range text more) e =
      large_sum (refused_number (sym e)) (refused_place (sym e)) (spelled ps text range)
      (record { powers = ps; in_range = range; text = text; large = more })
  judged-refusal _ (read ps range text few) e = room_refusal ps range text few (judge_room m ps) e

  -- A text whose conditions 9 and 10 do not hold was read as its powers.
  read_powers : {o : Outcome (List SignedPower)} → TextRead t o → (Misspelled t → ⊥) → (LargeSum t → ⊥)
      → (ps : List SignedPower) × (t ≡ text_of ps) × AllInRange ps × (o ≡ accepted ps)
  read_powers (unspelled k f) no_9 no-10 = absurd (no_9 (k, f))
  read_powers (large ps range text more) no_9 no-10 =
      absurd (no-10 (record { powers = ps; in_range = range; text = text; large = more }))
  read_powers (read ps range text few) no_9 no-10 = (ps, text, range, refl)

  -- Where 11 does not hold, there are at most as many levels as the limit and one.
  low_levels : {o : Outcome (List SignedPower)}
      → (f : (ps : List SignedPower) × (t ≡ text_of ps) × AllInRange ps × (o ≡ accepted ps)) → (HighForm t → ⊥)
      → levels (product_form f.0) ≤ suc limit
  low_levels f no-11 = go (dec_lt (suc limit) (levels (product_form f.0)))
    where
      go : Dec (suc limit < levels (product_form f.0)) → levels (product_form f.0) ≤ suc limit
      go (yes h) = absurd (no-11 (levels-high f.0 f.1 f.2 h))
      go (no h) = omega (arith, h)

  -- From the condition to the outcome.
  refusal-judged : {o : Outcome (List SignedPower)} → TextRead t o → TextRefusal t m n p → judged_text o m ≡ refused n p
  refusal-judged {o} r (misspelled en f) =
      ap (λ (q : Outcome (List SignedPower)). judged_text q m) (read_one t o (refused 9 p) r (unspelled p f))
      ∙ sym (ap (λ (k : ℕ). refused k p) en)
  refusal-judged {o} r (large_sum en ep no_9 h) =
      ap (λ (q : Outcome (List SignedPower)). judged_text q m)
      (read_one t o (refused 10 0) r (large h.powers h.in_range h.text h.large))
      ∙ sym (ap₂ refused en ep)
  refusal-judged {o} r (high_form en ep no_9 no-10 h) =
      let f = read_powers r no_9 no-10 in
      ap (λ (q : Outcome (List SignedPower)). judged_text q m) f.3
      ∙ room_high m f.0 (high-levels f.0 f.1 h)
      ∙ sym (ap₂ refused en ep)
  refusal-judged {o} r (short_tables en ep no_9 no-10 no-11 h) =
      let f = read_powers r no_9 no-10 in
      ap (λ (q : Outcome (List SignedPower)). judged_text q m) f.3
      ∙ room_short m f.0 (low_levels f no-11) h
      ∙ sym (ap₂ refused en ep)
  refusal-judged {o} r (short_record_is en ep no_9 no-10 no-11 full h) =
      let f = read_powers r no_9 no-10 in
      ap (λ (q : Outcome (List SignedPower)). judged_text q m) f.3
      ∙ room_buffer m f.0 (low_levels f no-11) full
      (omega (arith, h.short, ap exponent_sizes (one_powers f.0 f.1 h.powers h.text)))
      ∙ sym (ap₂ refused en ep)

pub text↔refusal : (t : List ℕ) (m : Memory) {o : Outcome (List SignedPower)} → TextRead t o → (n p : ℕ)
    → (judged_text o m ≡ refused n p) ↔ TextRefusal t m n p
text↔refusal t m {o} r n p = (judged-refusal t m n p o r, refusal-judged t m n p r)

-- No refusal's condition holds just where none of the five does.
pub no_text_refusal↔none : (t : List ℕ) (m : Memory) → NoTextRefusal t m ↔ None (TextRefusal t m)
no_text_refusal↔none t m = (to, from)
  where
    to : NoTextRefusal t m → None (TextRefusal t m)
    to c n p (misspelled en f) = c.spelled (p, f)
    to c n p (large_sum en ep s h) = c.small_sum h
    to c n p (high_form en ep s l h) = c.low_form h
    to c n p (short_tables en ep s l f h) = c.full_tables h
    to c n p (short_record_is en ep s l f g h) = c.long_buffer h

    from : None (TextRefusal t m) → NoTextRefusal t m
    from none =
        let no_9 : Misspelled t → ⊥ = λ h. none 9 h.0 (misspelled refl h.1) in
        let no-10 : LargeSum t → ⊥ = λ h. none 10 0 (large_sum refl refl no_9 h) in
        let no-11 : HighForm t → ⊥ = λ h. none 11 0 (high_form refl refl no_9 no-10 h) in
        let no-6 : ShortTables m → ⊥ = λ h. none 6 0 (short_tables refl refl no_9 no-10 no-11 h) in
        record {
          spelled = no_9;
          small_sum = no-10;
          low_form = no-11;
          full_tables = no-6;
          long_buffer = λ h. none 7 0 (short_record_is refl refl no_9 no-10 no-11 no-6 h);
        }
