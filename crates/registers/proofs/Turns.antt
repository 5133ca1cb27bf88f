-- The pass over a register's entries: what is known where some of them are read, and each way that a turn can go.
--     Passing      the entries before a place follow the rules, and those behind it give the rest of the reading
--     passing-*    no entry stands at the place; the entry there is refused; it is one more
-- Assumes nothing.
use mathlib.Core.Path.{◌≡◌, refl, sym, ap, ap₂, ◌∙◌, subst}
use mathlib.Core.Bool.{Bool, true, false, cond, true≢false}
use mathlib.Core.List.{List, [], ◌∷◌, ◌++◌, append_assoc, append-nil}
use Prim.Native.Nat.{ℕ, zero, suc, ◌+◌, ◌<◌, ◌≤◌}
use native.Mathlib.Omega.{arith}
use lib.ListN.{length, get_or, drop, set, length-append, length-drop}
use lib.Dec.{ltb}
use lib.Seq.{drop-drop}
use borrow.Author.Tests.{ltb-true, ltb-false}
use Rattle.group.specs.Forms.{Form}
use Rattle.refusals.specs.Outcomes.{Outcome, accepted, refused, then}
use Rattle.fields.specs.Fields.{Bytes, four_at_value, head_size}
use Rattle.clause.specs.Clause.{both}
use Rattle.records.proofs.Tests.{both_left, both_right_lem, unless_fails, unless_passes}
use Rattle.registers.specs.Format.{Entry, Register, first_size, register_most, live_most, register_bytes, entry_bytes}
use Rattle.registers.specs.Format.{entries_bytes}
use Rattle.registers.specs.Reading.{ends, entry_size, entry_stands, number_in, holder_in, record_in, stored_in}
use Rattle.registers.specs.Reading.{entry_of, read_entry}
use Rattle.registers.specs.Reading.{read_entries, not_register, last_number, may_follow, follow}
use Rattle.registers.specs.Reading.{first_stands, judged_entries, read_register}
use Rattle.registers.specs.Answers.{overview, overview_in}
use Rattle.registers.specs.declared.Overview.{Overview}
use Rattle.registers.specs.inside.Steps.{fingerprint, accepts, entry_fits, table_size, count_at, marked}
use Rattle.registers.specs.inside.Steps.{Prepared}
use Rattle.registers.proofs.Rests.{rest, rest-turn, rest_end, rest_broken}
use Rattle.registers.proofs.Counts.{last_behind}
use Rattle.registers.proofs.Following.{follow-append}
use Rattle.registers.proofs.MayFollow.{fits_may}
use Rattle.registers.proofs.Before.{Tabled, tabled_behind}
use Rattle.registers.proofs.Printing.{print_small}
use Rattle.registers.proofs.Written.{IsEntry, entry_written, bytes_drop}

-- Entries end at `at`; the last of them has the number `low`, and they left the table.
pub record Passing (s : List ℕ) (last at low : ℕ) (table : List ℕ) : Type 0 where
  pub before : List Entry
  pub fuel : ℕ
  pub enough : length s ≤ fuel + at
  pub whole : read_register s ≡ rest last fuel (drop at s) before
  pub written : drop first_size s ≡ entries_bytes before ++ drop at s
  pub place : at ≡ first_size + length (entries_bytes before)
  pub inside : at ≤ length s
  pub followed : follow [] before ≡ true
  pub lowest : low ≡ last_number 0 before
  pub tabled : Tabled before table
  pub are_bytes : Bytes s

-- The start.
pub passing_starts : (s : List ℕ) (last at low : ℕ) (table : List ℕ) → Bytes s → Prepared s last table
    → at ≡ first_size → low ≡ 0 → Passing s last at low table
passing_starts s last at low table b w e₀ e₁ = record {
  before = [];
  fuel = length s;
  enough = omega arith;
  whole =
      reads (first_stands s) w.first.stands
      ∙ ap₂ (λ (x n : ℕ). then (read_entries (length s) (drop n s)) (λ es. judged_entries x es)) (sym w.first.number)
      (sym e₀);
  written = ap (λ (n : ℕ). drop n s) (sym e₀);
  place = omega (arith, e₀);
  inside = omega (arith, e₀, seven);
  followed = refl;
  lowest = e₁;
  tabled = record {
    all_marked = tt;
    counted = record { counts = λ h small. omega (arith, w.empty h); small = λ i. omega (arith, w.empty i) };
    long = w.long;
  };
  are_bytes = b;
}
  where
    reads : (b : Bool) → b ≡ true
        → cond b (then (read_entries (length s) (drop first_size s)) (λ es. judged_entries (four_at_value s head_size) es))
        not_register
        ≡ then (read_entries (length s) (drop first_size s)) (λ es. judged_entries (four_at_value s head_size) es)
    reads b p = rw p refl

    seven : first_size ≤ length s
    seven =
        ltb-false (length s) first_size
        (unless_fails (ltb (length s) first_size) _ (unless_passes (ltb register_most (length s)) _ w.first.stands))

-- A byte that ends no list.
some_left : (t : List ℕ) → ends t ≡ false → 0 < length t
some_left [] h = absurd (true≢false h)
some_left (x ∷ t) h = omega arith

-- The bytes of entries and one more.
entries-behind : (es : List Entry) (e : Entry) → entries_bytes (es ++ (e ∷ [])) ≡ entries_bytes es ++ entry_bytes e
entries-behind [] e = append-nil (entry_bytes e)
entries-behind (x ∷ es) e =
    ap (λ (l : List ℕ). entry_bytes x ++ l) (entries-behind es e)
    ∙ sym (append_assoc (entry_bytes x) (entries_bytes es) (entry_bytes e))

-- There are no more entries than bytes.
entries_few : (es : List Entry) → length es ≤ length (entries_bytes es)
entries_few [] = omega arith
entries_few (e ∷ es) = omega (arith, length-append (entry_bytes e) (entries_bytes es), entries_few es)

module _ {s : List ℕ} {last at low : ℕ} {table : List ℕ} (p : Passing s last at low table) where
  -- A turn is left where the list goes on.
  one_more : ends (drop at s) ≡ false → (k : ℕ) × (p.fuel ≡ suc k)
  one_more h = go p.fuel refl
    where
      go : (n : ℕ) → p.fuel ≡ n → (k : ℕ) × (n ≡ suc k)
      go zero e = absurd (omega (arith, e, p.enough, some_left (drop at s) h, length-drop at s))
      go (suc k) e = (k, refl)

  -- The list ends here: 12 where a number is above the last given, else the overview.
  pub passing_ends : (holder alive : ℕ) → holder < table_size → alive ≡ count_at table holder → ends (drop at s) ≡ true
      → overview_in s holder
      ≡ cond (ltb last low) not_register (accepted (record { last = last; end = at; live = alive }))
  passing_ends holder alive small is h =
      ap (λ (o : Outcome Register). then o (λ r. accepted (overview holder r)))
      (p.whole ∙ rest_end last p.fuel (drop at s) p.before h)
      ∙ judged (ltb last (last_number 0 p.before)) (follow [] p.before) p.followed
      ∙ ap₂ (λ (n : ℕ) (o : Overview). cond (ltb last n) not_register (accepted o)) (sym p.lowest) same
    where
      found : Register
      found = record { last = last; entries = p.before }

      said : Overview
      said = record { last = last; end = at; live = alive }

      same : overview holder found ≡ said
      same =
          let size : length (register_bytes found) ≡ at = omega (arith, p.place) in
          ap₂ (λ (n k : ℕ). record { last = last; end = n; live = k }) size
          (sym (is ∙ p.tabled.counted.counts holder small))

      judged : (b f : Bool) → f ≡ true
          → then (cond (cond b false f) (accepted found) not_register) (λ r. accepted (overview holder r))
          ≡ cond b not_register (accepted (overview holder found))
      judged true f e = refl
      judged false f e = rw e refl

  -- One turn of the reading.
  turn : ends (drop at s) ≡ false
      → (k : ℕ) × (p.fuel ≡ suc k)
      × (read_register s
      ≡ then (read_entry (drop at s))
      (λ e. rest last k (drop (entry_size (drop at s)) (drop at s)) (p.before ++ (e ∷ []))))
  turn h =
      let k = one_more h in (
        k.0,
        k.1,
        p.whole ∙ ap (λ (n : ℕ). rest last n (drop at s) p.before) k.1
            ∙ rest-turn last k.0 (drop at s) p.before h,
      )

  -- No entry stands here, and the list does not end: 12.
  pub passing_broken : ends (drop at s) ≡ false → entry_stands (drop at s) ≡ false → read_register s ≡ not_register
  passing_broken h g = (turn h).2 ∙ go (entry_stands (drop at s)) g
    where
      go : (b : Bool) → b ≡ false
          → then
          (cond b (entry_of (number_in (drop at s)) (holder_in (drop at s)) (stored_in (record_in (drop at s)))) not_register)
          (λ e. rest last (turn h).0 (drop (entry_size (drop at s)) (drop at s)) (p.before ++ (e ∷ [])))
          ≡ not_register
      go b q = rw q refl

  module _ (goes : ends (drop at s) ≡ false) (stands : entry_stands (drop at s) ≡ true) where
    -- The entry of a form.
    abbrev entry : Form → Entry
    entry f = record { number = number_in (drop at s); holder = holder_in (drop at s); form = f }

    -- The reading of the entry here, by that of its record.
    entry_so : (o : Outcome Form) → stored_in (record_in (drop at s)) ≡ o
        → read_entry (drop at s) ≡ entry_of (number_in (drop at s)) (holder_in (drop at s)) o
    entry_so o e =
        ap₂ (λ (b : Bool) (x : Outcome Form).
        cond b (entry_of (number_in (drop at s)) (holder_in (drop at s)) x) not_register) stands e

    -- What is known of an entry whose record is read.
    stood : (f : Form) → stored_in (record_in (drop at s)) ≡ accepted f → IsEntry (drop at s) (entry f)
    stood f e = entry_written (drop at s) (entry f) (bytes_drop s at p.are_bytes) (entry_so (accepted f) e)

    -- The tests are the rule.
    may : (f : Form) → stored_in (record_in (drop at s)) ≡ accepted f
        → entry_fits s at low table ≡ may_follow p.before (entry f)
    may f e =
        let here = stood f e in
        fits_may s (drop at s) p.before f p.written p.followed stands here.record_is low p.lowest
        (omega (arith, entries_few p.before, p.place, p.inside)) table p.tabled at refl
        (omega (arith, p.place, p.inside)) here.two_bytes_is e

    -- One more entry follows the rules as it may follow.
    more_follows : (f : Form) → follow [] (p.before ++ (entry f ∷ [])) ≡ may_follow p.before (entry f)
    more_follows f =
        follow-append p.before (entry f ∷ []) []
        ∙ go (follow [] p.before) p.followed (may_follow p.before (entry f))
      where
        go : (a : Bool) → a ≡ true → (b : Bool) → both a (both b true) ≡ b
        go a q true = rw q refl
        go a q false = rw q refl

    -- The entry here is refused: 12.
    pub passing_refused : entry_fits s at low table ≡ false → read_register s ≡ not_register
    passing_refused h = (turn goes).2 ∙ go (stored_in (record_in (drop at s))) refl
      where
        behind : Entry → Outcome Register
        behind e = rest last (turn goes).0 (drop (entry_size (drop at s)) (drop at s)) (p.before ++ (e ∷ []))

        go : (o : Outcome Form) → stored_in (record_in (drop at s)) ≡ o
            → then (read_entry (drop at s)) behind ≡ not_register
        go (refused n q) e = ap (λ (x : Outcome Entry). then x behind) (entry_so (refused n q) e)
        go (accepted f) e =
            ap (λ (x : Outcome Entry). then x behind) (entry_so (accepted f) e)
            ∙ rest_broken last (turn goes).0 (drop (entry_size (drop at s)) (drop at s)) (p.before ++ (entry f ∷ []))
            (more_follows f ∙ sym (may f e) ∙ h)

    -- The record is read where the tests pass.
    read_so : entry_fits s at low table ≡ true
        → (f : Form) × (stored_in (record_in (drop at s)) ≡ accepted f)
    read_so h =
        go (stored_in (record_in (drop at s))) refl
        (both_left (accepts (stored_in (record_in (drop at s)))) _ (both_right_lem (ltb low (number_in (drop at s))) _ h))
      where
        go : (o : Outcome Form) → stored_in (record_in (drop at s)) ≡ o → accepts o ≡ true
            → (f : Form) × (stored_in (record_in (drop at s)) ≡ accepted f)
        go (accepted f) e q = (f, e)
        go (refused n k) e q = absurd (true≢false (sym q))

    module _ (h : entry_fits s at low table ≡ true) where
      abbrev f₁ : Form
      f₁ = (read_so h).0

      here : IsEntry (drop at s) (entry f₁)
      here = stood f₁ (read_so h).1

      within : at + entry_size (drop at s) ≤ length s
      within = omega (arith, here.room, length-drop at s, p.inside)

      -- Its holder has fewer than four.
      few : count_at table (holder_in (drop at s)) < live_most
      few =
          ltb-true (count_at table (holder_in (drop at s))) live_most
          (both_left (ltb (count_at table (holder_in (drop at s))) live_most) _
          (both_right_lem (accepts (stored_in (record_in (drop at s)))) _ (both_right_lem (ltb low (number_in (drop at s))) _ h)))

      -- One entry more.
      pub passing_more : (next x who number : ℕ) → next ≡ at + entry_size (drop at s)
          → x ≡ fingerprint (record_in (drop at s)) → who ≡ holder_in (drop at s) → number ≡ number_in (drop at s)
          → Passing s last next number (set (marked x table) who (get_or (marked x table) who 0 + 1))
      passing_more next x who number e₀ e₁ e₂ e₃ = record {
        before = p.before ++ (entry f₁ ∷ []);
        fuel = (turn goes).0;
        enough = omega (arith, e₀, (turn goes).1, p.enough, here.some_bytes);
        whole =
            (turn goes).2
            ∙ ap (λ (o : Outcome Entry). then o behind) (entry_so (accepted f₁) (read_so h).1)
            ∙ ap (λ (l : List ℕ). rest last (turn goes).0 l (p.before ++ (entry f₁ ∷ []))) jump;
        written =
            p.written ∙ ap (λ (l : List ℕ). entries_bytes p.before ++ l) here.written
            ∙ sym (append_assoc (entries_bytes p.before) (entry_bytes (entry f₁))
            (drop (entry_size (drop at s)) (drop at s)))
            ∙ ap₂ (λ (l m : List ℕ). l ++ m) (sym (entries-behind p.before (entry f₁))) jump;
        place =
            omega (
              arith,
              e₀,
              p.place,
              ap length (entries-behind p.before (entry f₁)),
              length-append (entries_bytes p.before) (entry_bytes (entry f₁)),
              size,
            );
        inside = omega (arith, e₀, within);
        followed = more_follows f₁ ∙ sym (may f₁ (read_so h).1) ∙ h;
        lowest = e₃ ∙ sym (last_behind 0 p.before (entry f₁));
        tabled =
            subst (λ (i : ℕ).
            Tabled (p.before ++ (entry f₁ ∷ [])) (set (marked x table) i (get_or (marked x table) i 0 + 1)))
            (sym e₂)
            (tabled_behind p.before (entry f₁) table x p.tabled (sym (e₁ ∙ ap fingerprint here.record_is))
            (omega (arith, e₁, print_small (record_in (drop at s)))) here.two_bytes_is
            (omega (arith, few, p.tabled.counted.counts (holder_in (drop at s)) here.two_bytes_is)));
        are_bytes = p.are_bytes;
      }
        where
          behind : Entry → Outcome Register
          behind e = rest last (turn goes).0 (drop (entry_size (drop at s)) (drop at s)) (p.before ++ (e ∷ []))

          jump : drop (entry_size (drop at s)) (drop at s) ≡ drop next s
          jump = drop-drop (entry_size (drop at s)) at s ∙ ap (λ (n : ℕ). drop n s) (sym e₀)

          size : length (entry_bytes (entry f₁)) ≡ entry_size (drop at s)
          size =
              omega (
                arith,
                ap length here.written,
                here.room,
                length-append (entry_bytes (entry f₁)) (drop (entry_size (drop at s)) (drop at s)),
                length-drop (entry_size (drop at s)) (drop at s),
              )
