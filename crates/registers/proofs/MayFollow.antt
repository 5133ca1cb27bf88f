-- The tests of the pass on one entry are the rule for one more entry: by the table that those before it left.
-- Assumes nothing.
use mathlib.Core.Path.{◌≡◌, refl, sym, ap, ◌∙◌}
use mathlib.Core.Bool.{Bool, true, false, cond}
use mathlib.Core.List.{List, [], ◌++◌}
use mathlib.Core.Option.{Option, none, some}
use Prim.Native.Nat.{ℕ, suc, ◌+◌, ◌-◌, ◌<◌, ◌≤◌}
use native.Mathlib.Omega.{arith}
use lib.ListN.{length, get_or, drop}
use lib.Dec.{ltb}
use borrow.Author.Tests.{le-ltb, ltb-true}
use Rattle.lists.specs.SameBytes.{same_bytes}
use Rattle.lists.proofs.SameBytes.{bytes_same}
use Rattle.group.specs.Forms.{Form}
use Rattle.refusals.specs.Outcomes.{Outcome, accepted}
use Rattle.clause.specs.Clause.{both}
use Rattle.records.specs.Format.{encode}
use Rattle.registers.specs.Format.{Entry, first_size, live_most, entries_bytes}
use Rattle.registers.specs.Reading.{entry_size, entry_stands, number_in, holder_in, record_in, stored_in}
use Rattle.registers.specs.Reading.{any_holds, live, last_number, may_follow, follow}
use Rattle.registers.specs.Finding.{find_in, found}
use Rattle.registers.specs.inside.Steps.{fingerprint, table_size, low_place_value, high_place_value, accepts, found_above}
use Rattle.registers.specs.inside.Steps.{is_new_value, entry_fits, mark, count_at}
use Rattle.registers.proofs.Finding.{find_front, find_past}
use Rattle.registers.proofs.Following.{follow_number, some_holds, none_holds}
use Rattle.registers.proofs.Before.{Marked, Tabled, unmarked_none}

-- The search finds the entry at the front, where it stands and has the record.
find_here : (t bytes : List ℕ) (k : ℕ) → entry_stands t ≡ true → record_in t ≡ bytes
    → find_in (suc k) t bytes ≡ some (number_in t)
unfolding find_in
find_here t bytes k h e =
    go (entry_stands t) h (same_bytes (record_in t) bytes)
    (ap (λ (l : List ℕ). same_bytes l bytes) e ∙ bytes_same bytes)
  where
    go : (b : Bool) → b ≡ true → (c : Bool) → c ≡ true
        → cond b (cond c (some (number_in t)) (find_in k (drop (entry_size t) t) bytes)) none ≡ some (number_in t)
    go b p c q = rw p (rw q refl)

-- Entries `before` that follow the rules, and an entry with form f behind them, at the front of t.
module _ (s t : List ℕ) (before : List Entry) (f : Form)
    (written : drop first_size s ≡ entries_bytes before ++ t) (followed : follow [] before ≡ true)
    (stands : entry_stands t ≡ true) (same : record_in t ≡ encode f)
    (low : ℕ) (lowest : low ≡ last_number 0 before) (room : length before < length s) where
  searched : found s (encode f) ≡ find_in (length s) (entries_bytes before ++ t) (encode f)
  searched = ap (λ (l : List ℕ). find_in (length s) l (encode f)) written

  -- An entry before has the form: what is found is not above the last number.
  above_no : length (entries_bytes before) ≤ length s → any_holds f before ≡ true
      → found_above low (found s (encode f)) ≡ false
  above_no le h =
      let k = some_holds f before h in
      let n = follow_number f before [] k.0 followed k.1 in
      ap (λ (o : Option ℕ). found_above low o) (searched ∙ find_front f before t (length s) k.0 le k.1)
      ∙ le-ltb low k.0 (omega (arith, n, lowest))

  -- None has: the entry itself is found.
  above_yes : ltb low (number_in t) ≡ true → any_holds f before ≡ false → found_above low (found s (encode f)) ≡ true
  above_yes up h =
      let fuel : length s ≡ length before + suc (length s - suc (length before)) = omega (arith, room) in
      ap (λ (o : Option ℕ). found_above low o)
      (searched ∙ ap (λ (k : ℕ). find_in k (entries_bytes before ++ t) (encode f)) fuel
      ∙ find_past f before t (suc (length s - suc (length before))) (none_holds f before h)
      ∙ find_here t (encode f) (length s - suc (length before)) stands same)
      ∙ up

  module _ (table : List ℕ) (tabled : Tabled before table) where
    abbrev print : ℕ
    print = fingerprint (encode f)

    -- A record is new just where no entry before has the form.
    new_none : length (entries_bytes before) ≤ length s → ltb low (number_in t) ≡ true
        → is_new_value s (encode f) table low ≡ cond (any_holds f before) false true
    new_none le up =
        go (ltb (get_or table (low_place_value print) 0) mark) refl (ltb (get_or table (high_place_value print) 0) mark) refl
        (any_holds f before) refl
      where
        none_there : (Marked print table → ⊥) → (c : Bool) → any_holds f before ≡ c → true ≡ cond c false true
        none_there n c q =
            ap (λ (y : Bool). cond y false true) (sym (sym q ∙ unmarked_none f before table tabled.all_marked n))

        go : (a : Bool) → ltb (get_or table (low_place_value print) 0) mark ≡ a → (b : Bool)
            → ltb (get_or table (high_place_value print) 0) mark ≡ b → (c : Bool) → any_holds f before ≡ c
            → cond a true (cond b true (found_above low (found s (encode f)))) ≡ cond c false true
        go true p b r c q =
            let lt = ltb-true (get_or table (low_place_value print) 0) mark p in
            none_there (λ m. omega (arith, m.low, lt)) c q
        go false p true r c q =
            let lt = ltb-true (get_or table (high_place_value print) 0) mark r in
            none_there (λ m. omega (arith, m.high, lt)) c q
        go false p false r true q = above_no le q
        go false p false r false q = above_yes up q

    -- All tests of the entry are the rule.
    pub fits_may : (at : ℕ) → t ≡ drop at s → length (entries_bytes before) ≤ length s → holder_in t < table_size
        → stored_in (record_in t) ≡ accepted f
        → entry_fits s at low table
        ≡ may_follow before (record { number = number_in t; holder = holder_in t; form = f })
    fits_may at e le two good =
        ap (λ (u : List ℕ).
        both (ltb low (number_in u))
        (both (accepts (stored_in (record_in u)))
        (both (ltb (count_at table (holder_in u)) live_most) (is_new_value s (record_in u) table low))))
        (sym e)
        ∙ go (ltb low (number_in t)) refl (ltb (last_number 0 before) (number_in t))
        (ap (λ (n : ℕ). ltb n (number_in t)) lowest)
        (accepts (stored_in (record_in t))) (ap (λ (o : Outcome Form). accepts o) good)
        (ltb (count_at table (holder_in t)) live_most)
        (ap (λ (n : ℕ). ltb n live_most) (tabled.counted.counts (holder_in t) two))
        (is_new_value s (record_in t) table low)
        (λ up. ap (λ (l : List ℕ). is_new_value s l table low) same ∙ new_none le up)
      where
        last : (c d e : Bool) → e ≡ cond c false true → both d e ≡ cond c false d
        last true true e q = q
        last true false e q = refl
        last false true e q = q
        last false false e q = refl

        go : (a : Bool) → ltb low (number_in t) ≡ a → (b : Bool) → a ≡ b → (g : Bool) → g ≡ true
            → (d : Bool) → d ≡ ltb (live (holder_in t) before) live_most
            → (e : Bool) → (ltb low (number_in t) ≡ true → e ≡ cond (any_holds f before) false true)
            → both a (both g (both d e))
            ≡ both b (cond (any_holds f before) false (ltb (live (holder_in t) before) live_most))
        go true h b p g q d r e k =
            rw (sym p) (rw q (rw (sym r) (last (any_holds f before) d e (k h))))
        go false h b p g q d r e k = rw (sym p) refl
