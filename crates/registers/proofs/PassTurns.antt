-- The answers of the pass over a register's entries, and its turn, by the head of the entry at the place.
-- Assumes nothing.
use mathlib.Core.Path.{◌≡◌, refl, sym, ap, ◌∙◌, subst}
use mathlib.Core.Bool.{Bool, true, false, cond}
use mathlib.Core.List.{List}
use Prim.Native.Nat.{ℕ, ◌+◌, ◌-◌, ◌<◌, ◌≤◌}
use borrow.Author.Tests.{lt-ltb, le-ltb}
use native.Mathlib.Omega.{arith}
use lib.ListN.{get_or, take, drop, set}
use Rattle.std.specs.Prelude.{Some, None, Ok, Err}
use Rattle.refusals.specs.declared.Refusal.{Refusal}
use Rattle.refusals.specs.Outcomes.{Outcome, accepted, then}
use Rattle.registers.specs.Format.{Register}
use Rattle.registers.specs.Reading.{ends, entry_stands, number_in, holder_in}
use Rattle.registers.specs.Reading.{not_register}
use Rattle.registers.specs.Reading.{read_register}
use Rattle.registers.specs.Answers.{overview, Summarised, heading_of, heading_at}
use Rattle.registers.specs.declared.Heading.{Heading}
use Rattle.refusals.specs.declared.Refusal.TheVariants.{BadRegister}
use Rattle.registers.specs.inside.Steps.{fingerprint, entry_fits, table_size, count_at, marked}
use Rattle.registers.proofs.EntryHeads.{EntryStood, stands_true, ends_other, record_part}
use Rattle.registers.proofs.EntryHeads.{next_is}
use Rattle.registers.proofs.Turns.{Passing, passing_ends, passing_broken, passing_refused, passing_more}
use Rattle.registers.proofs.Before.{marked_small}
use Rattle.registers.proofs.Printing.{print_small}

-- Where the list ends.
over : (s : List ℕ) (at : ℕ) → heading_at s at ≡ Ok None → ends (drop at s) ≡ true
over s at e = go (ends (drop at s)) (entry_stands (drop at s)) e
  where
    go : (b q : Bool)
        → cond b (Ok None) (cond q (Ok (Some (heading_of (drop at s) at))) (Err BadRegister)) ≡ Ok None → b ≡ true
    go true q k = refl
    go false true k = cc
    go false false k = cc

module _ {s : List ℕ} {last at low : ℕ} {table : List ℕ} (p : Passing s last at low table) where
  none_so : (holder : ℕ) → read_register s ≡ not_register → Summarised s holder (Err BadRegister)
  none_so holder e = record {
    are_bytes = p.are_bytes;
    result = ap (λ (o : Outcome Register). then o (λ r. accepted (overview holder r))) (sym e);
  }

  -- No entry stands here, and the list does not end.
  pub passing_wrong : (holder : ℕ) (r : Refusal) → heading_at s at ≡ Err r → Summarised s holder (Err r)
  passing_wrong holder r e = go (ends (drop at s)) (entry_stands (drop at s)) refl refl e
    where
      go : (b q : Bool) → ends (drop at s) ≡ b → entry_stands (drop at s) ≡ q
          → cond b (Ok None) (cond q (Ok (Some (heading_of (drop at s) at))) (Err BadRegister)) ≡ Err r
          → Summarised s holder (Err r)
      go false false h g k =
          let is : BadRegister ≡ r = cc in
          subst (λ (x : Refusal). Summarised s holder (Err x)) is (none_so holder (passing_broken p h g))
      go false true h g k = let z : ◌≡◌ {A = ℕ} 0 1 = cc in absurd (omega arith)
      go true q h g k = let z : ◌≡◌ {A = ℕ} 0 1 = cc in absurd (omega arith)

  -- The list ends here, and its last number is above the last given.
  pub passing_low : (holder : ℕ) → heading_at s at ≡ Ok None → last < low → holder < table_size
      → Summarised s holder (Err BadRegister)
  passing_low holder e lt small = record {
    are_bytes = p.are_bytes;
    result =
        sym (passing_ends p holder (count_at table holder) small refl (over s at e)
        ∙ ap (λ (b : Bool). cond b not_register
        (accepted (record { last = last; end = at; live = count_at table holder })))
        (lt-ltb last low lt));
  }

  -- It is not.
  pub passing_over : (holder alive : ℕ) → heading_at s at ≡ Ok None → low ≤ last → holder < table_size
      → alive ≡ count_at table holder → Summarised s holder (Ok (record { last = last; end = at; live = alive }))
  passing_over holder alive e le small is = record {
    are_bytes = p.are_bytes;
    result =
        sym (passing_ends p holder alive small is (over s at e)
        ∙ ap (λ (b : Bool). cond b not_register (accepted (record { last = last; end = at; live = alive })))
        (le-ltb last low le));
  }

  module _ {h : Heading} (e₀ : EntryStood s at h) where
    goes_on : ends (drop at s) ≡ false
    goes_on = ends_other (drop at s) e₀.stands.tagged

    stands_so : entry_stands (drop at s) ≡ true
    stands_so = stands_true e₀.stands

    number_so : h.number ≡ number_in (drop at s)
    number_so = ap (λ (g : Heading). g.number) e₀.head

    holder_so : h.holder ≡ holder_in (drop at s)
    holder_so = ap (λ (g : Heading). g.holder) e₀.head

    -- The entry is refused.
    pub passing_unfit : (holder : ℕ) → entry_fits s at low table ≡ false
        → Summarised s holder (Err BadRegister)
    passing_unfit holder k = none_so holder (passing_refused p goes_on stands_so k)

    -- It is one more.
    module _ (k : entry_fits s at low table ≡ true) where
      abbrev bytes : List ℕ
      bytes = take (h.next - h.start) (drop h.start s)

      -- The entry of the table that is to be raised has room for it.
      pub passing_room : (x : ℕ) (left : List ℕ) → x ≡ fingerprint bytes → left ≡ marked x table
          → get_or left h.holder 0 < 16
      passing_room x left is e =
          subst (λ (l : List ℕ). get_or l h.holder 0 < 16) (sym e)
          (marked_small p.before table x h.holder p.tabled (omega (arith, is, print_small bytes)))

      pub passing_next : (x : ℕ) (left : List ℕ) → x ≡ fingerprint bytes → left ≡ marked x table
          → Passing s last h.next h.number (set left h.holder (get_or left h.holder 0 + 1))
      passing_next x left is e =
          subst (λ (l : List ℕ). Passing s last h.next h.number (set l h.holder (get_or l h.holder 0 + 1)))
          (sym e)
          (passing_more p goes_on stands_so k h.next x h.holder h.number (next_is e₀.headed e₀.head)
          (is ∙ ap fingerprint (record_part e₀.headed e₀.head)) holder_so number_so)
