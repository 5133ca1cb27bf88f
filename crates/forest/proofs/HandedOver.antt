-- Powers whose row was read off: what the own tables show, and what is handed over, case by case. Assumes nothing.
use mathlib.Core.Path.{◌≡◌, sym, ◌∙◌, ap, subst}
use mathlib.Core.Bool.{true, false}
use mathlib.Core.List.{List}
use Prim.Native.Nat.{ℕ, suc, ◌≤◌, ◌<◌}
use native.Mathlib.Omega.{arith}
use lib.Dec.{ltb}
use lib.ListN.{length, get_or}
use borrow.Author.Tests.{le-ltb}
use Rattle.std.specs.Prelude.{Result, Ok}
use Rattle.refusals.specs.declared.Failure.{Failure}
use Rattle.lists.specs.Tables.{filled}
use Rattle.lists.proofs.Tables.{filled_at}
use Rattle.copying.specs.inside.Copying.{Copied}
use Rattle.copying.proofs.Copying.{copied_values}
use Rattle.group.specs.Forms.{Side, b_side, a_side, exponent, levels}
use Rattle.group.specs.Limits.{limit}
use Rattle.group.specs.Powers.{SignedPower, product_letters}
use Rattle.group.specs.inside.PowerLists.{powers_in}
use Rattle.group.proofs.Sizes.{exponent-behind}
use Rattle.refusals.specs.Outcomes.{Outcome, accepted, refused, drop_value}
use Rattle.refusals.proofs.Outcomes.{accepted_refused, accepted_same}
use Rattle.forest.specs.Filling.{product_form, tables_for, product_table}
use Rattle.forest.specs.inside.Filling.{cells, filling_of}
use Rattle.forest.specs.inside.FillingPowers.{FilledAs, scratch_fits, powers_fit_value, judged_powers, FilledPowers}
use Rattle.forest.specs.inside.Forest.{Bush, tip_at}
use Rattle.forest.specs.inside.Cells.{StackStands}
use Rattle.forest.specs.inside.Cursor.{cursor_bushes, cursor_of, IndicesWithin}
use Rattle.forest.specs.inside.Seeking.{PowersReady, PowersPiled}
use Rattle.forest.specs.inside.Leaves.{TablesRead}
use Rattle.forest.specs.inside.Handing.{Shown, PileRead}
use Rattle.forest.proofs.CursorBounds.{cursor_exponent}
use Rattle.forest.proofs.HighTips.{low_levels, high-levels}
use Rattle.forest.proofs.RowTips.{tips-levels}
use Rattle.forest.proofs.Fitting.{powers_ready}

-- What the read-off leaves shows the form.
module _ {lefts rights stack b a stack' b' a' : List ℕ} {low read height : ℕ}
    (t : TablesRead limit lefts rights stack low b a (suc limit) stack' b' a' read height)
    (ps : List SignedPower) (w : IndicesWithin limit ps) where
  -- The bushes of the powers' row.
  abbrev row : List Bush
  row = cursor_bushes (cursor_of ps)

  -- Each table by itself.
  shown_at : (s : Side) (u : List ℕ) {u' : List ℕ} → u' ≡ filled (suc limit) (tip_at s row) u → (i : ℕ) → i < suc limit
      → get_or u' i 0 ≡ exponent s (product_form ps) i
  shown_at s u e i h =
      ap (λ (v : List ℕ). get_or v i 0) e
      ∙ filled_at (suc limit) (tip_at s row) u i h
      ∙ sym (cursor_exponent limit ps w s i)

  -- Both, and what the height tells.
  pub tips_shown : StackStands limit lefts rights cells row stack low → Shown ps read height b' a'
  tips_shown on =
      let taken = t.takes row on in
      record {
        b_shown = shown_at b_side b taken.0;
        a_shown = shown_at a_side a taken.1;
        low = λ none.
            tips-levels (product_letters ps) row read (suc limit) (cursor_exponent limit ps w) taken.3 (λ s i h.
            exponent-behind s (product_form ps) i
            (omega (arith, low_levels limit ps w (suc limit) lefts rights cells stack' height taken.2 none)));
        high = high-levels limit ps w (suc limit) lefts rights cells stack' height taken.2;
        within = t.within;
      }

-- On a refusal the tables are kept.
kept : {o : Outcome (List SignedPower)} {b a : List ℕ} (r : Result ℕ Failure) (n p : ℕ) → o ≡ refused n p
    → filling_of r ≡ refused n p → FilledAs o b a b a r
kept {o} {b} {a} r n p e f = record {
  result = f ∙ sym (ap (λ (q : Outcome (List SignedPower)). drop_value q) e);
  b_table = sym (ap (λ (q : Outcome (List SignedPower)). product_table b_side q b) e);
  a_table = sym (ap (λ (q : Outcome (List SignedPower)). product_table a_side q a) e);
  levels_read = λ m g ps h. absurd (accepted_refused (sym h ∙ e));
}

-- Own tables that show the form of powers, handed over.
module _ {n height : ℕ} {ob oa : List ℕ} (b a : List ℕ) (ps : List SignedPower) (s : Shown ps n height ob oa) where
  module _ (none : height ≡ 0) where
    -- No index is above the limit.
    low_enough : ltb (suc limit) (levels (product_form ps)) ≡ false
    low_enough = le-ltb (suc limit) (levels (product_form ps)) (omega (arith, s.low none, s.within))

    -- Both are copied.
    pub handed : {b' a' : List ℕ} → suc limit ≤ length b → suc limit ≤ length a
        → suc limit ≤ length ob → suc limit ≤ length oa → Copied ob b (suc limit) b' → Copied oa a (suc limit) a'
        → FilledAs (tables_for (length b) (length a) ps) b a b' a' (Ok n)
    handed l m ol om p q =
        let o : tables_for (length b) (length a) ps ≡ accepted ps =
        simp (low_enough, le-ltb (length b) (suc limit) l, le-ltb (length a) (suc limit) m) in
        record {
          result = sym (ap (λ (u : Outcome (List SignedPower)). drop_value u) o);
          b_table =
              copied_values (exponent b_side (product_form ps)) p ol l s.b_shown
              ∙ sym (ap (λ (u : Outcome (List SignedPower)). product_table b_side u b) o);
          a_table =
              copied_values (exponent a_side (product_form ps)) q om m s.a_shown
              ∙ sym (ap (λ (u : Outcome (List SignedPower)). product_table a_side u a) o);
          levels_read = λ k e qs h.
              let same : ps ≡ qs = accepted_same (sym o ∙ h) in
              let number : n ≡ k = cc in (
                omega (arith, ap (λ (u : List SignedPower). levels (product_form u)) same, s.low none),
                omega (arith, s.within),
              );
        }

-- The whole call.
module _ {ks es ss b a lefts rights before stack : List ℕ} where
  -- By the outcome of the powers.
  by_outcome : {o : Outcome (List SignedPower)} {b' a' : List ℕ} {r : Result ℕ Failure}
      → judged_powers ks es ss b a lefts rights before stack ≡ o → FilledAs o b a b' a' r
      → FilledPowers ks es ss b a lefts rights before stack b' a' r
  by_outcome {o} {b'} {a'} {r} e f =
      record { filled = subst (λ (u : Outcome (List SignedPower)). FilledAs u b a b' a' r) (sym e) f }

  -- What fits, piled and read off.
  pub powers-filled : {lefts' rights' stack' b' a' : List ℕ} {height : ℕ} {r : Result ℕ Failure}
      → scratch_fits lefts rights before stack ≡ true → powers_fit_value ks es ss ≡ true
      → PowersPiled ks es ss lefts' rights' stack' height → PileRead lefts' rights' stack' height b a b' a' r
      → FilledPowers ks es ss b a lefts rights before stack b' a' r
  powers-filled f g p h =
      let ready : PowersReady ks es ss lefts rights before stack = powers_ready f g in
      by_outcome (simp (f, g)) (h (powers_in ks es ss) ready.indices_within p.stack_stands)
