-- The judgement of a list and of what is lent with it, by the literal conditions of specs/Lists.antt.
--     ListJudged list m   what is judged, in each of its cases
--     list_refused        the list call refuses just under these conditions, and then leaves everything
-- Assumes nothing.
use mathlib.Core.Path.{◌≡◌, refl, sym, ap, ap₂, subst, ◌∙◌}
use mathlib.Core.List.{List}
use mathlib.Core.Logic.{◌⊎◌, inl, inr, ◌↔◌}
use Prim.Native.Nat.{ℕ, suc, ◌<◌, ◌≤◌}
use native.Mathlib.Decide.{dec_lt}
use native.Mathlib.Omega.{arith}
use lib.ListN.{length}
use lib.Seq.{sets}
use borrow.Author.Tests.{lt-ltb, le-ltb}
use Rattle.std.specs.Prelude.{Result}
use Rattle.refusals.specs.declared.Refusal.{Refusal}
use Rattle.lines.specs.Lines.{lines_of}
use Rattle.group.specs.Forms.{b_side, a_side}
use Rattle.group.specs.Limits.{limit}
use Rattle.refusals.specs.Outcomes.{Outcome, accepted, refused, after, reply_of}
use Rattle.refusals.specs.Memory.{Memory, memory}
use Rattle.refusals.proofs.Outcomes.{accepted_refused, refused_number, refused_place}
use Rattle.wordlists.specs.Items.{list_size}
use Rattle.wordlists.specs.Listing.{list_judged_with, table_behind, items_in, Listed}
use Rattle.wordlists.proofs.Sizes.{list_size_lem}
use Rattle.claims.specs.Refusals.{ShortTables}
use Rattle.claims.specs.Answers.{IsRefused, Refuses}
use Rattle.claims.specs.Lists.{ShortOutput, ListRefusal, few_entries, few_bytes}
use Rattle.claims.proofs.Answers.{is_refused_lem, refuses_when}
use Rattle.claims.proofs.TextRefusals.{short_or_not, b_full, a_full}

-- The outcome under each condition.
module _ (list : List ℕ) (m : Memory) where
  judged_short_b : length m.b < suc limit → list_judged_with list m ≡ refused 6 0
  judged_short_b b = simp (lt-ltb (length m.b) (suc limit) b)

  judged_short : ShortTables m → list_judged_with list m ≡ refused 6 0
  judged_short (inl b) = judged_short_b b
  judged_short (inr a) = go (dec_lt (length m.b) (suc limit))
    where
      go : Dec (length m.b < suc limit) → list_judged_with list m ≡ refused 6 0
      go (yes b) = judged_short_b b
      go (no b) =
          simp (
            le-ltb (length m.b) (suc limit) (omega (arith, b)),
            lt-ltb (length m.a) (suc limit) a,
          )

  -- Tables above the limit.
  module _ (full : ShortTables m → ⊥) where
    judged_output : length m.buffer < list_size (lines_of list) → list_judged_with list m ≡ refused 7 0
    judged_output h =
        simp (
          le-ltb (length m.b) (suc limit) (b_full m full),
          le-ltb (length m.a) (suc limit) (a_full m full),
          lt-ltb (length m.buffer) (list_size (lines_of list)) h,
        )

    judged_fine : list_size (lines_of list) ≤ length m.buffer → list_judged_with list m ≡ accepted (lines_of list)
    judged_fine h =
        simp (
          le-ltb (length m.b) (suc limit) (b_full m full),
          le-ltb (length m.a) (suc limit) (a_full m full),
          le-ltb (length m.buffer) (list_size (lines_of list)) h,
        )

-- What is judged of a list, in each of its cases.
pub data ListJudged (list : List ℕ) (m : Memory) : Type 0 where
  refuses : (n p : ℕ) → ListRefusal list m n p → list_judged_with list m ≡ refused n p → ListJudged list m
  accepts : (ShortTables m → ⊥) → list_size (lines_of list) ≤ length m.buffer
      → list_judged_with list m ≡ accepted (lines_of list) → ListJudged list m

-- One of them holds.
pub judge_list : (list : List ℕ) (m : Memory) → ListJudged list m
judge_list list m = tables (short_or_not m)
  where
    output : (full : ShortTables m → ⊥) → Dec (length m.buffer < list_size (lines_of list)) → ListJudged list m
    output full (yes h) =
        let short : ShortOutput list m = omega (arith, h, list_size_lem (lines_of list)) in
        refuses 7 0 (few_bytes refl refl full short) (judged_output list m full h)
    output full (no h) =
        let long : list_size (lines_of list) ≤ length m.buffer = omega (arith, h) in
        accepts full long (judged_fine list m full long)

    tables : ShortTables m ⊎ (ShortTables m → ⊥) → ListJudged list m
    tables (inl short) = refuses 6 0 (few_entries refl refl short) (judged_short list m short)
    tables (inr full) = output full (dec_lt (length m.buffer) (list_size (lines_of list)))

-- The items are refused as the list is.
items_refused : (o : Outcome (List (List ℕ))) (n p : ℕ) → items_in o ≡ refused n p → o ≡ refused n p
items_refused (accepted ls) n p e = absurd (accepted_refused e)
items_refused (refused k q) n p e = ap₂ refused (refused_number e) (refused_place e)

-- They are refused just under the conditions.
items↔refusal : (list : List ℕ) (m : Memory) (n p : ℕ)
    → (items_in (list_judged_with list m) ≡ refused n p) ↔ ListRefusal list m n p
items↔refusal list m n p = ((λ e. from (judge_list list m) (items_refused (list_judged_with list m) n p e)), to)
  where
    from : ListJudged list m → list_judged_with list m ≡ refused n p → ListRefusal list m n p
    from (refuses k q c e) h =
        subst (λ (i : ℕ). ListRefusal list m i p) (refused_number (sym e ∙ h))
        (subst (λ (i : ℕ). ListRefusal list m k i) (refused_place (sym e ∙ h)) c)
    from (accepts full long e) h = absurd (accepted_refused (sym e ∙ h))

    judged : ListRefusal list m n p → list_judged_with list m ≡ refused n p
    judged (few_entries en ep short) = judged_short list m short ∙ sym (ap₂ refused en ep)
    judged (few_bytes en ep full short) =
        judged_output list m full (omega (arith, short, list_size_lem (lines_of list))) ∙ sym (ap₂ refused en ep)

    to : ListRefusal list m n p → items_in (list_judged_with list m) ≡ refused n p
    to c = ap (λ (o : Outcome (List (List ℕ))). items_in o) (judged c)

-- What is refused, and that a refusal leaves everything.
pub list_refused : {list : List ℕ} {m m' : Memory} {r : Result ℕ Refusal} → Listed list m m' r
    → Refuses (reply_of r) (ListRefusal list m) × (IsRefused (reply_of r) → m' ≡ m)
list_refused {list} {m} {m'} h = (
  refuses_when length (items_in (list_judged_with list m)) h.output.result (ListRefusal list m)
      (items↔refusal list m),
  (λ x. kept (is_refused_lem length (items_in (list_judged_with list m)) h.output.result x)),
)
  where
    kept : (n p : ℕ) × (items_in (list_judged_with list m) ≡ refused n p) → m' ≡ m
    kept (n, p, e) =
        let so = items_refused (list_judged_with list m) n p e in
        ap₂ (λ (b a : List ℕ). memory b a m'.buffer)
        (h.b_table ∙ ap (λ (o : Outcome (List (List ℕ))). table_behind b_side o m.b) so)
        (h.a_table ∙ ap (λ (o : Outcome (List (List ℕ))). table_behind a_side o m.a) so)
        ∙ ap (λ (l : List ℕ). memory m.b m.a l)
        (h.output.bytes
        ∙ ap (λ (o : Outcome (List ℕ)). after o m.buffer (λ bytes. sets m.buffer 0 bytes)) e)
