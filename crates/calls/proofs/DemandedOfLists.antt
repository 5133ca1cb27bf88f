-- The demands on the list call: the relation of the call, and the claims on it; the export's numbers say what an answer
-- of the call says. Assumes nothing.
use mathlib.Core.Path.{sym, subst}
use mathlib.Core.List.{List}
use Prim.Native.Nat.{ℕ}
use Rattle.std.specs.Prelude.{Result}
use Rattle.refusals.specs.declared.Refusal.{Refusal}
use Rattle.refusals.specs.Outcomes.{Outcome, reply_of}
use Rattle.refusals.specs.Memory.{Memory, memory}
use Rattle.wordlists.specs.Listing.{Listed}
use Rattle.claims.proofs.Demands.{demand1}
use Rattle.claims.proofs.Exports.{exports_answer_as_calls}
use Rattle.claims.proofs.Lists.{list_is_calls, last_word_fills}
use Rattle.calls.specs.Functions.{Library}
use Rattle.calls.specs.Calls.{Exports}
use Rattle.calls.specs.DemandedOfLists.{ListToRecords, DemandedOfLists}
use Rattle.calls.proofs.Always.{always_below}
use Rattle.calls.proofs.Calls.{calls}

list_to_records_lem : {list : List ℕ} {m m' : Memory} {r : Result ℕ Refusal} → Listed list m m' r
    → ListToRecords list m m' (reply_of r)
list_to_records_lem {list} {m} {m'} {r} h =
    let first = demand1.list_to_records_lem list m m' r h in
    record {
      refuses = first.0;
      unaltered = first.1;
      gives = λ n e cs b' a' l f. list_is_calls list m m' r n h e cs b' a' l f;
      fills = λ n e i. last_word_fills list m m' r n h e i;
    }

pub demanded_of_lists : {L : Library} → Exports L → DemandedOfLists L
demanded_of_lists exports = record {
  list_to_records_lem = always_below calls.list_to_records_lem (λ κs l l' b b' a a' e e' r. list_to_records_lem);
  exported_list_to_records = always_below exports.list_to_records_lem (λ κs l l' b b' a a' e e' r h.
      let m = memory b.now a.now e.now in
      let m' = memory b'.now a'.now e'.now in
      let x = exports_answer_as_calls.list_to_records_lem l.now m m' r h in
      subst (λ (o : Outcome ℕ). ListToRecords l.now m m' o) (sym x.2) (list_to_records_lem x.1));
}
