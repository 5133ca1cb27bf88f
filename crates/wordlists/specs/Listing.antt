-- Many words in one call (02, [4]): "The tables must have 4,097 entries each, and the output 6 bytes a line plus four
-- times the bytes of all lines, ends of line left out. Turned away: 6, then 7, before the first word is read."
--     list_judged   the lines of a list, or what is refused of the tables and the output lent with it
--     Listed       the contract of `list_to_records`
-- Assumes nothing.
use Rattle.std.specs.Prelude.{◌≡◌, cond, List, ℕ, suc, length, ltb, Result}
use Rattle.refusals.specs.declared.Refusal.{Refusal}
use Rattle.lines.specs.Lines.{lines_of}
use Rattle.group.specs.Forms.{Side, b_side, a_side}
use Rattle.group.specs.Limits.{limit}
use Rattle.refusals.specs.Outcomes.{Outcome, accepted, refused, after, then}
use Rattle.refusals.specs.Placing.{Placed}
use Rattle.refusals.specs.Memory.{Memory}
use Rattle.wordlists.specs.Items.{items, list_size, tables_then}

-- The lines of a list, beside tables and an output of these lengths: 6 where a table has fewer entries than the limit
-- and one, then 7.
abbrev pub list_judged : (list : List ℕ) (nb na nr : ℕ) → Outcome (List (List ℕ))
list_judged list nb na nr =
    cond (ltb nb (suc limit)) (refused 6 0)
    (cond (ltb na (suc limit)) (refused 6 0)
    (cond (ltb nr (list_size (lines_of list))) (refused 7 0) (accepted (lines_of list))))

-- The list beside the memory that is lent with it.
abbrev pub list_judged_with : List ℕ → Memory → Outcome (List (List ℕ))
list_judged_with list m = list_judged list (length m.b) (length m.a) (length m.buffer)

-- A table at exit.
abbrev pub table_behind : Side → Outcome (List (List ℕ)) → List ℕ → List ℕ
table_behind s o t = after o t (λ ls. tables_then s ls t)

-- The items, where the list is accepted.
abbrev pub items_in : Outcome (List (List ℕ)) → Outcome (List ℕ)
items_in o = then o (λ ls. accepted (items ls))

-- For every list and whatever is lent with it: the items stand at the front of the output and are counted; every byte
-- behind them is unchanged, also inside the size that the output needs.
pub record Listed (list : List ℕ) (entry exit : Memory) (r : Result ℕ Refusal) : Type 0 where
  pub b_table : exit.b ≡ table_behind b_side (list_judged_with list entry) entry.b
  pub a_table : exit.a ≡ table_behind a_side (list_judged_with list entry) entry.a
  pub output : Placed (items_in (list_judged_with list entry)) entry.buffer exit.buffer r
