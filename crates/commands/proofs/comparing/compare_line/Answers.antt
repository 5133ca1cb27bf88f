-- `compare_line` meets its contract: by the first blank. Assumes nothing.
use mathlib.Core.Path.{refl, sym, ◌∙◌}
use native.Mathlib.Omega.{arith}
use Prim.Native.Nat.{◌+◌, ◌-◌}
use lib.ListN.{length, drop, length-drop}
use lib.Seq.{take_all}
use Rattle.commands.proofs.Closing.{says_same}
use Rattle.commands.proofs.TwoWords.{blank_found, blank_missing, line_two, line_single}
use Rattle.commands.proofs.comparing.compare_line.Goals as goal

pub returns-in_default : goal.returns-in_default
returns-in_default c =
    let s = c.args.line.now in
    let none = blank_missing s (sym c.find_blank.ensures ∙ c.in_default.is) in
    says_same (line_single s refl none) c.refuse_single.ensures

pub returns : goal.returns
returns c =
    let s = c.args.line.now in
    let k = c.in-Some.k in
    let p = blank_found s k (sym c.find_blank.ensures ∙ c.in-Some.is) in
    let rest = take_all (length s - (k + 1)) (drop (k + 1) s) (omega (arith, length-drop (k + 1) s)) in
    says_same (line_two s p.0 p.1 refl rest) c.compare.ensures
