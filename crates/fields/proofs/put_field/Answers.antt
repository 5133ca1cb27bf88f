-- `put_field` meets its contract: the tag, the length and the body, one part behind another. Assumes nothing.
use mathlib.Core.Path.{◌≡◌, refl, ap, ◌∙◌}
use mathlib.Core.List.{List, [], ◌∷◌, ◌++◌}
use Prim.Native.Nat.{ℕ, ◌/◌, ◌%◌, ◌<◌}
use lib.ListN.{length, set, take, drop, length-set}
use lib.Seq.{length-sets}
use native.Mathlib.Omega.{arith}
use Rattle.std.specs.Prelude.{Ok}
use Rattle.std.specs.Int.{w16, to_be_bytes}
use Rattle.lists.specs.inside.Writes.{Wrote}
use Rattle.lists.proofs.Writes.{write_then}
use Rattle.refusals.proofs.Placing.{place_wrote}
use Rattle.fields.specs.Fields.{two_bytes}
use Rattle.fields.proofs.Putting.{field_fits, part_wrote}
use Rattle.fields.proofs.put_field.Goals as goal

two_same : (m n : ℕ) → m ≡ n → n < 65536 → to_be_bytes w16 m ≡ two_bytes n
two_same m n e h =
    let a : m / 256 % 256 ≡ n / 256 = omega arith in
    let b : m % 256 ≡ n % 256 = omega arith in
    cc

pub returns : goal.returns
returns c =
    let args = c.args in
    let body = args.body.now in
    let out = args.out.now in
    let e = c.in-Ok.ensures in
    let head : c.copy_from_slice.new.self ≡ two_bytes (length body) =
    c.copy_from_slice.ensures.after ∙ c.to_be_bytes.ensures ∙ two_same c.in-Ok.length (length body) e.1 e.0 in
    let tail : c.copy_from_slice-2.new.self ≡ body = c.copy_from_slice-2.ensures.after in
    let tagged : List ℕ = set out 0 args.tag in
    let sized : List ℕ = take 1 tagged ++ (two_bytes (length body) ++ drop 2 (drop 1 tagged)) in
    let first : Wrote (args.tag ∷ []) out 0 tagged 1 = record { ends = refl; holds = refl } in
    let second : Wrote (two_bytes (length body)) tagged 1 sized 3 =
    part_wrote (two_bytes (length body)) tagged 1 2 refl (omega (arith, length-set out 0 args.tag)) in
    let long : length sized ≡ length out =
    ap length second.holds ∙ length-sets tagged 1 (two_bytes (length body)) ∙ length-set out 0 args.tag in
    rw (head, tail)
    (place_wrote (Ok _) (field_fits args.tag body out (omega arith) (omega arith)) refl
    (write_then first (write_then second (part_wrote body sized 3 (length body) refl (omega (arith, long))))))
