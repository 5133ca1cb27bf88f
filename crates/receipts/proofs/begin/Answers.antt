-- `begin` meets its contract. Assumes nothing.
use Rattle.std.proofs.Common.{◌≡◌, ℕ, ◌++◌, length, take, drop, refl, ap, ◌∙◌, arith}
use Rattle.lists.proofs.Writes.{copy_wrote}
use Rattle.refusals.proofs.Placing.{place_short, place_long}
use Rattle.rows.specs.Receipts.{header}
use Rattle.receipts.proofs.begin.Goals as goal

pub returns-then-out-lt-HEADER_SIZE : goal.returns-then-out-lt-HEADER_SIZE
returns-then-out-lt-HEADER_SIZE c = place_short (length header) header _ _ refl (omega arith)

pub returns : goal.returns
returns c =
    let out = c.args.out.now in
    let copied = c.copy_bytes.ensures in
    let whole : c.copy_bytes.result ≡ length header = omega (arith, copied.count) in
    place_long (length header) header _ _ refl (omega arith)
    (copy_wrote header out _ _ whole (omega arith)
    (copied.copied ∙ ap (λ (n : ℕ). take n header ++ drop n out) whole))
