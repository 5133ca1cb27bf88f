-- `put_four` meets its contract: the four bytes are two and two. Assumes nothing.
use Rattle.std.proofs.Common.{◌≡◌, refl, ◌∙◌, ◌<◌, ◌/◌, ◌%◌, ℕ, arith}
use Rattle.std.specs.Int.{w32, to_be_bytes}
use Rattle.fields.specs.Fields.{four_bytes}
use Rattle.fields.proofs.Putting.{part_wrote}
use Rattle.fields.proofs.integers.put_four.Goals as goal

four_parts : (x : ℕ) → x < 4294967296 → to_be_bytes w32 x ≡ four_bytes x
four_parts x h =
    let a : x / 16777216 % 256 ≡ x / 65536 / 256 = omega arith in
    let b : x / 256 % 256 ≡ x % 65536 / 256 = omega arith in
    let d : x % 256 ≡ x % 65536 % 256 = omega arith in
    cc

pub returns : goal.returns
returns c =
    let text : c.copy_from_slice.new.self ≡ four_bytes c.args.x =
    c.copy_from_slice.ensures.after ∙ c.to_be_bytes.ensures ∙ four_parts c.args.x c.requires.1 in
    rw text (part_wrote (four_bytes c.args.x) c.args.out.now c.args.at 4 refl c.requires.0)
