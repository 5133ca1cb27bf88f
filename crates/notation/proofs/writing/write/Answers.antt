-- `write` meets its contract: the b side, the a side behind it, and both placed. Assumes nothing.
use mathlib.Core.Path.{sym}
use Prim.Native.Nat.{◌≤◌}
use native.Mathlib.Omega.{arith}
use lib.ListN.{length}
use lib.Seq.{length-take-le}
use Rattle.lists.proofs.Writes.{write_then, wrote_same}
use Rattle.notation.specs.inside.Tables.{rising_in, falling_in, powers_of}
use Rattle.tokens.proofs.Texts.{further_append}
use Rattle.notation.proofs.Tables.{both-length}
use Rattle.notation.proofs.Answers.{own_room, powers_placed}
use Rattle.notation.proofs.writing.write.Goals as goal

pub write_rising-middle-requires : goal.write_rising-middle-requires
write_rising-middle-requires c =
    let both = both-length c.args.b.now c.args.a.now in
    record {
      b_len = c.requires.b_len.0;
      b_in_bounds = own_room (omega (arith, both, c.requires));
    }

pub write_falling-end-requires : goal.write_falling-end-requires
write_falling-end-requires c =
    let both = both-length c.args.b.now c.args.a.now in record {
      a_len = c.requires.b_len.1;
      a_in_bounds =
          omega (
            arith,
            both,
            c.write_rising-middle.ensures,
            c.write_rising-middle.auto,
            own_room c.requires.a_len_bound,
          );
    }

pub slice_bounds-further-end : goal.slice_bounds-further-end
slice_bounds-further-end c =
    omega (
      arith,
      both-length c.args.b.now c.args.a.now,
      c.write_rising-middle.ensures,
      c.write_rising-middle.auto,
      c.write_falling-end.ensures,
      c.write_falling-end.auto,
      own_room c.requires.a_len_bound,
    )

pub slice_bounds-place-end : goal.slice_bounds-place-end
slice_bounds-place-end c =
    let within : c.write_falling-end.result ≤ length c.write_falling-end.new.out =
    omega (
      arith,
      both-length c.args.b.now c.args.a.now,
      c.write_rising-middle.ensures,
      c.write_rising-middle.auto,
      c.write_falling-end.ensures,
      c.write_falling-end.auto,
      own_room c.requires.a_len_bound,
    ) in
    sym (length-take-le c.write_falling-end.result c.write_falling-end.new.out within)

pub returns : goal.returns
returns c =
    let b = c.args.b.now in
    let a = c.args.a.now in
    powers_placed (powers_of b a) c.requires.a_len_bound
    (wrote_same (sym (further_append (rising_in 0 b) (falling_in 0 a)))
    (write_then c.write_rising-middle.ensures c.write_falling-end.ensures))
    c.place.ensures
