-- The powers that a value of the reader's own type holds. Assumes nothing.
use Rattle.std.specs.Prelude.{List}
use Rattle.group.specs.Powers.{SignedPower}
use Rattle.group.specs.inside.PowerLists.{powers_in}
use Rattle.notation.specs.declared.powers.Powers.{Powers}

-- In three slices.
abbrev pub held : Powers → List SignedPower
held p = powers_in p.indices.now p.exponents.now p.sides.now
