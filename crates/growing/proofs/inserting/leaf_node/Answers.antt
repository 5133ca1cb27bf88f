-- `leaf_node` meets its contract. Assumes nothing.
use native.Mathlib.Omega.{arith}
use Rattle.growing.proofs.LeafSteps.{held_room, held_few, leaf_asks, holds_of, leaf_there, leaf_found}
use Rattle.growing.proofs.inserting.leaf_node.Goals as goal

pub number_of_leaf-j-requires : goal.number_of_leaf-j-requires
number_of_leaf-j-requires c =
    let asks = leaf_asks c.requires c.numbers_of.ensures in
    record { few = asks.0; n_nonzero = asks.1.0; n_in_bounds = asks.1.1.0; n_bound = asks.1.1.1 }

pub bounds-summary-j : goal.bounds-summary-j
bounds-summary-j c =
    omega (
      arith,
      (holds_of c.numbers_of.ensures c.number_of_leaf-j.ensures).inside,
      held_room c.requires.held,
    )

pub overflow_sub-before : goal.overflow_sub-before
overflow_sub-before c =
    rw c.from.ensures (held_few c.requires.held _ (holds_of c.numbers_of.ensures c.number_of_leaf-j.ensures).inside)

pub unwrap-requires : goal.unwrap-requires
unwrap-requires c =
    leaf_there c.find_leaf.result c.requires (holds_of c.numbers_of.ensures c.number_of_leaf-j.ensures)
    (rw (c.from.ensures, c.from-2.ensures) at c.find_leaf.ensures)

pub returns : goal.returns
returns c =
    let found = rw (c.from.ensures, c.from-2.ensures) at c.find_leaf.ensures in
    leaf_found c.requires (holds_of c.numbers_of.ensures c.number_of_leaf-j.ensures) (rw c.unwrap.ensures at found)
