-- `put_tree` meets its contract: the table that was read gives the text of the tree. Assumes nothing.
use Rattle.appending.proofs.Appending.{append_same}
use Rattle.pictures.proofs.TreeTables.{table_characters_lem}
use Rattle.pictures.proofs.characters.put_tree.Goals as goal

pub returns : goal.returns
returns c =
    let a = c.args in
    λ t e count. append_same (table_characters_lem c.of.ensures t e count a.head.now) c.put_characters.ensures
