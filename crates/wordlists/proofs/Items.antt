-- Laws of items (02, [4]): the items of lines behind other lines, and the item of a word. Assumes nothing.
use mathlib.Core.Path.{◌≡◌, refl, sym, ap, ◌∙◌}
use mathlib.Core.List.{List, [], ◌∷◌, ◌++◌, append_assoc}
use Prim.Native.Nat.{ℕ, ◌≤◌}
use lib.ListN.{length}
use Rattle.group.specs.Letters.{Word}
use Rattle.group.specs.Bytes.{bytes_of}
use Rattle.group.specs.Limits.{limit}
use Rattle.letters.specs.Judging.{line_read}
use Rattle.words.specs.Recording.{encode_word}
use Rattle.wordlists.specs.Items.{item, items}
use Rattle.wordlists.proofs.Lines.{read_bytes}

-- The items of lines behind other lines stand behind their items.
pub items-append : (ls ks : List (List ℕ)) → items (ls ++ ks) ≡ items ls ++ items ks
items-append [] ks = refl
items-append (l ∷ ls) ks =
    ap (λ (s : List ℕ). item (line_read l) ++ s) (items-append ls ks)
    ∙ sym (append_assoc (item (line_read l)) (items ls) (items ks))

-- The item of a word within the limit is its record.
pub item_word : (w : Word) → length w ≤ limit → item (line_read (bytes_of w)) ≡ encode_word w
item_word w few = ap item (read_bytes w few)
