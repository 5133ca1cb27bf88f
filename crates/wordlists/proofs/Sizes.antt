-- The bytes that the items of lines have (02, [4]): at most "6 bytes a line plus four times the bytes of all lines,
-- ends of line left out". Assumes nothing.
use mathlib.Core.Path.{◌≡◌, refl}
use mathlib.Core.List.{List, [], ◌∷◌}
use mathlib.Core.Path.{sym, ◌∙◌}
use mathlib.Core.Bool.{true}
use Prim.Native.Nat.{ℕ, ◌+◌, ◌-◌, ◌*◌, ◌/◌, ◌<◌, ◌≤◌}
use native.Mathlib.Decide.{dec_lt}
use native.Mathlib.Omega.{arith}
use lib.ListN.{length, length-append}
use lib.Dec.{ltb}
use borrow.Author.Tests.{lt-ltb, le-ltb}
use Rattle.lines.specs.Lines.{line_bytes}
use Rattle.group.specs.Letters.{Word}
use Rattle.group.specs.Products.{form_of}
use Rattle.group.proofs.Bytes.{read_length}
use Rattle.group.proofs.Sizes.{form_sum}
use Rattle.refusals.specs.Outcomes.{Outcome, accepted, refused}
use Rattle.records.specs.Format.{base_size, buffer_size}
use Rattle.records.proofs.Lengths.{encode_size}
use Rattle.letters.specs.Judging.{line_read}
use Rattle.letters.proofs.Judged.{accepted_fit}
use Rattle.wordlists.specs.Items.{item, items, list_size}

-- A word that is read has a letter for each byte of its line.
pub read_letters : (l : List ℕ) (w : Word) → line_read l ≡ accepted w → length l ≡ length w
read_letters l w e = read_length l w (accepted_fit l (length l + 1) (length l + 1) w e).reads

-- A record has four bytes a power and six; a refused word has six.
pub item_size_lem : (l : List ℕ) → length (item (line_read l)) ≤ buffer_size (length l)
item_size_lem l = go (line_read l) refl
  where
    go : (o : Outcome Word) → line_read l ≡ o → length (item o) ≤ buffer_size (length l)
    go (accepted w) e = omega (arith, encode_size (form_of w), form_sum w, read_letters l w e)
    go (refused n p) e = omega arith

-- The items of all lines fit in what the lines need.
pub items_size : (ls : List (List ℕ)) → length (items ls) ≤ list_size ls
items_size [] = omega arith
items_size (l ∷ ls) = omega (arith, length-append (item (line_read l)) (items ls), item_size_lem l, items_size ls)

-- The sum of what the lines need.
pub list_size_lem : (ls : List (List ℕ)) → list_size ls ≡ base_size * length ls + 4 * line_bytes ls
list_size_lem [] = refl
list_size_lem (l ∷ ls) = omega (arith, list_size_lem ls)

-- The output's test, by the lines and their bytes: n lines, k bytes.
module _ (ls : List (List ℕ)) (out n k : ℕ) (en : n ≡ length ls) (ek : k ≡ line_bytes ls) where
  -- It is too short for 6 bytes a line.
  pub short_lines : out / base_size < n → true ≡ ltb out (list_size ls)
  short_lines h = sym (lt-ltb out (list_size ls) (omega (arith, list_size_lem ls)))

  -- It is not, and what is left of it decides.
  pub short_bytes : n ≤ out / base_size → ltb ((out - base_size * n) / 4) k ≡ ltb out (list_size ls)
  short_bytes h = go (dec_lt out (list_size ls))
    where
      go : Dec (out < list_size ls) → ltb ((out - base_size * n) / 4) k ≡ ltb out (list_size ls)
      go (yes p) = lt-ltb _ k (omega (arith, list_size_lem ls)) ∙ sym (lt-ltb out (list_size ls) p)
      go (no p) = le-ltb _ k (omega (arith, list_size_lem ls)) ∙ sym (le-ltb out (list_size ls) (omega arith))
