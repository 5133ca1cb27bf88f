-- The nodes of a shape packed 64 to a number, the first node in the lowest bit, unused bits zero (02, [6]).
--     pack_number_value s  the number whose bits are the nodes s  bits_of k x   the k lowest bits of x, lowest first
--     number_at s j   number j of the shape s                     nodes_in xs   the bits of all the numbers xs
--     numbers_of_value n  how many numbers n nodes take
-- Assumes nothing.
use Rattle.std.specs.Prelude.{List, [], ◌∷◌, ◌++◌, ℕ, zero, suc, ◌+◌, ◌*◌, ◌/◌, ◌%◌, take, drop}

-- The number of some nodes, the first in the lowest bit; unused bits are zero.
abbrev pub pack_number_value : List ℕ → ℕ
pack_number_value [] = 0
pack_number_value (b ∷ s) = b + 2 * pack_number_value s

-- Number j of a shape holds the nodes 64 j to 64 j + 63.
abbrev pub number_at : List ℕ → ℕ → ℕ
number_at s j = pack_number_value (take 64 (drop (64 * j) s))

-- The numbers that n nodes take.
abbrev pub numbers_of_value : ℕ → ℕ
numbers_of_value n = (n + 63) / 64

-- The k lowest bits of a number, lowest first.
abbrev pub bits_of : ℕ → ℕ → List ℕ
bits_of zero x = []
bits_of (suc k) x = (x % 2) ∷ bits_of k (x / 2)

-- The bits of all numbers, one after another.
abbrev pub nodes_in : List ℕ → List ℕ
nodes_in [] = []
nodes_in (x ∷ xs) = bits_of 64 x ++ nodes_in xs
