-- Chains: when two words are the same element of the group (01, 'Chains'; 001 has the relators, written u v u⁻¹ v⁻¹).
-- Nothing here mentions a map, a form or a record.
--     relator1, relator2   the two relators             Step S u v   one step from u to v with a string of S
--     Eight                the eight strings of 01      Joined u v   a chain with the eight strings joins u to v
-- The strings that steps put in and take out are a parameter, S; for every demand they are the eight.
-- Assumes nothing.
use Rattle.std.specs.Prelude.{◌≡◌, List, [], ◌∷◌, ◌++◌, ◌⊎◌}
use Rattle.group.specs.Letters.{'a, 'A, 'b, 'B, Word, inverse}

-- aBAbabAABa: it says x1⁻¹ x2 x1 = x3 (000, presentation 1), being a (x1⁻¹ x2 x1 x3⁻¹) A.
abbrev pub relator1 : Word
relator1 = 'a ∷ 'B ∷ 'A ∷ 'b ∷ 'a ∷ 'b ∷ 'A ∷ 'A ∷ 'B ∷ 'a ∷ []

-- aBAAbaabAAABaa: it says x1⁻¹ x3 x1 = x4.
abbrev pub relator2 : Word
relator2 = 'a ∷ 'B ∷ 'A ∷ 'A ∷ 'b ∷ 'a ∷ 'a ∷ 'b ∷ 'A ∷ 'A ∷ 'A ∷ 'B ∷ 'a ∷ 'a ∷ []

-- A set of strings: which words are in it.
abbrev pub Strings : Type 1
Strings = Word → Type 0

-- The eight strings: four pairs, the two relators, their two inverses.
pub data Eight : Word → Type 0 where
  pair_aA : Eight ('a ∷ 'A ∷ [])
  pair_Aa : Eight ('A ∷ 'a ∷ [])
  pair_bB : Eight ('b ∷ 'B ∷ [])
  pair_Bb : Eight ('B ∷ 'b ∷ [])
  first : Eight relator1
  second : Eight relator2
  first_inverse : Eight (inverse relator1)
  second_inverse : Eight (inverse relator2)

-- `v` is `u`, parted at any place, its two ends too, with one of the strings put between the parts.
pub record Puts (S : Strings) (u v : Word) : Type 0 where
  pub front : Word
  pub back : Word
  pub string : Word
  pub among : S string
  pub parted : u ≡ front ++ back
  pub put : v ≡ front ++ (string ++ back)

-- One step from `u` to `v`: one of the strings is put in, or taken out whole.
abbrev pub Step : Strings → Word → Word → Type 0
Step S u v = Puts S u v ⊎ Puts S v u

-- The words `u` and then `l` are a chain: each after the first comes from the one before it by one step.
abbrev pub Chain : Strings → Word → List Word → Type 0
Chain S u [] = Unit {0}
Chain S u (v ∷ l) = Step S u v × Chain S v l

-- The last of the words `u` and then `l`.
abbrev pub last_of : Word → List Word → Word
last_of u [] = u
last_of u (v ∷ l) = last_of v l

-- A chain, `u` its first word and `v` its last, joins `u` to `v`.
pub record JoinedBy (S : Strings) (u v : Word) : Type 0 where
  pub rest : List Word
  pub chain : Chain S u rest
  pub last : last_of u rest ≡ v

-- Joined by a chain of 01: the strings are the eight.
abbrev pub Joined : Word → Word → Type 0
Joined u v = JoinedBy Eight u v
