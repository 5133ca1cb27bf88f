-- The finite and the infinite presentation of 000, section 2.1, agree on words: putting in and taking out the strings
-- x_i⁻¹ x_j x_i x_(j+1)⁻¹, i below j, joins the same words as the eight strings of 01 do. Assumes nothing.
use mathlib.Core.Path.{refl}
use mathlib.Core.List.{[]}
use mathlib.Core.Logic.{◌↔◌}
use Prim.Native.Nat.{suc}
use native.Mathlib.Omega.{arith}
use Rattle.group.specs.Letters.{'a, 'A, 'b, 'B, Word, inverse}
use Rattle.group.specs.Chains.{Strings, JoinedBy, relator1, relator2, Eight, pair_aA, pair_Aa, pair_bB, pair_Bb}
use Rattle.group.specs.Chains.{Joined, first, second, first_inverse, second_inverse}
use Rattle.group.specs.Forms.{generator}
use Rattle.group.specs.Presentations.{Infinite, pair, conjugate}
use Rattle.group.proofs.Congruence.{Congruent, ◌≈◌, ≈_refl, ≈_sym, ≈_trans, ≈_cons, ≈_drop, ◌⟫◌, ≈_back}
use Rattle.group.proofs.Congruence.{≈→joined, joined→≈}
use Rattle.group.proofs.Inverses.{eight_pairs, cancel_behind, inverse_cong}
use Rattle.group.proofs.FreeReduction.{via}
use Rattle.group.proofs.Generators.{conjugate_≈}

-- A congruence in which the strings of another vanish has all that the other has.
congruent_within : {R S : Strings} → ((r : Word) → R r → Congruent S r []) → {u v : Word}
    → Congruent R u v → Congruent S u v
congruent_within h ≈_refl = ≈_refl
congruent_within h (≈_sym k) = ≈_sym (congruent_within h k)
congruent_within h (≈_trans k l) = ≈_trans (congruent_within h k) (congruent_within h l)
congruent_within h (≈_cons x k) = ≈_cons x (congruent_within h k)
congruent_within h (≈_drop {r} e t) = ≈_back (h r e) t

infinite_vanishes : (r : Word) → Infinite r → r ≈ []
infinite_vanishes r (pair x) = ≈_drop (eight_pairs x) []
infinite_vanishes r (conjugate i j h) =
    ≈_back (conjugate_≈ i j h) (inverse (generator (suc j))) ⟫ cancel_behind eight_pairs (generator (suc j))

relator1_vanishes : Congruent Infinite relator1 []
relator1_vanishes = via pair "aBAbabAABa" "" "a" "A" (≈_drop (conjugate 1 2 (omega arith)) []) refl refl

relator2_vanishes : Congruent Infinite relator2 []
relator2_vanishes = via pair "aBAAbaabAAABaa" "" "a" "A" (≈_drop (conjugate 1 3 (omega arith)) []) refl refl

eight_vanishes : (r : Word) → Eight r → Congruent Infinite r []
eight_vanishes r pair_aA = ≈_drop (pair 'a) []
eight_vanishes r pair_Aa = ≈_drop (pair 'A) []
eight_vanishes r pair_bB = ≈_drop (pair 'b) []
eight_vanishes r pair_Bb = ≈_drop (pair 'B) []
eight_vanishes r first = relator1_vanishes
eight_vanishes r second = relator2_vanishes
eight_vanishes r first_inverse = inverse_cong pair relator1_vanishes
eight_vanishes r second_inverse = inverse_cong pair relator2_vanishes

-- Both presentations join the same words.
pub presentations_agree : (u v : Word) → JoinedBy Infinite u v ↔ Joined u v
presentations_agree u v = (
  (λ j. ≈→joined (congruent_within infinite_vanishes (joined→≈ j))),
  (λ j. ≈→joined (congruent_within eight_vanishes (joined→≈ j))),
)
