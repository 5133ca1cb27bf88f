-- The infinite presentation of the group, x_i⁻¹ x_j x_i = x_(j+1) for i below j (000, presentation 2), on words: its
-- relators with each x_k through its letters, and the pairs that make words a group. Assumes nothing.
use Rattle.std.specs.Prelude.{[], ◌∷◌, ◌++◌, ℕ, suc, ◌<◌}
use Rattle.group.specs.Letters.{Letter, Word, inverse_letter, inverse}
use Rattle.group.specs.Forms.{generator}

-- The strings x x⁻¹ for a letter x, and x_i⁻¹ x_j x_i x_(j+1)⁻¹ for i below j.
pub data Infinite : Word → Type 0 where
  pair : (x : Letter) → Infinite (x ∷ inverse_letter x ∷ [])
  conjugate : (i j : ℕ) → i < j
      → Infinite ((inverse (generator i) ++ (generator j ++ generator i)) ++ inverse (generator (suc j)))
