-- A form spelled level by level, a^b σ(levels above) A^a. This spelling is for proofs; it is congruent to the form's
-- letters, each x_k through its own letters. Assumes nothing.
use mathlib.Core.Path.{◌≡◌, sym}
use mathlib.Core.List.{[], ◌∷◌, ◌++◌, append_assoc}
use Prim.Native.Nat.{ℕ, zero, suc}
use lib.ListN.{replicate}
use Rattle.lists.specs.Copies.{copies}
use Rattle.group.specs.Letters.{Letter, 'a, 'A, Word, inverse}
use Rattle.group.specs.Chains.{pair_aA}
use Rattle.group.specs.Forms.{Form, empty, level, generator, ascending, descending, letters}
use Rattle.group.proofs.Congruence.{◌≈◌, ≈_cons, ≈_drop, ◌⟫◌, ≈_path, ≈_front, ≈_back, ≈_append}
use Rattle.group.proofs.Shift.{σ, σ_cong, A-past}
use Rattle.group.proofs.Generators.{σs, σs_nil, σs_append, generator_σs, generator⁻¹_σs}

-- One level around what stands above it.
abbrev pub spell_level : ℕ → ℕ → Word → Word
spell_level b a w = replicate b 'a ++ (σ w ++ replicate a 'A)

abbrev pub spell_levels : Form → Word
spell_levels empty = []
spell_levels (level b a f) = spell_level b a (spell_levels f)

pub level_cong : (b a : ℕ) {u v : Word} → u ≈ v → spell_level b a u ≈ spell_level b a v
level_cong b a h = ≈_front (replicate b 'a) (≈_back (σ_cong h) (replicate a 'A))

-- a^(n+1) A is a^n.
cancel_power : (n : ℕ) (t : Word) → (replicate (suc n) 'a ++ ('A ∷ t)) ≈ (replicate n 'a ++ t)
cancel_power zero t = ≈_drop pair_aA t
cancel_power (suc n) t = ≈_cons 'a (cancel_power n t)

-- A reducing step at the first level: the level (0, 0) above it goes.
pub level_cancel : (b a : ℕ) (w : Word) → spell_level (suc b) (suc a) (σ w) ≈ spell_level b a w
level_cancel b a w =
    ≈_front (replicate (suc b) 'a) (A-past w (replicate a 'A)) ⟫ cancel_power b (σ w ++ replicate a 'A)

-- A power of x_k, whose letters are congruent to σ applied k times to x.
copies_σs : (x : Letter) (k n : ℕ) (w : Word) → w ≈ σs k (x ∷ []) → copies n w ≈ σs k (replicate n x)
copies_σs x k zero w h = ≈_path (sym (σs_nil k))
copies_σs x k (suc n) w h =
    ≈_append h (copies_σs x k n w h) ⟫ ≈_path (sym (σs_append k (x ∷ []) (replicate n x)))

regroup : (p q r s : Word) → (p ++ q) ++ (r ++ s) ≡ p ++ ((q ++ r) ++ s)
regroup p q r s = simp append_assoc

letters_σs : (k : ℕ) (f : Form) → (ascending k f ++ descending k f) ≈ σs k (spell_levels f)
letters_σs k empty = ≈_path (sym (σs_nil k))
letters_σs k (level b a f) =
    ≈_path
    (regroup (copies b (generator k)) (ascending (suc k) f) (descending (suc k) f) (copies a (inverse (generator k))))
    ⟫ ≈_append (copies_σs 'a k b (generator k) (generator_σs k))
    (≈_append (letters_σs (suc k) f) (copies_σs 'A k a (inverse (generator k)) (generator⁻¹_σs k))
    ⟫ ≈_path (sym (σs_append k (σ (spell_levels f)) (replicate a 'A))))
    ⟫ ≈_path (sym (σs_append k (replicate b 'a) (σ (spell_levels f) ++ replicate a 'A)))

pub letters-levels : (f : Form) → letters f ≈ spell_levels f
letters-levels f = letters_σs 0 f
