-- A list written several times over. The kit's `replicate` does the same for one element. Assumes nothing.
use Rattle.std.specs.Prelude.{List, [], ◌++◌, ℕ, zero, suc}

-- `n` times the list `s`, one behind another.
abbrev pub copies {ℓ} : {A : Type ℓ} → ℕ → List A → List A
copies zero s = []
copies (suc n) s = s ++ copies n s
