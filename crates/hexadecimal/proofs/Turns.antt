-- Characters one by one: the loop over the characters of a part. Assumes nothing.
use Rattle.std.proofs.Common.{◌≡◌, ℕ, ◌+◌, ◌<◌, ◌≤◌, List, [], ◌∷◌, length, get_or, drop, sym, refl, ap, ◌∙◌, add-one, arith, drop_of_length-le, drop-cons}
use Rattle.hexadecimal.specs.declared.Amid.{Amid}
use Rattle.hexadecimal.specs.Taking.{Taken, taken, hex_step, hex_take}

-- No character is left.
pub take_none : (bytes : List ℕ) (m : Amid) → hex_take [] bytes m ≡ taken bytes m
unfolding hex_take
take_none bytes m = refl

-- The first character, then the others.
pub take_more : (c : ℕ) (s bytes : List ℕ) (m : Amid)
    → hex_take (c ∷ s) bytes m ≡ hex_take s (hex_step bytes m c).bytes (hex_step bytes m c).amid
unfolding hex_take
take_more c s bytes m = refl

-- The first i characters are taken.
pub record Passing (chars bytes₀ : List ℕ) (m₀ : Amid) (bytes : List ℕ) (m : Amid) (i : ℕ) : Type 0 where
  pub inside : i ≤ length chars
  pub left : hex_take (drop i chars) bytes m ≡ hex_take chars bytes₀ m₀
  pub size : length bytes ≡ length bytes₀

-- Before the first.
pub pass_start : (chars bytes : List ℕ) (m : Amid) → Passing chars bytes m bytes m 0
pass_start chars bytes m = record { inside = omega arith; left = refl; size = refl }

module _ {chars bytes₀ : List ℕ} {m₀ : Amid} {bytes : List ℕ} {m : Amid} {i : ℕ}
    (p : Passing chars bytes₀ m₀ bytes m i) where
  -- One character more.
  pub pass_more : {bytes' : List ℕ} {m' : Amid} → i < length chars → taken bytes' m' ≡ hex_step bytes m (get_or chars i 0)
      → length bytes' ≡ length bytes → Passing chars bytes₀ m₀ bytes' m' (i + 1)
  pass_more {bytes'} {m'} h e size = record {
    inside = omega arith;
    left =
        ap (λ (t : Taken). hex_take (drop (i + 1) chars) t.bytes t.amid) e
        ∙ sym (take_more (get_or chars i 0) (drop (i + 1) chars) bytes m)
        ∙ ap (λ (s : List ℕ). hex_take s bytes m) (sym (rw add-one (drop-cons chars i 0 h)))
        ∙ p.left;
    size = size ∙ p.size;
  }

  -- All of them.
  pub pass_done : length chars ≤ i → taken bytes m ≡ hex_take chars bytes₀ m₀
  pass_done h =
      sym (take_none bytes m) ∙ ap (λ (s : List ℕ). hex_take s bytes m) (sym (drop_of_length-le chars h)) ∙ p.left
