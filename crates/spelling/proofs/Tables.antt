-- The speller taken through two tables: what it counts is the length of their word, and far below the numbers that a
-- `usize` holds. Assumes nothing.
use mathlib.Core.Path.{◌≡◌, sym, ap, ◌∙◌}
use mathlib.Core.List.{List, ◌++◌}
use Prim.Native.Nat.{ℕ, ◌+◌, ◌*◌, ◌<◌, ◌≤◌}
use native.Mathlib.Omega.{arith}
use Rattle.group.specs.Limits.{limit}
use Rattle.spelling.specs.Runs.{distance, letters_from}
use Rattle.spelling.specs.inside.Steps.{behind_runs, read_exponent, rising_runs, falling_runs, table_letters}
use Rattle.spelling.specs.declared.speller.Speller.{Speller}
use Rattle.spelling.proofs.Behind.{behind-append, behind_more, letters-behind}
use Rattle.spelling.proofs.Sizes.{Sized, sized_rising, sized_falling}

-- The speller at the start, behind the b side and behind the a side.
pub record Passed (b a : List ℕ) (start top last : Speller) : Type 0 where
  pub none : start.count ≡ 0
  pub first : start.due ≡ read_exponent b 0
  pub up : top ≡ behind_runs start (rising_runs b)
  pub down : last ≡ behind_runs top (falling_runs a)

-- From what the steps of the code say.
pub passed : (b a : List ℕ) {start top last : Speller} → (start.count ≡ 0) × (start.due ≡ read_exponent b 0)
    → top ≡ behind_runs start (rising_runs b) → last ≡ behind_runs top (falling_runs a) → Passed b a start top last
passed b a e u d = record { none = e.0; first = e.1; up = u; down = d }

-- The exponents are 16-bit numbers.
abbrev pub Small : List ℕ → Type 0
Small t = (i : ℕ) → read_exponent t i < 65536

module _ {b a : List ℕ} {start top last : Speller} (p : Passed b a start top last) where
  -- Both sides are one list of runs.
  passed_both : last ≡ behind_runs start (rising_runs b ++ falling_runs a)
  passed_both =
      p.down
      ∙ ap (λ (s : Speller). behind_runs s (falling_runs a)) p.up
      ∙ sym (behind-append (rising_runs b) (falling_runs a) start)

  -- With what the letters due leave of the last letters A, it is the whole word.
  pub passed_count : last.count + distance last.due (read_exponent a 0) ≡ table_letters b a
  passed_count =
      let zero : start.count + table_letters b a ≡ table_letters b a = omega (arith, p.none) in
      ap (λ (s : Speller). s.count + distance s.due (read_exponent a 0)) passed_both
      ∙ letters-behind (rising_runs b ++ falling_runs a) start (read_exponent a 0)
      ∙ ap (λ (m : ℕ). start.count + letters_from m (rising_runs b ++ falling_runs a) (read_exponent a 0)) p.first
      ∙ zero

  -- The letters of the b side, and of both sides, are letters of the word.
  pub passed_last : last.count ≤ table_letters b a
  passed_last = omega (arith, passed_count)

  pub passed_top : top.count ≤ table_letters b a
  passed_top =
      omega (arith, passed_last, behind_more (falling_runs a) top, ap (λ (s : Speller). s.count) p.down)

  -- The counts of tables of 16-bit numbers.
  pub sized_top : Small b → Sized (131072 * limit) top
  unfolding rising_runs
  sized_top h =
      let start-sized : Sized 0 start = record { most = omega (arith, p.none); near = omega (arith, p.first, h 0) } in
      rw p.up (sized_rising (read_exponent b) h limit 0 start start-sized (omega arith))

  pub sized_last : Small b → Small a → Sized (262144 * limit) last
  unfolding falling_runs
  sized_last h g =
      rw p.down (sized_falling (read_exponent a) g limit top (sized_top h) (omega arith))
