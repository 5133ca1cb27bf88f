-- The first byte that is no letter, by the reading of the bytes and by the scan. Assumes nothing.
use mathlib.Core.Path.{◌≡◌, refl, sym, ◌∙◌, ap}
use native.Mathlib.Omega.{arith}
use Rattle.std.specs.Prelude.{Bool, true, false, not, cond, ◌&&◌, List, [], ◌∷◌, ℕ, ◌+◌, fold, position}
use Rattle.std.specs.Prelude.{Option, None, Some}
use Rattle.std.specs.List.{position_from}
use Rattle.std.proofs.Math.Option.{Option as Maybe, none, some}
use Rattle.std.proofs.lemmas.Iterator.Adapters.{position_from-zero}
use Rattle.std.proofs.lemmas.List.Folds.{fold_stays}
use Rattle.group.specs.Letters.{Letter}
use Rattle.group.specs.Texts.{letter_of}
use Rattle.group.specs.Bytes.{Reading, is_word, not_letter_is, read_letter, read_word}
use Rattle.letters.specs.inside.Scanning.{is_letter_value, is_letter_at, not_letter_in}

-- Whether a byte is no letter.
abbrev is_bad : ℕ → Bool
is_bad byte = not (is_letter_at byte)

-- An offset behind i bytes more.
abbrev behind : ℕ → Option ℕ → Option ℕ
behind i None = None
behind i (Some k) = Some (i + k)

behind_none : (o : Option ℕ) → o ≡ behind 0 o
behind_none None = refl
behind_none (Some k) = ap Some (omega arith)

behind_letter : (i : ℕ) (x : Letter) (r : Reading)
    → behind i (not_letter_in (read_letter (some x) r)) ≡ behind (i + 1) (not_letter_in r)
behind_letter i x (is_word w) = refl
behind_letter i x (not_letter_is k) = ap Some (omega arith)

scan_from : (i : ℕ) (s : List ℕ) → behind i (not_letter_in (read_word s)) ≡ position_from is_bad i s
unfolding read_word
scan_from i [] = refl
scan_from i (c ∷ s) = go (letter_of c) (scan_from (i + 1) s)
  where
    go : (o : Maybe Letter) → behind (i + 1) (not_letter_in (read_word s)) ≡ position_from is_bad (i + 1) s
        → behind i (not_letter_in (read_letter o (read_word s)))
        ≡ cond (not (is_letter_value o)) (Some i) (position_from is_bad (i + 1) s)
    go none later = ap Some (omega arith)
    go (some x) later = behind_letter i x (read_word s) ∙ later

-- The scan finds what the reading says.
pub scan_reads : (s : List ℕ) → position is_bad s ≡ not_letter_in (read_word s)
scan_reads s = position_from-zero is_bad s ∙ sym (behind_none (not_letter_in (read_word s)) ∙ scan_from 0 s)

-- Whether all bytes are letters, one byte more in a turn.
abbrev and_letter : Bool → ℕ → Bool
and_letter good byte = good && is_letter_at byte

-- Where all are letters, the reading finds none that is not.
pub all_read : (s : List ℕ) → fold and_letter true s ≡ true → not_letter_in (read_word s) ≡ None
unfolding read_word
all_read [] e = refl
all_read (c ∷ s) e = go (letter_of c) e (all_read s)
  where
    later : (x : Letter) (r : Reading) → not_letter_in r ≡ None → not_letter_in (read_letter (some x) r) ≡ None
    later x (is_word w) k = refl
    later x (not_letter_is n) k = cc

    go : (o : Maybe Letter) → fold and_letter (is_letter_value o) s ≡ true
        → (fold and_letter true s ≡ true → not_letter_in (read_word s) ≡ None)
        → not_letter_in (read_letter o (read_word s)) ≡ None
    go none h all =
        let z : false ≡ true = sym (fold_stays and_letter false (λ x. refl) s) ∙ h in
        let one : ◌≡◌ {A = ℕ} 0 1 = cc in
        absurd (omega arith)
    go (some x) h all = later x (read_word s) (all h)
