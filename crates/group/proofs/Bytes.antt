-- Bytes read as words: the bytes of a word are read as that word, and no other bytes are; bytes that are no word give
-- the offset of the first one that is no letter (01, 'Letters and maps'). Assumes nothing.
use mathlib.Core.Path.{◌≡◌, refl, ◌∙◌, ap, ap₂}
use mathlib.Core.Bool.{Bool, true, false, cond}
use mathlib.Core.List.{List, [], ◌∷◌, ◌++◌}
use mathlib.Core.Logic.{◌↔◌}
use mathlib.Core.Option.{Option, none, some}
use Prim.Native.Nat.{ℕ, zero, suc, ◌<◌}
use native.Mathlib.Nat.{le_of_suc-le-suc}
use native.Mathlib.Omega.{arith}
use lib.Dec.{eqb}
use lib.ListN.{length, get_or, replicate}
use borrow.Author.Tests.{eqb-true}
use Rattle.group.specs.Letters.{Letter, 'a, 'A, 'b, 'B, Word}
use Rattle.group.specs.Texts.{letter_of}
use Rattle.group.specs.Bytes.{byte_of, bytes_of, Reading, is_word, not_letter_is, read_letter, read_word, FirstNotLetter}

letter_byte : (x : Letter) → letter_of (byte_of x) ≡ some x
letter_byte 'a = refl
letter_byte 'A = refl
letter_byte 'b = refl
letter_byte 'B = refl

-- One test of a byte, for the letter y, and the tests behind it.
test_byte : (c : ℕ) (y x : Letter) (o : Option Letter) → (o ≡ some x → c ≡ byte_of x)
    → cond (eqb c (byte_of y)) (some y) o ≡ some x → c ≡ byte_of x
test_byte c y x o later = go (eqb c (byte_of y)) refl
  where
    go : (t : Bool) → eqb c (byte_of y) ≡ t → cond t (some y) o ≡ some x → c ≡ byte_of x
    go true e h = let same : y ≡ x = cc in eqb-true c (byte_of y) e ∙ ap byte_of same
    go false e h = later h

-- A letter has one byte.
byte_letter : (c : ℕ) (x : Letter) → letter_of c ≡ some x → c ≡ byte_of x
byte_letter c x =
    test_byte c 'a x _ (test_byte c 'A x _ (test_byte c 'b x _ (test_byte c 'B x none no)))
  where
    no : none ≡ some x → c ≡ byte_of x
    no h = let z : ◌≡◌ {A = ℕ} 0 1 = cc in absurd (omega arith)

-- A word's bytes are read as the word.
pub read_word_lem : (w : Word) → read_word (bytes_of w) ≡ is_word w
unfolding read_word
read_word_lem [] = refl
read_word_lem (x ∷ w) = ap₂ read_letter (letter_byte x) (read_word_lem w)

-- What a first byte and the others were read as.
cons_read : (c : ℕ) (s : List ℕ) (w : Word) (o : Option Letter) (r : Reading) → letter_of c ≡ o
    → ((v : Word) → r ≡ is_word v → s ≡ bytes_of v) → read_letter o r ≡ is_word w → c ∷ s ≡ bytes_of w
cons_read c s w none r e rec h = let z : ◌≡◌ {A = ℕ} 0 1 = cc in absurd (omega arith)
cons_read c s w (some x) (not_letter_is k) e rec h = let z : ◌≡◌ {A = ℕ} 0 1 = cc in absurd (omega arith)
cons_read c s w (some x) (is_word v) e rec h =
    let same : x ∷ v ≡ w = cc in
    ap₂ (λ (b : ℕ) (l : List ℕ). b ∷ l) (byte_letter c x e) (rec v refl) ∙ ap bytes_of same

-- Bytes that are read as a word are its bytes.
pub word_read : (s : List ℕ) (w : Word) → read_word s ≡ is_word w → s ≡ bytes_of w
unfolding read_word
word_read [] w h = let same : [] ≡ w = cc in ap bytes_of same
word_read (c ∷ s) w h = cons_read c s w (letter_of c) (read_word s) refl (word_read s) h

pub bytes_length : (w : Word) → length (bytes_of w) ≡ length w
bytes_length [] = refl
bytes_length (x ∷ w) = ap suc (bytes_length w)

-- The bytes of two words, one behind the other, and of one letter several times.
pub bytes_append : (u v : Word) → bytes_of (u ++ v) ≡ bytes_of u ++ bytes_of v
bytes_append [] v = refl
bytes_append (x ∷ u) v = ap (λ (l : List ℕ). byte_of x ∷ l) (bytes_append u v)

pub bytes_replicate : (n : ℕ) (x : Letter) → bytes_of (replicate n x) ≡ replicate n (byte_of x)
bytes_replicate zero x = refl
bytes_replicate (suc n) x = ap (λ (l : List ℕ). byte_of x ∷ l) (bytes_replicate n x)

-- A word has a letter for each byte.
pub read_length : (s : List ℕ) (w : Word) → read_word s ≡ is_word w → length s ≡ length w
read_length s w h = ap length (word_read s w h) ∙ bytes_length w

cons_first : (c : ℕ) (s : List ℕ) (k : ℕ) (o : Option Letter) (r : Reading) → letter_of c ≡ o
    → ((j : ℕ) → r ≡ not_letter_is j → FirstNotLetter s j) → read_letter o r ≡ not_letter_is k → FirstNotLetter (c ∷ s) k
cons_first c s zero none r e rec h =
    record { within = omega arith; here = e; before = λ j lt. absurd (omega arith) }
cons_first c s (suc k) none r e rec h =
    let same : 0 ≡ suc k = cc in absurd (omega arith)
cons_first c s k (some x) (is_word v) e rec h = let z : ◌≡◌ {A = ℕ} 0 1 = cc in absurd (omega arith)
cons_first c s zero (some x) (not_letter_is i) e rec h = let same : suc i ≡ 0 = cc in absurd (omega arith)
cons_first c s (suc k) (some x) (not_letter_is i) e rec h = more (rec k (let same : i ≡ k = cc in ap not_letter_is same))
  where
    before' : FirstNotLetter s k → (j : ℕ) → j < suc k → (y : Letter) × (letter_of (get_or (c ∷ s) j 0) ≡ some y)
    before' f zero lt = (x, e)
    before' f (suc j) lt = f.before j (le_of_suc-le-suc lt)

    more : FirstNotLetter s k → FirstNotLetter (c ∷ s) (suc k)
    more f = record { within = omega (arith, f.within); here = f.here; before = before' f }

first_bad : (s : List ℕ) (k : ℕ) → read_word s ≡ not_letter_is k → FirstNotLetter s k
unfolding read_word
first_bad [] k h = let z : ◌≡◌ {A = ℕ} 0 1 = cc in absurd (omega arith)
first_bad (c ∷ s) k h = cons_first c s k (letter_of c) (read_word s) refl (first_bad s) h

bad_read : (s : List ℕ) (k : ℕ) → FirstNotLetter s k → read_word s ≡ not_letter_is k
unfolding read_word
bad_read [] k f = absurd (omega (arith, f.within))
bad_read (c ∷ s) zero f = ap (λ (o : Option Letter). read_letter o (read_word s)) f.here
bad_read (c ∷ s) (suc k) f =
    ap₂ read_letter
    (f.before 0 (omega arith)).1
    (bad_read s k
    (record { within = omega (arith, f.within); here = f.here; before = λ j lt. f.before (suc j) (omega arith) }))

-- Bytes are read as no word, with the offset k, just when k is the first offset of a byte that is no letter.
pub not_letter : (s : List ℕ) (k : ℕ) → (read_word s ≡ not_letter_is k) ↔ FirstNotLetter s k
not_letter s k = (first_bad s k, bad_read s k)
