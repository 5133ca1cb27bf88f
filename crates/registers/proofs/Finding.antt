-- In a well-formed register the search finds what the definition gives; behind entries it goes on as it began.
-- Assumes nothing.
use mathlib.Core.Path.{◌≡◌, refl, ap, ◌∙◌}
use mathlib.Core.Bool.{Bool, true, false, cond}
use mathlib.Core.List.{List, [], ◌∷◌, ◌++◌, append_assoc}
use mathlib.Core.Option.{Option, none, some}
use Prim.Native.Nat.{ℕ, zero, suc, ◌+◌, ◌≤◌}
use native.Mathlib.Omega.{arith}
use native.Mathlib.Nat.{not-suc-le-zero}
use lib.ListN.{length, drop, length-append}
use lib.Dec.{ltb}
use borrow.Author.Tests.{eqb-true, ne_eqb}
use Rattle.lists.specs.SameBytes.{same_bytes}
use Rattle.group.specs.Forms.{Form}
use Rattle.fields.specs.Fields.{two_at}
use Rattle.clause.specs.Clause.{both}
use Rattle.records.specs.Format.{encode}
use Rattle.registers.specs.Format.{Entry, Register, entry_tag, entry_base, first_size, entry_bytes, entries_bytes}
use Rattle.registers.specs.Reading.{ends, entry_size, entry_stands, number_in, record_in, holds_form, number_for}
use Rattle.registers.specs.Finding.{find_in, found}
use Rattle.registers.proofs.ReadBack.{number_back, record_back, rest_back, one_stands, bytes_left}
use Rattle.registers.proofs.Written.{Holds}

-- Where the entries end no entry stands.
pub none_stands : (t : List ℕ) → ends t ≡ true → entry_stands t ≡ false
none_stands [] h = refl
none_stands (x ∷ t) h =
    let whole : Bool =
    cond (ltb (length (x ∷ t)) (entry_size (x ∷ t))) false (cond (ltb (two_at (x ∷ t) 1) entry_base) false true) in
    ap (λ (b : Bool). both b whole) (ne_eqb x entry_tag (λ e. omega (arith, e, eqb-true x 0 h)))

-- One entry of the search.
find_one : (f : Form) (e : Entry) (rest : List ℕ) (k : ℕ)
    → find_in (suc k) (entry_bytes e ++ rest) (encode f)
    ≡ cond (holds_form f e) (some e.number) (find_in k rest (encode f))
unfolding find_in
find_one f e rest k =
    let s : List ℕ = entry_bytes e ++ rest in
    go (entry_stands s) (one_stands e rest) (record_in s) (record_back e rest) (number_in s) (number_back e rest)
    (drop (entry_size s) s) (rest_back e rest)
  where
    go : (b : Bool) → b ≡ true → (r : List ℕ) → r ≡ encode e.form → (x : ℕ) → x ≡ e.number
        → (s : List ℕ) → s ≡ rest
        → cond b (cond (same_bytes r (encode f)) (some x) (find_in k s (encode f))) none
        ≡ cond (holds_form f e) (some e.number) (find_in k rest (encode f))
    go b hb r hr x hx s hs = rw hb (rw hr (rw hx (rw hs refl)))

find_entry : (f : Form) (e : Entry) (es : List Entry) (t : List ℕ) (k : ℕ)
    → find_in (suc k) (entries_bytes (e ∷ es) ++ t) (encode f)
    ≡ cond (holds_form f e) (some e.number) (find_in k (entries_bytes es ++ t) (encode f))
find_entry f e es t k =
    ap (λ (s : List ℕ). find_in (suc k) s (encode f)) (append_assoc (entry_bytes e) (entries_bytes es) t)
    ∙ find_one f e (entries_bytes es ++ t) k

bytes_less : (e : Entry) (es : List Entry) (k : ℕ) → length (entries_bytes (e ∷ es)) ≤ suc k
    → length (entries_bytes es) ≤ k
bytes_less e es k h = omega (arith, h, length-append (entry_bytes e) (entries_bytes es))

-- What is found in entries is found, whatever stands behind them.
pub find_front : (f : Form) (es : List Entry) (t : List ℕ) (k n : ℕ) → length (entries_bytes es) ≤ k
    → number_for f es ≡ some n → find_in k (entries_bytes es ++ t) (encode f) ≡ some n
find_front f [] t k n le h = let c : ◌≡◌ {A = ℕ} 0 1 = cc in absurd (omega arith)
find_front f (e ∷ es) t zero n le h = absurd (not-suc-le-zero le)
find_front f (e ∷ es) t (suc k) n le h =
    find_entry f e es t k ∙ go (holds_form f e) h (λ q. find_front f es t k n (bytes_less e es k le) q)
  where
    go : (b : Bool) → cond b (some e.number) (number_for f es) ≡ some n
        → (number_for f es ≡ some n → find_in k (entries_bytes es ++ t) (encode f) ≡ some n)
        → cond b (some e.number) (find_in k (entries_bytes es ++ t) (encode f)) ≡ some n
    go true q later = q
    go false q later = later q

-- Where nothing is found in entries, the search goes on behind them.
pub find_past : (f : Form) (es : List Entry) (t : List ℕ) (k : ℕ) → number_for f es ≡ none
    → find_in (length es + k) (entries_bytes es ++ t) (encode f) ≡ find_in k t (encode f)
find_past f [] t k h =
    let e : 0 + k ≡ k = omega arith in ap (λ (n : ℕ). find_in n t (encode f)) e
find_past f (e ∷ es) t k h =
    let m : length (e ∷ es) + k ≡ suc (length es + k) = omega arith in
    ap (λ (n : ℕ). find_in n (entries_bytes (e ∷ es) ++ t) (encode f)) m
    ∙ find_entry f e es t (length es + k) ∙ go (holds_form f e) h (λ q. find_past f es t k q)
  where
    go : (b : Bool) → cond b (some e.number) (number_for f es) ≡ none
        → (number_for f es ≡ none → find_in (length es + k) (entries_bytes es ++ t) (encode f) ≡ find_in k t (encode f))
        → cond b (some e.number) (find_in (length es + k) (entries_bytes es ++ t) (encode f))
        ≡ find_in k t (encode f)
    go true q later = let c : ◌≡◌ {A = ℕ} 0 1 = cc in absurd (omega arith)
    go false q later = later q

-- Where the entries end, the search is the definition.
entries_find : (f : Form) (es : List Entry) (tail : List ℕ) (k : ℕ) → ends tail ≡ true
    → length (entries_bytes es ++ tail) ≤ k → find_in k (entries_bytes es ++ tail) (encode f) ≡ number_for f es
unfolding find_in
entries_find f [] tail zero t n = refl
entries_find f [] tail (suc k) t n = rw (none_stands tail t) refl
entries_find f (e ∷ es) tail zero t n = absurd (not-suc-le-zero n)
entries_find f (e ∷ es) tail (suc k) t n =
    find_entry f e es tail k
    ∙ ap (λ (o : Option ℕ). cond (holds_form f e) (some e.number) o)
    (entries_find f es tail k t (bytes_left e es tail k n))

pub find_number : (s : List ℕ) (r : Register) (f : Form) → Holds s r → found s (encode f) ≡ number_for f r.entries
find_number s r f w =
    ap (λ (x : List ℕ). find_in (length s) (drop first_size x) (encode f)) w.written
    ∙ entries_find f r.entries w.tail (length s) w.ended (omega (arith, ap length w.written))
