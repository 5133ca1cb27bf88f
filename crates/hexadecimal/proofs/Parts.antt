-- A line that comes in parts is read as the whole line is, its bytes cut to the size of the buffer; and what is read
-- are bytes. Assumes nothing.
use Rattle.std.proofs.Common.{◌≡◌, ℕ, zero, suc, ◌+◌, ◌*◌, ◌%◌, ◌^◌, ◌<◌, Option, Some, None, Bool, true, false, cond}
use Rattle.std.proofs.Common.{ltb, List, [], ◌∷◌, ◌++◌, length, get_or, take, sym, refl, ap, ◌∙◌, subst, ap₂}
use Rattle.std.proofs.Common.{append-nil, arith, ltb-true, lt-ltb}
use lib.Seq.{append_snoc}
use Rattle.lines.specs.Lines.{whole_of}
use Rattle.lines.specs.Feeding.{kept_line, kept_count}
use Rattle.lines.proofs.Feeding.{keep_length}
use Rattle.lines.proofs.Holding.{Holding, hold_none, hold_more}
use Rattle.hexadecimal.specs.declared.Amid.{Amid}
use Rattle.hexadecimal.specs.Hexadecimal.{hex_value, is_blank_value, parts, HexRead, hex_bytes, stray_at, byte_then, hex_from}
use Rattle.hexadecimal.specs.Hexadecimal.{hex_read}
use Rattle.hexadecimal.specs.Taking.{Taken, taken, next_offset, amid_with, begun, strayed, hex_step, hex_take}
use Rattle.hexadecimal.specs.Taking.{take_parts, ended_as, cut_read}

-- A part behind another is taken from what the first left.
pub take-append : (s t bytes : List ℕ) (m : Amid)
    → hex_take (s ++ t) bytes m ≡ hex_take t (hex_take s bytes m).bytes (hex_take s bytes m).amid
unfolding hex_take
take-append [] t bytes m = refl
take-append (c ∷ s) t bytes m = take-append s t (hex_step bytes m c).bytes (hex_step bytes m c).amid

-- The parts are taken as the whole is.
pub parts_whole : (parts : List (List ℕ)) (bytes : List ℕ) (m : Amid)
    → take_parts parts bytes m ≡ hex_take (whole_of parts) bytes m
unfolding hex_take
parts_whole [] bytes m = refl
parts_whole (part ∷ rest) bytes m =
    parts_whole rest (hex_take part bytes m).bytes (hex_take part bytes m).amid
    ∙ sym (take-append part (whole_of rest) bytes m)

-- What a line is read as, from what is kept behind its last character.
abbrev ended : Taken → HexRead
ended t = ended_as t.bytes t.amid

-- Bytes in front of what the other characters are read as.
abbrev prefixed : List ℕ → HexRead → HexRead
prefixed p (hex_bytes s) = hex_bytes (p ++ s)
prefixed p (stray_at offset) = stray_at offset

-- No bytes in front.
prefix_none : (r : HexRead) → prefixed [] r ≡ r
prefix_none (hex_bytes s) = refl
prefix_none (stray_at offset) = refl

-- One byte more in front.
prefix_more : (p : List ℕ) (x : ℕ) (r : HexRead) → prefixed (p ++ (x ∷ [])) r ≡ prefixed p (byte_then x r)
prefix_more p x (hex_bytes s) = ap hex_bytes (append_snoc p x s)
prefix_more p x (stray_at offset) = refl

-- Nothing is read behind a character that is out of place.
stray_stays : (s bytes : List ℕ) (m : Amid) → hex_take s bytes (strayed m) ≡ taken bytes (strayed m)
unfolding hex_take
stray_stays [] bytes m = refl
stray_stays (c ∷ s) bytes m = stray_stays s bytes m

-- The next offset of a line that is short of 2 ^ 64 characters.
next_offset_lem : (offset n : ℕ) → offset + suc n < 2 ^ 64 → next_offset offset ≡ suc offset
next_offset_lem offset n small = omega arith

-- The value of the digit that waits, 16 where none does.
abbrev high_of : Option ℕ → ℕ
high_of (Some v) = v
high_of None = 16

-- What waits is a digit.
abbrev Digit : Option ℕ → Type 0
Digit (Some v) = v < 16
Digit None = Unit {0}

-- The characters s behind those whose bytes are p.
ended_from : (s p bytes : List ℕ) (held : ℕ) (high : Option ℕ) (offset k : ℕ) → Digit high → Holding p bytes held
    → length bytes ≡ k → offset + length s < 2 ^ 64
    → ended (hex_take s bytes (amid_with held high offset)) ≡ cut_read k (prefixed p (hex_from (high_of high) offset s))
unfolding hex_take hex_from
ended_from [] p bytes held (Some v) offset k digit h size small = simp (lt-ltb v 16 digit)
ended_from [] p bytes held None offset k digit h size small =
    ap hex_bytes (h.bytes ∙ ap₂ (λ (n : ℕ) (l : List ℕ). take n l) size (sym (append-nil p)))
ended_from (c ∷ s) p bytes held high offset k waiting h size small =
    cases high waiting
    (λ p' bytes' held' high' d' h' size'. ended_from s p' bytes' held' high' (suc offset) k d' h' size' (omega arith))
  where
    -- The value of the character.
    v : ℕ
    v = hex_value c

    Rest : Type 0
    Rest = (p' bytes' : List ℕ) (held' : ℕ) (high' : Option ℕ) → Digit high' → Holding p' bytes' held'
        → length bytes' ≡ k
        → ended (hex_take s bytes' (amid_with held' high' (suc offset)))
        ≡ cut_read k (prefixed p' (hex_from (high_of high') (suc offset) s))

    -- The offset that is kept is the next one.
    from : (bytes' : List ℕ) (held' : ℕ) (high' : Option ℕ)
        → ended (hex_take s bytes' (amid_with held' high' (next_offset offset)))
        ≡ ended (hex_take s bytes' (amid_with held' high' (suc offset)))
    from bytes' held' high' =
        ap (λ (n : ℕ). ended (hex_take s bytes' (amid_with held' high' n))) (next_offset_lem offset (length s) small)

    -- What the line is read as from what is kept behind the character.
    ended_behind : Taken → HexRead
    ended_behind t = ended (hex_take s t.bytes t.amid)

    -- A byte begins with the character: a digit, a blank in front of it, or neither.
    first : Rest → (digit blank : Bool) → ltb v 16 ≡ digit
        → ended_behind
        (cond digit (taken bytes (amid_with held (Some v) (next_offset offset)))
        (cond blank (taken bytes (amid_with held None (next_offset offset)))
        (taken bytes (strayed (amid_with held None offset)))))
        ≡ cut_read k (prefixed p
        (cond digit (hex_from v (suc offset) s) (cond blank (hex_from 16 (suc offset) s) (stray_at offset))))
    first rest true blank d = from bytes held (Some v) ∙ rest p bytes held (Some v) (ltb-true v 16 d) h size
    first rest false true d = from bytes held None ∙ rest p bytes held None tt h size
    first rest false false d = ap ended (stray_stays s bytes (amid_with held None offset))

    -- It follows the digit u: the second digit of the byte, or none.
    second : (u : ℕ) → u < 16 → Rest → (digit : Bool)
        → ended_behind
        (cond digit
        (taken (kept_line bytes held (16 * (u % 16) + v)) (amid_with (kept_count bytes held) None (next_offset offset)))
        (taken bytes (strayed (amid_with held (Some u) offset))))
        ≡ cut_read k (prefixed p (cond digit (byte_then (16 * u + v) (hex_from 16 (suc offset) s)) (stray_at offset)))
    second u w rest true =
        let y : ℕ = 16 * (u % 16) + v in
        let same : y ≡ 16 * u + v = omega arith in
        from (kept_line bytes held y) (kept_count bytes held) None
        ∙ rest (p ++ (y ∷ [])) (kept_line bytes held y) (kept_count bytes held) None tt (hold_more y h)
        (keep_length bytes held y ∙ size)
        ∙ ap (cut_read k) (prefix_more p y (hex_from 16 (suc offset) s))
        ∙ ap (λ (x : ℕ). cut_read k (prefixed p (byte_then x (hex_from 16 (suc offset) s)))) same
    second u w rest false = ap ended (stray_stays s bytes (amid_with held (Some u) offset))

    -- By what waits.
    cases : (high' : Option ℕ) → Digit high' → Rest
        → ended (hex_take (c ∷ s) bytes (amid_with held high' offset))
        ≡ cut_read k (prefixed p (hex_from (high_of high') offset (c ∷ s)))
    cases (Some u) w rest = simp (lt-ltb u 16 w) (second u w rest (ltb v 16))
    cases None w rest = first rest (ltb v 16) (is_blank_value c) refl

-- A line is read as its characters say, its bytes cut to the size of the buffer.
pub hex_whole : (line bytes : List ℕ) → length line < 2 ^ 64
    → ended_as (hex_take line bytes begun).bytes (hex_take line bytes begun).amid ≡ cut_read (length bytes) (hex_read line)
hex_whole line bytes small =
    ended_from line [] bytes 0 None 0 (length bytes) tt (hold_none bytes) refl (omega arith)
    ∙ ap (cut_read (length bytes)) (prefix_none (hex_read line))

-- However the line is parted.
pub hex_in_parts : (parts : List (List ℕ)) (bytes : List ℕ) → length (whole_of parts) < 2 ^ 64
    → ended_as (take_parts parts bytes begun).bytes (take_parts parts bytes begun).amid
    ≡ cut_read (length bytes) (hex_read (whole_of parts))
hex_in_parts parts bytes small = ap ended (parts_whole parts bytes begun) ∙ hex_whole (whole_of parts) bytes small

-- What is read, where something is, are bytes.
abbrev AreBytes : HexRead → Type 0
AreBytes (hex_bytes s) = (i : ℕ) → get_or s i 0 < 256
AreBytes (stray_at offset) = Unit {0}

-- A byte in front of bytes.
byte_front : (x : ℕ) (s : List ℕ) → x < 256 → ((i : ℕ) → get_or s i 0 < 256) → (i : ℕ) → get_or (x ∷ s) i 0 < 256
byte_front x s small are zero = small
byte_front x s small are (suc i) = are i

-- And in front of what other characters are read as.
byte_then_lem : (x : ℕ) (r : HexRead) → x < 256 → AreBytes r → AreBytes (byte_then x r)
byte_then_lem x (hex_bytes s) small are = byte_front x s small are
byte_then_lem x (stray_at offset) small are = tt

-- The characters from an offset on are read as bytes.
from_bytes : (s : List ℕ) (high offset : ℕ) → AreBytes (hex_from high offset s)
unfolding hex_from
from_bytes [] high offset = go (ltb high 16)
  where
    go : (waits : Bool) → AreBytes (cond waits (stray_at offset) (hex_bytes []))
    go true = tt
    go false = λ i. omega arith
from_bytes (c ∷ s) high offset =
    go (λ high'. from_bytes s high' (suc offset)) (ltb (hex_value c) 16) (ltb high 16) (parts high c) refl refl
  where
    go : ((high' : ℕ) → AreBytes (hex_from high' (suc offset) s))
        → (digit waits apart : Bool) → ltb (hex_value c) 16 ≡ digit → ltb high 16 ≡ waits
        → AreBytes
        (cond digit
        (cond waits (byte_then (16 * high + hex_value c) (hex_from 16 (suc offset) s))
        (hex_from (hex_value c) (suc offset) s))
        (cond apart (hex_from 16 (suc offset) s) (stray_at offset)))
    go rest true true apart d w =
        byte_then_lem (16 * high + hex_value c) (hex_from 16 (suc offset) s)
        (omega (arith, ltb-true (hex_value c) 16 d, ltb-true high 16 w)) (rest 16)
    go rest true false apart d w = rest (hex_value c)
    go rest false waits true d w = rest 16
    go rest false waits false d w = tt

-- The characters of a line are.
pub read_bytes : (line s : List ℕ) → hex_read line ≡ hex_bytes s → (i : ℕ) → get_or s i 0 < 256
read_bytes line s e = subst AreBytes e (from_bytes line 16 0)
