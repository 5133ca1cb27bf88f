-- Bytes that are longer than two fields can be are no record, and so the bytes behind a buffer that is longer change
-- nothing of what is read (01, 'The record'): a two-byte length is at most 65,535.
-- Assumes nothing.
use mathlib.Core.Path.{◌≡◌, refl, sym, ap, ◌∙◌}
use mathlib.Core.Bool.{Bool, true, false, cond}
use mathlib.Core.List.{List}
use Prim.Native.Nat.{ℕ, ◌+◌, ◌<◌, ◌≤◌}
use native.Mathlib.Decide.{dec_lt, dec_le}
use native.Mathlib.Omega.{arith}
use lib.ListN.{length, get_or, take, length-take, get_or-eq_default}
use lib.Seq.{take_all, get_or-take}
use Rattle.group.specs.Forms.{Form}
use Rattle.refusals.specs.Outcomes.{Outcome, refused}
use Rattle.fields.specs.Fields.{Bytes}
use Rattle.records.specs.Reading.{b_length, frames, read_entries, decode}
use Rattle.records.proofs.Framing.{Frame, frames→frame}
use Rattle.commands.specs.Parts.{longest_frame}

-- Two fields of bytes frame no more.
pub frame_size : (s : List ℕ) → Bytes s → Frame s → length s ≤ longest_frame
frame_size s b f = omega (arith, f.ends, b 1, b 2, b (4 + b_length s), b (4 + b_length s + 1))

-- More bytes are refused as no record.
pub decode_long : (s : List ℕ) → Bytes s → longest_frame < length s → decode s ≡ refused 3 0
decode_long s b long = go (frames s) refl
  where
    go : (p : Bool) → frames s ≡ p → ◌≡◌ {A = Outcome Form} (cond p (read_entries s) (refused 3 0)) (refused 3 0)
    go true e = absurd (omega (arith, frame_size s b (frames→frame s e)))
    go false e = refl

-- The first k of some bytes are bytes.
pub cut_bytes : (k : ℕ) (s : List ℕ) → Bytes s → Bytes (take k s)
cut_bytes k s b i = go (dec_lt i k)
  where
    go : Dec (i < k) → get_or (take k s) i 0 < 256
    go (yes inside) = rw (get_or-take k s i 0 inside) (b i)
    go (no behind) =
        rw (get_or-eq_default (take k s) 0 {n = i} (omega (arith, length-take k s))) (omega arith)

-- Bytes cut to a size above the most that two fields frame are read as the whole is.
pub decode_cut : (k : ℕ) (s : List ℕ) → Bytes s → longest_frame < k → decode (take k s) ≡ decode s
decode_cut k s b large = go (dec_le (length s) k)
  where
    go : Dec (length s ≤ k) → decode (take k s) ≡ decode s
    go (yes short) = ap decode (take_all k s short)
    go (no long) =
        decode_long (take k s) (cut_bytes k s b) (omega (arith, length-take k s))
        ∙ sym (decode_long s b (omega arith))
