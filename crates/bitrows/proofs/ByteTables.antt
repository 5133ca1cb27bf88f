-- The table of bytes (src/table.rt), by one computed test of its 256 entries.
--     byte_table   it is the table that a walk reads      byte_tally   the carets and the fall in an entry
-- Assumes nothing.
use mathlib.Core.Path.{◌≡◌, refl, ap, ◌∙◌}
use mathlib.Core.List.{List}
use Prim.Native.Nat.{ℕ, ◌+◌, ◌*◌, ◌/◌, ◌%◌, ◌≤◌}
use native.Mathlib.Nat.{mod-lt}
use native.Mathlib.Omega.{arith}
use lib.Dec.{eqb, eqb→eq, lit<}
use lib.ListN.{get_or}
use Rattle.lists.specs.Entries.{total}
use Rattle.lists.proofs.Tests.{all_at}
use Rattle.bitrows.specs.declared.table.TheConstants.{BYTES}
use Rattle.bitrows.specs.Numbers.{bits_of}
use Rattle.bitrows.specs.inside.Walking.{fall, ByteTable}
use Rattle.bitrows.proofs.Bits.{bits_length}
use Rattle.bitrows.proofs.Walks.{fall-length}
use Rattle.bitrows.proofs.Leaving.{bits_cut_byte}

-- What the entry of a byte is to be.
abbrev byte_entry : ℕ → ℕ
byte_entry b = 16 * total (bits_of 8 b) + fall (bits_of 8 b)

pub byte_table : ByteTable BYTES
byte_table = record {
  size = refl;
  at = λ b h. eqb→eq (get_or BYTES b 0) (byte_entry b)
      (all_at 256 (λ (c : ℕ). eqb (get_or BYTES c 0) (byte_entry c)) tt b h);
}

-- What the entry of the lowest byte of a number says.
pub byte_tally : {t : List ℕ} → ByteTable t → (x : ℕ)
    → (get_or t (x % 256) 0 / 16 ≡ total (bits_of 8 x)) × (get_or t (x % 256) 0 % 16 ≡ fall (bits_of 8 x))
byte_tally {t} b x = (omega (arith, entry, low), omega (arith, entry, low))
  where
    entry : get_or t (x % 256) 0 ≡ 16 * total (bits_of 8 x) + fall (bits_of 8 x)
    entry =
        b.at (x % 256) (mod-lt x (lit< tt))
        ∙ ap (λ (u : List ℕ). 16 * total u + fall u) (bits_cut_byte x)

    low : fall (bits_of 8 x) ≤ 8
    low = omega (arith, fall-length (bits_of 8 x), bits_length 8 x)
