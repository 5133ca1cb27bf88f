-- What the limit has to stay below: each bound is computed here, and cited where a proof needs it (02, [8]: "State the
-- bounds once over the limit"; docs/GLOSSARY.md, 'Bounds over the limit', has their values). Assumes nothing.
use Prim.Native.Nat.{◌+◌, ◌*◌, ◌≤◌, ◌<◌}
use native.Mathlib.Omega.{arith}
use Rattle.group.specs.Limits.{limit}

-- 16 bits hold the sum of the weights of a pair, which is at most 8 · limit − 2.
pub limit_weighs : 8 * limit ≤ 65536
limit_weighs = omega arith

-- Two bytes say the length of a record's field, and of a register's entry.
pub limit_fills : 4 * limit + 12 < 65536
limit_fills = omega arith

-- 16 bits hold the number of a caret, of a leaf and of a cell, and the place of refusal 1.
pub limit_counts : 2 * limit + 4 < 65536
limit_counts = omega arith

-- 32 bits hold the sum of any 2 · limit + 1 entries of 16 bits.
pub limit_sums : 65536 * (2 * limit + 1) < 4294967296
limit_sums = omega arith

-- Four digits write an index or an exponent.
pub limit_prints : limit < 10000
limit_prints = omega arith
