-- A block of the scan: columns with no exponent behind them, or columns one by one. Assumes nothing.
use mathlib.Core.Path.{◌≡◌, sym, ◌∙◌, subst}
use mathlib.Core.List.{List}
use Prim.Native.Nat.{ℕ, suc, ◌+◌, ◌-◌, ◌≤◌, ◌<◌}
use native.Mathlib.Omega.{arith}
use lib.ListN.{drop, get_or}
use lib.Seq.{get_or-drop}
use Rattle.trees.specs.inside.Zeros.{KnownZeros}
use Rattle.scans.specs.declared.scan.Place.{Place}
use Rattle.scans.specs.inside.Steps.{
  AmidAt,
  Passing,
  Passed,
  Scanning,
  Scanned,
  BlockEnd,
  BlockAhead,
  BlockScanned,
  Reached,
  PairOfTables,
}
use Rattle.scans.proofs.Reaching.{zeros_reached}

-- Columns with no exponent behind them.
module _ {b a : List ℕ} {n : ℕ} {p : Place} (h : BlockAhead b a n p) (r z : ℕ)
    (ka : KnownZeros a p.leaf.0 (n + 1 - p.leaf.0) r) (kb : KnownZeros b p.leaf.0 r z) (some : 0 < z) where
  minus_zeros : (i : ℕ) → p.leaf.0 ≤ i → i < p.leaf.0 + z → get_or a i 0 ≡ 0
  minus_zeros i l q = ka.zeros i l (omega (arith, kb.few))

  within : p.leaf.0 + z ≤ suc n
  within = omega (arith, ka.few, kb.few, h.more)

  pub zeros_passing : Passing z p.state
  zeros_passing =
      let here = h.reached in
      record {
        minus_behind = drop p.leaf.0 a;
        plus_behind = drop p.leaf.0 b;
        more = here.columns - z;
        total = h.total;
        minus_zeros = λ i q. get_or-drop p.leaf.0 a i 0 ∙ minus_zeros (p.leaf.0 + i) (omega arith) (omega arith);
        plus_zeros = λ i q. get_or-drop p.leaf.0 b i 0 ∙ kb.zeros (p.leaf.0 + i) (omega arith) (omega arith);
        amid =
            subst (λ (k : ℕ). AmidAt k (drop p.leaf.0 a) (drop p.leaf.0 b) p.state h.total)
            (omega (arith, here.to_come, within)) here.amid;
        few = omega (arith, ka.few, kb.few, h.small);
      }

  pub zeros_scanned : (r' : Place) → r'.leaf.0 ≡ p.leaf.0 + z → Passed z p.state r'.state
      → BlockScanned b a n p r'
  zeros_scanned r' at q = record {
    on = omega arith;
    reached = λ w here.
        subst (λ (i : ℕ). Reached b a n i w r'.state) (sym at)
        (zeros_reached r'.state z here within kb.zeros minus_zeros q);
  }

-- Columns one by one.
module _ {b a : List ℕ} {n : ℕ} {p : Place} (h : BlockAhead b a n p) (stop : ℕ) (e : BlockEnd p.leaf.0 n stop) where
  pub plain_scanning : Scanning b a p.leaf.0 stop p.state
  plain_scanning = record {
    carets = n;
    total = h.total;
    reached = h.reached;
    on = omega (arith, e.on);
    within = e.within;
    small = h.small;
  }

  pub plain_scanned : (r : Place) → r.leaf.0 ≡ stop → Scanned b a p.leaf.0 stop p.state r.state
      → BlockScanned b a n p r
  plain_scanned r at q = record {
    on = omega (arith, e.on);
    reached = λ w here.
        subst (λ (i : ℕ). Reached b a n i w r.state) (sym at) (q.reached n w here e.within);
  }

-- A block is to come where columns are.
pub ahead : {b a : List ℕ} {n w : ℕ} {p : Place} → PairOfTables b a n → Reached b a n p.leaf.0 w p.state
    → p.leaf.0 ≤ n → BlockAhead b a n p
ahead {w = w} h here more = record { total = w; reached = here; more = more; small = h.small }
