-- The sum of Table 1 depends on the entries of the two lists only, not on the zeros at their end. Assumes nothing.
use mathlib.Core.Path.{◌≡◌, refl, sym, ◌∙◌, ◌≡⟨◌⟩◌, ◌∎}
use mathlib.Core.List.{List, [], ◌∷◌}
use Prim.Native.Nat.{ℕ, zero, suc}
use lib.ListN.{get_or}
use Rattle.lists.specs.inside.Entries.{SameEntries}
use Rattle.lists.proofs.Totals.{total_same}
use Rattle.geodesics.specs.Rows.{first, rest, row, next_open, next_left, from_one}
use Rattle.geodesics.specs.inside.Costs.{remaining, Closed, cost}
use Rattle.geodesics.proofs.Sides.{Sides, sum_to, enough, sides_length}
use Rattle.geodesics.proofs.Enough.{BothClosed, both_closed, sum_any}

-- The first entry, and those behind it.
first_same : (es fs : List ℕ) → SameEntries es fs → first es ≡ first fs
first_same [] [] h = refl
first_same [] (f ∷ fs) h = h 0
first_same (e ∷ es) [] h = h 0
first_same (e ∷ es) (f ∷ fs) h = h 0

pub rest_at : (es : List ℕ) (i : ℕ) → get_or (rest es) i 0 ≡ get_or es (suc i) 0
rest_at [] i = refl
rest_at (e ∷ es) i = refl

rest_same : (es fs : List ℕ) → SameEntries es fs → SameEntries (rest es) (rest fs)
rest_same es fs h i =
    get_or (rest es) i 0 ≡⟨ rest_at es i ⟩
    get_or es (suc i) 0 ≡⟨ h (suc i) ⟩
    get_or fs (suc i) 0 ≡⟨ sym (rest_at fs i) ⟩
    get_or (rest fs) i 0 ∎

remaining_same : (n s l : ℕ) (es fs : List ℕ) → SameEntries es fs
    → remaining n (row s l es) ≡ remaining n (row s l fs)
remaining_same zero s l es fs h = rw (total_same es fs h)
remaining_same (suc n) s l es fs h =
    rw (
      first_same es fs h,
      remaining_same n (next_open s (first fs)) (next_left s l) (rest es) (rest fs) (rest_same es fs h),
    )

cost_same : (n s l q m : ℕ) (bs ds cs es : List ℕ) → SameEntries bs ds → SameEntries cs es
    → cost n (row s l bs) (row q m cs) ≡ cost n (row s l ds) (row q m es)
cost_same zero s l q m bs ds cs es hb hc = refl
cost_same (suc n) s l q m bs ds cs es hb hc =
    rw (
      first_same bs ds hb,
      first_same cs es hc,
      cost_same n (next_open s (first ds)) (next_left s l) (next_open q (first es)) (next_left q m) (rest bs) (rest ds)
          (rest cs) (rest es) (rest_same bs ds hb) (rest_same cs es hc),
    )

-- Rows of the same entries are closed alike.
pub from_same : (k : ℕ) (es fs : List ℕ) → SameEntries es fs → Closed k (from_one es) → Closed k (from_one fs)
from_same k es fs h c =
    sym
    (rw (first_same es fs h, first_same (rest es) (rest fs) (rest_same es fs h))
    (remaining_same k (first (rest fs)) (first fs) (rest (rest es)) (rest (rest fs))
    (rest_same (rest es) (rest fs) (rest_same es fs h))))
    ∙ c

-- Lists with the same entries have the same length.
pub length_same : (f g : Sides) → SameEntries f.b g.b → SameEntries f.a g.a
    → sides_length f ≡ sides_length g
length_same f g hb ha = rows ∙ sum_any (enough f) g closed
  where
    rows : sum_to (enough f) f ≡ sum_to (enough f) g
    rows =
        rw (
          first_same f.b g.b hb,
          first_same f.a g.a ha,
          first_same (rest f.b) (rest g.b) (rest_same f.b g.b hb),
          first_same (rest f.a) (rest g.a) (rest_same f.a g.a ha),
        )
        (cost_same (enough f) (first (rest g.b)) (first g.b) (first (rest g.a)) (first g.a)
        (rest (rest f.b)) (rest (rest g.b)) (rest (rest f.a)) (rest (rest g.a))
        (rest_same (rest f.b) (rest g.b) (rest_same f.b g.b hb))
        (rest_same (rest f.a) (rest g.a) (rest_same f.a g.a ha)))

    closed : BothClosed (enough f) g
    closed = record {
      b_row = from_same (enough f) f.b g.b hb (both_closed f).b_row;
      a_row = from_same (enough f) f.a g.a ha (both_closed f).a_row;
    }
