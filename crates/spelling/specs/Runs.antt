-- The runs of a freely reduced spelling, and the number of its letters. x_k^e, for k at least 1, is k−1 letters A, e
-- letters b, k−1 letters a; between two such powers only letters a and A meet, and of these the lesser number is
-- deleted.
--     run k x e         e letters x, which is b or B, of the power of x_(k+1) or of its inverse
--     rising, falling   the runs of the b side, indices rising, and of the a side, indices falling
--     distance, letters_from   the number of letters of a turn and of the whole word
-- Assumes nothing.
use Rattle.std.specs.Prelude.{List, [], ◌∷◌, ◌++◌, ℕ, zero, suc, ◌+◌, ◌-◌}
use Rattle.group.specs.Letters.{Letter, 'b, 'B}

-- e letters x of a power of x_(k+1) or of its inverse.
pub data Run : Type 0 where
  run : (k : ℕ) (x : Letter) (e : ℕ) → Run

-- A run in front of others; exponent 0 is no run.
abbrev pub put_run : ℕ → Letter → ℕ → List Run → List Run
put_run k x zero l = l
put_run k x (suc e) l = run k x (suc e) ∷ l

-- The runs of x_(k+1), x_(k+2), …, x_(k+m), whose exponents a function of the index gives.
abbrev pub rising : (ℕ → ℕ) → (k m : ℕ) → List Run
rising b k zero = []
rising b k (suc m) = put_run k 'b (b (suc k)) (rising b (suc k) m)

-- The runs of the inverses of x_m, …, x_2, x_1.
abbrev pub falling : (ℕ → ℕ) → ℕ → List Run
falling a zero = []
falling a (suc m) = put_run m 'B (a (suc m)) (falling a m)

-- The runs of a form's exponents of the indices 1 to m, in the form's order.
abbrev pub runs_up_to : ℕ → (ℕ → ℕ) → (ℕ → ℕ) → List Run
runs_up_to m b a = rising b 0 m ++ falling a m

-- |m − n|, the number of letters of a turn.
abbrev pub distance : ℕ → ℕ → ℕ
distance m n = (m - n) + (n - m)

-- The number of letters of that word.
abbrev pub letters_from : ℕ → List Run → ℕ → ℕ
letters_from m [] n = distance m n
letters_from m (run k x e ∷ l) n = distance m k + (e + letters_from k l n)
