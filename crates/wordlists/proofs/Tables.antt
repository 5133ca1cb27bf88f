-- The tables that lines leave (02, [4]): as long as they were, and entry i is that of the last accepted word of at
-- least i letters, or as it was where there is none. Assumes nothing.
use mathlib.Core.Path.{◌≡◌, refl, ap, ◌∙◌}
use mathlib.Core.List.{List, [], ◌∷◌, ◌++◌}
use Prim.Native.Nat.{ℕ, suc, ◌+◌, ◌<◌, ◌≤◌}
use native.Mathlib.Omega.{arith}
use lib.ListN.{length, get_or}
use Rattle.lists.specs.Entries.{At}
use Rattle.lists.proofs.Tables.{filled-length, filled_at, filled-beyond}
use Rattle.group.specs.Letters.{Word}
use Rattle.group.specs.Forms.{Side, exponent}
use Rattle.group.specs.Products.{form_of}
use Rattle.group.specs.Limits.{limit}
use Rattle.refusals.specs.Outcomes.{Outcome, accepted, refused}
use Rattle.letters.specs.Judging.{line_read}
use Rattle.letters.proofs.Judged.{accepted_fit}
use Rattle.forest.specs.Filling.{table_after}
use Rattle.wordlists.specs.Items.{tables_then}
use Rattle.wordlists.proofs.Sizes.{read_letters}

-- A table that has an entry for each index up to the letters of the word, if one is accepted.
pub table-length : (s : Side) (o : Outcome Word) (t : List ℕ) → ((w : Word) → o ≡ accepted w → length w < length t)
    → length (table_after s o t) ≡ length t
table-length s (accepted w) t h =
    filled-length (length w + 1) (exponent s (form_of w)) t (omega (arith, h w refl))
table-length s (refused n p) t h = refl

-- A table above the limit, and a line.
pub line_table-length : (s : Side) (l t : List ℕ) → limit < length t
    → length (table_after s (line_read l) t) ≡ length t
line_table-length s l t long =
    table-length s (line_read l) t (λ w e.
    omega (arith, long, (accepted_fit l (length l + 1) (length l + 1) w e).short, read_letters l w e))

-- The table behind lines and further lines.
tables_append : (s : Side) (ls ks : List (List ℕ)) (t : List ℕ)
    → tables_then s (ls ++ ks) t ≡ tables_then s ks (tables_then s ls t)
tables_append s [] ks t = refl
tables_append s (l ∷ ls) ks t = tables_append s ls ks (table_after s (line_read l) t)

-- No line is read as a word of i letters or more.
abbrev pub NoLineReaches : ℕ → List (List ℕ) → Type 0
NoLineReaches i ls = (k : ℕ) (l : List ℕ) (w : Word) → At ls k l → line_read l ≡ accepted w → length w < i

module _ (s : Side) (i : ℕ) where
  -- A word of fewer letters leaves entry i, and so does a refused one.
  table_kept : (o : Outcome Word) (t : List ℕ) → ((w : Word) → o ≡ accepted w → length w < i)
      → get_or (table_after s o t) i 0 ≡ get_or t i 0
  table_kept (accepted w) t few =
      filled-beyond (length w + 1) (exponent s (form_of w)) t i (omega (arith, few w refl))
  table_kept (refused n p) t few = refl

  -- Lines that do not reach entry i leave it.
  pub tables_kept : (ls : List (List ℕ)) (t : List ℕ) → NoLineReaches i ls
      → get_or (tables_then s ls t) i 0 ≡ get_or t i 0
  tables_kept [] t none = refl
  tables_kept (l ∷ ls) t none =
      tables_kept ls (table_after s (line_read l) t) (λ k l' w at e. none (suc k) l' w at e)
      ∙ table_kept (line_read l) t (λ w e. none 0 l w refl e)

  -- The last line that reaches entry i gives it.
  pub tables_last : (before behind : List (List ℕ)) (l : List ℕ) (w : Word) (t : List ℕ) → line_read l ≡ accepted w
      → i ≤ length w → NoLineReaches i behind
      → get_or (tables_then s (before ++ (l ∷ behind)) t) i 0 ≡ exponent s (form_of w) i
  tables_last before behind l w t e reached none =
      let u = tables_then s before t in
      ap (λ (v : List ℕ). get_or v i 0) (tables_append s before (l ∷ behind) t)
      ∙ tables_kept behind (table_after s (line_read l) u) none
      ∙ ap (λ (o : Outcome Word). get_or (table_after s o u) i 0) e
      ∙ filled_at (length w + 1) (exponent s (form_of w)) u i (omega (arith, reached))
