-- The tables at exit: what a refusal keeps, and what the engine leaves for an accepted word. Assumes nothing.
use mathlib.Core.Path.{◌≡◌, refl, sym, ◌∙◌, ap, ap₂}
use mathlib.Core.List.{List, [], ◌∷◌}
use Prim.Native.Nat.{ℕ, ◌+◌, ◌≤◌}
use native.Mathlib.Omega.{arith}
use lib.ListN.{length}
use Rattle.std.specs.Prelude.{⊤, Result, Ok, Err}
use Rattle.refusals.specs.declared.Failure.{Failure}
use Rattle.refusals.specs.declared.Failure.TheVariants.{Refused}
use Rattle.lists.specs.Tables.{filled}
use Rattle.group.specs.Letters.{Letter, 'a, 'A, 'b, 'B, Word}
use Rattle.group.specs.Forms.{Side, b_side, a_side, exponent, levels}
use Rattle.group.specs.Products.{form_of}
use Rattle.group.specs.Limits.{limit}
use Rattle.group.specs.Bytes.{byte_of, bytes_of, is_word, read_word}
use Rattle.group.proofs.Bytes.{word_read, read_length}
use Rattle.refusals.specs.declared.Refusal.{Refusal}
use Rattle.refusals.specs.Refusals.{number_of, place_of}
use Rattle.refusals.specs.Outcomes.{Outcome, accepted, refused, drop_value, verdict_of}
use Rattle.refusals.proofs.Outcomes.{accepted_refused, drop_accepted, drop_refused}
use Rattle.letters.specs.Judging.{judged}
use Rattle.forest.specs.Filling.{table_after}
use Rattle.forest.specs.inside.Filling.{judged_in, filling_of, FilledTables}
use Rattle.forest.specs.inside.Forest.{tip_at}
use Rattle.forest.specs.inside.Moves.{step_letter, step_word, bushes_of, Piled}
use Rattle.forest.specs.inside.Leaves.{TipsReady, TablesRead}
use Rattle.letters.proofs.Judged.{accepted_fit}
use Rattle.forest.proofs.WordFits.{Fits}
use Rattle.forest.proofs.RowTips.{row_ready, row_table, row_levels}

-- On the bytes of a word the step reads that word.
step_letter_lem : (x : Letter) → step_letter (byte_of x) ≡ x
step_letter_lem 'a = refl
step_letter_lem 'A = refl
step_letter_lem 'b = refl
step_letter_lem 'B = refl

step_bytes : (w : Word) → step_word (bytes_of w) ≡ w
step_bytes [] = refl
step_bytes (x ∷ w) = ap₂ (λ (y : Letter) (v : Word). y ∷ v) (step_letter_lem x) (step_bytes w)

step_word_lem : (s : List ℕ) (w : Word) → read_word s ≡ is_word w → step_word s ≡ w
step_word_lem s w h = ap step_word (word_read s w h) ∙ step_bytes w

-- A table filled by the tips that the step makes of a word's bytes is filled by the word.
as_read : (side : Side) (s : List ℕ) (w : Word) (t : List ℕ) → read_word s ≡ is_word w
    → filled (length s + 1) (tip_at side (bushes_of s)) t ≡ filled (length w + 1) (exponent side (form_of w)) t
as_read side s w t h =
    row_table side s t
    ∙ ap₂ (λ (n : ℕ) (v : Word). filled (n + 1) (exponent side (form_of v)) t) (read_length s w h) (step_word_lem s w h)

fit_judged : (word b a lefts rights stack : List ℕ) → Fits word lefts rights stack
    → judged_in word b a lefts rights stack ≡ judged word (length b) (length a)
fit_judged word b a lefts rights stack f = simp f

-- Where the word and the tables are accepted: its number of letters fits 16 bits, and what the engine asks.
module _ (word : List ℕ) (m n : ℕ) {v : Result ⊤ Refusal} (e : v ≡ (Ok tt))
    (f : verdict_of v ≡ drop_value (judged word m n)) where
  pub word_short : length word ≤ limit
  word_short =
      let (w, g) = drop_accepted (judged word m n) (sym (ap verdict_of e) ∙ f) in
      (accepted_fit word m n w g).short

-- With the row on the stack: what the read-off asks.
pub tips_fit : {last : ℕ} {word b a lefts rights stack : List ℕ} {height : ℕ} {v : Result ⊤ Refusal} → v ≡ (Ok tt)
    → verdict_of v ≡ drop_value (judged word (length b) (length a)) → Piled last word lefts rights stack height
    → TipsReady last lefts rights stack height b a (length word + 1)
tips_fit {last} {word} {b} {a} e f piled =
    let (w, g) = drop_accepted (judged word (length b) (length a)) (sym (ap verdict_of e) ∙ f) in
    let fit = accepted_fit word (length b) (length a) w g in
    row_ready piled fit.b_long fit.a_long

module _ {word b a lefts rights stack : List ℕ} where
  -- On a refusal all that was lent is kept.
  kept : (r : Result ℕ Failure) (n p : ℕ) → judged_in word b a lefts rights stack ≡ refused n p
      → filling_of r ≡ refused n p
      → FilledTables word b a lefts rights stack b a lefts rights stack r
  kept r n p e f = record {
    result = f ∙ sym (ap drop_value e);
    b_table = sym (ap (λ (o : Outcome Word). table_after b_side o b) e);
    a_table = sym (ap (λ (o : Outcome Word). table_after a_side o a) e);
    scratch_kept = λ number place g. (refl, refl, refl);
    levels_read = λ m g w h. absurd (accepted_refused (sym h ∙ e));
  }

  module _ (fit : Fits word lefts rights stack) where
    -- Where the word or the tables are refused.
    pub word_refused : (v : Result ⊤ Refusal) (x : Refusal) {r : Result ℕ Failure} → v ≡ Err x
        → verdict_of v ≡ drop_value (judged word (length b) (length a)) → r ≡ Err (Refused x)
        → FilledTables word b a lefts rights stack b a lefts rights stack r
    word_refused v x {r} e f g =
        kept r (number_of x) (place_of x)
        (fit_judged word b a lefts rights stack fit
        ∙ drop_refused (judged word (length b) (length a)) (sym (ap verdict_of e) ∙ f))
        (ap filling_of g)

    -- What the engine leaves.
    pub tables_filled : {last : ℕ} {b' a' lefts' rights' piled stack' : List ℕ} {low n height : ℕ}
        (v : Result ⊤ Refusal) → v ≡ Ok tt
        → verdict_of v ≡ drop_value (judged word (length b) (length a)) → Piled last word lefts' rights' piled low
        → TablesRead last lefts' rights' piled low b a (length word + 1) stack' b' a' n height
        → FilledTables word b a lefts rights stack b' a' lefts' rights' stack' (Ok n)
    tables_filled {last} {b'} {a'} {lefts'} {rights'} {piled} {stack'} {low} {n} v e f on t =
        go (drop_accepted (judged word (length b) (length a)) (sym (ap verdict_of e) ∙ f))
      where
        go : (w : Word) × (judged word (length b) (length a) ≡ accepted w)
            → FilledTables word b a lefts rights stack b' a' lefts' rights' stack' (Ok n)
        go (w, g) =
            let found = accepted_fit word (length b) (length a) w g in
            let o : judged_in word b a lefts rights stack ≡ accepted w =
            fit_judged word b a lefts rights stack fit ∙ g in
            let taken = t.takes (bushes_of word) on.stack_stands in
            record {
              result = sym (ap drop_value o);
              b_table =
                  taken.0
                  ∙ as_read b_side word w b found.reads
                  ∙ sym (ap (λ (u : Outcome Word). table_after b_side u b) o);
              a_table =
                  taken.1
                  ∙ as_read a_side word w a found.reads
                  ∙ sym (ap (λ (u : Outcome Word). table_after a_side u a) o);
              scratch_kept = λ number place h. absurd (accepted_refused (sym o ∙ h));
              levels_read = λ m k x h.
                  let same : w ≡ x = cc in
                  let number : n ≡ m = cc in
                  omega (
                    arith,
                    ap (λ (u : Word). levels (form_of u)) (step_word_lem word w found.reads ∙ same),
                    read_length word w found.reads ∙ ap length same,
                    row_levels word n taken.3,
                    t.within,
                  );
            }
