-- The letters of runs, written one run behind another.
--     Puts left now word l start entry   the runs left, written from here, give what the runs l give from the start
-- Assumes nothing.
use mathlib.Core.Path.{◌≡◌, sym, ap, ◌∙◌, subst}
use mathlib.Core.List.{List, [], ◌++◌, append-nil}
use Prim.Native.Nat.{ℕ, zero, suc, ◌<◌}
use native.Mathlib.Omega.{arith}
use lib.ListN.{length, replicate}
use Rattle.lists.specs.inside.Writes.{Wrote, Writing}
use Rattle.lists.proofs.Writes.{write_then, wrote_same, write_start, write_more, writing_same, write_done}
use Rattle.lists.proofs.Writes.{writing_length}
use Rattle.group.specs.Letters.{Letter, Word}
use Rattle.group.specs.Bytes.{byte_of, bytes_of}
use Rattle.group.proofs.Bytes.{bytes_length, bytes_append, bytes_replicate}
use Rattle.spelling.specs.Runs.{Run, put_run}
use Rattle.spelling.specs.inside.RunLetters.{turn, run_letters, spelt}
use Rattle.spelling.specs.inside.Steps.{behind_run, behind_runs, WroteRuns}
use Rattle.spelling.specs.declared.speller.Speller.{Speller}
use Rattle.spelling.proofs.Runs.{put_append}
use Rattle.spelling.proofs.Behind.{behind-append, behind_put, behind_count, letters-append}
use Rattle.spelling.proofs.Behind.{spelt-behind}
use Rattle.spelling.proofs.Rest.{First, Leads, leads_start, leads_more, leads_done}

-- The bytes of runs behind the letters of a speller.
abbrev pub run_bytes : Speller → List Run → List ℕ
run_bytes s l = bytes_of (run_letters s.due l)

-- Runs that were written, by their bytes and the place behind them.
runs_wrote : {l : List Run} {s r : Speller} {word word' : List ℕ} → WroteRuns l s word word' r
    → Wrote (run_bytes s l) word s.count word' r.count
runs_wrote {l} {s} {r} w = record {
  ends =
      omega (arith, behind_count l s, bytes_length (run_letters s.due l), ap (λ (t : Speller). t.count) w.state);
  holds = w.bytes;
}

-- The bytes of runs one behind another.
bytes_runs : (l r : List Run) (s t : Speller) → t ≡ behind_runs s l → run_bytes s (l ++ r) ≡ run_bytes s l ++ run_bytes t r
bytes_runs l r s t e =
    ap bytes_of (letters-append l r s)
    ∙ bytes_append (run_letters s.due l) (run_letters (behind_runs s l).due r)
    ∙ ap (λ (u : Speller). run_bytes s l ++ run_bytes u r) (sym e)

-- Runs written behind runs.
pub runs_then : {l r : List Run} {s t u : Speller} {word word' word'' : List ℕ} → WroteRuns l s word word' t
    → WroteRuns r t word' word'' u → WroteRuns (l ++ r) s word word'' u
runs_then {l} {r} {s} {t} {u} v w = record {
  state = w.state ∙ ap (λ (x : Speller). behind_runs x r) v.state ∙ sym (behind-append l r s);
  bytes = (wrote_same (sym (bytes_runs l r s t v.state)) (write_then (runs_wrote v) (runs_wrote w))).holds;
}

-- What the letters due and n letters A leave, written behind runs, ends the word.
pub spelt_wrote : (m n : ℕ) {l : List Run} {s t : Speller} {r : ℕ} {word word' word'' : List ℕ} → s.count ≡ 0
    → s.due ≡ m → WroteRuns l s word word' t → Wrote (bytes_of (turn t.due n)) word' t.count word'' r
    → Wrote (bytes_of (spelt m l n)) word 0 word'' r
spelt_wrote m n {l} {s} {t} {r} {word} {word'} {word''} none first v w =
    subst (λ (i : ℕ). Wrote (bytes_of (spelt m l n)) word i word'' r) none
    (wrote_same (same ∙ ap (λ (due : ℕ). bytes_of (spelt due l n)) first) (write_then (runs_wrote v) w))
  where
    same : run_bytes s l ++ bytes_of (turn t.due n) ≡ bytes_of (spelt s.due l n)
    same =
        ap (λ (u : Speller). run_bytes s l ++ bytes_of (turn u.due n)) v.state
        ∙ sym (bytes_append (run_letters s.due l) (turn (behind_runs s l).due n))
        ∙ sym (ap bytes_of (spelt-behind l s n))

-- A power whose exponent is not 0: the turn, then the letters b or B.
pub run_wrote : (k : ℕ) (x : Letter) (e : ℕ) {at end byte : ℕ} {s : Speller} {word word' word'' : List ℕ} → 0 < e
    → byte ≡ byte_of x → Wrote (bytes_of (turn s.due k)) word s.count word' at
    → Wrote (replicate e byte) word' at word'' end
    → WroteRuns (put_run k x e []) s word word'' (record { count = end; due = k })
run_wrote k x zero h is v w = absurd (omega arith)
run_wrote k x (suc e) {at} {end} {byte} {s} h is v w =
    let all = wrote_same same (write_then v w) in
    let counted : end ≡ (behind_run s k (suc e)).count =
    omega (
      arith,
      all.ends,
      behind_count (put_run k x (suc e) []) s,
      bytes_length (run_letters s.due (put_run k x (suc e) [])),
    ) in
    record { state = ap (λ (n : ℕ). record { count = n; due = k }) counted; bytes = all.holds }
  where
    same : bytes_of (turn s.due k) ++ replicate (suc e) byte ≡ run_bytes s (put_run k x (suc e) [])
    same =
        ap (λ (b : ℕ). bytes_of (turn s.due k) ++ replicate (suc e) b) is
        ∙ ap (λ (b : List ℕ). bytes_of (turn s.due k) ++ b) (sym (bytes_replicate (suc e) x))
        ∙ sym (bytes_append (turn s.due k) (replicate (suc e) x))
        ∙ ap (λ (u : Word). bytes_of (turn s.due k ++ u)) (sym (append-nil (replicate (suc e) x)))

-- The runs left, written from here, give what all the runs give from the start.
pub record Puts (left : List Run) (now : Speller) (word : List ℕ) (l : List Run) (start : Speller) (entry : List ℕ)
    : Type 0 where
  pub leads : Leads left now l start
  pub bytes : Writing (run_bytes now left) word now.count (run_bytes start l) entry start.count

-- At the start all are left.
pub puts_start : {left l : List Run} (start : Speller) (entry : List ℕ) → left ≡ l
    → Puts left start entry l start entry
puts_start start entry e = record {
  leads = leads_start start e;
  bytes = writing_same (sym (ap (run_bytes start) e)) (write_start _ _ _);
}

-- The next power is written.
pub puts_more : {left rest l : List Run} {now next start : Speller} {k e : ℕ} {x : Letter} {word word' entry : List ℕ}
    → Puts left now word l start entry → First left rest k x e → WroteRuns (put_run k x e []) now word word' next
    → Puts rest next word' l start entry
puts_more {left} {rest} {l} {now} {next} {start} {k} {e} {x} p f w = record {
  leads = leads_more p.leads f (w.state ∙ behind_put k x e [] now);
  bytes = write_more (runs_wrote w) (writing_same parts p.bytes);
}
  where
    parts : run_bytes now left ≡ run_bytes now (put_run k x e []) ++ run_bytes next rest
    parts =
        ap (run_bytes now) (f.begins ∙ sym (put_append k x e [] rest))
        ∙ bytes_runs (put_run k x e []) rest now next w.state

-- No run is left.
pub puts_done : {left l : List Run} {now start : Speller} {word entry : List ℕ} → Puts left now word l start entry
    → left ≡ [] → WroteRuns l start entry word now
puts_done {left} {l} {now} p none = record {
  state = leads_done p.leads none;
  bytes = (write_done (writing_same (ap (run_bytes now) none) p.bytes)).holds;
}

-- The buffer keeps its length.
pub puts_length : {left l : List Run} {now start : Speller} {word entry : List ℕ} → Puts left now word l start entry
    → length word ≡ length entry
puts_length p = writing_length p.bytes
