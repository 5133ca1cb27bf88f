-- The answers of record to text (02, [1]): a refusal of the reader is passed on; else the tables that it filled give
-- the text of the form, and its number of bytes decides. Assumes nothing.
use mathlib.Core.Path.{◌≡◌, refl, sym, ap, ap₂, ◌∙◌, subst}
use mathlib.Core.List.{List, [], ◌∷◌, ◌++◌}
use Prim.Native.Nat.{ℕ, ◌-◌, ◌<◌, ◌≤◌}
use native.Mathlib.Omega.{arith}
use lib.ListN.{length, take, drop, get_or, replicate, length-drop, length-replicate}
use Rattle.std.specs.Prelude.{⊤, Result, Ok, Err}
use Rattle.lists.specs.inside.Writes.{Wrote}
use Rattle.lists.proofs.Writes.{sets_front, wrote_none}
use Rattle.group.specs.Forms.{b_side, a_side, Form}
use Rattle.group.specs.Powers.{SignedPower, form_powers}
use Rattle.group.proofs.Limits.{limit_prints}
use Rattle.refusals.specs.Outcomes.{Outcome, then}
use Rattle.refusals.specs.Placing.{fitting, Placed}
use Rattle.refusals.specs.declared.Refusal.{Refusal}
use Rattle.refusals.specs.declared.Refusal.TheVariants.{ShortBuffer}
use Rattle.refusals.proofs.Placing.{place_refused, place_short, place_long}
use Rattle.records.specs.inside.Contracts.{Decoded}
use Rattle.records.proofs.ClearedTables.{Cleared, Read, read_refused, read_accepted, within_levels, table_at}
use Rattle.records.proofs.ClearedTables.{table-length}
use Rattle.tokens.specs.Texts.{further_text, text_of}
use Rattle.notation.specs.Promises.{text_in, TextWritten}
use Rattle.notation.specs.inside.Tables.{powers_of, text_room, text_beside}
use Rattle.notation.proofs.Texts.{text_further}
use Rattle.notation.proofs.Tables.{rising_form, falling_form, form_size}

-- The bytes behind the first, and their number.
module _ (further text : List ℕ) where
  -- There is none.
  pub none_placed : length further ≡ 0 → Placed (fitting (length further - 1) (drop 1 further) text) text text (Ok 0)
  none_placed h = go further h
    where
      go : (l : List ℕ) → length l ≡ 0 → Placed (fitting (length l - 1) (drop 1 l) text) text text (Ok 0)
      go [] h = place_long 0 [] text (Ok 0) refl (omega arith) (wrote_none text 0)
      go (x ∷ l) h = absurd (omega arith)

  -- The buffer is too short.
  pub short_placed : length text < length further - 1
      → Placed (fitting (length further - 1) (drop 1 further) text) text text (Err ShortBuffer)
  short_placed h = place_short (length further - 1) (drop 1 further) text (Err ShortBuffer) refl h

  -- They are copied.
  pub long_placed : {text' : List ℕ} {r : ℕ} → length further - 1 ≤ length text
      → Wrote (drop 1 further) text 0 text' r
      → Placed (fitting (length further - 1) (drop 1 further) text) text text' (Ok r)
  long_placed {text'} {r} h w = place_long (length further - 1) (drop 1 further) text (Ok r) refl h w

-- The own buffer is long enough.
pub own_room : {k : ℕ} → k ≤ text_room → k ≤ length {A = ℕ} (replicate text_room 0)
own_room h = omega (arith, length-replicate {A = ℕ} text_room 0)

-- Where they were written behind a space each, they are the text of the powers.
pub powers_placed : (ps : List SignedPower) {own text text' : List ℕ} {n : ℕ} {r : Result ℕ Refusal}
    → length (further_text ps) ≤ text_room → Wrote (further_text ps) (replicate text_room 0) 0 own n
    → Placed (fitting (length (take n own) - 1) (drop 1 (take n own)) text) text text' r
    → Placed (text_beside ps text) text text' r
powers_placed ps {own} {text} {text'} {n} {r} room w p =
    let further = further_text ps in
    let front : take n own ≡ further =
    ap (take n) w.holds
    ∙ sets_front further (replicate text_room 0) n (omega (arith, w.ends)) (omega (arith, w.ends, own_room room)) in
    let size : length (take n own) - 1 ≡ length (text_of ps) =
    omega (arith, ap length front, length-drop 1 further, ap length (text_further ps)) in
    subst (λ (o : Outcome (List ℕ)). Placed o text text' r)
    (ap₂ (λ (k : ℕ) (t : List ℕ). fitting k t text) size (ap (drop 1) front ∙ sym (text_further ps))) p

-- The text of what was read.
abbrev read_beside : Outcome Form → List ℕ → Outcome (List ℕ)
read_beside o text = then o (λ f. text_beside (form_powers f) text)

-- A refusal of the reader is passed on, and nothing was written.
pub text_refused : {n : ℕ} {s z b a text : List ℕ} {v : Result ⊤ Refusal} {q : Refusal} → Cleared n z
    → Decoded s z z b a v
    → v ≡ Err q → TextWritten s text text (Err q)
text_refused {s = s} {text = text} {q = q} c d e = record {
  are_bytes = d.are_bytes;
  placed = place_refused (Err q) (ap (λ (o : Outcome Form). read_beside o text) (read_refused c d e)) refl;
}

-- The tables of a record that is accepted.
module _ {n : ℕ} {s z b a : List ℕ} {f : Form} (c : Cleared n z) (r : Read s z b a f) where
  -- The powers of the tables are those of the form.
  table-powers : powers_of b a ≡ form_powers f
  table-powers =
      let few = within_levels f r.canonical r.within in
      ap₂ (λ (ps qs : List SignedPower). ps ++ qs)
      (rising_form f b 0
      (omega (arith, few, ap length r.b_holds, table-length f r.within c b_side, c.room))
      (λ i. ap (λ (t : List ℕ). get_or t i 0) r.b_holds ∙ table_at f r.within c b_side i))
      (falling_form f a 0
      (omega (arith, few, ap length r.a_holds, table-length f r.within c a_side, c.room))
      (λ i. ap (λ (t : List ℕ). get_or t i 0) r.a_holds ∙ table_at f r.within c a_side i))

module _ {n : ℕ} {s z b a : List ℕ} {v : Result ⊤ Refusal} (c : Cleared n z) (d : Decoded s z z b a v)
    (e : v ≡ (Ok tt)) where
  -- Twelve bytes for each power are enough.
  pub text_room_lem : length (further_text (powers_of b a)) ≤ text_room
  text_room_lem =
      let f = read_accepted c d e in
      let few = within_levels f.0 f.1.canonical f.1.within in
      omega (
        arith,
        ap (λ (ps : List SignedPower). length (further_text ps)) (table-powers c f.1),
        form_size f.0 (omega (arith, few, limit_prints)) (omega (arith, f.1.within.sum, limit_prints)),
        f.1.within.sum,
      )

  -- What was placed is the text of the form.
  pub text_answer : {text text' : List ℕ} {r : Result ℕ Refusal}
      → Placed (text_beside (powers_of b a) text) text text' r
      → TextWritten s text text' r
  text_answer {text} {text'} {r} p =
      let f = read_accepted c d e in
      let outcome : text_beside (powers_of b a) text ≡ text_in s text =
      ap (λ (ps : List SignedPower). text_beside ps text) (table-powers c f.1)
      ∙ sym (ap (λ (o : Outcome Form). read_beside o text) f.1.decodes) in
      record { are_bytes = d.are_bytes; placed = subst (λ (o : Outcome (List ℕ)). Placed o text text' r) outcome p }
