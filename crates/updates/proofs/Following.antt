-- One more entry keeps a register sound, and a buffer that held it holds the one with the entry. Assumes nothing.
use mathlib.Core.Path.{◌≡◌, refl, ◌∙◌}
use mathlib.Core.Bool.{Bool, true, false, cond}
use mathlib.Core.List.{List, [], ◌∷◌, ◌++◌}
use mathlib.Core.Option.{none, some}
use Prim.Native.Nat.{ℕ, suc, ◌<◌, ◌≤◌}
use native.Mathlib.Omega.{arith}
use lib.ListN.{length}
use lib.Dec.{ltb}
use borrow.Author.Tests.{le-ltb, lt-ltb, ltb-false}
use Rattle.group.specs.Forms.{Form}
use Rattle.refusals.specs.Outcomes.{accepted}
use Rattle.records.specs.Format.{encode}
use Rattle.records.proofs.Tests.{true_both, unless_fails, unless_passes, fails_unless}
use Rattle.registers.specs.Format.{Entry, Register, live_most, register_bytes, stored}
use Rattle.registers.specs.Reading.{stored_in, holds_form, any_holds, number_for, live, last_number, may_follow, follow}
use Rattle.registers.specs.Reading.{sound}
use Rattle.registers.proofs.Counts.{last_behind}
use Rattle.registers.proofs.Following.{follow-append}
use Rattle.registers.proofs.Written.{Holds, stored-holds}
use Rattle.registers.proofs.ReadBack.{Readable}
use Rattle.registers.proofs.Sums.{Below}
use Rattle.updates.specs.Entering.{with_entry}

-- No entry has the form where no number is found.
absent_holds : (f : Form) (es : List Entry) → number_for f es ≡ none → any_holds f es ≡ false
absent_holds f [] h = refl
absent_holds f (e ∷ es) h = go (λ q. absent_holds f es q) (holds_form f e) h
  where
    go : (number_for f es ≡ none → any_holds f es ≡ false) → (b : Bool)
        → cond b (some e.number) (number_for f es) ≡ none → cond b true (any_holds f es) ≡ false
    go behind true q = let c : ◌≡◌ {A = ℕ} 0 1 = cc in absurd (omega arith)
    go behind false q = behind q

-- The register with a new entry is sound.
sound_one : (r : Register) (h : ℕ) (f : Form) → sound r.last r.entries ≡ true
    → number_for f r.entries ≡ none → live h r.entries < live_most
    → sound (with_entry r h f).last (with_entry r h f).entries ≡ true
sound_one r h f s n l =
    let e : Entry = record { number = suc r.last; holder = h; form = f } in
    let top : ℕ = last_number 0 r.entries in
    let low = ltb-false r.last top (unless_fails (ltb r.last top) _ s) in
    let was = unless_passes (ltb r.last top) _ s in
    let few : ltb (live h r.entries) live_most ≡ true = lt-ltb (live h r.entries) live_most l in
    let may : may_follow r.entries e ≡ true =
    true_both (ltb top (suc r.last)) _ (lt-ltb top (suc r.last) (omega (arith, low)))
    (fails_unless (any_holds f r.entries) _ (absent_holds f r.entries n) few) in
    fails_unless (ltb (suc r.last) (last_number 0 (r.entries ++ (e ∷ [])))) _
    (le-ltb (suc r.last) (last_number 0 (r.entries ++ (e ∷ []))) (omega (arith, last_behind 0 r.entries e)))
    (follow-append r.entries (e ∷ []) []
    ∙ true_both (follow [] r.entries) _ was (true_both (may_follow r.entries e) true may refl))

-- Its records are read back, and its holders have two bytes.
readable_one : (es : List Entry) (e : Entry) → Readable es → stored_in (encode e.form) ≡ accepted e.form
    → Readable (es ++ (e ∷ []))
readable_one [] e h g = (g, tt)
readable_one (x ∷ es) e h g = (h.0, readable_one es e h.1 g)

below_one : (m : ℕ) (es : List Entry) (e : Entry) → Below m es → e.holder < m → Below m (es ++ (e ∷ []))
below_one m [] e h g = (g, tt)
below_one m (x ∷ es) e h g = (h.0, below_one m es e h.1 g)

-- So a buffer that held the register holds the one with the new entry, once that is stored, if it fits.
pub grown-holds : (s : List ℕ) (r : Register) (h : ℕ) (f : Form) → Holds s r → number_for f r.entries ≡ none
    → live h r.entries < live_most → stored_in (encode f) ≡ accepted f → h < 65536
    → length (register_bytes (with_entry r h f)) ≤ length s → Holds (stored (with_entry r h f) s) (with_entry r h f)
grown-holds s r h f w absent few read two fits =
    let e : Entry = record { number = suc r.last; holder = h; form = f } in
    stored-holds (with_entry r h f) s (readable_one r.entries e w.readable read)
    (below_one 65536 r.entries e w.below two) (sound_one r h f w.sound_so absent few) fits w.short
