-- A buffer that is read as a register is that register's bytes, and then the end or a byte 00. Assumes nothing.
use mathlib.Core.Path.{◌≡◌, refl, sym, ap, ap₂, ◌∙◌, subst}
use mathlib.Core.Bool.{Bool, true, false, cond}
use mathlib.Core.List.{List, [], ◌∷◌, ◌++◌, append_assoc}
use Prim.Native.Nat.{ℕ, zero, suc, ◌+◌, ◌-◌, ◌<◌, ◌≤◌}
use native.Mathlib.Omega.{arith}
use native.Mathlib.Decide.{dec_le}
use lib.ListN.{length, get_or, take, drop, length-drop, take-append-drop, get_or-eq_default}
use lib.Dec.{eqb, ltb}
use lib.Seq.{drop-cons, drop-drop, get_or-take, get_or-drop, length-take-le, length-sets}
use borrow.Author.Tests.{ltb-false, eqb-true}
use Rattle.group.specs.Forms.{Form}
use Rattle.refusals.specs.Outcomes.{Outcome, accepted, refused, then}
use Rattle.refusals.proofs.Outcomes.{accepted_same, accepted_refused}
use Rattle.fields.specs.Fields.{Bytes, two_bytes, two_at, four_bytes, four_at_value, head_size}
use Rattle.fields.proofs.Numbers.{two_written, four_written}
use Rattle.records.specs.Format.{encode}
use Rattle.records.proofs.Accepted.{decode-accepts}
use Rattle.records.proofs.Tests.{both_left, both_right_lem, unless_fails, unless_passes}
use Rattle.registers.specs.Format.{Entry, Register, last_tag, entry_tag, number_size, entry_base, first_size}
use Rattle.registers.specs.Format.{register_most, entry_bytes, entries_bytes, register_bytes, end_mark, stored}
use Rattle.registers.specs.Reading.{ends, entry_size, entry_stands, number_in, holder_in, record_in, stored_in}
use Rattle.registers.specs.Reading.{entry_of, read_entry, read_entries, sound, first_stands}
use Rattle.registers.specs.Reading.{judged_entries, read_register}
use Rattle.registers.proofs.StoredRecords.{stored-parts}
use Rattle.registers.proofs.ReadBack.{Readable, register_front, stored_front}
use Rattle.registers.proofs.Sums.{Below}

-- A part of bytes is bytes.
pub bytes_drop : (s : List ℕ) (n : ℕ) → Bytes s → Bytes (drop n s)
bytes_drop s n b i = subst (λ (x : ℕ). x < 256) (sym (get_or-drop n s i 0)) (b (n + i))

pub bytes_take : (s : List ℕ) (n : ℕ) → n ≤ length s → Bytes s → Bytes (take n s)
bytes_take s n h b i = go (dec_le (suc i) n)
  where
    go : Dec (suc i ≤ n) → get_or (take n s) i 0 < 256
    go (yes lt) = subst (λ (x : ℕ). x < 256) (sym (get_or-take n s i 0 lt)) (b i)
    go (no ge) =
        subst (λ (x : ℕ). x < 256)
        (sym (get_or-eq_default (take n s) 0 {n = i} (omega (arith, length-take-le n s h, ge)))) (omega arith)

-- What an entry that stands at the front is.
pub record IsEntry (s : List ℕ) (e : Entry) : Type 0 where
  pub stood : entry_stands s ≡ true
  pub number_is : e.number ≡ number_in s
  pub holder_is : e.holder ≡ holder_in s
  pub record_is : record_in s ≡ encode e.form
  pub written : s ≡ entry_bytes e ++ drop (entry_size s) s
  pub readable : stored_in (encode e.form) ≡ accepted e.form
  pub two_bytes_is : e.holder < 65536
  pub some_bytes : head_size + entry_base ≤ entry_size s
  pub room : entry_size s ≤ length s

entry_form : (n h : ℕ) (o : Outcome Form) (e : Entry) → entry_of n h o ≡ accepted e
    → (e.number ≡ n) × (e.holder ≡ h) × (o ≡ accepted e.form)
entry_form n h (accepted f) e q =
    let same : record { number = n; holder = h; form = f } ≡ e = accepted_same q in (
      ap (λ (x : Entry). x.number) (sym same),
      ap (λ (x : Entry). x.holder) (sym same),
      ap (λ (x : Entry). accepted x.form) same,
    )
entry_form n h (refused a b) e q = absurd (accepted_refused (sym q))

pub entry_written : (s : List ℕ) (e : Entry) → Bytes s → read_entry s ≡ accepted e → IsEntry s e
entry_written s e b q = go (entry_stands s) refl q
  where
    six_on : entry_base ≤ two_at s 1 → head_size + entry_base + (two_at s 1 - entry_base) ≡ entry_size s
    six_on six = omega (arith, six)

    go : (p : Bool) → entry_stands s ≡ p
        → cond p (entry_of (number_in s) (holder_in s) (stored_in (record_in s))) (refused 12 0) ≡ accepted e → IsEntry s e
    go false p k = absurd (accepted_refused (sym k))
    go true p k =
        let tag = eqb-true (get_or s 0 0) entry_tag (both_left (eqb (get_or s 0 0) entry_tag) _ p) in
        let rest = both_right_lem (eqb (get_or s 0 0) entry_tag) _ p in
        let whole = unless_passes (ltb (length s) (entry_size s)) _ rest in
        let room = ltb-false (length s) (entry_size s) (unless_fails (ltb (length s) (entry_size s)) _ rest) in
        let six = ltb-false (two_at s 1) entry_base (unless_fails (ltb (two_at s 1) entry_base) true whole) in
        let parts = entry_form (number_in s) (holder_in s) (stored_in (record_in s)) e k in
        let behind-head : List ℕ = drop (head_size + entry_base) s in
        let inside : two_at s 1 - entry_base ≤ length behind-head =
        omega (arith, room, six, length-drop (head_size + entry_base) s) in
        let are = bytes_take behind-head (two_at s 1 - entry_base) inside (bytes_drop s (head_size + entry_base) b) in
        let good = decode-accepts (record_in s) e.form are (stored-parts (record_in s) e.form parts.2).0 in
        let size : two_at s 1 ≡ entry_base + length (encode e.form) =
        omega (arith, six, ap length good.0, length-take-le (two_at s 1 - entry_base) behind-head inside) in
        let behind : behind-head ≡ encode e.form ++ drop (entry_size s) s =
        sym (take-append-drop (two_at s 1 - entry_base) behind-head)
        ∙ ap₂ (λ (x y : List ℕ). x ++ y) good.0
        (drop-drop (two_at s 1 - entry_base) (head_size + entry_base) s ∙ ap (λ (n : ℕ). drop n s) (six_on six)) in
        record {
          stood = p;
          number_is = parts.0;
          holder_is = parts.1;
          record_is = good.0;
          written =
              drop-cons s 0 0 (omega (arith, room))
              ∙ ap₂ (λ (x : ℕ) (l : List ℕ). x ∷ l) tag (two_written s 1 head_size b refl (omega (arith, room)))
              ∙ ap₂ (λ (x : ℕ) (l : List ℕ). entry_tag ∷ (two_bytes x ++ l)) (size ∙ omega arith)
              (four_written s head_size first_size b refl (omega (arith, room, six))
              ∙ ap₂ (λ (x : ℕ) (l : List ℕ). four_bytes x ++ l) (sym parts.0)
              (two_written s first_size (head_size + entry_base) b refl (omega (arith, room, six))
              ∙ ap₂ (λ (x : ℕ) (l : List ℕ). two_bytes x ++ l) (sym parts.1) behind));
          readable = ap stored_in (sym good.0) ∙ parts.2;
          two_bytes_is = omega (arith, parts.1, b first_size, b (first_size + 1));
          some_bytes = omega (arith, six);
          room = room;
        }

-- What is read of entries.
record Fronts (s : List ℕ) (es : List Entry) : Type 0 where
  tail : List ℕ
  written : s ≡ entries_bytes es ++ tail
  ended : ends tail ≡ true
  readable : Readable es
  below : Below 65536 es

no_entries : (s : List ℕ) (es : List Entry) → accepted [] ≡ accepted es → ends s ≡ true → Fronts s es
no_entries s es h t =
    subst (λ (l : List Entry). Fronts s l) (accepted_same h)
    (record { tail = s; written = refl; ended = t; readable = tt; below = tt })

entries_written : (k : ℕ) (s : List ℕ) (es : List Entry) → Bytes s → length s ≤ k → read_entries k s ≡ accepted es
    → Fronts s es
unfolding read_entries
entries_written zero s es b n h = no_entries s es h (none s n)
  where
    none : (t : List ℕ) → length t ≤ 0 → ends t ≡ true
    none [] le = refl
    none (x ∷ t) le = absurd (omega arith)
entries_written (suc k) s es b n h =
    go (λ t ds c m q. entries_written k t ds c m q) (ends s) refl h
  where
    one : (e : Entry) (ds : List Entry) → IsEntry s e → Fronts (drop (entry_size s) s) ds
        → accepted (e ∷ ds) ≡ accepted es → Fronts s es
    one e ds st fr q =
        subst (λ (l : List Entry). Fronts s l) (accepted_same q)
        (record {
          tail = fr.tail;
          written =
              st.written ∙ ap (λ (l : List ℕ). entry_bytes e ++ l) fr.written
              ∙ sym (append_assoc (entry_bytes e) (entries_bytes ds) fr.tail);
          ended = fr.ended;
          readable = (st.readable, fr.readable);
          below = (st.two_bytes_is, fr.below);
        })

    rest : ((t : List ℕ) (ds : List Entry) → Bytes t → length t ≤ k → read_entries k t ≡ accepted ds → Fronts t ds)
        → (e : Entry) → IsEntry s e → (o : Outcome (List Entry)) → read_entries k (drop (entry_size s) s) ≡ o
        → then o (λ ds. accepted (e ∷ ds)) ≡ accepted es → Fronts s es
    rest more e st (refused a c) m q = absurd (accepted_refused (sym q))
    rest more e st (accepted ds) m q =
        let fewer : length (drop (entry_size s) s) ≤ k =
        omega (arith, n, length-drop (entry_size s) s, st.some_bytes, st.room) in
        one e ds st (more (drop (entry_size s) s) ds (bytes_drop s (entry_size s) b) fewer m) q

    entry : ((t : List ℕ) (ds : List Entry) → Bytes t → length t ≤ k → read_entries k t ≡ accepted ds → Fronts t ds)
        → (o : Outcome Entry) → read_entry s ≡ o
        → then o (λ e. then (read_entries k (drop (entry_size s) s)) (λ ds. accepted (e ∷ ds))) ≡ accepted es
        → Fronts s es
    entry more (refused a c) m q = absurd (accepted_refused (sym q))
    entry more (accepted e) m q = rest more e (entry_written s e b m) (read_entries k (drop (entry_size s) s)) refl q

    go : ((t : List ℕ) (ds : List Entry) → Bytes t → length t ≤ k → read_entries k t ≡ accepted ds → Fronts t ds)
        → (p : Bool) → ends s ≡ p
        → cond p (accepted [])
        (then (read_entry s) (λ e. then (read_entries k (drop (entry_size s) s)) (λ ds. accepted (e ∷ ds)))) ≡ accepted es
        → Fronts s es
    go more true p q = no_entries s es q p
    go more false p q = entry more (read_entry s) refl q

-- What a buffer that is read as a register is.
pub record Holds (s : List ℕ) (r : Register) : Type 0 where
  pub tail : List ℕ
  pub written : s ≡ register_bytes r ++ tail
  pub ended : ends tail ≡ true
  pub readable : Readable r.entries
  pub below : Below 65536 r.entries
  pub sound_so : sound r.last r.entries ≡ true
  pub short : length s ≤ register_most

pub register_written : (s : List ℕ) (r : Register) → Bytes s → read_register s ≡ accepted r → Holds s r
register_written s r b h = go (first_stands s) refl h
  where
    judged : (es : List Entry) → first_stands s ≡ true → read_entries (length s) (drop first_size s) ≡ accepted es
        → (p : Bool) → sound (four_at_value s head_size) es ≡ p
        → cond p (accepted (record { last = four_at_value s head_size; entries = es })) (refused 12 0) ≡ accepted r → Holds s r
    judged es f m false p q = absurd (accepted_refused (sym q))
    judged es f m true p q =
        let long = unless_fails (ltb register_most (length s)) _ f in
        let f1 = unless_passes (ltb register_most (length s)) _ f in
        let seven = ltb-false (length s) first_size (unless_fails (ltb (length s) first_size) _ f1) in
        let f2 = unless_passes (ltb (length s) first_size) _ f1 in
        let tag = eqb-true (get_or s 0 0) last_tag (both_left (eqb (get_or s 0 0) last_tag) _ f2) in
        let four = eqb-true (two_at s 1) number_size (both_right_lem (eqb (get_or s 0 0) last_tag) _ f2) in
        let few : length (drop first_size s) ≤ length s = omega (arith, length-drop first_size s, seven) in
        let fr = entries_written (length s) (drop first_size s) es (bytes_drop s first_size b) few m in
        subst (λ (x : Register). Holds s x) (accepted_same q)
        (record {
          tail = fr.tail;
          written =
              drop-cons s 0 0 (omega (arith, seven))
              ∙ ap₂ (λ (x : ℕ) (l : List ℕ). x ∷ l) tag (two_written s 1 head_size b refl (omega (arith, seven)))
              ∙ ap₂ (λ (x : ℕ) (l : List ℕ). last_tag ∷ (two_bytes x ++ l)) four
              (four_written s head_size first_size b refl seven
              ∙ ap (λ (l : List ℕ). four_bytes (four_at_value s head_size) ++ l) fr.written);
          ended = fr.ended;
          readable = fr.readable;
          below = fr.below;
          sound_so = p;
          short = ltb-false register_most (length s) long;
        })

    entered : first_stands s ≡ true → (o : Outcome (List Entry)) → read_entries (length s) (drop first_size s) ≡ o
        → then o (λ es. judged_entries (four_at_value s head_size) es) ≡ accepted r → Holds s r
    entered f (refused a c) m q = absurd (accepted_refused (sym q))
    entered f (accepted es) m q = judged es f m (sound (four_at_value s head_size) es) refl q

    go : (p : Bool) → first_stands s ≡ p
        → cond p (then (read_entries (length s) (drop first_size s)) (λ es. judged_entries (four_at_value s head_size) es))
        (refused 12 0) ≡ accepted r → Holds s r
    go false p q = absurd (accepted_refused (sym q))
    go true p q = entered p (read_entries (length s) (drop first_size s)) refl q

-- It is read so.
pub holds_reads : (s : List ℕ) (r : Register) → Holds s r → read_register s ≡ accepted r
holds_reads s r w =
    ap read_register w.written
    ∙ register_front r w.tail w.readable w.sound_so w.ended
    (omega (arith, ap length w.written, w.short))

-- A sound register that fits a buffer is held by it once it is stored.
pub stored-holds : (r : Register) (s : List ℕ) → Readable r.entries → Below 65536 r.entries
    → sound r.last r.entries ≡ true → length (register_bytes r) ≤ length s → length s ≤ register_most
    → Holds (stored r s) r
stored-holds r s readable below sounds fits short =
    let front = stored_front r s fits in
    let same = length-sets s 0 (register_bytes r ++ end_mark (length (register_bytes r)) (length s)) in
    record {
      tail = front.0;
      written = front.1;
      ended = front.2;
      readable = readable;
      below = below;
      sound_so = sounds;
      short = omega (arith, same, short);
    }
