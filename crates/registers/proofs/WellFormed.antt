-- The tests of the reading are the paper's sentences: a register is read just where the bytes are one. Assumes nothing.
use mathlib.Core.Path.{◌≡◌, refl, sym, ap, ◌∙◌, subst}
use mathlib.Core.Bool.{Bool, true, false, cond, true≢false}
use mathlib.Core.List.{List, [], ◌∷◌, ◌++◌, append_assoc, append-nil}
use mathlib.Core.Logic.{◌⊎◌, inl, inr, ◌↔◌}
use Prim.Native.Nat.{ℕ, zero, suc, ◌+◌, ◌<◌, ◌≤◌}
use native.Mathlib.Omega.{arith}
use native.Mathlib.Decide.{dec_le}
use lib.ListN.{length}
use lib.Dec.{eqb, ltb}
use borrow.Author.Tests.{le-ltb, lt-ltb, ltb-true, ltb-false, eqb-true, eq-eqb}
use Rattle.lists.specs.Entries.{At}
use Rattle.lists.specs.SameBytes.{same_bytes}
use Rattle.lists.proofs.Entries.{at_first, at_second, at_split, at_bound, at_same}
use Rattle.lists.proofs.SameBytes.{same_bytes_lem, bytes_same}
use Rattle.group.specs.Forms.{Form}
use Rattle.refusals.specs.Outcomes.{accepted}
use Rattle.fields.specs.Fields.{Bytes}
use Rattle.records.specs.Format.{encode, IsRecord}
use Rattle.records.specs.Exchange.{is_above}
use Rattle.records.proofs.Accepted.{decode_form, record_decoded}
use Rattle.records.proofs.Tests.{both_left, both_right_lem, true_both, unless_fails, unless_passes, fails_unless}
use Rattle.records.proofs.Tests.{neither_left, neither_right, fails_neither}
use Rattle.registers.specs.Format.{Entry, Register, live_most}
use Rattle.registers.specs.Reading.{ends, holds_form, any_holds, live, last_number, may_follow, follow, sound}
use Rattle.registers.specs.Reading.{read_register}
use Rattle.registers.specs.WellFormed.{Rules, WellFormed}
use Rattle.registers.proofs.Counts.{owned_by, live-behind, live_more}
use Rattle.registers.proofs.StoredRecords.{stored-parts, parts-stored}
use Rattle.registers.proofs.ReadBack.{Readable, register_front}
use Rattle.registers.proofs.Written.{Holds, register_written}

-- The last entry has the last number.
abbrev EndsAt : (l : List Entry) (n : ℕ) → Type 0
EndsAt l m = (i : ℕ) × (e : Entry) × At l i e × (suc i ≡ length l) × (m ≡ e.number)

last_at : (n : ℕ) (l : List Entry) → ((l ≡ []) × (last_number n l ≡ n)) ⊎ EndsAt l (last_number n l)
last_at n [] = inl (refl, refl)
last_at n (x ∷ l) = go (last_at x.number l)
  where
    go : ((l ≡ []) × (last_number x.number l ≡ x.number)) ⊎ EndsAt l (last_number x.number l)
        → ((x ∷ l ≡ []) × (last_number n (x ∷ l) ≡ n)) ⊎ EndsAt (x ∷ l) (last_number n (x ∷ l))
    go (inl h) = inr (0, x, refl, omega (arith, ap length h.0), h.1)
    go (inr h) = inr (suc h.0, h.1, h.2, omega (arith, h.3), h.4)

-- No number is above the last one's.
most : (l : List Entry) (i : ℕ) (e : Entry) → Rules l → At l i e → e.number ≤ last_number 0 l
most l i e r a = go (last_at 0 l)
  where
    go : ((l ≡ []) × (last_number 0 l ≡ 0)) ⊎ EndsAt l (last_number 0 l) → e.number ≤ last_number 0 l
    go (inl h) = absurd (subst (λ (x : List Entry). At x i e) h.0 a)
    go (inr (j, d, b, n, m)) = by (dec_le (suc i) j)
      where
        by : Dec (suc i ≤ j) → e.number ≤ last_number 0 l
        by (yes lt) = omega (arith, r.rising i j e d a b lt, m)
        by (no ge) =
            let same : i ≡ j = omega (arith, at_bound l i e a, n, ge) in
            let one : e ≡ d = at_same l j e d (subst (λ (x : ℕ). At l x e) same a) b in
            omega (arith, m, ap (λ (x : Entry). x.number) one)

-- Whether some entry has a form.
none_has : (f : Form) (l : List Entry) → any_holds f l ≡ false → (i : ℕ) (e : Entry) → At l i e
    → encode e.form ≡ encode f → ⊥
none_has f [] h i e a q = a
none_has f (x ∷ l) h zero e a q =
    let t : holds_form f x ≡ true =
    ap (λ (y : Entry). same_bytes (encode y.form) (encode f)) a
    ∙ ap (λ (z : List ℕ). same_bytes z (encode f)) q ∙ bytes_same (encode f) in
    true≢false (sym t ∙ neither_left (holds_form f x) _ h)
none_has f (x ∷ l) h (suc i) e a q = none_has f l (neither_right (holds_form f x) _ h) i e a q

has_none : (f : Form) (l : List Entry) → ((i : ℕ) (e : Entry) → At l i e → encode e.form ≡ encode f → ⊥)
    → any_holds f l ≡ false
has_none f [] h = refl
has_none f (x ∷ l) h =
    fails_neither (holds_form f x) _ (go (holds_form f x) refl) (has_none f l (λ i e a q. h (suc i) e a q))
  where
    go : (b : Bool) → holds_form f x ≡ b → holds_form f x ≡ false
    go true q = absurd (h 0 x refl (same_bytes_lem (encode x.form) (encode f) q))
    go false q = q

-- An entry that may follow.
rules_one : (l : List Entry) (e : Entry) → Rules l → may_follow l e ≡ true → Rules (l ++ (e ∷ []))
rules_one l e r m = record {
  at_least_1 = λ i d a. first i d (at_split l (e ∷ []) i d a);
  rising = λ i j d c a b lt. rise i j d c (at_split l (e ∷ []) i d a) (at_split l (e ∷ []) j c b) lt;
  once = λ i j d c a b q. same i j d c (at_split l (e ∷ []) i d a) (at_split l (e ∷ []) j c b) q;
  four = λ h. few h (eqb e.holder h) refl;
}
  where
    low : last_number 0 l < e.number
    low = ltb-true (last_number 0 l) e.number (both_left (ltb (last_number 0 l) e.number) _ m)

    new : any_holds e.form l ≡ false
    new = unless_fails (any_holds e.form l) _ (both_right_lem (ltb (last_number 0 l) e.number) _ m)

    room : live e.holder l < live_most
    room =
        ltb-true (live e.holder l) live_most
        (unless_passes (any_holds e.form l) _ (both_right_lem (ltb (last_number 0 l) e.number) _ m))

    first : (i : ℕ) (d : Entry) → At l i d ⊎ ((j : ℕ) × (i ≡ length l + j) × At (e ∷ []) j d) → 1 ≤ d.number
    first i d (inl a) = r.at_least_1 i d a
    first i d (inr (zero, x, a)) = omega (arith, low, ap (λ (y : Entry). y.number) a)
    first i d (inr (suc j, x, a)) = absurd a

    rise : (i j : ℕ) (d c : Entry) → At l i d ⊎ ((k : ℕ) × (i ≡ length l + k) × At (e ∷ []) k d)
        → At l j c ⊎ ((k : ℕ) × (j ≡ length l + k) × At (e ∷ []) k c) → i < j → d.number < c.number
    rise i j d c (inl a) (inl b) lt = r.rising i j d c a b lt
    rise i j d c (inl a) (inr (zero, x, b)) lt = omega (arith, most l i d r a, low, ap (λ (y : Entry). y.number) b)
    rise i j d c (inl a) (inr (suc k, x, b)) lt = absurd b
    rise i j d c (inr (k, x, a)) (inl b) lt = absurd (omega (arith, at_bound l j c b, x, lt))
    rise i j d c (inr (zero, x, a)) (inr (zero, y, b)) lt = absurd (omega (arith, x, y, lt))
    rise i j d c (inr (suc k, x, a)) (inr b) lt = absurd a
    rise i j d c (inr (zero, x, a)) (inr (suc k, y, b)) lt = absurd b

    same : (i j : ℕ) (d c : Entry) → At l i d ⊎ ((k : ℕ) × (i ≡ length l + k) × At (e ∷ []) k d)
        → At l j c ⊎ ((k : ℕ) × (j ≡ length l + k) × At (e ∷ []) k c) → encode d.form ≡ encode c.form → i ≡ j
    same i j d c (inl a) (inl b) q = r.once i j d c a b q
    same i j d c (inl a) (inr (zero, x, b)) q =
        absurd (none_has e.form l new i d a (q ∙ ap (λ (y : Entry). encode y.form) (sym b)))
    same i j d c (inl a) (inr (suc k, x, b)) q = absurd b
    same i j d c (inr (zero, x, a)) (inl b) q =
        absurd (none_has e.form l new j c b (sym q ∙ ap (λ (y : Entry). encode y.form) (sym a)))
    same i j d c (inr (suc k, x, a)) (inl b) q = absurd a
    same i j d c (inr (zero, x, a)) (inr (zero, y, b)) q = x ∙ sym y
    same i j d c (inr (suc k, x, a)) (inr b) q = absurd a
    same i j d c (inr (zero, x, a)) (inr (suc k, y, b)) q = absurd b

    few : (h : ℕ) (b : Bool) → eqb e.holder h ≡ b → live h (l ++ (e ∷ [])) ≤ live_most
    few h true q =
        let is = eqb-true e.holder h q in
        omega (arith, live-behind h l e, own true q, ap (λ (k : ℕ). live k l) is, room)
      where
        own : (b : Bool) → eqb e.holder h ≡ b → owned_by h e ≡ cond b 1 0
        own b p = ap {B = ℕ} (λ (c : Bool). cond c 1 0) p
    few h false q =
        omega (arith, live-behind h l e, ap {B = ℕ} (λ (b : Bool). cond b 1 0) q, r.four h)

-- And back.
one_rules : (l : List Entry) (e : Entry) → Rules (l ++ (e ∷ [])) → Rules l × (may_follow l e ≡ true)
one_rules l e r = (
  before,
  true_both (ltb (last_number 0 l) e.number) _ (lt-ltb (last_number 0 l) e.number (low (last_at 0 l)))
      (fails_unless (any_holds e.form l) _ (has_none e.form l new) (lt-ltb (live e.holder l) live_most room)),
)
  where
    before : Rules l
    before = record {
      at_least_1 = λ i d a. r.at_least_1 i d (at_first l (e ∷ []) i d a);
      rising = λ i j d c a b lt. r.rising i j d c (at_first l (e ∷ []) i d a) (at_first l (e ∷ []) j c b) lt;
      once = λ i j d c a b q. r.once i j d c (at_first l (e ∷ []) i d a) (at_first l (e ∷ []) j c b) q;
      four = λ h. omega (arith, r.four h, live-behind h l e);
    }

    last : At (l ++ (e ∷ [])) (length l) e
    last = at_second l (e ∷ []) (length l) 0 e (omega arith) refl

    low : ((l ≡ []) × (last_number 0 l ≡ 0)) ⊎ EndsAt l (last_number 0 l) → last_number 0 l < e.number
    low (inl h) = omega (arith, h.1, r.at_least_1 (length l) e last)
    low (inr (i, d, a, n, m)) =
        omega (arith, m, r.rising i (length l) d e (at_first l (e ∷ []) i d a) last (omega (arith, n)))

    new : (i : ℕ) (d : Entry) → At l i d → encode d.form ≡ encode e.form → ⊥
    new i d a q = omega (arith, r.once i (length l) d e (at_first l (e ∷ []) i d a) last q, at_bound l i d a)

    room : live e.holder l < live_most
    room =
        let own : owned_by e.holder e ≡ 1 =
        ap {B = ℕ} (λ (b : Bool). cond b 1 0) (eq-eqb e.holder e.holder refl) in
        omega (arith, r.four e.holder, live-behind e.holder l e, own)

follow→rules : (es l : List Entry) → Rules l → follow l es ≡ true → Rules (l ++ es)
follow→rules [] l r h = subst Rules (sym (append-nil l)) r
follow→rules (e ∷ es) l r h =
    subst Rules (append_assoc l (e ∷ []) es)
    (follow→rules es (l ++ (e ∷ [])) (rules_one l e r (both_left (may_follow l e) _ h)) (both_right_lem (may_follow l e) _ h))

rules→follow : (es l : List Entry) → Rules (l ++ es) → follow l es ≡ true
rules→follow [] l r = refl
rules→follow (e ∷ es) l r =
    let more = subst Rules (sym (append_assoc l (e ∷ []) es)) r in
    true_both (may_follow l e) _ (one_rules l e (front es (l ++ (e ∷ [])) more)).1
    (rules→follow es (l ++ (e ∷ [])) more)
  where
    front : (ds k : List Entry) → Rules (k ++ ds) → Rules k
    front ds k q = record {
      at_least_1 = λ i d a. q.at_least_1 i d (at_first k ds i d a);
      rising = λ i j d c a b lt. q.rising i j d c (at_first k ds i d a) (at_first k ds j c b) lt;
      once = λ i j d c a b s. q.once i j d c (at_first k ds i d a) (at_first k ds j c b) s;
      four = λ h. omega (arith, q.four h, live_more h k ds);
    }

no_rules : Rules []
no_rules = record {
  at_least_1 = λ i e a. absurd a;
  rising = λ i j e d a. absurd a;
  once = λ i j e d a. absurd a;
  four = λ h. omega arith;
}

-- The records are read back as stored ones just where they are records, and none is above its exchange.
readable_at : (es : List Entry) → Readable es → (i : ℕ) (e : Entry) → At es i e → IsRecord (encode e.form) e.form
readable_at [] h i e a = absurd a
readable_at (x ∷ es) h zero e a =
    subst (λ (y : Entry). IsRecord (encode y.form) y.form) a
    (let c = decode_form (encode x.form) x.form (stored-parts (encode x.form) x.form h.0).0 in
    record { bytes = refl; within = c.1; reduced = c.0.reduced; trimmed = c.0.trimmed })
readable_at (x ∷ es) h (suc i) e a = readable_at es h.1 i e a

readable_low : (es : List Entry) → Readable es → (i : ℕ) (e : Entry) → At es i e → is_above (encode e.form) ≡ false
readable_low [] h i e a = absurd a
readable_low (x ∷ es) h zero e a =
    subst (λ (y : Entry). is_above (encode y.form) ≡ false) a
    (stored-parts (encode x.form) x.form h.0).1
readable_low (x ∷ es) h (suc i) e a = readable_low es h.1 i e a

at_readable : (es : List Entry) → ((i : ℕ) (e : Entry) → At es i e → IsRecord (encode e.form) e.form)
    → ((i : ℕ) (e : Entry) → At es i e → is_above (encode e.form) ≡ false) → Readable es
at_readable [] h low = tt
at_readable (x ∷ es) h low = (
  parts-stored (encode x.form) x.form (record_decoded (encode x.form) x.form (h 0 x refl)) (low 0 x refl),
  at_readable es (λ i e a. h (suc i) e a) (λ i e a. low (suc i) e a),
)

-- A list that ends is none, or begins with a byte 00.
pub ends_so : (t : List ℕ) → ends t ≡ true → (t ≡ []) ⊎ ((u : List ℕ) × (t ≡ 0 ∷ u))
ends_so [] h = inl refl
ends_so (x ∷ t) h = inr (t, ap (λ (y : ℕ). y ∷ t) (eqb-true x 0 h))

so_ends : (t : List ℕ) → (t ≡ []) ⊎ ((u : List ℕ) × (t ≡ 0 ∷ u)) → ends t ≡ true
so_ends t (inl h) = ap ends h
so_ends t (inr h) = ap ends h.1

-- A buffer that holds a register is that register, by the paper's sentences.
pub holds_well_formed : (s : List ℕ) (r : Register) → Holds s r → WellFormed s r
holds_well_formed s r w =
    let rules =
    follow→rules r.entries [] no_rules
    (unless_passes (ltb r.last (last_number 0 r.entries)) _ w.sound_so) in
    let low =
    ltb-false r.last (last_number 0 r.entries)
    (unless_fails (ltb r.last (last_number 0 r.entries)) _ w.sound_so) in
    record {
      behind = w.tail;
      bytes = w.written;
      ended = ends_so w.tail w.ended;
      short = w.short;
      rules = rules;
      none_above = λ i e a. omega (arith, most r.entries i e rules a, low);
      readable = readable_at r.entries w.readable;
      not_above = readable_low r.entries w.readable;
    }

-- The register that is read is the one that the buffer is.
pub reads_well_formed : (s : List ℕ) (r : Register) → Bytes s → (read_register s ≡ accepted r) ↔ WellFormed s r
reads_well_formed s r b = ((λ h. holds_well_formed s r (register_written s r b h)), from)
  where
    low : WellFormed s r → ((r.entries ≡ []) × (last_number 0 r.entries ≡ 0))
        ⊎ EndsAt r.entries (last_number 0 r.entries) → last_number 0 r.entries ≤ r.last
    low w (inl h) = omega (arith, h.1)
    low w (inr (i, d, a, n, m)) = omega (arith, m, w.none_above i d a)

    from : WellFormed s r → read_register s ≡ accepted r
    from w =
        let sounds : sound r.last r.entries ≡ true =
        fails_unless (ltb r.last (last_number 0 r.entries)) _
        (le-ltb r.last (last_number 0 r.entries) (low w (last_at 0 r.entries)))
        (rules→follow r.entries [] w.rules) in
        ap read_register w.bytes
        ∙ register_front r w.behind (at_readable r.entries w.readable w.not_above) sounds
        (so_ends w.behind w.ended)
        (omega (arith, ap length w.bytes, w.short))
