-- From a fresh register, any run of filings answers as the plain list does. Assumes nothing.
use mathlib.Core.Path.{◌≡◌, refl, sym, ap, ◌∙◌, subst}
use mathlib.Core.Bool.{Bool, true, false, cond, true≢false}
use mathlib.Core.List.{List, [], ◌∷◌, ◌++◌}
use mathlib.Core.Option.{Option, none, some}
use Prim.Native.Nat.{ℕ, zero, suc, ◌+◌, ◌≤◌}
use native.Mathlib.Omega.{arith}
use lib.ListN.{length, length-append}
use Rattle.lists.specs.Entries.{At}
use Rattle.lists.specs.SameBytes.{same_bytes}
use Rattle.lists.proofs.SameBytes.{same_bytes_lem, bytes_same}
use Rattle.group.specs.Letters.{Word}
use Rattle.group.specs.Limits.{limit}
use Rattle.refusals.specs.Outcomes.{Outcome, accepted, refused, then}
use Rattle.records.specs.Format.{encode}
use Rattle.words.specs.Recording.{judged_with}
use Rattle.registers.specs.Format.{Entry, Register, register_bytes, stored}
use Rattle.registers.specs.Reading.{holds_form, number_for}
use Rattle.registers.proofs.Written.{Holds, holds_reads}
use Rattle.registers.proofs.WellFormed.{holds_well_formed}
use Rattle.registers.proofs.Sums.{live-sum}
use Rattle.updates.specs.Accounts.{account_in}
use Rattle.updates.specs.Entering.{new_entry, present, stored_form, with_entry, entered, Found, grown}
use Rattle.updates.specs.Entering.{answered, entered_word, entered_in, register_after, Answer, answer_of, entered_of}
use Rattle.updates.specs.History as H
use Rattle.updates.specs.History.{SameElement, Entering, EnteredBy, Run, Fresh, Kept, Plain, nothing, with_word}
use Rattle.updates.specs.History.{Lists, Listing, new_in, new_entries, HistoryOf}
use Rattle.updates.proofs.StoredForms.{stored_read, stored↔same, word_accepted}
use Rattle.updates.proofs.Following.{grown-holds}
use Rattle.updates.proofs.Fitting.{Room, grown-length, entered_accepted}

-- The entries are those of the words that are kept, one for one.
abbrev Match : List Entry → List Kept → Type 0
Match [] [] = Unit {0}
Match [] (k ∷ ks) = ⊥
Match (e ∷ es) [] = ⊥
Match (e ∷ es) (k ∷ ks) =
    (e.number ≡ k.number) × (e.form ≡ stored_form k.word) × (length k.word ≤ limit) × Match es ks

match_one : (es : List Entry) (ks : List Kept) (e : Entry) (k : Kept) → Match es ks → e.number ≡ k.number
    → e.form ≡ stored_form k.word → length k.word ≤ limit → Match (es ++ (e ∷ [])) (ks ++ (k ∷ []))
match_one [] [] e k m n f l = (n, f, l, tt)
match_one [] (x ∷ ks) e k m n f l = absurd m
match_one (x ∷ es) [] e k m n f l = absurd m
match_one (x ∷ es) (y ∷ ks) e k m n f l = (m.0, m.1, m.2, match_one es ks e k m.3 n f l)

-- Where a number is found, a word of the element is kept under it.
record Keeps (ks : List Kept) (w : Word) (n : ℕ) : Type 0 where
  place : ℕ
  word : Kept
  at : At ks place word
  same_element_lem : SameElement word.word w
  number_is : n ≡ word.number

later : (ks : List Kept) (k : Kept) (w : Word) (n : ℕ) → Keeps ks w n → Keeps (k ∷ ks) w n
later ks k w n h =
    record {
      place = suc h.place;
      word = h.word;
      at = h.at;
      same_element_lem = h.same_element_lem;
      number_is = h.number_is;
    }

found-kept : (es : List Entry) (ks : List Kept) (w : Word) (n : ℕ) → length w ≤ limit → Match es ks
    → number_for (stored_form w) es ≡ some n → Keeps ks w n
found-kept [] ks w n l m h = let c : ◌≡◌ {A = ℕ} 0 1 = cc in absurd (omega arith)
found-kept (e ∷ es) [] w n l m h = absurd m
found-kept (e ∷ es) (k ∷ ks) w n l m h =
    go (λ q. found-kept es ks w n l m.3 q) (holds_form (stored_form w) e) refl h
  where
    go : (number_for (stored_form w) es ≡ some n → Keeps ks w n) → (b : Bool) → holds_form (stored_form w) e ≡ b
        → cond b (some e.number) (number_for (stored_form w) es) ≡ some n → Keeps (k ∷ ks) w n
    go behind true t q =
        let i : e.number ≡ n = cc in
        let same = same_bytes_lem (encode e.form) (encode (stored_form w)) t in
        record {
          place = 0;
          word = k;
          at = refl;
          same_element_lem = (stored↔same k.word w m.2 l).0 (ap encode (sym m.1) ∙ same);
          number_is = sym i ∙ m.0;
        }
    go behind false t q = later ks k w n (behind q)

none_kept : (es : List Entry) (ks : List Kept) (w : Word) → length w ≤ limit → Match es ks
    → number_for (stored_form w) es ≡ none → (i : ℕ) (k : Kept) → At ks i k → SameElement k.word w → ⊥
none_kept [] [] w l m h i k a s = a
none_kept [] (x ∷ ks) w l m h i k a s = m
none_kept (e ∷ es) [] w l m h i k a s = m
none_kept (e ∷ es) (x ∷ ks) w l m h i k a s =
    go (λ q j b. none_kept es ks w l m.3 q j k b s) (holds_form (stored_form w) e) refl h
  where
    rest : (number_for (stored_form w) es ≡ none → (j : ℕ) → At ks j k → ⊥) → (j : ℕ)
        → number_for (stored_form w) es ≡ none → holds_form (stored_form w) e ≡ false → At (x ∷ ks) j k → ⊥
    rest behind zero q f b =
        let same : encode e.form ≡ encode (stored_form w) =
        ap encode m.1
        ∙ (stored↔same x.word w m.2 l).1 (subst (λ (y : Kept). SameElement y.word w) (sym b) s) in
        let t : holds_form (stored_form w) e ≡ true =
        ap (λ (z : List ℕ). same_bytes (encode e.form) z) (sym same) ∙ bytes_same (encode e.form) in
        true≢false (sym t ∙ f)
    rest behind (suc j) q f b = behind q j b

    go : (number_for (stored_form w) es ≡ none → (j : ℕ) → At ks j k → ⊥) → (b : Bool)
        → holds_form (stored_form w) e ≡ b → cond b (some e.number) (number_for (stored_form w) es) ≡ none → ⊥
    go behind true t q = let c : ◌≡◌ {A = ℕ} 0 1 = cc in omega arith
    go behind false t q = rest behind i q t a

-- A buffer, its register and the plain list.
record Shows (s : List ℕ) (r : Register) (p : Plain) : Type 0 where
  holds : Holds s r
  last_same : r.last ≡ p.last
  match : Match r.entries p.kept

-- One call: by what the word, the register and the search come to.
module _ (c : Entering) (s t : List ℕ) (r : Register) (p : Plain) (sh : Shows s r p) (by : EnteredBy c s t) where
  -- What the call comes to.
  abbrev outcome : Outcome Found
  outcome = entered_in c.word c.entry s c.holder

  abbrev answer : Outcome Answer
  answer = entered_of c.answer

  abbrev Goal : Type 0
  Goal =
      (q : Plain) × (u : Register) × Lists p c.word answer q × Shows t u q
      × (length u.entries ≡ new_in answer + length r.entries)

  answers : (o : Outcome Found) → outcome ≡ o → answer ≡ answer_of c.holder o
  answers o f = by.result ∙ ap (answer_of c.holder) f

  leaves : (o : Outcome Found) → outcome ≡ o → t ≡ register_after o s
  leaves o f = by.register ∙ ap (λ (x : Outcome Found). register_after x s) f

  -- Nothing changed.
  stays : (o : Outcome Answer) → answer ≡ o → new_in o ≡ 0 → t ≡ s → Lists p c.word o p → Goal
  stays o a z e l = (
    p,
    r,
    subst (λ (x : Outcome Answer). Lists p c.word x p) (sym a) l,
    subst (λ (x : List ℕ). Shows x r p) (sym e) sh,
    omega (arith, ap new_in a, z),
  )

  refusing : (k q : ℕ) → outcome ≡ refused k q → Goal
  refusing k q g = stays (refused k q) (answers (refused k q) g) refl (leaves (refused k q) g) (H.refusal k q)

  module _ (w : Word) (j : judged_with c.word c.entry ≡ accepted w) where
    -- The register and the entry that is new.
    abbrev more : Register
    more = with_entry r c.holder (stored_form w)

    abbrev entry : Entry
    entry = record { number = suc r.last; holder = c.holder; form = stored_form w }

    abbrev reply : Answer
    reply = record { reply = new_entry (suc r.last); account = account_in c.holder more }

    short : length w ≤ limit
    short = (word_accepted c.word c.entry w j).0

    -- Present.
    again : (k : ℕ) → number_for (stored_form w) r.entries ≡ some k
        → outcome ≡ answered (some k) r (length s) c.holder (stored_form w) → Goal
    again k e f =
        let x : Answer = record { reply = present k; account = account_in c.holder r } in
        let was = found-kept r.entries p.kept w k short sh.match e in
        stays (accepted x) (answers _ f) refl (leaves _ f)
        (H.again w was.place was.word x (word_accepted c.word c.entry w j).1 was.at
        was.same_element_lem (ap present was.number_is))

    -- New.
    enters : number_for (stored_form w) r.entries ≡ none → Room r (length s) c.holder (stored_form w)
        → outcome ≡ accepted (grown more) → Goal
    enters e room g =
        let left : t ≡ stored more s = leaves (accepted (grown more)) g in
        let fits : length (register_bytes more) ≤ length s =
        omega (arith, room.room, grown-length r c.holder (stored_form w)) in
        let said = answers (accepted (grown more)) g in (
          with_word p w,
          more,
          subst (λ (x : Outcome Answer). Lists p c.word x (with_word p w)) (sym said)
              (H.first w reply (word_accepted c.word c.entry w j).1
              (none_kept r.entries p.kept w short sh.match e)
              (ap (λ (i : ℕ). new_entry (suc i)) sh.last_same)),
          record {
            holds =
                subst (λ (x : List ℕ). Holds x more) (sym left)
                (grown-holds s r c.holder (stored_form w) sh.holds e room.live_few (stored_read w short)
                by.two_bytes_is fits);
            last_same = ap suc sh.last_same;
            match =
                match_one r.entries p.kept entry (record { number = suc p.last; word = w }) sh.match
                (ap suc sh.last_same) refl short;
          },
          omega (arith, ap new_in said, length-append r.entries (entry ∷ [])),
        )

    by_entering : number_for (stored_form w) r.entries ≡ none → (o : Outcome Register)
        → entered r (length s) c.holder (stored_form w ∷ []) ≡ o
        → outcome ≡ then o (λ q. accepted (grown q)) → Goal
    by_entering e (refused k q) m f = refusing k q f
    by_entering e (accepted q) m f =
        let is = entered_accepted r (length s) c.holder (stored_form w) q m in
        enters e is.1 (f ∙ ap (λ (x : Register). accepted (grown x)) is.0)

    by_search : (x : Option ℕ) → number_for (stored_form w) r.entries ≡ x
        → outcome ≡ answered x r (length s) c.holder (stored_form w) → Goal
    by_search (some k) e f = again k e f
    by_search none e f = by_entering e (entered r (length s) c.holder (stored_form w ∷ [])) refl f

  by_word : (o : Outcome Word) → judged_with c.word c.entry ≡ o → Goal
  by_word (refused k q) j = refusing k q (ap (λ (o : Outcome Word). then o (λ w. entered_word s c.holder w)) j)
  by_word (accepted w) j =
      by_search w j (number_for (stored_form w) r.entries) refl
      (ap (λ (o : Outcome Word). then o (λ x. entered_word s c.holder x)) j
      ∙ ap (λ (o : Outcome Register). then o (λ x. answered (number_for (stored_form w) x.entries) x (length s)
      c.holder (stored_form w))) (holds_reads s r sh.holds))

  one_call : Goal
  one_call = by_word (judged_with c.word c.entry) refl

run : (cs : List Entering) (s t : List ℕ) (r : Register) (p : Plain) → Shows s r p → Run cs s t
    → (q : Plain) × (u : Register) × Listing cs p q × Shows t u q
    × (length u.entries ≡ new_entries cs + length r.entries)
run [] s t r p sh h = (p, r, refl, subst (λ (x : List ℕ). Shows x r p) h sh, omega arith)
run (c ∷ cs) s t r p sh (m, by, rest) =
    let one = one_call c s m r p sh by in
    let more = run cs m t one.1 one.0 one.3 rest in
    (more.0, more.1, (one.0, one.2, more.2), more.3, omega (arith, one.4, more.4))

-- A fresh register has no entry.
abbrev empty : Register
empty = record { last = 0; entries = [] }

pub history : (cs : List Entering) (s t : List ℕ) → Fresh s → Run cs s t → HistoryOf cs t
history cs s t fresh h =
    let start : Shows s empty nothing =
    record {
      holds = record {
        tail = fresh.behind;
        written = fresh.bytes;
        ended = fresh.ended;
        readable = tt;
        below = tt;
        sound_so = refl;
        short = fresh.short;
      };
      last_same = refl;
      match = tt;
    } in
    let all = run cs s t empty nothing start h in
    record {
      plain = all.0;
      listed = all.2;
      register = all.1;
      well_formed = holds_well_formed t all.1 all.3.holds;
      sum = live-sum 65536 all.1.entries all.3.holds.below ∙ omega (arith, all.4);
    }
