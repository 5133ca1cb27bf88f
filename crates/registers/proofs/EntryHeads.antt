-- The first field of a register and the head of an entry, by the fields that are read. Assumes nothing.
use mathlib.Core.Path.{◌≡◌, refl, sym, ap, ap₂, ◌∙◌}
use mathlib.Core.Bool.{Bool, true, false, cond}
use mathlib.Core.List.{List, [], ◌∷◌}
use Prim.Native.Nat.{ℕ, ◌+◌, ◌-◌, ◌<◌, ◌≤◌}
use native.Mathlib.Omega.{arith}
use lib.ListN.{length, get_or, take, drop, length-drop, drop_of_length-le}
use lib.Seq.{get_or-drop, drop-cons, drop-drop}
use lib.Dec.{eqb, ltb}
use borrow.Author.Tests.{ltb-false, eqb-true, le-ltb, eq-eqb, ne_eqb}
use Rattle.std.specs.Prelude.{Option, Some, None, Result, Ok, Err}
use Rattle.refusals.specs.declared.Refusal.{Refusal}
use Rattle.fields.specs.Fields.{two_at, four_at_value, head_size}
use Rattle.fields.specs.inside.Reading.{field_at}
use Rattle.fields.proofs.FieldsAt.{Found, field_found}
use Rattle.refusals.specs.declared.Refusal.TheVariants.{BadRegister}
use Rattle.registers.specs.declared.Heading.{Heading}
use Rattle.registers.specs.Format.{last_tag, entry_tag, number_size, entry_base, first_size, register_most}
use Rattle.registers.specs.Reading.{ends, entry_size, entry_stands, first_stands, number_in, holder_in, record_in}
use Rattle.registers.specs.Answers.{heading_of, heading_at}
use Rattle.registers.specs.inside.Steps.{first_of, Headed}

-- Numbers behind a place.
pub two_drop : (s : List ℕ) (at k : ℕ) → two_at (drop at s) k ≡ two_at s (at + k)
two_drop s at k =
    let e : at + (k + 1) ≡ at + k + 1 = omega arith in
    omega (arith, get_or-drop at s k 0, get_or-drop at s (k + 1) 0, ap (λ (j : ℕ). get_or s j 0) e)

pub four_drop : (s : List ℕ) (at k : ℕ) → four_at_value (drop at s) k ≡ four_at_value s (at + k)
four_drop s at k =
    let e : at + (k + 2) ≡ at + k + 2 = omega arith in
    omega (arith, two_drop s at k, two_drop s at (k + 2), ap (λ (j : ℕ). two_at s j) e)

byte_drop : (s : List ℕ) (at : ℕ) → get_or (drop at s) 0 0 ≡ get_or s at 0
byte_drop s at =
    let e : at + 0 ≡ at = omega arith in
    get_or-drop at s 0 0 ∙ ap (λ (j : ℕ). get_or s j 0) e

-- The first field stands, in a buffer that is not too long.
pub record FirstField (s : List ℕ) : Type 0 where
  pub short : length s ≤ register_most
  pub stands : Found s 0 last_tag number_size

pub first_true : {s : List ℕ} → FirstField s → first_stands s ≡ true
first_true {s} h =
    simp (
      le-ltb register_most (length s) h.short,
      le-ltb (length s) first_size h.stands.within,
      eq-eqb (get_or s 0 0) last_tag h.stands.tagged,
      eq-eqb (two_at s 1) number_size (sym h.stands.size),
    )

pub first_opens : (s : List ℕ) → first_stands s ≡ true → FirstField s
first_opens s e = go (ltb register_most (length s)) (ltb (length s) first_size) (eqb (get_or s 0 0) last_tag)
    (eqb (two_at s 1) number_size) refl refl refl refl e
  where
    go : (p q t u : Bool) → ltb register_most (length s) ≡ p → ltb (length s) first_size ≡ q
        → eqb (get_or s 0 0) last_tag ≡ t → eqb (two_at s 1) number_size ≡ u
        → cond p false (cond q false (cond t u false)) ≡ true → FirstField s
    go false false true true a b c d h =
        record {
          short = ltb-false register_most (length s) a;
          stands =
              record {
                tagged = eqb-true (get_or s 0 0) last_tag c;
                size = sym (eqb-true (two_at s 1) number_size d);
                within = ltb-false (length s) first_size b;
              };
        }
    go false false true false a b c d h = let z : ◌≡◌ {A = ℕ} 0 1 = cc in absurd (omega arith)
    go false false false u a b c d h = let z : ◌≡◌ {A = ℕ} 0 1 = cc in absurd (omega arith)
    go false true t u a b c d h = let z : ◌≡◌ {A = ℕ} 0 1 = cc in absurd (omega arith)
    go true q t u a b c d h = let z : ◌≡◌ {A = ℕ} 0 1 = cc in absurd (omega arith)

pub first_last : (s : List ℕ) (k : ℕ) → FirstField s → k ≡ four_at_value s head_size → Some k ≡ first_of s
first_last s k h e = ap Some e ∙ ap (λ (p : Bool). cond p (Some (four_at_value s head_size)) None) (sym (first_true h))

pub first_missing : (s : List ℕ) → (FirstField s → ⊥) → None ≡ first_of s
first_missing s n = go (first_stands s) refl
  where
    go : (p : Bool) → first_stands s ≡ p → None ≡ cond p (Some (four_at_value s head_size)) None
    go true e = absurd (n (first_opens s e))
    go false e = refl

pub first_long : (s : List ℕ) → register_most < length s → None ≡ first_of s
first_long s lt = first_missing s (λ h. omega (arith, h.short))

pub first_no_field : (s : List ℕ) → field_at s 0 last_tag ≡ None → None ≡ first_of s
first_no_field s e =
    first_missing s
    (λ h. let b : Some number_size ≡ None = field_found s 0 last_tag number_size h.stands ∙ e in
    let z : ◌≡◌ {A = ℕ} 0 1 = cc in
    omega arith)

pub first_other_size : (s : List ℕ) (n : ℕ) → Found s 0 last_tag n → (n ≡ number_size → ⊥) → None ≡ first_of s
first_other_size s n found other = first_missing s (λ h. other (found.size ∙ sym h.stands.size))

pub first_stood : (s : List ℕ) (n k : ℕ) → length s ≤ register_most → Found s 0 last_tag n → n ≡ number_size
    → k ≡ four_at_value s head_size → Some k ≡ first_of s
first_stood s n k short found e last =
    first_last s k
    (record {
      short = short;
      stands = record { tagged = found.tagged; size = sym e ∙ found.size; within = omega (arith, found.within) };
    })
    last

-- An entry's field stands at the front, whole, with number and holder in it.
pub record Stands (s : List ℕ) : Type 0 where
  pub tagged : get_or s 0 0 ≡ entry_tag
  pub whole : entry_size s ≤ length s
  pub base : entry_base ≤ two_at s 1

pub stands_true : {s : List ℕ} → Stands s → entry_stands s ≡ true
stands_true {s} h =
    simp (
      eq-eqb (get_or s 0 0) entry_tag h.tagged,
      le-ltb (length s) (entry_size s) h.whole,
      le-ltb (two_at s 1) entry_base h.base,
    )

pub stands_opens : (s : List ℕ) → entry_stands s ≡ true → Stands s
stands_opens s e = go (eqb (get_or s 0 0) entry_tag) (ltb (length s) (entry_size s)) (ltb (two_at s 1) entry_base)
    refl refl refl e
  where
    go : (p q t : Bool) → eqb (get_or s 0 0) entry_tag ≡ p → ltb (length s) (entry_size s) ≡ q
        → ltb (two_at s 1) entry_base ≡ t → cond p (cond q false (cond t false true)) false ≡ true → Stands s
    go true false false a b c h =
        record {
          tagged = eqb-true (get_or s 0 0) entry_tag a;
          whole = ltb-false (length s) (entry_size s) b;
          base = ltb-false (two_at s 1) entry_base c;
        }
    go true false true a b c h = let z : ◌≡◌ {A = ℕ} 0 1 = cc in absurd (omega arith)
    go true true t a b c h = let z : ◌≡◌ {A = ℕ} 0 1 = cc in absurd (omega arith)
    go false q t a b c h = let z : ◌≡◌ {A = ℕ} 0 1 = cc in absurd (omega arith)

pub stands_false : (s : List ℕ) → (Stands s → ⊥) → entry_stands s ≡ false
stands_false s n = go (entry_stands s) refl
  where
    go : (p : Bool) → entry_stands s ≡ p → p ≡ false
    go true e = absurd (n (stands_opens s e))
    go false e = refl

-- At a place of a buffer.
pub found_stands : (s : List ℕ) (at n : ℕ) → Found s at entry_tag n → entry_base ≤ n → Stands (drop at s)
found_stands s at n h le =
    record {
      tagged = byte_drop s at ∙ h.tagged;
      whole = omega (arith, two_drop s at 1, h.size, h.within, length-drop at s);
      base = omega (arith, two_drop s at 1, h.size);
    }

pub stands_found : (s : List ℕ) (at : ℕ) → Stands (drop at s) → Found s at entry_tag (two_at (drop at s) 1)
stands_found s at h =
    record {
      tagged = sym (byte_drop s at) ∙ h.tagged;
      size = two_drop s at 1;
      within = omega (arith, h.whole, length-drop at s);
    }

pub found_headed : (s : List ℕ) (at n : ℕ) → Found s at entry_tag n → entry_base ≤ n → Headed s at n
found_headed s at n h le = record { size = h.size ∙ sym (two_drop s at 1); base = le; room = h.within }

pub stands_headed : (s : List ℕ) (at : ℕ) → Stands (drop at s) → Headed s at (two_at (drop at s) 1)
stands_headed s at h = found_headed s at (two_at (drop at s) 1) (stands_found s at h) h.base

-- The head of an entry, part by part.
pub heading_same : (s : List ℕ) (at n number holder start next : ℕ) → Headed s at n → number ≡ four_at_value s (at + head_size)
    → holder ≡ two_at s (at + head_size + number_size) → start ≡ at + (head_size + entry_base) → next ≡ at + head_size + n
    → ◌≡◌ {A = Heading} (record { number = number; holder = holder; start = start; next = next })
    (heading_of (drop at s) at)
heading_same s at n number holder start next h a b c d =
    let t = drop at s in
    let e : at + head_size + number_size ≡ at + (head_size + number_size) = omega arith in
    let number_is : number ≡ number_in t = a ∙ sym (four_drop s at head_size) in
    let holder_is : holder ≡ holder_in t =
    b ∙ ap (λ (k : ℕ). two_at s k) e ∙ sym (two_drop s at (head_size + number_size)) in
    let next_is : next ≡ at + entry_size t = omega (arith, d, h.size) in
    cc

-- The end of the list.
ends_at : (s : List ℕ) (at : ℕ) → at < length s → ends (drop at s) ≡ eqb (get_or s at 0) 0
ends_at s at lt = ap ends (drop-cons s at 0 lt)

pub at_end : (s : List ℕ) (at : ℕ) → length s ≤ at → (Ok None) ≡ heading_at s at
at_end s at le = rw (drop_of_length-le s le)

pub at_mark : (s : List ℕ) (at : ℕ) → at < length s → get_or s at 0 ≡ 0 → (Ok None) ≡ heading_at s at
at_mark s at lt e = simp (ends_at s at lt ∙ eq-eqb (get_or s at 0) 0 e)

-- A byte that is not 00, where no entry stands, and where one does.
pub at_wrong : (s : List ℕ) (at : ℕ) → at < length s → (get_or s at 0 ≡ 0 → ⊥) → (Stands (drop at s) → ⊥)
    → Err BadRegister ≡ heading_at s at
at_wrong s at lt n w =
    simp (ends_at s at lt ∙ ne_eqb (get_or s at 0) 0 n, stands_false (drop at s) w)

pub at_missing : (s : List ℕ) (at : ℕ) → at < length s → (get_or s at 0 ≡ 0 → ⊥)
    → field_at s at entry_tag ≡ None → Err BadRegister ≡ heading_at s at
at_missing s at lt n e =
    at_wrong s at lt n
    (λ h. let b : Some (two_at (drop at s) 1) ≡ None =
    field_found s at entry_tag (two_at (drop at s) 1) (stands_found s at h) ∙ e in
    let z : ◌≡◌ {A = ℕ} 0 1 = cc in
    omega arith)

pub at_short : (s : List ℕ) (at n : ℕ) → at < length s → (get_or s at 0 ≡ 0 → ⊥) → Found s at entry_tag n → n < entry_base
    → Err BadRegister ≡ heading_at s at
at_short s at n lt other found small =
    at_wrong s at lt other (λ h. omega (arith, h.base, two_drop s at 1, found.size))

pub at_entry : (s : List ℕ) (at n : ℕ) (h : Heading) → at < length s → (get_or s at 0 ≡ 0 → ⊥) → Found s at entry_tag n
    → entry_base ≤ n → h ≡ heading_of (drop at s) at → Ok (Some h) ≡ heading_at s at
at_entry s at n h lt other found le e =
    ap (λ (g : Heading). Ok (Some g)) e
    ∙ simp (ends_at s at lt ∙ ne_eqb (get_or s at 0) 0 other, stands_true (found_stands s at n found le))

-- Where an entry stands, its head is the answer.
pub ends_other : (s : List ℕ) → get_or s 0 0 ≡ entry_tag → ends s ≡ false
ends_other [] e = absurd (omega arith)
ends_other (x ∷ s) e = ne_eqb x 0 (λ z. omega arith)

pub stands_entry : (s : List ℕ) (at : ℕ) → Stands (drop at s)
    → heading_at s at ≡ Ok (Some (heading_of (drop at s) at))
stands_entry s at h = simp (ends_other (drop at s) h.tagged, stands_true h)

-- The entry with a head stands at a place.
pub record EntryStood (s : List ℕ) (at : ℕ) (h : Heading) : Type 0 where
  pub stands : Stands (drop at s)
  pub headed : Headed s at (two_at (drop at s) 1)
  pub head : h ≡ heading_of (drop at s) at

pub entry_stood : (s : List ℕ) (at : ℕ) (h : Heading) → heading_at s at ≡ Ok (Some h) → EntryStood s at h
entry_stood s at h e = go (ends (drop at s)) (entry_stands (drop at s)) refl e
  where
    go : (p q : Bool) → entry_stands (drop at s) ≡ q
        → cond p (Ok None) (cond q (Ok (Some (heading_of (drop at s) at))) (Err BadRegister))
        ≡ Ok (Some h)
        → EntryStood s at h
    go false true a b =
        let is = stands_opens (drop at s) a in
        record { stands = is; headed = stands_headed s at is; head = (cc) }
    go false false a b = let z : ◌≡◌ {A = ℕ} 0 1 = cc in absurd (omega arith)
    go true q a b = let z : ◌≡◌ {A = ℕ} 0 1 = cc in absurd (omega arith)

-- Where the answer is no entry, none stands.
pub no_entry : (s : List ℕ) (at : ℕ) (r : Result (Option Heading) Refusal) → r ≡ heading_at s at
    → ((h : Heading) → r ≡ Ok (Some h) → ⊥)
    → entry_stands (drop at s) ≡ false
no_entry s at r e other = stands_false (drop at s) (λ h. other (heading_of (drop at s) at) (e ∙ stands_entry s at h))

-- Its record lies behind its head and within the bytes.
module _ {s : List ℕ} {at : ℕ} {h : Heading} (d : Headed s at (two_at (drop at s) 1)) (e : h ≡ heading_of (drop at s) at)
  where
    pub start_is : h.start ≡ at + (head_size + entry_base)
    start_is = ap (λ (g : Heading). g.start) e

    pub next_is : h.next ≡ at + entry_size (drop at s)
    next_is = ap (λ (g : Heading). g.next) e

    pub record_room : h.next ≤ length s
    record_room = omega (arith, next_is, d.room)

    pub record_behind : at + entry_base < h.next
    record_behind = omega (arith, next_is, d.base)

    pub record_part : take (h.next - h.start) (drop h.start s) ≡ record_in (drop at s)
    record_part =
        let size : h.next - h.start ≡ two_at (drop at s) 1 - entry_base = omega (arith, start_is, next_is) in
        ap₂ (λ (n : ℕ) (l : List ℕ). take n l) size
        (ap (λ (k : ℕ). drop k s) start_is ∙ sym (drop-drop (head_size + entry_base) at s))
