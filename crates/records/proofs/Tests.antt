-- What the tests of a record say: `both`, and a choice by a test. Assumes nothing.
use mathlib.Core.Path.{◌≡◌, refl, sym}
use mathlib.Core.Bool.{Bool, true, false, cond, true≢false}
use Rattle.clause.specs.Clause.{both}

pub both_left : (p q : Bool) → both p q ≡ true → p ≡ true
both_left true q e = refl
both_left false q e = e

pub both_right_lem : (p q : Bool) → both p q ≡ true → q ≡ true
both_right_lem true q e = e
both_right_lem false q e = absurd (true≢false (sym e))

pub true_both : (p q : Bool) → p ≡ true → q ≡ true → both p q ≡ true
true_both true q x y = y
true_both false q x y = x

-- A test that answers `false` where another passes.
pub unless_fails : (p q : Bool) → cond p false q ≡ true → p ≡ false
unless_fails true q e = sym e
unless_fails false q e = refl

pub unless_passes : (p q : Bool) → cond p false q ≡ true → q ≡ true
unless_passes true q e = absurd (true≢false (sym e))
unless_passes false q e = e

pub fails_unless : (p q : Bool) → p ≡ false → q ≡ true → cond p false q ≡ true
fails_unless true q x y = sym x
fails_unless false q x y = y

-- A test that passes where one of two does.
pub neither_left : (p q : Bool) → cond p true q ≡ false → p ≡ false
neither_left true q e = e
neither_left false q e = refl

pub neither_right : (p q : Bool) → cond p true q ≡ false → q ≡ false
neither_right true q e = absurd (true≢false e)
neither_right false q e = e

pub fails_neither : (p q : Bool) → p ≡ false → q ≡ false → cond p true q ≡ false
fails_neither true q x y = x
fails_neither false q x y = y
