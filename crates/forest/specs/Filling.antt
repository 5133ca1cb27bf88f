-- The exponents of a reduced form, in the tables that were lent: of a word's form (01, 'What the desk can be asked')
-- and of the form of a product of powers (02, [1]). Assumes nothing.
use Rattle.std.specs.Prelude.{cond, List, ℕ, suc, ◌+◌, ltb, length}
use Rattle.lists.specs.Tables.{filled}
use Rattle.group.specs.Letters.{Word}
use Rattle.group.specs.Limits.{limit}
use Rattle.group.specs.Forms.{Side, Form, exponent, levels}
use Rattle.group.specs.Products.{form_of}
use Rattle.group.specs.Powers.{SignedPower, product_letters}
use Rattle.refusals.specs.Outcomes.{Outcome, accepted, refused, after}

-- A table at exit: entry i is the exponent of index i for each i up to the number of letters; everything beyond is
-- unchanged.
abbrev pub table_after : Side → Outcome Word → List ℕ → List ℕ
table_after s o t = after o t (λ w. filled (length w + 1) (exponent s (form_of w)) t)

-- The reduced form of a product of powers, each read through its letters.
abbrev pub product_form : List SignedPower → Form
product_form ps = form_of (product_letters ps)

-- Powers beside tables of these lengths: 11 where their form has an index above the limit, 6 where a table has fewer
-- entries than the limit and one.
abbrev pub tables_for : (nb na : ℕ) → List SignedPower → Outcome (List SignedPower)
tables_for nb na ps =
    cond (ltb (suc limit) (levels (product_form ps))) (refused 11 0)
    (cond (ltb nb (suc limit)) (refused 6 0) (cond (ltb na (suc limit)) (refused 6 0) (accepted ps)))

-- A table at exit: entry i is the exponent of index i for each i up to the limit; everything beyond is unchanged.
abbrev pub product_table : Side → Outcome (List SignedPower) → List ℕ → List ℕ
product_table s o t = after o t (λ ps. filled (suc limit) (exponent s (product_form ps)) t)
