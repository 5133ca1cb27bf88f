-- The steps of growing; its contract stands with those of the other calls, packed/specs/Promises.antt.
-- what no claim reaches
pub mod inside
