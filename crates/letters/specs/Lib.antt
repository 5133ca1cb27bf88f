-- Words and lines judged.
pub mod Judging
-- what no claim reaches
pub mod inside
