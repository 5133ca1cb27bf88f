-- what no claim reaches
pub mod inside
