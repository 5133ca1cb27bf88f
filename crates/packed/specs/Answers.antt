-- The outcome of an answer that is a node. Assumes nothing.
use Rattle.std.specs.Prelude.{ℕ, Result, Ok, Err}
use Rattle.refusals.specs.declared.Refusal.{Refusal}
use Rattle.refusals.specs.declared.NodeNumber.{NodeNumber}
use Rattle.refusals.specs.Outcomes.{Outcome, accepted, refusal}

-- The value is the node's number.
abbrev pub node_end_of : Result NodeNumber Refusal → Outcome ℕ
node_end_of (Ok n) = accepted n.0
node_end_of (Err r) = refusal r
