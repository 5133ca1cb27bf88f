-- `record_to_label_length` meets its contract. Assumes nothing.
use Rattle.geodesics.proofs.LabelSums.{form_labels}
use Rattle.pairs.proofs.Answers.{measured_as}
use Rattle.pairs.proofs.record_to_label_length.Goals as goal

pub returns : goal.returns
returns c = measured_as form_labels c.measured.ensures
