-- A line with a label gives it.
use Rattle.naming.proofs.LabelsRead.{label_stands, label_read}
use Rattle.naming.proofs.labels.read_label.Goals as goal

pub returns-in-Some : goal.returns-in-Some
returns-in-Some c = label_read _ _ _ _ _ _ _ _ _ _ _ _ _ c.requires.split_le_filled c.start_of-label.ensures c.in-Some.is (label_stands _ _ _ c.requires.at_le_end c.start_of-label.ensures c.in-Some.is) _ c.size.ensures.value c.size.ensures.upper_bound _ _ c.label_value.ensures c.give-more.ensures
