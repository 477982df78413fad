use Rattle.std.proofs.Common.{ap, ◌∙◌}
use lib.Dec.{ltb}
use Rattle.sheet_labels.proofs.Fits.{overlapping_differ, overlapping_held}
use Rattle.sheet_labels.proofs.fit.overlapping.Goals as goal

pub returns-then-not-labels : goal.returns-then-not-labels
returns-then-not-labels c = λ m t d keeps. ap (ltb 1) c.labelled_nodes.ensures ∙ overlapping_held keeps _ t d c.if-not-labels.true

pub returns-else-not-labels : goal.returns-else-not-labels
returns-else-not-labels c = λ m t d keeps. rw c.if-not-labels.false (overlapping_differ keeps _ t d c.if-not-labels.false)
