use Rattle.std.proofs.Common.{◌∙◌}
use Rattle.sheet_labels.proofs.Fits.{mislabelled_twice, mislabelled_held}
use Rattle.sheet_labels.proofs.fit.mislabelled.Goals as goal

pub returns-then-labels : goal.returns-then-labels
returns-then-labels c = λ m t d heads edges keeps holds. rw c.if-labels.true (mislabelled_twice c.requires.few holds keeps c.if-labels.true)

pub returns-else-labels : goal.returns-else-labels
returns-else-labels c = λ m t d heads edges keeps holds. c.unfit.ensures ∙ mislabelled_held c.requires.few holds keeps c.if-labels.false
