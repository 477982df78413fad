use Rattle.std.proofs.Common.{◌≡◌, ◌<◌, ℕ, false}
use Rattle.sheet_labels.specs.Fit.{hole_in}
use Rattle.sheet_labels.proofs.fit.holed.Given as goal

abbrev pub invariant-loop-v : goal.invariant-loop-v
invariant-loop-v l = (k : ℕ) → k < l.v → hole_in l.labels.labelled l.bare l.graph.heads k ≡ false
