use Rattle.std.proofs.Common.{◌≡◌, ◌≤◌}
use Rattle.sheet_labels.specs.Fit.{children_in}
use Rattle.sheet_labels.proofs.fit.children.Given as goal

abbrev pub invariant-loop-above : goal.invariant-loop-above
invariant-loop-above l = (l.found ≡ children_in l.above-index l.parent l.v) × (l.found ≤ l.above-index)
