use mathlib.Core.Path.{◌≡◌}
use lib.ListN.{length}
use Rattle.base_finite.specs.Below.{count}
use Rattle.base_nodeset.specs.Set.{mem}
use Rattle.base_nodeset.proofs.Writing.{Left}
use Rattle.sheet_encode.proofs.Runs.{edge_command}
use Rattle.sheet_encode.proofs.write_row.Given as goal

abbrev pub invariant-loop-r : goal.invariant-loop-r
invariant-loop-r l = (length l.out ≡ length l.initial.out) × Left (edge_command l.l) l.initial.left l.left l.initial.out l.start l.out l.at

abbrev pub decreases-loop-r : goal.decreases-loop-r
decreases-loop-r l = count 128 (mem l.left)
