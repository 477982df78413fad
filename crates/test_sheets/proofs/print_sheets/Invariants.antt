-- Each sheet takes the two bytes of its length at least.
use Rattle.std.proofs.Common.{length}
use Rattle.test_sheets.proofs.print_sheets.Given as goal

abbrev pub decreases-loop-left : goal.decreases-loop-left
decreases-loop-left g l = length l.left
