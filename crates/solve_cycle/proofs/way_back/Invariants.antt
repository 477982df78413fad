-- Each turn goes one step further back.
use Rattle.solve_cycle.specs.Spelling.{WayBack}
use Rattle.solve_cycle.proofs.way_back.Given as goal

abbrev pub invariant-loop-k : goal.invariant-loop-k
invariant-loop-k l = WayBack l.parent l.queue l.came l.at l.k l.initial.out l.out l.c

abbrev pub decreases-loop-k : goal.decreases-loop-k
decreases-loop-k l = l.k
