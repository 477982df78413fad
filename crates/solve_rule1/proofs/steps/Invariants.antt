-- As many pairs of nodes at least lie below one another as steps were made.
use Rattle.solve_rule1.specs.Solved.{Solved}
use Rattle.solve_rule1.proofs.Stepping.{Reached}
use Rattle.solve_rule1.proofs.steps.Given as goal

abbrev pub invariant-loop-done : goal.invariant-loop-done
invariant-loop-done l =
    Solved l.graph.n l.graph.parent l.p × ((s : Solved l.graph.n l.graph.parent l.initial.p) → Reached s.sheet.graph l.initial.p l._done l.p)
