-- The lowest member but one is the lowest of the others.
use Rattle.solve_reduce.proofs.Choices.{second_pop}
use Rattle.solve_reduce.proofs.forks.second_lowest.Goals as goal

pub returns : goal.returns
returns c = second_pop _ c.pop_first.ensures c.lowest.ensures
