-- By the test, v comes or goes.
use Rattle.solve_reduce.proofs.Tables.{noted_in, noted_out}
use Rattle.solve_reduce.proofs.forks.noted.Goals as goal

pub returns-then-second_lowest-lt128 : goal.returns-then-second_lowest-lt128
returns-then-second_lowest-lt128 c = noted_in c.args.forks c.args.v c.args.leaves c.with.result c.second_lowest.result c.second_lowest.ensures c.if-second_lowest-lt128.true c.with.ensures

pub returns : goal.returns
returns c = noted_out c.args.forks c.args.v c.args.leaves c.without.result c.second_lowest.result c.second_lowest.ensures c.if-second_lowest-lt128.false c.without.ensures
