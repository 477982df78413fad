-- The tables are long enough.
use native.Mathlib.Omega.{arith}
use Rattle.solve_numbered.proofs.Numbers.{small_tables, large_tables}
use Rattle.solve_numbered.proofs.count.Goals as goal

pub count_in-requires : goal.count_in-requires
count_in-requires c = (c.requires, small_tables c.args.trees.now.n (omega arith))

pub count_in-requires-else-trees-le-SMALL : goal.count_in-requires-else-trees-le-SMALL
count_in-requires-else-trees-le-SMALL c = (c.requires, large_tables c.args.trees.now.n c.requires.walked.table.bounded.few)
