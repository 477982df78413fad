-- The tables are long enough.
use native.Mathlib.Omega.{arith}
use Rattle.solve_numbered.proofs.Numbers.{small_tables, large_tables}
use Rattle.solve_numbered.proofs.find.Goals as goal

pub find_in-requires : goal.find_in-requires
find_in-requires c = record { in_bounds = c.requires; tables = small_tables c.args.trees.now.n (omega arith) }

pub find_in-requires-else-trees-le-SMALL : goal.find_in-requires-else-trees-le-SMALL
find_in-requires-else-trees-le-SMALL c = record { in_bounds = c.requires; tables = large_tables c.args.trees.now.n c.requires.0.walked.table.bounded.few }
