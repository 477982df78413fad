-- The tables are long enough.
use native.Mathlib.Omega.{arith}
use Rattle.solve_numbered.proofs.Numbers.{small_tables, large_tables}
use Rattle.solve_stretch.proofs.Placings.{past_limit}
use Rattle.solve_stretch.proofs.stretch.Goals as goal

pub returns-then-passed-ge-LAST : goal.returns-then-passed-ge-LAST
returns-then-passed-ge-LAST c = λ s. past_limit s.walked.graph _ _ (omega (arith, c.if-passed-ge-LAST.true))

pub stretch_in-requires : goal.stretch_in-requires
stretch_in-requires c = record { in_bounds = (c.requires.0, omega arith, c.requires.1); tables = small_tables c.args.trees.now.n (omega arith) }

pub stretch_in-requires-else-trees-le-SMALL : goal.stretch_in-requires-else-trees-le-SMALL
stretch_in-requires-else-trees-le-SMALL c = record { in_bounds = (c.requires.0, omega arith, c.requires.1); tables = large_tables c.args.trees.now.n c.requires.0.walked.table.bounded.few }
