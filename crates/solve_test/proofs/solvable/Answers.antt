-- The tables are those of each graph that the arguments hold, so the answer is that of the graph.
use mathlib.Core.Path.{refl}
use Rattle.base_tables.specs.Rows.{in_row}
use Rattle.solve_test.proofs.Solved.{answer_is}
use Rattle.solve_test.proofs.Filled.{blank_rows, leaves_owned, leaves_are, near_symmetric}
use Rattle.solve_test.proofs.solvable.Goals as goal

pub near_rows-requires : goal.near_rows-requires
near_rows-requires c =
    (c.requires.1, blank_rows 128 _ refl c.empty-near.ensures)

pub leaf_rows-requires : goal.leaf_rows-requires
leaf_rows-requires c =
    (leaves_owned c.requires.0, blank_rows 128 _ refl c.empty-leaf.ensures)

pub eliminate-requires : goal.eliminate-requires
eliminate-requires c = record { long = (c.requires.1, c.near_rows.ensures.long, c.leaf_rows.ensures.long); symmetric = near_symmetric _ _ _ c.near_rows.ensures }

pub returns : goal.returns
returns c g fits rows =
    answer_is g fits.shaped (in_row c.args.rows.now)
    (in_row c.near_rows.new.rows) (in_row c.leaf_rows.new.rows)
    c.args.trees.now.roots fits.trees.roots_are rows.closed rows.row_is c.near_rows.ensures.near_is
    (leaves_are c.requires.0.bounded fits c.leaf_rows.ensures) c.eliminate.result c.eliminate.ensures
