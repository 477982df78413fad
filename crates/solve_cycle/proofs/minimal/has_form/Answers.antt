-- The rows are those of each graph that the tables hold.
use Rattle.theory_forest.proofs.Shape.{well_formed_shaped}
use Rattle.base_tables.proofs.TreeLaws.{tree_of}
use Rattle.solve_test.proofs.Solved.{end_rows}
use borrow.Author.Rules.{rules}
use Rattle.solve_cycle.proofs.minimal.has_form.Goals as goal

pub graph_rows-requires : goal.graph_rows-requires
graph_rows-requires c = (c.requires.parents_are, search rules)

pub solvable-requires : goal.solvable-requires
solvable-requires c = (c.requires.owners_are, search rules)

pub returns : goal.returns
returns c = λ g edges t.
    c.solvable.ensures g (c.requires.fits g (well_formed_shaped t.well_formed) (tree_of t)) (end_rows g (c.graph_rows.ensures g edges t))
