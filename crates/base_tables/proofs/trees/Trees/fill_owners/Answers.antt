-- The table of owners.
use mathlib.Core.Path.{◌∙◌}
use Rattle.base_tables.proofs.TreeLaws.{own_is}
use Rattle.base_tables.proofs.trees.Trees.fill_owners.Goals as goal

pub returns-clause-trees_of : goal.returns-clause-trees_of
returns-clause-trees_of c =
    λ g s t e. record {
      shaped = s;
      trees = record { nodes = e.nodes; leaves_are = e.leaves_are; roots_are = e.roots_are };
      owners_are = λ v h. c.owners.ensures.top_is v h ∙ own_is s t v h;
    }
