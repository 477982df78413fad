-- The sets that the parts make.
use mathlib.Core.Path.{refl}
use Rattle.base_tables.proofs.TreeLaws.{roots_within, roots_are}
use Rattle.base_tables.proofs.trees.ends.Goals as goal

pub returns-clause-trees_of : goal.returns-clause-trees_of
returns-clause-trees_of c = λ g s t. record { nodes = t.nodes; leaves_are = c.leaf_nodes.ensures.v_value g s t; roots_are = roots_are s t _ c.root_nodes.ensures }

pub returns-clause-bounded : goal.returns-clause-bounded
returns-clause-bounded c = (record { few = c.requires.few; leaves_within = c.leaf_nodes.ensures.by_index; roots_within = roots_within _ _ _ c.root_nodes.ensures }, refl)
