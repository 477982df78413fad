-- The nodes that are no node's parent.
use Rattle.base_tables.proofs.TreeLaws.{leaves_within, leaves_of}
use Rattle.base_tables.proofs.trees.leaf_nodes.Goals as goal

pub returns : goal.returns
returns c = record { by_index = leaves_within _ c.numbers.result c.inner_nodes.result c.difference.result c.numbers.ensures c.difference.ensures; v_value = λ g s t. leaves_of s t c.numbers.result c.inner_nodes.result c.difference.result c.numbers.ensures c.inner_nodes.ensures c.difference.ensures }
