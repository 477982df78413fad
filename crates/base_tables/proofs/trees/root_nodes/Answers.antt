use Rattle.base_tables.proofs.trees.root_nodes.Goals as goal

pub returns : goal.returns
returns c = c.nodes_with.ensures
