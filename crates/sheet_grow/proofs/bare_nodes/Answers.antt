use Rattle.sheet_grow.proofs.Grown.{bare_set}
use Rattle.sheet_grow.proofs.bare_nodes.Goals as goal

pub returns : goal.returns
returns c = bare_set _ _ _ _ _ c.inner_nodes.ensures c.root_nodes.ensures c.difference.ensures
