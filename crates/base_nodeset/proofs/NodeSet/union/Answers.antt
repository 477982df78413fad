-- Both words by `|`, which works bit by bit.
use Rattle.base_nodeset.proofs.Laws.{member_or}
use Rattle.base_nodeset.proofs.NodeSet.union.Goals as goal

pub returns : goal.returns
returns c = member_or _ _ _ _
