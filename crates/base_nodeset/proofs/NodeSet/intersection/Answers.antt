-- Both words by `&`, which works bit by bit.
use Rattle.base_nodeset.proofs.Laws.{member_and}
use Rattle.base_nodeset.proofs.NodeSet.intersection.Goals as goal

pub returns : goal.returns
returns c = member_and _ _ _ _
