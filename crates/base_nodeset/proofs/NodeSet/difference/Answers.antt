-- Both words by `^` and `&`, which work bit by bit.
use Rattle.base_nodeset.proofs.Laws.{member_difference}
use Rattle.base_nodeset.proofs.NodeSet.difference.Goals as goal

pub returns : goal.returns
returns c = member_difference _ _ _ _
