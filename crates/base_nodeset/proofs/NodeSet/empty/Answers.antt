-- The words 0 and 0 have no member.
use Rattle.base_nodeset.proofs.Laws.{member_zero}
use Rattle.base_nodeset.proofs.NodeSet.empty.Goals as goal

pub returns : goal.returns
returns c = member_zero
