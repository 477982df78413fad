-- One bit of the high word: 1 << k loses nothing.
use native.Mathlib.Omega.{arith}
use Rattle.base_nodeset.proofs.Words.{shift_one}
use Rattle.base_nodeset.proofs.Laws.{member_without_high}
use Rattle.base_nodeset.proofs.NodeSet.without_high.Goals as goal

pub returns : goal.returns
returns c j = rw (shift_one 64 c.args.k (omega arith)) (member_without_high _ _ c.args.k j)
