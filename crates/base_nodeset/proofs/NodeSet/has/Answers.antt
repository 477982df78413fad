-- The word that k is in, and the bit of it.
use mathlib.Core.Path.{sym}
use Rattle.base_nodeset.specs.Set.{bit}
use Rattle.base_nodeset.proofs.Laws.{member_low, member_high}
use Rattle.base_nodeset.proofs.NodeSet.has.Goals as goal

pub returns-then-k-lt64 : goal.returns-then-k-lt64
unfolding bit
returns-then-k-lt64 c = sym (member_low _ _ _ c.if-k-lt64.true)

pub returns-else-k-lt64 : goal.returns-else-k-lt64
unfolding bit
returns-else-k-lt64 c = sym (member_high _ _ _ c.if-k-lt64.false)
