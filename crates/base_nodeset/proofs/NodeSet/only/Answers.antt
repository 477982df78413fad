-- One bit of one word: 1 << k loses nothing.
use Prim.Native.Nat.{◌-◌}
use native.Mathlib.Omega.{arith}
use Rattle.base_nodeset.proofs.Words.{shift_one}
use Rattle.base_nodeset.proofs.Laws.{member_only_low, member_only_high}
use Rattle.base_nodeset.proofs.NodeSet.only.Goals as goal

pub returns-then-k-lt64 : goal.returns-then-k-lt64
returns-then-k-lt64 c j = rw (shift_one 64 c.args.k c.if-k-lt64.true) (member_only_low _ j c.if-k-lt64.true)

pub returns-else-k-lt64 : goal.returns-else-k-lt64
returns-else-k-lt64 c j = rw (shift_one 64 (c.args.k - 64) (omega arith)) (member_only_high _ j c.if-k-lt64.false)
