-- A word with no bit set is 0.
use native.Mathlib.Omega.{arith}
use borrow.Author.Tests.{eq-eqb, ne_eqb}
use Rattle.base_nodeset.proofs.Laws.{none_member}
use Rattle.base_nodeset.proofs.NodeSet.is_empty.Goals as goal

pub returns-then-self-eq0 : goal.returns-then-self-eq0
returns-then-self-eq0 c =
    let s = c.args.self in
    rw (none_member s.low s.high (omega arith) (omega arith), eq-eqb _ _ c.if-self-eq0.true)

pub returns-else-self-eq0 : goal.returns-else-self-eq0
returns-else-self-eq0 c =
    let s = c.args.self in
    rw (none_member s.low s.high (omega arith) (omega arith), ne_eqb _ _ c.if-self-eq0.false)
