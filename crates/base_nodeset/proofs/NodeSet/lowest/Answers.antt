-- The lowest set bit of the first word that has one. A word of none has 64 trailing zeros.
use native.Mathlib.Omega.{arith}
use lib.Count.{trailing_le}
use borrow.Author.Tests.{eq-eqb, ne_eqb}
use Rattle.base_nodeset.proofs.Laws.{least_member}
use Rattle.base_nodeset.proofs.NodeSet.lowest.Goals as goal

pub overflow_cast-result : goal.overflow_cast-result
overflow_cast-result c = record { fits = omega (arith, trailing_le 64 c.args.self.high) }

pub overflow_add-result : goal.overflow_add-result
overflow_add-result c = record { fits = omega (arith, trailing_le 64 c.args.self.high) }

pub overflow_cast-result-else-self-eq0 : goal.overflow_cast-result-else-self-eq0
overflow_cast-result-else-self-eq0 c = record { fits = omega (arith, trailing_le 64 c.args.self.low) }

pub returns-then-self-eq0 : goal.returns-then-self-eq0
returns-then-self-eq0 c =
    let s = c.args.self in
    rw (least_member s.low s.high (omega arith), eq-eqb _ _ c.if-self-eq0.true)

pub returns-else-self-eq0 : goal.returns-else-self-eq0
returns-else-self-eq0 c =
    let s = c.args.self in
    rw (least_member s.low s.high (omega arith), ne_eqb _ _ c.if-self-eq0.false)
