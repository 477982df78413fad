-- The lowest bit of the low word is the lowest member, and where that word has none, the lowest bit of the high word.
use native.Mathlib.Omega.{arith}
use Rattle.base_nodeset.proofs.Words.{trailing_below}
use Rattle.base_nodeset.proofs.Members.{pops_zero, pops_low, pops_high}
use Rattle.base_nodeset.proofs.NodeSet.pop_first.Goals as goal

pub overflow_cast-k : goal.overflow_cast-k
overflow_cast-k c = record { fits = omega (arith, trailing_below 64 c.args.self.now.low (omega arith) c.if-self-ne0.true) }

pub without_low-requires : goal.without_low-requires
without_low-requires c = omega (arith, trailing_below 64 c.args.self.now.low (omega arith) c.if-self-ne0.true)

pub overflow_cast-k-then-self-ne0-2 : goal.overflow_cast-k-then-self-ne0-2
overflow_cast-k-then-self-ne0-2 c = record { fits = omega (arith, trailing_below 64 c.args.self.now.high (omega arith) c.if-self-ne0-2.true) }

pub overflow_add-result : goal.overflow_add-result
overflow_add-result c = record { fits = omega (arith, trailing_below 64 c.args.self.now.high (omega arith) c.if-self-ne0-2.true) }

pub without_high-requires : goal.without_high-requires
without_high-requires c = omega (arith, trailing_below 64 c.args.self.now.high (omega arith) c.if-self-ne0-2.true)

pub returns-then-self-ne0 : goal.returns-then-self-ne0
returns-then-self-ne0 c = pops_low c.args.self.now _ (omega arith) c.if-self-ne0.true c.without_low.ensures

pub returns-then-self-ne0-2 : goal.returns-then-self-ne0-2
returns-then-self-ne0-2 c = pops_high c.args.self.now _ (omega arith) c.if-self-ne0.false c.if-self-ne0-2.true c.without_high.ensures

pub returns-else-self-ne0-2 : goal.returns-else-self-ne0-2
returns-else-self-ne0-2 c = pops_zero c.args.self.now c.if-self-ne0.false c.if-self-ne0-2.false
