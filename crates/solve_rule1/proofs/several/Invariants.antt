-- The first set holds the leaves that carry a root of those passed, the second those that carry two.
use Rattle.solve_rule1.specs.Carried.{Carrying}
use Rattle.solve_rule1.proofs.several.Given as goal

abbrev pub invariant-loop-byte : goal.invariant-loop-byte
invariant-loop-byte l = Carrying 1 l.byte-index l.p l.once × Carrying 2 l.byte-index l.p l.twice
