-- By cases, as the definition has it.
use Rattle.solve_reduce.proofs.Settling.{byte_some, byte_none}
use Rattle.solve_reduce.proofs.settle.byte.Goals as goal

pub returns-then-l-n : goal.returns-then-l-n
returns-then-l-n c = byte_some c.args.l c.args.n c.if-l-n.true

pub returns : goal.returns
returns c = byte_none c.args.l c.args.n c.if-l-n.false
