use Rattle.solve_reduce.proofs.Settling.{filled_first}
use Rattle.solve_reduce.proofs.settle.clear.Goals as goal

pub returns : goal.returns
returns c = filled_first c.args.n _ c.args.out.now c.fill.new.self c.requires (c.fill.ensures.after (λ y h. h))
