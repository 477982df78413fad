use Rattle.solve_closure.proofs.Edges.{cleared}
use Rattle.solve_closure.proofs.clear.Goals as goal

pub returns : goal.returns
returns c = cleared _ _ _ c.empty.ensures (c.fill.ensures.after (λ y h. h))
