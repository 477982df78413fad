-- A node with a parent has it above, a root what the placing says.
use native.Mathlib.Omega.{arith}
use Rattle.solve_rule1.proofs.SolvedTables.{solved_length, up_parent, up_hung}
use Rattle.solve_rule1.proofs.above.Goals as goal

pub bounds-p-v : goal.bounds-p-v
bounds-p-v c =
    let a = c.args in
    omega (arith, c.requires.1, solved_length a.graph.now.n a.graph.now.parent a.p.now c.requires.0)

pub returns-then-over : goal.returns-then-over
returns-then-over c = λ s.
    let a = c.args in
    up_hung a.graph.now.n a.graph.now.parent a.p.now s a.v c.requires.1 c.if-over.true

pub returns-else-over : goal.returns-else-over
returns-else-over c = λ s.
    let a = c.args in
    up_parent a.graph.now.n a.graph.now.parent a.p.now s a.v c.requires.1 c.if-over.false
