-- 10, or the three answers.
use native.Mathlib.Omega.{arith}
use Rattle.solve_answer.proofs.Answering.{small_placing, placing_answered}
use Rattle.solve_start.proofs.Starts.{parents_table}
use Rattle.solve_answer.proofs.checked_placing.Goals as goal

pub returns-then-placing-graph : goal.returns-then-placing-graph
returns-then-placing-graph c =
    λ s. small_placing s _ (omega (arith, c.if-placing-graph.true))

pub check-requires : goal.check-requires
check-requires c =
    let s = c.requires in (parents_table s, omega (arith, c.if-placing-graph.false))

pub returns : goal.returns
returns c =
    λ s. placing_answered s _ _ (omega (arith, c.if-placing-graph.false)) c.check.ensures
