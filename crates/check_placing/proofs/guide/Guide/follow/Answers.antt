use native.Mathlib.Omega.{arith}
use Rattle.check_placing.proofs.Guides.{not_over, reads}
use Rattle.check_placing.proofs.guide.Guide.follow.Goals as goal

pub returns-then-not-turn : goal.returns-then-not-turn
returns-then-not-turn c =
    λ g st s f.
    let end = (c.turn.ensures g _ _ (c.loop-turn.invariant g st)).1 c.if-not-turn.true in
    reads c.settles.result end (c.settles.ensures end.graph end.trees end.given) s f

pub returns : goal.returns
returns c = λ g st s f. absurd (not_over (c.loop-turn.invariant g st) (omega arith))
