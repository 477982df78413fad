use mathlib.Core.Path.{sym, ◌∙◌}
use native.Mathlib.Omega.{arith}
use borrow.Author.Count.{below_none, below_more}
use Rattle.check_placing.proofs.Shapes.{downward_every, downward_fails}
use Rattle.check_placing.proofs.shape.downward.Goals as goal

pub loop-l-init : goal.loop-l-init
loop-l-init c = below_none _

pub returns-then-strays : goal.returns-then-strays
returns-then-strays c =
    let a = c.args in
    sym (downward_fails a.n a.heads.now a.rows.now c.loop-l.l (omega arith) (sym c.strays.ensures ∙ c.if-strays.true))

pub loop-l-preserved : goal.loop-l-preserved
loop-l-preserved c = below_more _ _ c.loop-l.invariant (sym c.strays.ensures ∙ c.if-strays.false)

pub returns : goal.returns
returns c =
    let a = c.args in
    let l = c.loop-l in
    sym (downward_every a.n a.heads.now a.rows.now (λ k h. l.invariant k (omega arith)))
