use native.Mathlib.Omega.{arith}
use Rattle.solve_test.proofs.Filled.{put_start, put_more, put_end}
use Rattle.solve_test.proofs.tables.put_all.Goals as goal

pub loop-h-init : goal.loop-h-init
loop-h-init c = put_start _ _ _ c.requires.0

pub returns : goal.returns
returns c = put_end _ _ _ c.loop-h.invariant (c.pop_first.ensures.empty c.in_default.is)

pub put-requires : goal.put-requires
put-requires c = (c.loop-h.invariant.long, (c.pop_first.ensures.lowest _ c.in-Some.is).below)

pub loop-h-smaller : goal.loop-h-smaller
loop-h-smaller c =
    let first = c.pop_first.ensures.lowest _ c.in-Some.is in
    omega arith

pub loop-h-preserved : goal.loop-h-preserved
loop-h-preserved c =
    put_more _ _ c.only-only.result _ c.only-only.ensures c.loop-h.invariant (c.pop_first.ensures.lowest _ c.in-Some.is) c.put.ensures
