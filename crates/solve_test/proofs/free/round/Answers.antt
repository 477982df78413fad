use native.Mathlib.Omega.{arith}
use Rattle.solve_test.proofs.Rounds.{round_start, round_more, round_end}
use Rattle.solve_test.proofs.free.round.Goals as goal

pub tops-left-requires : goal.tops-left-requires
tops-left-requires c = c.requires.long.0

pub loop-f-init : goal.loop-f-init
loop-f-init c = round_start _ _ _ c.args.rem c.tops-left.result c.tops-left.ensures

pub returns : goal.returns
returns c =
    round_end _ _ _ c.args.rem c.tops-left.result c.loop-f.kept c.loop-f.left c.tops-left.ensures c.loop-f.invariant (c.pop_first.ensures.empty c.in_default.is)

pub take_out-kept-requires : goal.take_out-kept-requires
take_out-kept-requires c = record { long = (c.requires.long.0, c.requires.long.1, c.requires.long.2, (c.pop_first.ensures.lowest _ c.in-Some.is).below); symmetric = c.requires.symmetric }

pub loop-f-smaller : goal.loop-f-smaller
loop-f-smaller c =
    let first = c.pop_first.ensures.lowest _ c.in-Some.is in
    omega arith

pub loop-f-preserved : goal.loop-f-preserved
loop-f-preserved c =
    round_more _ _ _ c.args.rem c.tops-left.result c.loop-f.kept _ c.take_out-kept.result _ _ c.tops-left.ensures (c.pop_first.ensures.lowest _ c.in-Some.is) c.loop-f.invariant c.take_out-kept.ensures
