use mathlib.Core.Path.{refl}
use native.Mathlib.Omega.{arith}
use Rattle.solve_reduce.proofs.Tables.{revise_start, revise_more, revise_end}
use Rattle.solve_reduce.proofs.reduced.revise.Goals as goal

pub loop-v-init : goal.loop-v-init
loop-v-init c = (refl, revise_start _ _ _ _, λ roots h are. are)

pub shape_of-sets : goal.shape_of-sets
shape_of-sets c = c.loop-v.invariant.0

pub returns : goal.returns
returns c = record { revised = revise_end _ _ _ _ c.loop-v.left _ (c.pop_first.ensures.empty c.in_default.is) c.loop-v.invariant.1; by_index = c.loop-v.invariant.2 }

pub revise_one-forked-requires : goal.revise_one-forked-requires
revise_one-forked-requires c =
    let first = c.pop_first.ensures.lowest _ c.in-Some.is in
    (omega (arith, c.requires _ (c.loop-v.invariant.1.of_set _ first.in_set), c.loop-v.invariant.0), first.below)

pub loop-v-smaller : goal.loop-v-smaller
loop-v-smaller c =
    let first = c.pop_first.ensures.lowest _ c.in-Some.is in
    omega arith

pub loop-v-preserved : goal.loop-v-preserved
loop-v-preserved c =
    let a = c.args in
    let l = c.loop-v in
    let first = c.pop_first.ensures.lowest _ c.in-Some.is in (
      omega (arith, l.invariant.0, c.revise_one-forked.auto),
      revise_more a.set a.less a.more _ _ l.sets _ _ _ first c.revise_one-forked.ensures.revised_at l.invariant.1,
      λ roots h are. c.revise_one-forked.ensures.forks roots (h _ (l.invariant.1.of_set _ first.in_set)) (l.invariant.2 roots h are),
    )
