use mathlib.Core.Path.{refl}
use lib.ListN.{get_or}
use Rattle.base_tables.specs.Rows.{nothing}
use native.Mathlib.Omega.{arith}
use Rattle.solve_below.proofs.Roots.{gather_start, gather_more, gather_end}
use borrow.Author.Rules.{rules}
use Rattle.solve_below.proofs.gather.Goals as goal

pub loop-l-init : goal.loop-l-init
loop-l-init c = gather_start _ _ _

pub returns : goal.returns
returns c = gather_end c.args.sets.now c.args.set c.args.leaves c.loop-l.left c.loop-l.all (c.pop_first.ensures.empty c.in_default.is) c.loop-l.invariant

pub bounds-sets-l : goal.bounds-sets-l
bounds-sets-l c = c.requires _ (c.loop-l.invariant.of_leaves _ (c.pop_first.ensures.lowest _ c.in-Some.is).in_set)

pub offset_bounds-sets-l : goal.offset_bounds-sets-l
offset_bounds-sets-l c =
    let in_sets = c.requires _ (c.loop-l.invariant.of_leaves _ (c.pop_first.ensures.lowest _ c.in-Some.is).in_set) in
    search rules

pub loop-l-smaller : goal.loop-l-smaller
loop-l-smaller c =
    let first = c.pop_first.ensures.lowest _ c.in-Some.is in
    omega arith

pub loop-l-preserved : goal.loop-l-preserved
loop-l-preserved c =
    let a = c.args in
    let l = c.loop-l in
    let first = c.pop_first.ensures.lowest _ c.in-Some.is in
    gather_more a.sets.now a.set a.leaves l.left l.all _ (get_or a.sets.now c.in-Some.l nothing) c.union-all.result _ first (λ v. refl) c.union-all.ensures l.invariant
