use mathlib.Core.Path.{refl, ap}
use mathlib.Core.Bool.{not}
use lib.ListN.{get_or}
use Rattle.base_tables.specs.Rows.{nothing}
use native.Mathlib.Omega.{arith}
use Rattle.base_nodeset.proofs.Members.{small_set}
use Rattle.solve_branch.proofs.Ends.{meets_start, meets_found, meets_more, meets_none}
use Rattle.solve_branch.proofs.dive.meets.Goals as goal

pub loop-l-init : goal.loop-l-init
loop-l-init c = meets_start _ _ _

pub returns : goal.returns
returns c = meets_none c.args.sets.now c.args.nodes c.args.leaves c.loop-l.left (c.pop_first.ensures.empty c.in_default.is) c.loop-l.invariant

pub bounds-sets-l : goal.bounds-sets-l
bounds-sets-l c = c.requires _ (c.loop-l.invariant.of_leaves _ (c.pop_first.ensures.lowest _ c.in-Some.is).in_set)

pub offset_bounds-sets-l : goal.offset_bounds-sets-l
offset_bounds-sets-l c = omega (arith, (c.pop_first.ensures.lowest _ c.in-Some.is).below)

pub returns-then-not-is_empty : goal.returns-then-not-is_empty
returns-then-not-is_empty c = meets_found (get_or c.args.sets.now c.in-Some.l nothing) c.intersection.result (c.pop_first.ensures.lowest _ c.in-Some.is) c.loop-l.invariant (λ v. refl) c.intersection.ensures c.is_empty.result c.is_empty.ensures (ap not c.if-not-is_empty.true)

pub loop-l-smaller : goal.loop-l-smaller
loop-l-smaller c =
    let first = c.pop_first.ensures.lowest _ c.in-Some.is in
    omega arith

pub loop-l-preserved : goal.loop-l-preserved
loop-l-preserved c = meets_more (get_or c.args.sets.now c.in-Some.l nothing) c.intersection.result (c.pop_first.ensures.lowest _ c.in-Some.is) c.loop-l.invariant (λ v. refl) c.intersection.ensures c.is_empty.result c.is_empty.ensures (small_set c.args.nodes (omega (arith, c.well_formed))) (ap not c.if-not-is_empty.false)
