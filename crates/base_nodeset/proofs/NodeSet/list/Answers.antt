use mathlib.Core.Path.{refl, ◌∙◌}
use native.Mathlib.Omega.{arith}
use lib.ListN.{length-set}
use Rattle.base_nodeset.proofs.Writing.{none_written, member_room, member_written, all_written, members_fit, members_written}
use Rattle.base_nodeset.proofs.NodeSet.list.Goals as goal

pub loop-x-init : goal.loop-x-init
loop-x-init c = (refl, none_written _ _ _ _)

pub returns : goal.returns
returns c = members_written _ (all_written _ _ _ _ _ _ _ c.loop-x.invariant.1 (c.pop_first.ensures.empty c.in_default.is))

pub overflow_cast-out : goal.overflow_cast-out
overflow_cast-out c =
    let first = c.pop_first.ensures.lowest _ c.in-Some.is in
    omega arith

pub bounds-out-end : goal.bounds-out-end
bounds-out-end c =
    let first = c.pop_first.ensures.lowest _ c.in-Some.is in
    let fits = members_fit c.args.self c.args.at c.args.out.now c.requires in
    omega (arith, c.loop-x.invariant.0, member_room _ _ _ _ _ _ _ c.loop-x.invariant.1 _ _ first fits)

pub overflow_add-end : goal.overflow_add-end
overflow_add-end c =
    let first = c.pop_first.ensures.lowest _ c.in-Some.is in
    let fits = members_fit c.args.self c.args.at c.args.out.now c.requires in
    omega (arith, member_room _ _ _ _ _ _ _ c.loop-x.invariant.1 _ _ first fits)

pub loop-x-smaller : goal.loop-x-smaller
loop-x-smaller c =
    let first = c.pop_first.ensures.lowest _ c.in-Some.is in
    omega arith

pub loop-x-preserved : goal.loop-x-preserved
loop-x-preserved c =
    (length-set c.loop-x.out _ _ ∙ c.loop-x.invariant.0, member_written _ _ _ _ _ _ _ c.loop-x.invariant.1 _ _ (c.pop_first.ensures.lowest _ c.in-Some.is) _ _ (record { stored = refl; after = omega arith }))
