use Prim.Native.Nat.{◌-◌}
use native.Mathlib.Omega.{arith}
use Rattle.base_finite.proofs.Laws.{count_le}
use Rattle.base_nodeset.specs.Set.{mem}
use Rattle.solve_descent.proofs.Filling.{longer_none, unseen, some_unseen, one_seen, longer_more}
use Rattle.solve_descent.proofs.down.Goals as goal

pub loop-next-init : goal.loop-next-init
loop-next-init c =
    (c.requires.1, c.requires.2, longer_none _ _ _ c.requires.3)

pub overflow_sub-depth : goal.overflow_sub-depth
overflow_sub-depth c = omega (arith, c.loop-next.invariant.1, c.loop-next.invariant.2.no_shorter)

pub bounds-way-depth : goal.bounds-way-depth
bounds-way-depth c =
    let l = c.loop-next in
    omega (arith, l.invariant.0, l.invariant.1, l.invariant.2.no_shorter, l.invariant.2.long, l.invariant.2.on_way.few, count_le 128 (mem l.seen))

pub overflow_cast-way : goal.overflow_cast-way
overflow_cast-way c = omega (arith, c.type_inv.way (c.loop-next.depth - 1))

pub bounds-rows-way : goal.bounds-rows-way
bounds-rows-way c =
    let l = c.loop-next in
    omega (arith, c.requires.0, l.invariant.2.on_way.nodes (l.depth - 1) (omega (arith, l.invariant.1, l.invariant.2.no_shorter)))

pub offset_bounds-rows-way : goal.offset_bounds-rows-way
offset_bounds-rows-way c =
    let l = c.loop-next in
    omega (arith, c.requires.0, l.invariant.2.on_way.nodes (l.depth - 1) (omega (arith, l.invariant.1, l.invariant.2.no_shorter)))

pub returns : goal.returns
returns c = c.loop-next.invariant.2

pub overflow_cast-way-in-Some : goal.overflow_cast-way-in-Some
overflow_cast-way-in-Some c =
    let first = c.pop_first.ensures.lowest _ c.in-Some.is in
    omega arith

pub bounds-way-depth-in-Some : goal.bounds-way-depth-in-Some
bounds-way-depth-in-Some c =
    let l = c.loop-next in
    let first = c.pop_first.ensures.lowest _ c.in-Some.is in
    omega (arith, l.invariant.0, l.invariant.2.long, l.invariant.2.on_way.few, some_unseen l.seen _ first.below (unseen _ _ _ c.difference.ensures _ first.in_set))

pub overflow_add-depth : goal.overflow_add-depth
overflow_add-depth c =
    let l = c.loop-next in
    omega (arith, l.invariant.2.on_way.few, count_le 128 (mem l.seen))

pub with-seen-requires : goal.with-seen-requires
with-seen-requires c =
    let first = c.pop_first.ensures.lowest _ c.in-Some.is in
    first.below

pub loop-next-smaller : goal.loop-next-smaller
loop-next-smaller c =
    let l = c.loop-next in
    let first = c.pop_first.ensures.lowest _ c.in-Some.is in
    omega (arith, one_seen l.seen _ first.below (unseen _ _ _ c.difference.ensures _ first.in_set) c.with-seen.result c.with-seen.ensures, count_le 128 (mem c.with-seen.result))

pub loop-next-preserved : goal.loop-next-preserved
loop-next-preserved c =
    let l = c.loop-next in
    let first = c.pop_first.ensures.lowest _ c.in-Some.is in
    (l.invariant.0, l.invariant.1, longer_more l.seen _ first.below (unseen _ _ _ c.difference.ensures _ first.in_set) _ _ _ l.way l.depth l.invariant.2 l.invariant.0 c.with-seen.result c.with-seen.ensures)
