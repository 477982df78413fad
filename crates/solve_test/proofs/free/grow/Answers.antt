use mathlib.Core.Path.{refl}
use lib.ListN.{get_or}
use Rattle.base_tables.specs.Rows.{nothing}
use native.Mathlib.Omega.{arith}
use Rattle.solve_test.proofs.Spreading.{growing_starts, growing_on, fewer_open, grown, spread_from}
use borrow.Author.Rules.{rules}
use Rattle.solve_test.proofs.free.grow.Goals as goal

pub loop-f-init : goal.loop-f-init
loop-f-init c =
    let a = c.args in
    growing_starts _ a.from a.within c.intersection-pending.result c.difference-unseen.result c.intersection-pending.ensures c.difference-unseen.ensures

pub returns : goal.returns
returns c =
    let l = c.loop-f in
    let a = c.args in
    spread_from _ a.from a.within c.intersection-pending.result c.difference.result c.intersection-pending.ensures
    (grown _ a.within c.intersection-pending.result l.pending l.unseen c.difference.result l.invariant (c.pop_first.ensures.empty c.in_default.is) c.difference.ensures)

pub bounds-near-f : goal.bounds-near-f
bounds-near-f c =
    let first = c.pop_first.ensures.lowest _ c.in-Some.is in
    search rules

pub offset_bounds-near-f : goal.offset_bounds-near-f
offset_bounds-near-f c =
    let first = c.pop_first.ensures.lowest _ c.in-Some.is in
    search rules

pub loop-f-smaller : goal.loop-f-smaller
loop-f-smaller c =
    let first = c.pop_first.ensures.lowest _ c.in-Some.is in
    omega (
      arith,
      fewer_open _ _ _ _ c.loop-f.unseen c.intersection-new.result _ c.union-pending.result c.difference-unseen-in-Some.result (get_or c.args.near.now c.in-Some.f nothing)
          _ c.loop-f.invariant first (λ v. refl) c.intersection-new.ensures c.union-pending.ensures c.difference-unseen-in-Some.ensures,
    )

pub loop-f-preserved : goal.loop-f-preserved
loop-f-preserved c =
    let first = c.pop_first.ensures.lowest _ c.in-Some.is in
    growing_on _ _ _ _ c.loop-f.unseen c.intersection-new.result _ c.union-pending.result c.difference-unseen-in-Some.result (get_or c.args.near.now c.in-Some.f nothing)
    _ c.loop-f.invariant first (λ v. refl) c.intersection-new.ensures c.union-pending.ensures c.difference-unseen-in-Some.ensures
