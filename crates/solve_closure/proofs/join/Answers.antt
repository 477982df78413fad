use mathlib.Core.Path.{refl}
use lib.ListN.{get_or}
use Rattle.base_tables.specs.Rows.{nothing}
use Rattle.base_tables.proofs.Stored.{row_put}
use native.Mathlib.Omega.{arith}
use Rattle.solve_closure.proofs.Edges.{joined_none, joined_more, joined_all, left_stays}
use borrow.Author.Rules.{rules}
use Rattle.solve_closure.proofs.join.Goals as goal

pub loop-x-init : goal.loop-x-init
loop-x-init c = (λ x t. t, joined_none _ _ _)

pub returns : goal.returns
returns c =
    joined_all c.args.set c.loop-x.left _ (c.pop_first.ensures.empty c.in_default.is) c.loop-x.invariant.1

pub bounds-rows-x : goal.bounds-rows-x
bounds-rows-x c =
    let first = c.pop_first.ensures.lowest _ c.in-Some.is in
    let in_tables = c.requires _ (c.loop-x.invariant.0 _ first.in_set) in
    search rules

pub offset_bounds-rows-x : goal.offset_bounds-rows-x
offset_bounds-rows-x c =
    let first = c.pop_first.ensures.lowest _ c.in-Some.is in
    let in_tables = c.requires _ (c.loop-x.invariant.0 _ first.in_set) in
    search rules

pub slice_copy_out-union : goal.slice_copy_out-union
slice_copy_out-union c =
    let first = c.pop_first.ensures.lowest _ c.in-Some.is in
    let in_tables = c.requires _ (c.loop-x.invariant.0 _ first.in_set) in
    search rules

pub offset_bounds-rows-x-in-Some : goal.offset_bounds-rows-x-in-Some
offset_bounds-rows-x-in-Some c =
    let first = c.pop_first.ensures.lowest _ c.in-Some.is in
    let in_tables = c.requires _ (c.loop-x.invariant.0 _ first.in_set) in
    search rules

pub loop-x-smaller : goal.loop-x-smaller
loop-x-smaller c =
    let first = c.pop_first.ensures.lowest _ c.in-Some.is in
    omega arith

pub loop-x-preserved : goal.loop-x-preserved
loop-x-preserved c =
    let l = c.loop-x in
    let first = c.pop_first.ensures.lowest _ c.in-Some.is in
    let member = l.invariant.0 _ first.in_set in
    let put = row_put c.in-Some.x c.union.result l.rows (omega (arith, c.requires _ member, l.invariant.1.long)) in
    (left_stays _ l.invariant.0 first, joined_more _ _ (get_or l.rows c.in-Some.x nothing) member first (λ v. refl) c.union.ensures put l.invariant.1)
