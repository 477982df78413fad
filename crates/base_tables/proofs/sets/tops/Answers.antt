use mathlib.Core.Path.{refl}
use lib.ListN.{get_or}
use Rattle.base_tables.specs.Rows.{nothing}
use Rattle.base_tables.proofs.Tops.{tops_start, tops_more, tops_less, tops_end}
use borrow.Author.Rules.{rules}
use Rattle.base_tables.proofs.sets.tops.Goals as goal

pub loop-x-init : goal.loop-x-init
loop-x-init c = tops_start _ _

pub returns : goal.returns
returns c = tops_end _ _ c.loop-x.top c.loop-x.left c.loop-x.invariant (c.pop_first.ensures.empty c.in_default.is)

pub bounds-rows-x : goal.bounds-rows-x
bounds-rows-x c =
    let first = c.pop_first.ensures.lowest _ c.in-Some.is in
    search rules

pub offset_bounds-rows-x : goal.offset_bounds-rows-x
offset_bounds-rows-x c =
    let first = c.pop_first.ensures.lowest _ c.in-Some.is in
    search rules

pub loop-x-smaller : goal.loop-x-smaller
loop-x-smaller c =
    let under = get_or c.args.rows.now c.in-Some.x nothing in
    tops_less _ c.args.set c.loop-x.top _ _ under c.difference-top.result _ c.difference-left.result c.loop-x.invariant (c.pop_first.ensures.lowest _ c.in-Some.is) (λ v. refl) c.difference-top.ensures c.difference-left.ensures

pub loop-x-preserved : goal.loop-x-preserved
loop-x-preserved c =
    let under = get_or c.args.rows.now c.in-Some.x nothing in
    tops_more _ c.args.set c.loop-x.top _ _ under c.difference-top.result _ c.difference-left.result c.loop-x.invariant (c.pop_first.ensures.lowest _ c.in-Some.is) (λ v. refl) c.difference-top.ensures c.difference-left.ensures
