use Prim.Native.Nat.{ℕ, ◌-◌}
use mathlib.Core.Path.{refl, sym, ◌∙◌}
use native.Mathlib.Omega.{arith}
use lib.ListN.{get_or, replicate, length-replicate}
use Rattle.base_finite.proofs.Laws.{count_le}
use Rattle.base_nodeset.specs.Set.{mem}
use Rattle.base_tables.proofs.Stored.{row_put}
use Rattle.solve_descent.proofs.Filling.{fills_none, fills_more, fills_row, underway_start, last_node, way_falls, underway_more}
use borrow.Author.Rules.{rules}
use Rattle.solve_descent.proofs.fill_from.Goals as goal

pub returns-then-has : goal.returns-then-has
returns-then-has c = (fills_none _ _ c.requires.1, sym c.has.ensures ∙ c.if-has.true)

pub loop-depth-init : goal.loop-depth-init
loop-depth-init c =
    (refl, search rules, c.requires.0, fills_none _ _ c.requires.1, underway_start c.args.node (replicate 128 0) c.args.whole c.with-seen.result c.requires.2 (omega (arith, length-replicate {A = ℕ} 128 0)) c.with-seen.ensures)

pub down-end-requires : goal.down-end-requires
down-end-requires c =
    let l = c.loop-depth in
    (l.invariant.2, l.invariant.1, c.loop-depth-test.true, l.invariant.4.on_way)

pub overflow_sub-depth : goal.overflow_sub-depth
overflow_sub-depth c = omega (arith, c.loop-depth-test.true, c.down-end.ensures.no_shorter)

pub bounds-way-depth : goal.bounds-way-depth
bounds-way-depth c =
    let on = c.down-end.ensures.on_way in
    omega (arith, c.loop-depth-test.true, c.down-end.ensures.no_shorter, on.few, count_le 128 (mem c.down-end.result.seen))

pub overflow_cast-last : goal.overflow_cast-last
overflow_cast-last c =
    let last = last_node _ _ _ _ _ c.loop-depth.invariant.4 c.loop-depth-test.true _ _ _ c.down-end.ensures in
    omega arith

pub under-row-requires : goal.under-row-requires
under-row-requires c =
    let l = c.loop-depth in
    (l.invariant.2, l.invariant.3.is_whole, last_node _ _ _ _ _ c.loop-depth.invariant.4 c.loop-depth-test.true _ _ _ c.down-end.ensures, l.invariant.0)

pub bounds-rows-last : goal.bounds-rows-last
bounds-rows-last c =
    let last = last_node _ _ _ _ _ c.loop-depth.invariant.4 c.loop-depth-test.true _ _ _ c.down-end.ensures in
    omega (arith, c.loop-depth.invariant.2)

pub with-filled-requires : goal.with-filled-requires
with-filled-requires c = last_node _ _ _ _ _ c.loop-depth.invariant.4 c.loop-depth-test.true _ _ _ c.down-end.ensures

pub loop-depth-smaller : goal.loop-depth-smaller
loop-depth-smaller c = way_falls _ _ _ _ _ c.loop-depth.invariant.4 c.loop-depth-test.true _ _ _ c.down-end.ensures

pub loop-depth-preserved : goal.loop-depth-preserved
loop-depth-preserved c =
    let l = c.loop-depth in
    let row = c.under-row in
    let put = row_put (get_or c.down-end.new.way (c.down-end.result.depth - 1) 0) row.result l.rows (omega (arith, l.invariant.2, last_node _ _ _ _ _ c.loop-depth.invariant.4 c.loop-depth-test.true _ _ _ c.down-end.ensures)) in
    let down = c.down-end.ensures in (
      row.ensures.walked.listed.long ∙ l.invariant.0,
      down.long ∙ l.invariant.1,
      put.long ∙ l.invariant.2,
      fills_more l.invariant.3 (fills_row l.rows l.filled l.invariant.3.is_whole _ row.result row.ensures.under _ put c.with-filled.result c.with-filled.ensures),
      underway_more _ _ _ _ _ c.loop-depth.invariant.4 c.loop-depth-test.true _ _ _ c.down-end.ensures c.with-filled.result c.with-filled.ensures,
    )

pub returns : goal.returns
returns c =
    let l = c.loop-depth in
    (l.invariant.3, l.invariant.4.through (omega (arith, c.loop-depth-test.false)))
