use mathlib.Core.Path.{◌≡◌, sym, ◌∙◌}
use native.Mathlib.Omega.{arith}
use Rattle.base_tables.specs.Rows.{in_row}
use Rattle.solve_cycle.proofs.Searches.{few_found, searched_start, searched_more}
use Rattle.solve_cycle.proofs.search.search.Goals as goal

pub overflow_cast-queue : goal.overflow_cast-queue
overflow_cast-queue c = omega (arith, c.requires.long.1, c.requires.long.2)

pub bounds-queue-0 : goal.bounds-queue-0
bounds-queue-0 c = omega (arith, c.requires.unsearched.queue_long)

pub bounds-place-root : goal.bounds-place-root
bounds-place-root c = omega (arith, c.requires.unsearched.place_long, c.requires.long.1, c.requires.long.2)

pub loop-from-init : goal.loop-from-init
loop-from-init c =
    let a = c.args in
    (omega arith, searched_start a.n (in_row a.near.now) a.root a.queue.now a.came.now a.place.now c.requires.long.1 c.requires.long.2 c.requires.unsearched)

pub visit-found-requires : goal.visit-found-requires
visit-found-requires c = record { long = (c.requires.long.0, c.requires.long.1, omega arith); queue = c.loop-from.invariant.1.holds }

pub overflow_add-from : goal.overflow_add-from
overflow_add-from c = omega (arith, c.requires.long.1, few_found _ (in_row c.args.near.now) _ _ _ _ c.loop-from.invariant.1.holds)

pub loop-from-smaller : goal.loop-from-smaller
loop-from-smaller c = omega (arith, few_found _ (in_row c.args.near.now) _ _ _ _ c.loop-from.invariant.1.holds)

pub loop-from-preserved : goal.loop-from-preserved
loop-from-preserved c =
    let a = c.args in
    let l = c.loop-from in
    let k = c.visit-found in (
      omega (arith, k.ensures.grown.more),
      searched_more a.n (in_row a.near.now) a.root l.from l.queue l.came l.place l.found _ _ _ k.result (omega arith) l.invariant.1 k.ensures,
    )

pub shape_of-queue : goal.shape_of-queue
shape_of-queue c = c.loop-from.invariant.1.holds.queue_long ∙ sym c.requires.unsearched.queue_long

pub shape_of-came : goal.shape_of-came
shape_of-came c = c.loop-from.invariant.1.holds.came_long ∙ sym c.requires.unsearched.came_long

pub shape_of-place : goal.shape_of-place
shape_of-place c = c.loop-from.invariant.1.holds.place_long ∙ sym c.requires.unsearched.place_long

pub returns : goal.returns
returns c =
    let l = c.loop-from in
    let e : l.from ≡ l.found = omega arith in
    rw e at l.invariant.1
