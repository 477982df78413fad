use mathlib.Core.Path.{◌≡◌, sym, ◌∙◌}
use native.Mathlib.Omega.{arith}
use Rattle.base_tables.specs.Rows.{in_row}
use Rattle.solve_cycle.proofs.Searches.{visited_none, visited_more}
use Rattle.solve_cycle.proofs.search.visit.Goals as goal

pub loop-v-init : goal.loop-v-init
loop-v-init c = (omega arith, visited_none _ (in_row c.args.near.now) _ _ _ _ _ c.requires.queue)

pub reach-found-requires : goal.reach-found-requires
reach-found-requires c = let l = c.loop-v in
    record { long = (c.requires.long.0, c.requires.long.1, omega (arith, l.invariant.1.grown.more, c.requires.long.2), omega arith); queue = l.invariant.1.holds }

pub overflow_step-v : goal.overflow_step-v
overflow_step-v c = omega (arith, c.requires.long.1)

pub loop-v-preserved : goal.loop-v-preserved
loop-v-preserved c =
    let a = c.args in
    let l = c.loop-v in
    let k = c.reach-found in (
      omega (arith, c.loop-v-test.true),
      visited_more a.turn.n (in_row a.near.now) a.turn.from l.v a.queue.now a.place.now a.turn.found l.queue l.came l.place l.found _ _ _ k.result c.requires.long.2 l.invariant.1 k.ensures,
    )

pub shape_of-queue : goal.shape_of-queue
shape_of-queue c = c.loop-v.invariant.1.holds.queue_long ∙ sym c.requires.queue.queue_long

pub shape_of-came : goal.shape_of-came
shape_of-came c = c.loop-v.invariant.1.holds.came_long ∙ sym c.requires.queue.came_long

pub shape_of-place : goal.shape_of-place
shape_of-place c = c.loop-v.invariant.1.holds.place_long ∙ sym c.requires.queue.place_long

pub returns : goal.returns
returns c =
    let l = c.loop-v in
    let e : l.v ≡ c.args.turn.n = omega arith in
    rw e at l.invariant.1
