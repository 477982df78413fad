-- A node that is not near the one at `from`, or was found before, changes nothing.
use mathlib.Core.Path.{ap}
use mathlib.Core.Bool.{not}
use native.Mathlib.Omega.{arith}
use Rattle.base_tables.specs.Rows.{in_row}
use Rattle.solve_cycle.proofs.Searches.{few_found, room, reached_before, reached_not, reached_new}
use Rattle.solve_cycle.proofs.search.reach.Goals as goal

pub bounds-place-v : goal.bounds-place-v
bounds-place-v c = omega (arith, c.requires.queue.place_long, c.requires.long.1, c.requires.long.3)

pub returns-then-place-v : goal.returns-then-place-v
returns-then-place-v c = reached_before _ (in_row c.args.near.now) _ _ _ _ c.requires.queue _ c.args.v c.if-place-v.true

pub bounds-queue-from : goal.bounds-queue-from
bounds-queue-from c = omega (arith, c.requires.queue.queue_long, c.requires.long.1, c.requires.long.2, few_found _ (in_row c.args.near.now) _ _ _ _ c.requires.queue)

pub bounds-near-queue : goal.bounds-near-queue
bounds-near-queue c = omega (arith, (c.requires.queue.node_at c.args.turn.from c.requires.long.2).0, c.requires.long.0, c.requires.long.1)

pub returns-then-not-has : goal.returns-then-not-has
returns-then-not-has c = reached_not _ (in_row c.args.near.now) _ _ _ _ c.requires.queue _ c.args.v c.has.result c.has.ensures (ap not c.if-not-has.true)

pub overflow_cast-queue-2 : goal.overflow_cast-queue-2
overflow_cast-queue-2 c = omega (arith, c.requires.long.1, c.requires.long.3)

pub bounds-queue-found : goal.bounds-queue-found
bounds-queue-found c = omega (arith, c.requires.queue.queue_long, c.requires.long.1, room _ (in_row c.args.near.now) _ _ _ _ c.requires.queue c.requires.long.1 c.args.turn.from c.args.v c.requires.long.2 c.requires.long.3 c.if-place-v.false)

pub overflow_cast-came : goal.overflow_cast-came
overflow_cast-came c = omega (arith, c.requires.long.1, c.requires.long.2, few_found _ (in_row c.args.near.now) _ _ _ _ c.requires.queue)

pub bounds-came-found : goal.bounds-came-found
bounds-came-found c = omega (arith, c.requires.queue.came_long, c.requires.long.1, room _ (in_row c.args.near.now) _ _ _ _ c.requires.queue c.requires.long.1 c.args.turn.from c.args.v c.requires.long.2 c.requires.long.3 c.if-place-v.false)

pub overflow_cast-place : goal.overflow_cast-place
overflow_cast-place c = omega (arith, c.requires.long.1, few_found _ (in_row c.args.near.now) _ _ _ _ c.requires.queue)

pub bounds-place-v-2 : goal.bounds-place-v-2
bounds-place-v-2 c = omega (arith, c.requires.queue.place_long, c.requires.long.1, c.requires.long.3)

pub overflow_add-result : goal.overflow_add-result
overflow_add-result c = omega (arith, c.requires.long.1, few_found _ (in_row c.args.near.now) _ _ _ _ c.requires.queue)

pub returns : goal.returns
returns c =
    reached_new _ (in_row c.args.near.now) _ _ _ _ c.requires.queue c.requires.long.1 c.args.turn.from c.args.v c.requires.long.2 c.requires.long.3 c.if-place-v.false c.has.result c.has.ensures (ap not c.if-not-has.false)
