-- The other half is entered, unless it shows at once that it has no readings.
use Prim.Native.Nat.{◌+◌}
use mathlib.Core.Path.{refl}
use native.Mathlib.Omega.{arith}
use Rattle.solve_levels.proofs.Tables.{kept_all, noted_turned, noted_long, opens_within}
use Rattle.solve_levels.proofs.Fitting.{valid_noted}
use Rattle.solve_levels.proofs.Stack.{stack_here}
use Rattle.solve_branch.proofs.Walks.{led_open, led_closed, turned_led, second_left}
use Rattle.solve_branch.proofs.Ways.{arrives_up}
use Rattle.solve_walk.proofs.steps.hop.Goals as goal

pub turn-half-requires : goal.turn-half-requires
turn-half-requires c =
    let p = c.requires.0 in
    let w = p.walked in
    let noted = valid_noted w.graph c.args.trees.now c.args.trail.now w.fits (c.args.last + 1) c.requires.1 p.leaves.leaving.valid in
    (w.table, stack_here c.args.trees.now.n w.fits.trees.nodes p.leaves.matches, noted, omega (arith, p.leaves.seconds, opens_within c.args.trail.now (c.args.last + 1), noted_long (c.args.last + 1) noted))

pub bounds-trail-last : goal.bounds-trail-last
bounds-trail-last c =
    let p = c.requires.0 in
    let w = p.walked in
    let noted = valid_noted w.graph c.args.trees.now c.args.trail.now w.fits (c.args.last + 1) c.requires.1 p.leaves.leaving.valid c.args.last (omega arith) in
    omega (arith, noted.long, c.turn-half.auto)

pub overflow_cast-leaf : goal.overflow_cast-leaf
overflow_cast-leaf c =
    let p = c.requires.0 in
    let w = p.walked in
    let noted = valid_noted w.graph c.args.trees.now c.args.trail.now w.fits (c.args.last + 1) c.requires.1 p.leaves.leaving.valid c.args.last (omega arith) in
    omega (arith, (noted_turned c.args.trail.now _ c.args.last c.args.last c.turn-half.ensures.trail_after.0 refl noted).upper, w.table.bounded.few)

pub dead-requires : goal.dead-requires
dead-requires c =
    let p = c.requires.0 in
    let w = p.walked in
    let noted = valid_noted w.graph c.args.trees.now c.args.trail.now w.fits (c.args.last + 1) c.requires.1 p.leaves.leaving.valid c.args.last (omega arith) in
    (w.table, omega (arith, stack_here c.args.trees.now.n w.fits.trees.nodes p.leaves.matches, c.turn-half.auto), (noted_turned c.args.trail.now _ c.args.last c.args.last c.turn-half.ensures.trail_after.0 refl noted).upper)

pub returns-then-dead : goal.returns-then-dead
returns-then-dead c =
    let p = c.requires.0 in
    let w = p.walked in
    let noted = valid_noted w.graph c.args.trees.now c.args.trail.now w.fits (c.args.last + 1) c.requires.1 p.leaves.leaving.valid c.args.last (omega arith) in
    λ g k f x.
    let led = turned_led f.shaped c.args.trail.now c.args.last x c.requires.2 noted.long c.turn-half.ensures.trail_after.0 c.turn-half.ensures.trail_after.1 (c.turn-half.ensures.cases g f) in
    second_left c.args.trail.now c.args.last _ c.requires.2 noted.long c.turn-half.ensures.trail_after.0 c.turn-half.ensures.trail_after.1 (kept_all _ _)
    (led_closed f led c.dead.result c.dead.ensures c.if-dead.true)

pub descend-requires : goal.descend-requires
descend-requires c =
    let p = c.requires.0 in
    let w = p.walked in
    let noted = valid_noted w.graph c.args.trees.now c.args.trail.now w.fits (c.args.last + 1) c.requires.1 p.leaves.leaving.valid c.args.last (omega arith) in
    let led = turned_led w.fits.shaped c.args.trail.now c.args.last p.leaves c.requires.2 noted.long c.turn-half.ensures.trail_after.0 c.turn-half.ensures.trail_after.1 (c.turn-half.ensures.cases w.graph w.fits) in
    (record { walked = w; passed = p.passed; dives = led_open w.fits led c.dead.result c.dead.ensures c.if-dead.false }, omega (arith, c.requires.1, c.turn-half.auto))

pub returns : goal.returns
returns c =
    let p = c.requires.0 in
    let w = p.walked in
    let noted = valid_noted w.graph c.args.trees.now c.args.trail.now w.fits (c.args.last + 1) c.requires.1 p.leaves.leaving.valid c.args.last (omega arith) in
    λ g k f x.
    let led = turned_led f.shaped c.args.trail.now c.args.last x c.requires.2 noted.long c.turn-half.ensures.trail_after.0 c.turn-half.ensures.trail_after.1 (c.turn-half.ensures.cases g f) in
    arrives_up g _ _ c.turn-half.result.depth c.args.last k c.descend.result
    (λ at y. second_left c.args.trail.now c.args.last _ c.requires.2 noted.long c.turn-half.ensures.trail_after.0 c.turn-half.ensures.trail_after.1 c.descend.ensures.kept y)
    (c.descend.ensures.arrives g k f (led_open f led c.dead.result c.dead.ensures c.if-dead.false))
