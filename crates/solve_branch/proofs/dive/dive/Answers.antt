use mathlib.Core.Path.{refl}
use native.Mathlib.Omega.{arith}
use Rattle.solve_reduce.proofs.Found.{found_bounds}
use Rattle.solve_levels.proofs.Tables.{kept_all, kept_wrote, noted_written}
use Rattle.solve_levels.proofs.Stack.{stack_here, open_within}
use Rattle.solve_branch.proofs.Walks.{found_none, found_room, found_first, led_open, led_closed}
use Rattle.solve_branch.proofs.dive.dive.Goals as goal

pub loop-choice-init : goal.loop-choice-init
loop-choice-init c = (omega arith, refl, kept_all _ _, refl, λ g k f x. x)

pub fork-requires : goal.fork-requires
fork-requires c = (omega (arith, stack_here c.args.trees.now.n c.requires.0.walked.fits.trees.nodes c.requires.0.dives.enters.matches, c.loop-choice.invariant.3), c.requires.0.walked.table.bounded.few)

pub shape_of-states-in_default : goal.shape_of-states-in_default
shape_of-states-in_default c = c.loop-choice.invariant.3

pub returns-in_default : goal.returns-in_default
returns-in_default c = record { kept = (c.loop-choice.invariant.2, c.loop-choice.invariant.0); reaches = λ g k f x. found_none f (c.loop-choice.invariant.4 g k f x) c.fork.result c.fork.ensures.chosen c.in_default.is }

pub write-requires : goal.write-requires
write-requires c =
    let p = c.requires.0 in
    let y = c.loop-choice.invariant.4 p.walked.graph p.passed p.walked.fits p.dives in
    let few = p.walked.table.bounded.few in
    let b = found_bounds c.in-Some.is c.fork.ensures.bounded in
    (omega (arith, found_room p.walked.fits y c.fork.result c.fork.ensures.chosen c.in-Some.is, c.requires.1, c.loop-choice.invariant.1), omega (arith, b.1), omega (arith, b.2))

pub down-here-requires : goal.down-here-requires
down-here-requires c =
    let p = c.requires.0 in
    let y = c.loop-choice.invariant.4 p.walked.graph p.passed p.walked.fits p.dives in
    let b = found_bounds c.in-Some.is c.fork.ensures.bounded in
    let room = found_room p.walked.fits y c.fork.result c.fork.ensures.chosen c.in-Some.is in
    (p.walked.table, omega (arith, stack_here c.args.trees.now.n c.requires.0.walked.fits.trees.nodes c.requires.0.dives.enters.matches, c.loop-choice.invariant.3), noted_written c.loop-choice.trail _ c.loop-choice.here.depth _ _ c.write.ensures (omega (arith, room, c.requires.1, c.loop-choice.invariant.1)) b.1 b.2, omega (arith, open_within y.enters.matches, room, c.requires.1, c.loop-choice.invariant.1, c.write.auto))

pub dead-requires : goal.dead-requires
dead-requires c = (c.requires.0.walked.table, omega (arith, stack_here c.args.trees.now.n c.requires.0.walked.fits.trees.nodes c.requires.0.dives.enters.matches, c.loop-choice.invariant.3, c.down-here.auto), (found_bounds c.in-Some.is c.fork.ensures.bounded).1)

pub shape_of-states-then-dead : goal.shape_of-states-then-dead
shape_of-states-then-dead c = omega (arith, c.loop-choice.invariant.3, c.down-here.auto)

pub returns-then-dead : goal.returns-then-dead
returns-then-dead c = let p = c.requires.0 in
    let l = c.loop-choice in
    let room = found_room p.walked.fits (l.invariant.4 p.walked.graph p.passed p.walked.fits p.dives) c.fork.result c.fork.ensures.chosen c.in-Some.is in record {
      kept = (kept_wrote l.here.depth _ _ l.invariant.0 c.write.ensures l.invariant.2, omega (arith, l.invariant.0, c.down-here.ensures.depth_value.0));
      reaches = λ g k f x.
          let led = found_first f (l.invariant.4 g k f x) c.fork.result c.fork.ensures.chosen c.in-Some.is c.down-here.result (omega (arith, room, c.requires.1, l.invariant.1)) c.write.ensures c.down-here.ensures.depth_value.0 (c.down-here.ensures.cases g f) in
          led_closed f led c.dead.result c.dead.ensures c.if-dead.true;
    }

pub loop-choice-smaller : goal.loop-choice-smaller
loop-choice-smaller c =
    let p = c.requires.0 in
    omega (arith, found_room p.walked.fits (c.loop-choice.invariant.4 p.walked.graph p.passed p.walked.fits p.dives) c.fork.result c.fork.ensures.chosen c.in-Some.is, c.down-here.ensures.depth_value.0)

pub loop-choice-preserved : goal.loop-choice-preserved
loop-choice-preserved c =
    let p = c.requires.0 in
    let l = c.loop-choice in
    let room = found_room p.walked.fits (l.invariant.4 p.walked.graph p.passed p.walked.fits p.dives) c.fork.result c.fork.ensures.chosen c.in-Some.is in (
      omega (arith, l.invariant.0, c.down-here.ensures.depth_value.0),
      omega (arith, l.invariant.1, c.write.auto),
      kept_wrote l.here.depth _ _ l.invariant.0 c.write.ensures l.invariant.2,
      omega (arith, l.invariant.3, c.down-here.auto),
      λ g k f x.
          let led = found_first f (l.invariant.4 g k f x) c.fork.result c.fork.ensures.chosen c.in-Some.is c.down-here.result (omega (arith, room, c.requires.1, l.invariant.1)) c.write.ensures c.down-here.ensures.depth_value.0 (c.down-here.ensures.cases g f) in
          led_open f led c.dead.result c.dead.ensures c.if-dead.false,
    )
