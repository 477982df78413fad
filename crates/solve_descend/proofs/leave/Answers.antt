use Prim.Native.Nat.{◌+◌, ◌-◌}
use mathlib.Core.Path.{refl, sym, ◌∙◌}
use mathlib.Core.Bool.{true≢false}
use native.Mathlib.Omega.{arith}
use Rattle.solve_levels.proofs.Tables.{kept_all, kept_wrote, noted_kept, noted_long, turn_kept}
use Rattle.solve_branch.proofs.Walks.{enters_none, tested_level, turned_led, second_left, back_leaves}
use Rattle.solve_descend.proofs.leave.Goals as goal

pub loop-here-init : goal.loop-here-init
loop-here-init c = (refl, refl, c.requires.3, c.requires.4, kept_all _ _, c.requires.2, λ g k f x. x)

pub back-left-requires : goal.back-left-requires
back-left-requires c = noted_long c.loop-here.top c.loop-here.invariant.5

pub shape_of-states-then-left-base : goal.shape_of-states-then-left-base
shape_of-states-then-left-base c = c.loop-here.invariant.0

pub returns-then-left-base : goal.returns-then-left-base
returns-then-left-base c = let l = c.loop-here in record { kept = l.invariant.4; opens = λ g k f x. back_leaves l.trail l.top c.back-left.result c.args.base c.back-left.ensures c.if-left-base.true l.invariant.2 (l.invariant.6 g k f x) }

pub turn-here-requires : goal.turn-here-requires
turn-here-requires c = (c.requires.0, omega (arith, c.requires.1, c.loop-here.invariant.0), λ i h. c.loop-here.invariant.5 i (omega (arith, c.back-left.ensures.fewer, c.if-left-base.false)), omega (arith, c.loop-here.invariant.1, c.loop-here.invariant.3))

pub tested-requires : goal.tested-requires
tested-requires c = (c.requires.0, omega (arith, c.requires.1, c.loop-here.invariant.0, c.turn-here.auto))

pub shape_of-states-then-tested : goal.shape_of-states-then-tested
shape_of-states-then-tested c = omega (arith, c.loop-here.invariant.0, c.turn-here.auto)

pub returns-then-tested : goal.returns-then-tested
returns-then-tested c = let l = c.loop-here in record {
  kept = kept_wrote (c.back-left.result - 1) _ _ (omega (arith, c.if-left-base.false)) c.turn-here.ensures.trail_after.0 l.invariant.4;
  opens = λ g k f x.
      let y = back_leaves l.trail l.top c.back-left.result (c.back-left.result - 1 + 1) c.back-left.ensures (omega arith) (omega (arith, c.back-left.ensures.fewer, c.if-left-base.false)) (l.invariant.6 g k f x) in
      let led = turned_led f.shaped l.trail (c.back-left.result - 1) y (c.back-left.ensures.first (omega (arith, c.if-left-base.false))) (omega (arith, noted_long l.top l.invariant.5, c.back-left.ensures.fewer, c.if-left-base.false)) c.turn-here.ensures.trail_after.0 c.turn-here.ensures.trail_after.1 (c.turn-here.ensures.cases g f) in
      (led.enters, (tested_level f c.tested.result led.enters c.tested.ensures).0 c.if-tested.true, omega (arith, c.if-left-base.false, c.turn-here.ensures.trail_after.1));
}

pub loop-here-smaller : goal.loop-here-smaller
loop-here-smaller c = omega (arith, c.back-left.ensures.fewer, c.if-left-base.false)

pub loop-here-preserved : goal.loop-here-preserved
loop-here-preserved c =
    let l = c.loop-here in (
      omega (arith, l.invariant.0, c.turn-here.auto),
      omega (arith, l.invariant.1, c.turn-here.auto),
      omega (arith, c.if-left-base.false),
      omega (arith, c.turn-here.ensures.trail_after.2, l.invariant.1),
      kept_wrote (c.back-left.result - 1) _ _ (omega (arith, c.if-left-base.false)) c.turn-here.ensures.trail_after.0 l.invariant.4,
      λ i h. noted_kept i (turn_kept (c.back-left.result - 1) c.turn-here.ensures.trail_after.0) (omega (arith, c.turn-here.auto)) h (l.invariant.5 i (omega (arith, c.back-left.ensures.fewer))),
      λ g k f x.
          let y = back_leaves l.trail l.top c.back-left.result (c.back-left.result - 1 + 1) c.back-left.ensures (omega arith) (omega (arith, c.back-left.ensures.fewer, c.if-left-base.false)) (l.invariant.6 g k f x) in
          let led = turned_led f.shaped l.trail (c.back-left.result - 1) y (c.back-left.ensures.first (omega (arith, c.if-left-base.false))) (omega (arith, noted_long l.top l.invariant.5, c.back-left.ensures.fewer, c.if-left-base.false)) c.turn-here.ensures.trail_after.0 c.turn-here.ensures.trail_after.1 (c.turn-here.ensures.cases g f) in
          second_left l.trail (c.back-left.result - 1) _ (c.back-left.ensures.first (omega (arith, c.if-left-base.false))) (omega (arith, noted_long l.top l.invariant.5, c.back-left.ensures.fewer, c.if-left-base.false)) c.turn-here.ensures.trail_after.0 c.turn-here.ensures.trail_after.1 (kept_all _ _) (enters_none f led.enters (λ s. true≢false (sym ((tested_level f c.tested.result led.enters c.tested.ensures).1 s) ∙ c.if-tested.false))),
    )
