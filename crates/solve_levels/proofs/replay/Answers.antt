use Prim.Native.Nat.{ℕ, ◌*◌}
use mathlib.Core.Path.{refl, ap}
use native.Mathlib.Omega.{arith}
use Rattle.solve_levels.proofs.Stack.{copied_part, matches_outset}
use Rattle.solve_levels.proofs.Fitting.{decision_fresh, decision_loopless, valid_shaped}
use Rattle.solve_levels.proofs.replay.Goals as goal

pub width-wide-requires : goal.width-wide-requires
width-wide-requires c = c.requires.0.bounded.few

pub overflow_mul-outset : goal.overflow_mul-outset
overflow_mul-outset c = omega (arith, c.width-wide.ensures, c.requires.0.bounded.few)

pub loop-at-init : goal.loop-at-init
loop-at-init c = (omega arith, omega arith, refl, λ g f m here v. (m, here))

pub down-at-requires : goal.down-at-requires
down-at-requires c =
    let noted = c.requires.2 c.loop-at.at.depth c.loop-at-test.true in
    (c.requires.0, omega (arith, c.requires.1, c.copy_within.auto, c.loop-at.invariant.2), noted, omega (arith, noted.long, c.loop-at.invariant.1))

pub loop-at-smaller : goal.loop-at-smaller
loop-at-smaller c = omega (arith, c.down-at.ensures.depth_value.0, c.loop-at-test.true)

pub loop-at-preserved : goal.loop-at-preserved
loop-at-preserved c =
    let a = c.args in
    let l = c.loop-at in (
      omega (arith, c.down-at.ensures.depth_value.0, c.loop-at-test.true),
      omega (arith, c.down-at.ensures.depth_value.0, c.down-at.ensures.depth_value.1, l.invariant.1),
      omega (arith, c.down-at.auto, l.invariant.2),
      λ g f m here v.
          let x = l.invariant.3 g f m here v in
          c.down-at.ensures.cases g f x.0 x.1 (valid_shaped g a.trees.now a.trail.now f l.at.depth a.depth (omega arith) v)
          (decision_loopless g a.trees.now a.trail.now f l.at.depth a.depth c.loop-at-test.true v)
          (decision_fresh g a.trees.now a.trail.now f l.at.depth a.depth c.loop-at-test.true v),
    )

pub returns : goal.returns
returns c = let a = c.args in
    let l = c.loop-at in record { depth_value = (omega arith, omega (arith, l.invariant.1)); cases = λ g from f m v. l.invariant.3 g f (matches_outset a.trees.now.n f.trees.nodes c.requires.1 m.outset m.fragments c.copy_within.ensures.len _ _ c.width-wide.ensures (ap (λ (k : ℕ). k * 32) c.width-wide.ensures) (copied_part (c.width-wide.result * 32) _ 0 _ refl c.copy_within.ensures.by_index.0 c.copy_within.ensures.by_index.1 c.copy_within.ensures.by_index.2) _ refl refl refl) (omega arith) v }
