-- Back to the level, and down into the other half.
use Prim.Native.Nat.{◌+◌, ◌≤◌, ◌<◌}
use mathlib.Core.Logic.{⊎_elim}
use native.Mathlib.Omega.{arith}
use Rattle.solve_levels.proofs.Tables.{valid_fewer, noted_turned}
use Rattle.solve_levels.proofs.Stack.{matches_kept}
use Rattle.solve_branch.proofs.Walks.{turned_open}
use Rattle.solve_branch.proofs.dive.turn.Goals as goal

pub back_to-there-requires : goal.back_to-there-requires
back_to-there-requires c = (c.requires.0, c.requires.1, λ i h. c.requires.2 i (omega arith))

pub swap-requires : goal.swap-requires
swap-requires c = (c.requires.2 c.args.last (omega arith)).long

pub down-requires : goal.down-requires
down-requires c =
    let long = (c.requires.2 c.args.last (omega arith)).long in
    (c.requires.0, omega (arith, c.requires.1, c.back_to-there.auto), noted_turned c.args.trail.now _ c.args.last _ c.swap.ensures c.back_to-there.ensures.depth_value.0 (c.requires.2 c.args.last (omega arith)), ⊎_elim (λ (h : c.back_to-there.result.opened < c.args.at.opened). omega (arith, c.requires.3, c.swap.auto)) (λ (h : c.back_to-there.result.opened ≤ c.args.last). omega (arith, long, c.swap.auto)) c.back_to-there.ensures.depth_value.1)

pub returns : goal.returns
returns c = let a = c.args in
    let long = (c.requires.2 a.last (omega arith)).long in record {
      trail_after = (c.swap.ensures, omega (arith, c.down.ensures.depth_value.0, c.back_to-there.ensures.depth_value.0), ⊎_elim (λ (h : c.back_to-there.result.opened < a.at.opened). omega (arith, c.requires.3, c.down.ensures.depth_value.1)) (λ (h : c.back_to-there.result.opened ≤ a.last). omega (arith, long, c.down.ensures.depth_value.1)) c.back_to-there.ensures.depth_value.1);
      cases = λ g f m h is v less.
          let x = c.back_to-there.ensures.cases g f m h is less (valid_fewer a.trail.now g a.last (a.last + 1) (omega arith) v) in
          let o = turned_open f a.trail.now _ a.last c.back_to-there.result.depth c.swap.ensures c.back_to-there.ensures.depth_value.0 long v less in
          c.down.ensures.cases g f (matches_kept o.kept x.0) x.1 o.shaped o.loopless o.fresh;
    }
