-- The level is kept, or made again.
use mathlib.Core.Path.{refl}
use mathlib.Core.Logic.{inl, inr}
use native.Mathlib.Omega.{arith}
use Rattle.solve_levels.proofs.Stack.{matches_back}
use Rattle.solve_levels.proofs.back_to.Goals as goal

pub returns-then-at : goal.returns-then-at
returns-then-at c = record { depth_value = (refl, inl (omega (arith, c.if-at.true))); cases = λ g f m h is less v. (matches_back _ m h less is (omega (arith, c.if-at.true)) refl, omega (arith, c.if-at.true)) }

pub returns : goal.returns
returns c = record { depth_value = (c.replay.ensures.depth_value.0, inr c.replay.ensures.depth_value.1); cases = λ g f m h is less v. c.replay.ensures.cases g c.args.at f m v }
